-- Virtual calls in a program that has grown.
use Rattle.std.proofs.Common.{◌≡◌, ◌∙◌, sym, ap, refl, subst, arith, rules, ℕ, zero, suc, ◌<◌, ◌≤◌, List, [], ◌∷◌, ◌++◌, length, Bool, true, false}
use Rattle.std.specs.Prelude.{cond, ◌&&◌, ◌||◌, ◌==◌, not, map, filter, find, reverse, Option, Some, None, option_map, option_and_then, is_some, is_none, if◌then◌else◌, bytes_eq, Contains}
use Rattle.std.proofs.lemmas.List.{reverse-append}
use Rattle.cil_model.specs.declared.ty.Ty.{Ty, out-Ty}
use Rattle.cil_model.specs.declared.program.Program.{Program}
use Rattle.cil_model.specs.declared.program.MethodDesc.{MethodDesc}
use Rattle.cil_model.specs.declared.program.Impl.{Impl}
use Rattle.cil_semantics.specs.Words.{any, or_else, first_some, only, maybe}
use Rattle.cil_semantics.specs.Types.{under, all_under, same_ty, same_tys, has_parameter}
use Rattle.cil_semantics.specs.Lookups.{type_of, method_of, in_set, args_of, base_of, interfaces_of, chain_on, chain_within, chain, most_bases}
use Rattle.cil_semantics.specs.Dispatch.{Seen, same_seen, is_virtual, takes_new_slot, is_public, same_signature, same_shape, methods_of, impls_of, owner_among, owner_args, row_counts, row_names, by_rows, bases, virtual_like, hidden_by, overrides, overrides_outside, public_like, first_row, implementing, is_interface, interface_slot, slot_of, overriders, bodies_in, chosen, nearest, body_for}
use Rattle.machine_laws.specs.Growth.{Extends}
use Rattle.machine_laws.specs.Answers.{Each, NamesOwn, NamesNone, AnswersAlike, is_below}
use Rattle.machine_laws.proofs.ClosedLaws.{are_closed}
use Rattle.machine_laws.proofs.RankLaws.{first_element, later_element}
use Rattle.machine_laws.proofs.AnswerLaws as answers
use Rattle.machine_laws.proofs.AnswerLaws.{any_on, filter_on, map_on, each_on, each_filter, Descends, Lower, base_same, interfaces_same, chain_same, chain_old, methods_same, impls_same, interface_same, more_bases, AreClosed}

pub find_on : {A : Type 0} (f g : A → Bool) (xs : List A) → Each (λ x. f x ≡ g x) xs → find f xs ≡ find g xs
find_on f g [] h = refl
find_on {A} f g (x ∷ xs) h = ap (λ (b : Bool). cond b (Some x) (find f xs)) h.0 ∙ ap (λ (o : Option A). cond (g x) (Some x) o) (find_on f g xs h.1)

pub find_each : {A : Type 0} (P : A → Type 0) (test : A → Bool) (xs : List A) (v : A) → Each P xs → find test xs ≡ Some v → P v
find_each P test [] v h e = absurd cc
find_each {A} P test (x ∷ xs) v h e = go (test x) (λ f. find_each P test xs v h.1 f) e
  where
    go : (b : Bool) → (find test xs ≡ Some v → P v) → cond b (Some x) (find test xs) ≡ Some v → P v
    go true again f = let is : x ≡ v = search (rules, f) in subst P is h.0
    go false again f = again f

pub first_on : {A B : Type 0} (f g : A → Option B) (xs : List A) → Each (λ x. f x ≡ g x) xs → first_some f xs ≡ first_some g xs
first_on f g [] h = refl
first_on {A} {B} f g (x ∷ xs) h = ap (λ (o : Option B). or_else o (first_some f xs)) h.0 ∙ ap (or_else (g x)) (first_on f g xs h.1)

pub each_map : {A B : Type 0} (P : A → Type 0) (Q : B → Type 0) (f : A → B) (xs : List A) → ((x : A) → P x → Q (f x)) → Each P xs → Each Q (map f xs)
each_map P Q f [] h k = k
each_map P Q f (x ∷ xs) h k = (h x k.0, each_map P Q f xs h k.1)

pub each_append : {A : Type 0} (P : A → Type 0) (xs ys : List A) → Each P xs → Each P ys → Each P (xs ++ ys)
each_append P [] ys h k = k
each_append P (x ∷ xs) ys h k = (h.0, each_append P xs ys h.1 k)

pub each_reverse : {A : Type 0} (P : A → Type 0) (xs : List A) → Each P xs → Each P (reverse xs)
each_reverse P [] h = tt
each_reverse P (x ∷ xs) h = subst (Each P) (sym (reverse-append (x ∷ []) xs)) (each_append P (reverse xs) (x ∷ []) (each_reverse P xs h.1) (h.0, tt))

module _ (p p' : Program) (is_old : Ty → Bool) (height : Ty → ℕ) (kept : Extends p p') (whole : NamesOwn p) (falls : Descends p p' is_old height) where
  abbrev Valid : Seen → Type 0
  Valid s = (is_old s.0 ≡ true) × (s.1 < length p.methods)

  -- ---- methods

  virtual_same : (m : ℕ) → m < length p.methods → is_virtual (method_of p' m) ≡ is_virtual (method_of p m)
  virtual_same m h = (kept.methods m h).overrides

  slot_same : (m : ℕ) → m < length p.methods → takes_new_slot (method_of p' m) ≡ takes_new_slot (method_of p m)
  slot_same m h = (kept.methods m h).new_slot

  public_same : (m : ℕ) → m < length p.methods → is_public (method_of p' m) ≡ is_public (method_of p m)
  public_same m h = (kept.methods m h).public_too

  body_same : (m : ℕ) → m < length p.methods → is_some (method_of p' m).body ≡ is_some (method_of p m).body
  body_same m h = (kept.methods m h).has_body

  outside_same : (m : ℕ) → m < length p.methods → (method_of p' m).outside ≡ (method_of p m).outside
  outside_same m h = (kept.methods m h).outside

  -- two signatures, by what they consist of
  abbrev signed : (ps qs : List Ty) (r s : Ty) (static static' same : Bool) (a b : List Ty) → Bool
  signed ps qs r s static static' same a b =
      if (any has_parameter ps || has_parameter r) || (any has_parameter qs || has_parameter s)
      then ((if static then static' else not static') && (same_tys (all_under a [] ps) (all_under b [] qs) && same_ty (under a [] r) (under b [] s)))
      else same

  signed_is : (d e : MethodDesc) (a b : List Ty) → same_signature d a e b ≡ signed d.params e.params d.result e.result d.is_static e.is_static (d.sig == e.sig) a b
  unfolding same_signature
  signed_is d e a b = refl

  signature_same : (i j : ℕ) (a b : List Ty) → i < length p.methods → j < length p.methods → same_signature (method_of p' i) a (method_of p' j) b ≡ same_signature (method_of p i) a (method_of p j) b
  signature_same i j a b h k =
      let d = method_of p i in
      let e = method_of p j in
      let d' = method_of p' i in
      let e' = method_of p' j in
      let x = kept.methods i h in
      let y = kept.methods j k in
      signed_is d' e' a b
      ∙ ap (λ ps. signed ps e'.params d'.result e'.result d'.is_static e'.is_static (d'.sig == e'.sig) a b) x.params
      ∙ ap (λ qs. signed d.params qs d'.result e'.result d'.is_static e'.is_static (d'.sig == e'.sig) a b) y.params
      ∙ ap (λ r. signed d.params e.params r e'.result d'.is_static e'.is_static (d'.sig == e'.sig) a b) x.result
      ∙ ap (λ r. signed d.params e.params d.result r d'.is_static e'.is_static (d'.sig == e'.sig) a b) y.result
      ∙ ap (λ s. signed d.params e.params d.result e.result s e'.is_static (d'.sig == e'.sig) a b) x.is_static
      ∙ ap (λ s. signed d.params e.params d.result e.result d.is_static s (d'.sig == e'.sig) a b) y.is_static
      ∙ ap (λ s. signed d.params e.params d.result e.result d.is_static e.is_static s a b) (kept.signatures i j h k)
      ∙ sym (signed_is d e a b)

  generics_same : (i j : ℕ) → i < length p.methods → j < length p.methods → ((method_of p' i).generics == (method_of p' j).generics) ≡ ((method_of p i).generics == (method_of p j).generics)
  generics_same i j h k =
      ap (λ n. n == (method_of p' j).generics) (kept.methods i h).generics ∙ ap (λ n. (method_of p i).generics == n) (kept.methods j k).generics

  shape_is : (q : Program) (x y : Seen) → same_shape q x y ≡ (bytes_eq (method_of q x.1).name (method_of q y.1).name && (((method_of q x.1).generics == (method_of q y.1).generics) && same_signature (method_of q x.1) (args_of x.0) (method_of q y.1) (args_of y.0)))
  unfolding same_shape
  shape_is q x y = refl

  pub shape_same : (x y : Seen) → x.1 < length p.methods → y.1 < length p.methods → same_shape p' x y ≡ same_shape p x y
  shape_same x y h k =
      shape_is p' x y
      ∙ ap (λ n. bytes_eq n (method_of p' y.1).name && (((method_of p' x.1).generics == (method_of p' y.1).generics) && same_signature (method_of p' x.1) (args_of x.0) (method_of p' y.1) (args_of y.0))) (kept.methods x.1 h).name
      ∙ ap (λ n. bytes_eq (method_of p x.1).name n && (((method_of p' x.1).generics == (method_of p' y.1).generics) && same_signature (method_of p' x.1) (args_of x.0) (method_of p' y.1) (args_of y.0))) (kept.methods y.1 k).name
      ∙ ap (λ b. bytes_eq (method_of p x.1).name (method_of p y.1).name && (b && same_signature (method_of p' x.1) (args_of x.0) (method_of p' y.1) (args_of y.0))) (generics_same x.1 y.1 h k)
      ∙ ap (λ b. bytes_eq (method_of p x.1).name (method_of p y.1).name && (((method_of p x.1).generics == (method_of p y.1).generics) && b)) (signature_same x.1 y.1 (args_of x.0) (args_of y.0) h k)
      ∙ sym (shape_is p x y)

  -- ---- owners

  chain_all : (t : Ty) → is_old t ≡ true → Each (λ u. is_old u ≡ true) (chain p t)
  chain_all t old = chain_old p p' is_old height kept whole falls (most_bases p) t old

  abbrev owner_is : ℕ → Ty → Bool
  owner_is n t = maybe false (λ (d : ℕ × List Ty). d.0 == n) (in_set (out-Ty t))

  owner_among_same : (m : ℕ) (ts : List Ty) → m < length p.methods → owner_among p' m ts ≡ owner_among p m ts
  owner_among_same m [] h = refl
  owner_among_same m (t ∷ ts) h =
      ap (λ n. if owner_is n t then Some t else owner_among p' m ts) (kept.methods m h).owner
      ∙ ap (λ o. if owner_is (method_of p m).owner t then Some t else o) (owner_among_same m ts h)

  owner_same : (m : ℕ) (t : Ty) → m < length p.methods → is_old t ≡ true → owner_among p' m (chain p' t) ≡ owner_among p m (chain p t)
  owner_same m t h old = ap (owner_among p' m) (chain_same p p' is_old height kept whole falls t old) ∙ owner_among_same m (chain p t) h

  owner_old : (m : ℕ) (ts : List Ty) (u : Ty) → Each (λ t. is_old t ≡ true) ts → owner_among p m ts ≡ Some u → is_old u ≡ true
  owner_old m [] u all e = absurd cc
  owner_old m (t ∷ ts) u all e = by_owner (owner_is (method_of p m).owner t) (λ f. owner_old m ts u all.1 f) e
    where
      by_owner : (b : Bool) → (owner_among p m ts ≡ Some u → is_old u ≡ true) → (if b then Some t else owner_among p m ts) ≡ Some u → is_old u ≡ true
      by_owner true again f = let is : t ≡ u = search (rules, f) in subst (λ v. is_old v ≡ true) is all.0
      by_owner false again f = again f

  -- ---- MethodImpl rows

  abbrev HasMethods : Impl → Type 0
  HasMethods i = (i.body < length p.methods) × (i.declaration < length p.methods)

  counts_is : (q : Program) (t : Ty) (i : Impl) → row_counts q t i
      ≡ ((method_of q i.body).outside || ((method_of q i.declaration).outside || (((method_of q i.body).generics == (method_of q i.declaration).generics) && same_signature (method_of q i.body) (owner_args q t i.body) (method_of q i.declaration) (args_of (under (args_of t) [] i.owner)))))
  unfolding row_counts
  counts_is q t i = refl

  counts_same : (t : Ty) (i : Impl) → is_old t ≡ true → HasMethods i → row_counts p' t i ≡ row_counts p t i
  counts_same t i old h =
      let u : List Ty = args_of (under (args_of t) [] i.owner) in
      let d = method_of p i.body in
      let e = method_of p i.declaration in
      let d' = method_of p' i.body in
      let e' = method_of p' i.declaration in
      counts_is p' t i
      ∙ ap (λ b. b || (e'.outside || ((d'.generics == e'.generics) && same_signature d' (owner_args p' t i.body) e' u))) (outside_same i.body h.0)
      ∙ ap (λ b. d.outside || (b || ((d'.generics == e'.generics) && same_signature d' (owner_args p' t i.body) e' u))) (outside_same i.declaration h.1)
      ∙ ap (λ b. d.outside || (e.outside || (b && same_signature d' (owner_args p' t i.body) e' u))) (generics_same i.body i.declaration h.0 h.1)
      ∙ ap (λ o. d.outside || (e.outside || ((d.generics == e.generics) && same_signature d' (maybe [] args_of o) e' u))) (owner_same i.body t h.0 old)
      ∙ ap (λ b. d.outside || (e.outside || ((d.generics == e.generics) && b))) (signature_same i.body i.declaration (owner_args p t i.body) u h.0 h.1)
      ∙ sym (counts_is p t i)

  impls_there : (t : Ty) → is_old t ≡ true → Each HasMethods (impls_of p t)
  impls_there t old = go (in_set (out-Ty t)) (λ d e. falls.closed.number t d old e)
    where
      go : (o : Option (ℕ × List Ty)) → ((d : ℕ × List Ty) → o ≡ Some d → d.0 < length p.types) → Each HasMethods (maybe [] (λ (d : ℕ × List Ty). (type_of p d.0).impls) o)
      go None h = tt
      go (Some d) h = whole.impls d.0 (h d refl)

  methods_there : (t : Ty) → is_old t ≡ true → Each (λ m. m < length p.methods) (methods_of p t)
  methods_there t old = go (in_set (out-Ty t)) (λ d e. falls.closed.number t d old e)
    where
      go : (o : Option (ℕ × List Ty)) → ((d : ℕ × List Ty) → o ≡ Some d → d.0 < length p.types) → Each (λ m. m < length p.methods) (maybe [] (λ (d : ℕ × List Ty). (type_of p d.0).methods) o)
      go None h = tt
      go (Some d) h = whole.methods d.0 (h d refl)

  pub rows_same : (t : Ty) (s : Seen) → is_old t ≡ true → by_rows p' t s ≡ by_rows p t s
  unfolding by_rows
  rows_same t s old =
      ap (λ (is : List Impl). map (λ (i : Impl). i.body) (filter (row_names p' t s) is)) (impls_same p p' is_old height kept whole falls t old)
      ∙ ap (map (λ (i : Impl). i.body))
      (filter_on (row_names p' t s) (row_names p t s) (impls_of p t)
      (each_on HasMethods (λ i. row_names p' t s i ≡ row_names p t s i) (impls_of p t)
      (λ i h. ap (λ (b : Bool). (i.declaration == s.1) && (same_ty (under (args_of t) [] i.owner) s.0 && b)) (counts_same t i old h)) (impls_there t old)))

  rows_there : (t : Ty) (s : Seen) → is_old t ≡ true → Each (λ m. m < length p.methods) (by_rows p t s)
  unfolding by_rows
  rows_there t s old =
      each_map HasMethods (λ m. m < length p.methods) (λ (i : Impl). i.body) (filter (row_names p t s) (impls_of p t)) (λ i h. h.0) (each_filter HasMethods (row_names p t s) (impls_of p t) (impls_there t old))

  -- ---- bases

  bases_same : (t : Ty) → is_old t ≡ true → bases p' t ≡ bases p t
  bases_same t old = ap (maybe [] (chain p')) (base_same p p' is_old height kept whole falls t old) ∙ go (base_of p t) (λ u e. falls.base t u old e)
    where
      go : (o : Option Ty) → ((u : Ty) → o ≡ Some u → (is_old u ≡ true) × (height u < height t)) → maybe [] (chain p') o ≡ maybe [] (chain p) o
      go None h = refl
      go (Some u) h = chain_same p p' is_old height kept whole falls u (h u refl).0

  bases_all : (t : Ty) → is_old t ≡ true → Each (λ u. is_old u ≡ true) (bases p t)
  bases_all t old = go (base_of p t) (λ u e. falls.base t u old e)
    where
      go : (o : Option Ty) → ((u : Ty) → o ≡ Some u → (is_old u ≡ true) × (height u < height t)) → Each (λ u. is_old u ≡ true) (maybe [] (chain p) o)
      go None h = tt
      go (Some u) h = chain_all u (h u refl).0

  -- ---- methods of a shape

  abbrev virtual_test : Program → Seen → Ty → ℕ → Bool
  virtual_test q s t m = is_virtual (method_of q m) && same_shape q (t, m) s

  virtual_like_same : (s : Seen) (t : Ty) → s.1 < length p.methods → is_old t ≡ true → virtual_like p' s t ≡ virtual_like p s t
  virtual_like_same s t h old =
      ap (λ (ms : List ℕ). option_map {U = Seen} (λ m. (t, m)) (find (virtual_test p' s t) ms)) (methods_same p p' is_old height kept whole falls t old)
      ∙ ap (option_map {U = Seen} (λ m. (t, m)))
      (find_on (virtual_test p' s t) (virtual_test p s t) (methods_of p t)
      (each_on (λ m. m < length p.methods) (λ m. virtual_test p' s t m ≡ virtual_test p s t m) (methods_of p t)
      (λ m l. ap (λ (b : Bool). b && same_shape p' (t, m) s) (virtual_same m l) ∙ ap (λ (b : Bool). is_virtual (method_of p m) && b) (shape_same (t, m) s l h)) (methods_there t old)))

  abbrev public_test : Program → Seen → Ty → ℕ → Bool
  public_test q s t m = is_public (method_of q m) && virtual_test q s t m

  public_like_same : (s : Seen) (t : Ty) → s.1 < length p.methods → is_old t ≡ true → public_like p' s t ≡ public_like p s t
  public_like_same s t h old =
      ap (λ (ms : List ℕ). option_map {U = Seen} (λ m. (t, m)) (find (public_test p' s t) ms)) (methods_same p p' is_old height kept whole falls t old)
      ∙ ap (option_map {U = Seen} (λ m. (t, m)))
      (find_on (public_test p' s t) (public_test p s t) (methods_of p t)
      (each_on (λ m. m < length p.methods) (λ m. public_test p' s t m ≡ public_test p s t m) (methods_of p t)
      (λ m l.
      ap (λ (b : Bool). b && virtual_test p' s t m) (public_same m l)
      ∙ ap (λ (b : Bool). is_public (method_of p m) && (b && same_shape p' (t, m) s)) (virtual_same m l)
      ∙ ap (λ (b : Bool). is_public (method_of p m) && (is_virtual (method_of p m) && b)) (shape_same (t, m) s l h)) (methods_there t old)))

  public_like_valid : (s : Seen) (t : Ty) (v : Seen) → is_old t ≡ true → public_like p s t ≡ Some v → Valid v
  public_like_valid s t v old e = go (find (public_test p s t) (methods_of p t)) (λ m f. find_each (λ m. m < length p.methods) (public_test p s t) (methods_of p t) m (methods_there t old) f) e
    where
      go : (o : Option ℕ) → ((m : ℕ) → o ≡ Some m → m < length p.methods) → option_map {U = Seen} (λ m. (t, m)) o ≡ Some v → Valid v
      go None h f = absurd cc
      go (Some m) h f = let is : ◌≡◌ {A = Seen} (t, m) v = some_is (t, m) v f in subst Valid is (old, h m refl)
        where
          some_is : (a b : Seen) → Some a ≡ Some b → a ≡ b
          some_is a b f = search (rules, f)

  hidden_same : (s : Seen) → Valid s → hidden_by p' s ≡ hidden_by p s
  hidden_same s h =
      ap (first_some (virtual_like p' s)) (bases_same s.0 h.0)
      ∙ first_on (virtual_like p' s) (virtual_like p s) (bases p s.0) (each_on (λ u. is_old u ≡ true) (λ u. virtual_like p' s u ≡ virtual_like p s u) (bases p s.0) (λ u o. virtual_like_same s u h.1 o) (bases_all s.0 h.0))

  abbrev overrides_by : Seen → Seen → List ℕ → List Ty → Bool → Bool → Option Seen → Bool
  overrides_by s slot rows above virtual new hidden =
      if any (λ b. b == s.1) rows then any (same_ty slot.0) above else (virtual && not new) && maybe false (same_seen slot) hidden

  overrides_is : (q : Program) (s slot : Seen) → overrides q s slot ≡ overrides_by s slot (by_rows q s.0 slot) (bases q s.0) (is_virtual (method_of q s.1)) (takes_new_slot (method_of q s.1)) (hidden_by q s)
  unfolding overrides
  overrides_is q s slot = refl

  pub override_same : (s slot : Seen) → Valid s → Valid slot → overrides p' s slot ≡ overrides p s slot
  override_same s slot h k =
      overrides_is p' s slot
      ∙ ap (λ (r : List ℕ). overrides_by s slot r (bases p' s.0) (is_virtual (method_of p' s.1)) (takes_new_slot (method_of p' s.1)) (hidden_by p' s)) (rows_same s.0 slot h.0)
      ∙ ap (λ (r : List Ty). overrides_by s slot (by_rows p s.0 slot) r (is_virtual (method_of p' s.1)) (takes_new_slot (method_of p' s.1)) (hidden_by p' s)) (bases_same s.0 h.0)
      ∙ ap (λ (b : Bool). overrides_by s slot (by_rows p s.0 slot) (bases p s.0) b (takes_new_slot (method_of p' s.1)) (hidden_by p' s)) (virtual_same s.1 h.1)
      ∙ ap (λ (b : Bool). overrides_by s slot (by_rows p s.0 slot) (bases p s.0) (is_virtual (method_of p s.1)) b (hidden_by p' s)) (slot_same s.1 h.1)
      ∙ ap (overrides_by s slot (by_rows p s.0 slot) (bases p s.0) (is_virtual (method_of p s.1)) (takes_new_slot (method_of p s.1))) (hidden_same s h)
      ∙ sym (overrides_is p s slot)

  abbrev outside_by : Seen → Bool → Bool → Bool → Option Seen → List Ty → Bool → Bool
  outside_by slot out virtual new hidden above shape = out && ((virtual && not new) && (is_none hidden && (any (same_ty slot.0) above && shape)))

  outside_is : (q : Program) (s slot : Seen) → overrides_outside q s slot ≡ outside_by slot (method_of q slot.1).outside (is_virtual (method_of q s.1)) (takes_new_slot (method_of q s.1)) (hidden_by q s) (bases q s.0) (same_shape q s slot)
  unfolding overrides_outside
  outside_is q s slot = refl

  pub override_outside_same : (s slot : Seen) → Valid s → Valid slot → overrides_outside p' s slot ≡ overrides_outside p s slot
  override_outside_same s slot h k =
      outside_is p' s slot
      ∙ ap (λ (b : Bool). outside_by slot b (is_virtual (method_of p' s.1)) (takes_new_slot (method_of p' s.1)) (hidden_by p' s) (bases p' s.0) (same_shape p' s slot)) (outside_same slot.1 k.1)
      ∙ ap (λ (b : Bool). outside_by slot (method_of p slot.1).outside b (takes_new_slot (method_of p' s.1)) (hidden_by p' s) (bases p' s.0) (same_shape p' s slot)) (virtual_same s.1 h.1)
      ∙ ap (λ (b : Bool). outside_by slot (method_of p slot.1).outside (is_virtual (method_of p s.1)) b (hidden_by p' s) (bases p' s.0) (same_shape p' s slot)) (slot_same s.1 h.1)
      ∙ ap (λ (o : Option Seen). outside_by slot (method_of p slot.1).outside (is_virtual (method_of p s.1)) (takes_new_slot (method_of p s.1)) o (bases p' s.0) (same_shape p' s slot)) (hidden_same s h)
      ∙ ap (λ (ts : List Ty). outside_by slot (method_of p slot.1).outside (is_virtual (method_of p s.1)) (takes_new_slot (method_of p s.1)) (hidden_by p s) ts (same_shape p' s slot)) (bases_same s.0 h.0)
      ∙ ap (outside_by slot (method_of p slot.1).outside (is_virtual (method_of p s.1)) (takes_new_slot (method_of p s.1)) (hidden_by p s) (bases p s.0)) (shape_same s slot h.1 k.1)
      ∙ sym (outside_is p s slot)

  -- ---- slots

  first_row_same : (s : Seen) (t : Ty) (ms : List ℕ) → s.1 < length p.methods → is_old t ≡ true → Each (λ m. m < length p.methods) ms → first_row p' s t ms ≡ first_row p s t ms
  first_row_same s t [] h old there = public_like_same s t h old
  first_row_same s t (m ∷ ms) h old there = ap (option_map {U = Seen} (λ u. (u, m))) (owner_same m t there.0 old)

  pub implement_same : (s : Seen) (t : Ty) → s.1 < length p.methods → is_old t ≡ true → implementing p' s t ≡ implementing p s t
  unfolding implementing
  implement_same s t h old = ap (first_row p' s t) (rows_same t s old) ∙ first_row_same s t (by_rows p t s) h old (rows_there t s old)

  chain_low : (n : ℕ) (t : Ty) → is_old t ≡ true → Each (λ u. (is_old u ≡ true) × (height u ≤ height t)) (chain_within n p t)
  unfolding chain_within
  chain_low zero t old = ((old, omega arith), tt)
  chain_low (suc n) t old = ((old, omega arith), go (λ u o. chain_low n u o) (base_of p t) (λ u e. falls.base t u old e))
    where
      go : ((u : Ty) → is_old u ≡ true → Each (λ v. (is_old v ≡ true) × (height v ≤ height u)) (chain_within n p u))
          → (o : Option Ty) → ((u : Ty) → o ≡ Some u → (is_old u ≡ true) × (height u < height t)) → Each (λ v. (is_old v ≡ true) × (height v ≤ height t)) (chain_on (chain_within n p) o)
      go again None h = tt
      go again (Some u) h =
          let lower : (is_old u ≡ true) × (height u < height t) = h u refl in
          let less : height u < height t = lower.1 in
          each_on (λ v. (is_old v ≡ true) × (height v ≤ height u)) (λ v. (is_old v ≡ true) × (height v ≤ height t)) (chain_within n p u) (λ v k. (k.0, low v u k.1 less)) (again u lower.0)
        where
          low : (v u : Ty) → height v ≤ height u → height u < height t → height v ≤ height t
          low v u a b = omega (arith, a, b)

  abbrev names_it : Program → Seen → Ty → Bool
  names_it q s u = any (same_ty s.0) (interfaces_of q u)

  naming_same : (s : Seen) (t : Ty) → is_old t ≡ true → find (names_it p' s) (chain p' t) ≡ find (names_it p s) (chain p t)
  naming_same s t old =
      ap (find (names_it p' s)) (chain_same p p' is_old height kept whole falls t old)
      ∙ find_on (names_it p' s) (names_it p s) (chain p t) (each_on (λ u. is_old u ≡ true) (λ u. names_it p' s u ≡ names_it p s u) (chain p t) (λ u o. ap (any (same_ty s.0)) (interfaces_same p p' is_old height kept whole falls u o)) (chain_all t old))

  abbrev slot_in : (Ty → Option Seen) → Program → Seen → Ty → Option Seen
  slot_in go q s u = or_else (implementing q s u) (or_else (option_and_then go (base_of q u)) (first_some (public_like q s) (bases q u)))

  publics_same : (s : Seen) (u : Ty) → s.1 < length p.methods → is_old u ≡ true → first_some (public_like p' s) (bases p' u) ≡ first_some (public_like p s) (bases p u)
  publics_same s u h old =
      ap (first_some (public_like p' s)) (bases_same u old)
      ∙ first_on (public_like p' s) (public_like p s) (bases p u) (each_on (λ v. is_old v ≡ true) (λ v. public_like p' s v ≡ public_like p s v) (bases p u) (λ v o. public_like_same s v h o) (bases_all u old))

  interface_slot_same : (n m : ℕ) (s : Seen) (t : Ty) → s.1 < length p.methods → is_old t ≡ true → height t < n → height t < m → interface_slot n p' s t ≡ interface_slot m p s t
  unfolding interface_slot
  interface_slot_same zero m s t h old hn hm = absurd (omega (arith, hn))
  interface_slot_same (suc n) zero s t h old hn hm = absurd (omega (arith, hm))
  interface_slot_same (suc n) (suc m) s t h old hn hm =
      ap (option_and_then (slot_in (interface_slot n p' s) p' s)) (naming_same s t old)
      ∙ go (λ v o a b. interface_slot_same n m s v h o a b) (find (names_it p s) (chain p t))
      (λ u e. find_each (λ u. (is_old u ≡ true) × (height u ≤ height t)) (names_it p s) (chain p t) u (chain_low (most_bases p) t old) e)
    where
      go : ((v : Ty) → is_old v ≡ true → height v < n → height v < m → interface_slot n p' s v ≡ interface_slot m p s v)
          → (o : Option Ty) → ((u : Ty) → o ≡ Some u → (is_old u ≡ true) × (height u ≤ height t)) → option_and_then (slot_in (interface_slot n p' s) p' s) o ≡ option_and_then (slot_in (interface_slot m p s) p s) o
      go again None k = refl
      go again (Some u) k =
          let low : (is_old u ≡ true) × (height u ≤ height t) = k u refl in
          ap (λ (x : Option Seen). or_else x (or_else (option_and_then (interface_slot n p' s) (base_of p' u)) (first_some (public_like p' s) (bases p' u)))) (implement_same s u h low.0)
          ∙ ap (λ (b : Option Ty). or_else (implementing p s u) (or_else (option_and_then (interface_slot n p' s) b) (first_some (public_like p' s) (bases p' u)))) (base_same p p' is_old height kept whole falls u low.0)
          ∙ ap (λ (x : Option Seen). or_else (implementing p s u) (or_else x (first_some (public_like p' s) (bases p' u)))) (below (base_of p u) (λ v e. falls.base u v low.0 e) low.1)
          ∙ ap (λ (x : Option Seen). or_else (implementing p s u) (or_else (option_and_then (interface_slot m p s) (base_of p u)) x)) (publics_same s u h low.0)
        where
          below : (o : Option Ty) → ((v : Ty) → o ≡ Some v → (is_old v ≡ true) × (height v < height u)) → height u ≤ height t → option_and_then (interface_slot n p' s) o ≡ option_and_then (interface_slot m p s) o
          below None j l = refl
          below (Some v) j l =
              let less : height v < height u = (j v refl).1 in
              again v (j v refl).0 (omega (arith, less, l, hn)) (omega (arith, less, l, hm))

  pub slot_of_same : (t : Ty) (s : Seen) → is_old t ≡ true → Valid s → slot_of p' t s ≡ slot_of p t s
  unfolding slot_of
  slot_of_same t s old h =
      let less : height t < most_bases p = falls.most t old in
      let more : most_bases p ≤ most_bases p' = more_bases p p' is_old height kept whole falls in
      ap (λ (b : Bool). if b then interface_slot (most_bases p') p' s t else Some s) (interface_same p p' is_old height kept whole falls s.0 h.0)
      ∙ ap (λ (o : Option Seen). if is_interface p s.0 then o else Some s) (interface_slot_same (most_bases p') (most_bases p) s t h.1 old (omega (arith, less, more)) less)

  -- ---- what a slot is

  some_seen : (a b : Seen) → Some a ≡ Some b → a ≡ b
  some_seen a b f = search (rules, f)

  either_valid : (a b : Option Seen) (v : Seen) → ((w : Seen) → a ≡ Some w → Valid w) → ((w : Seen) → b ≡ Some w → Valid w) → or_else a b ≡ Some v → Valid v
  either_valid None b v h k e = k v e
  either_valid (Some a) b v h k e = h v e

  first_valid : (f : Ty → Option Seen) (ts : List Ty) (v : Seen) → Each (λ t. is_old t ≡ true) ts → ((t : Ty) (w : Seen) → is_old t ≡ true → f t ≡ Some w → Valid w) → first_some f ts ≡ Some v → Valid v
  first_valid f [] v h k e = absurd cc
  first_valid f (t ∷ ts) v h k e = either_valid (f t) (first_some f ts) v (λ w g. k t w h.0 g) (λ w g. first_valid f ts w h.1 k g) e

  implementing_valid : (s : Seen) (t : Ty) (v : Seen) → is_old t ≡ true → implementing p s t ≡ Some v → Valid v
  unfolding implementing
  implementing_valid s t v old e = go (by_rows p t s) (rows_there t s old) e
    where
      go : (ms : List ℕ) → Each (λ m. m < length p.methods) ms → first_row p s t ms ≡ Some v → Valid v
      go [] h f = public_like_valid s t v old f
      go (m ∷ ms) h f = by_owner (owner_among p m (chain p t)) (λ u g. owner_old m (chain p t) u (chain_all t old) g) f
        where
          by_owner : (o : Option Ty) → ((u : Ty) → o ≡ Some u → is_old u ≡ true) → option_map {U = Seen} (λ u. (u, m)) o ≡ Some v → Valid v
          by_owner None k g = absurd cc
          by_owner (Some u) k g = subst Valid (some_seen (u, m) v g) (k u refl, h.0)

  slot_valid : (n : ℕ) (s : Seen) (t : Ty) (v : Seen) → is_old t ≡ true → interface_slot n p s t ≡ Some v → Valid v
  unfolding interface_slot
  slot_valid zero s t v old e = absurd cc
  slot_valid (suc n) s t v old e =
      go (λ u w o f. slot_valid n s u w o f) (find (names_it p s) (chain p t)) (λ u f. find_each (λ u. is_old u ≡ true) (names_it p s) (chain p t) u (chain_all t old) f) e
    where
      go : ((u : Ty) (w : Seen) → is_old u ≡ true → interface_slot n p s u ≡ Some w → Valid w) → (o : Option Ty) → ((u : Ty) → o ≡ Some u → is_old u ≡ true) → option_and_then (slot_in (interface_slot n p s) p s) o ≡ Some v → Valid v
      go again None k f = absurd cc
      go again (Some u) k f =
          either_valid (implementing p s u) (or_else (option_and_then (interface_slot n p s) (base_of p u)) (first_some (public_like p s) (bases p u))) v
          (λ w g. implementing_valid s u w (k u refl) g)
          (λ w g. either_valid (option_and_then (interface_slot n p s) (base_of p u)) (first_some (public_like p s) (bases p u)) w
          (λ x i. below (base_of p u) (λ y j. (falls.base u y (k u refl) j).0) x i)
          (λ x i. first_valid (public_like p s) (bases p u) x (bases_all u (k u refl)) (λ y z o j. public_like_valid s y z o j) i) g)
          f
        where
          below : (o : Option Ty) → ((y : Ty) → o ≡ Some y → is_old y ≡ true) → (x : Seen) → option_and_then (interface_slot n p s) o ≡ Some x → Valid x
          below None j x i = absurd cc
          below (Some y) j x i = again y x (j y refl) i

  slot_of_valid : (t : Ty) (s v : Seen) → is_old t ≡ true → Valid s → slot_of p t s ≡ Some v → Valid v
  unfolding slot_of
  slot_of_valid t s v old h e = go (is_interface p s.0) e
    where
      go : (b : Bool) → (if b then interface_slot (most_bases p) p s t else Some s) ≡ Some v → Valid v
      go true f = slot_valid (most_bases p) s t v old f
      go false f = subst Valid (some_seen s v f) h

  -- ---- overriding methods, the base first

  abbrev joins : Program → List Seen → Seen → Bool
  joins q seen y = any (λ s. overrides q y s || overrides_outside q y s) seen

  joins_same : (seen : List Seen) (y : Seen) → Each Valid seen → Valid y → joins p' seen y ≡ joins p seen y
  joins_same seen y h k =
      any_on (λ s. overrides p' y s || overrides_outside p' y s) (λ s. overrides p y s || overrides_outside p y s) seen
      (each_on Valid (λ s. (overrides p' y s || overrides_outside p' y s) ≡ (overrides p y s || overrides_outside p y s)) seen
      (λ s v. ap (λ (b : Bool). b || overrides_outside p' y s) (override_same y s k v) ∙ ap (λ (b : Bool). overrides p y s || b) (override_outside_same y s k v)) h)

  abbrev all_seen : Program → Ty → List Seen
  all_seen q t = map {B = Seen} (λ m. (t, m)) (methods_of q t)

  seen_valid : (t : Ty) → is_old t ≡ true → Each Valid (all_seen p t)
  seen_valid t old = each_map (λ m. m < length p.methods) Valid (λ m. (t, m)) (methods_of p t) (λ m l. (old, l)) (methods_there t old)

  joined_same : (seen : List Seen) (t : Ty) → Each Valid seen → is_old t ≡ true → filter (joins p' seen) (all_seen p' t) ≡ filter (joins p seen) (all_seen p t)
  joined_same seen t h old =
      ap (λ (ms : List ℕ). filter (joins p' seen) (map {B = Seen} (λ m. (t, m)) ms)) (methods_same p p' is_old height kept whole falls t old)
      ∙ filter_on (joins p' seen) (joins p seen) (all_seen p t) (each_on Valid (λ y. joins p' seen y ≡ joins p seen y) (all_seen p t) (λ y v. joins_same seen y h v) (seen_valid t old))

  joined_valid : (seen : List Seen) (t : Ty) → Each Valid seen → is_old t ≡ true → Each Valid (seen ++ filter (joins p seen) (all_seen p t))
  joined_valid seen t h old = each_append Valid seen (filter (joins p seen) (all_seen p t)) h (each_filter Valid (joins p seen) (all_seen p t) (seen_valid t old))

  overriders_same : (ts : List Ty) (seen : List Seen) → Each (λ t. is_old t ≡ true) ts → Each Valid seen → overriders p' ts seen ≡ overriders p ts seen
  unfolding overriders
  overriders_same [] seen h k = refl
  overriders_same (t ∷ ts) seen h k =
      ap (λ (l : List Seen). overriders p' ts (seen ++ l)) (joined_same seen t k h.0)
      ∙ overriders_same ts (seen ++ filter (joins p seen) (all_seen p t)) h.1 (joined_valid seen t k h.0)

  overriders_valid : (ts : List Ty) (seen : List Seen) → Each (λ t. is_old t ≡ true) ts → Each Valid seen → Each Valid (overriders p ts seen)
  unfolding overriders
  overriders_valid [] seen h k = k
  overriders_valid (t ∷ ts) seen h k = overriders_valid ts (seen ++ filter (joins p seen) (all_seen p t)) h.1 (joined_valid seen t k h.0)

  bodies_same : (seen : List Seen) (t : Ty) → Each Valid seen → bodies_in p' seen t ≡ bodies_in p seen t
  bodies_same seen t h =
      filter_on (λ (y : Seen). same_ty y.0 t && is_some (method_of p' y.1).body) (λ (y : Seen). same_ty y.0 t && is_some (method_of p y.1).body) seen
      (each_on Valid (λ y. (same_ty y.0 t && is_some (method_of p' y.1).body) ≡ (same_ty y.0 t && is_some (method_of p y.1).body)) seen (λ y v. ap (λ (b : Bool). same_ty y.0 t && b) (body_same y.1 v.1)) h)

  chosen_same : (slot : Seen) (t : Ty) (ys : List Seen) (o o' : Option Seen) → is_old t ≡ true → o' ≡ o → chosen p' slot t ys o' ≡ chosen p slot t ys o
  chosen_same slot t [] o o' old e = e
  chosen_same slot t (y ∷ []) o o' old e = refl
  chosen_same slot t (y ∷ z ∷ ys) o o' old e = ap (λ (rows : List ℕ). only (filter (λ (w : Seen). any (λ m. m == w.1) rows) (y ∷ z ∷ ys))) (rows_same t slot old)

  nearest_same : (slot : Seen) (seen : List Seen) (ts : List Ty) → Each Valid seen → Each (λ t. is_old t ≡ true) ts → nearest p' slot seen ts ≡ nearest p slot seen ts
  nearest_same slot seen [] h k = refl
  nearest_same slot seen (t ∷ ts) h k =
      ap (λ (ys : List Seen). chosen p' slot t ys (nearest p' slot seen ts)) (bodies_same seen t h)
      ∙ chosen_same slot t (bodies_in p seen t) (nearest p slot seen ts) (nearest p' slot seen ts) k.0 (nearest_same slot seen ts h k.1)

  pub body_for_same : (t : Ty) (s : Seen) → is_old t ≡ true → Valid s → body_for p' t s ≡ body_for p t s
  unfolding body_for
  body_for_same t s old h =
      ap (option_and_then (λ slot. nearest p' slot (overriders p' (reverse (chain p' t)) (slot ∷ [])) (chain p' t))) (slot_of_same t s old h)
      ∙ go (slot_of p t s) (λ v e. slot_of_valid t s v old h e)
    where
      go : (o : Option Seen) → ((v : Seen) → o ≡ Some v → Valid v)
          → option_and_then (λ slot. nearest p' slot (overriders p' (reverse (chain p' t)) (slot ∷ [])) (chain p' t)) o ≡ option_and_then (λ slot. nearest p slot (overriders p (reverse (chain p t)) (slot ∷ [])) (chain p t)) o
      go None k = refl
      go (Some slot) k =
          let all : Each (λ u. is_old u ≡ true) (chain p t) = chain_all t old in
          let back : Each (λ u. is_old u ≡ true) (reverse (chain p t)) = each_reverse (λ u. is_old u ≡ true) (chain p t) all in
          ap (λ (ts : List Ty). nearest p' slot (overriders p' (reverse ts) (slot ∷ [])) ts) (chain_same p p' is_old height kept whole falls t old)
          ∙ ap (λ (ys : List Seen). nearest p' slot ys (chain p t)) (overriders_same (reverse (chain p t)) (slot ∷ []) back (k slot refl, tt))
          ∙ nearest_same slot (overriders p (reverse (chain p t)) (slot ∷ [])) (chain p t) (overriders_valid (reverse (chain p t)) (slot ∷ []) back (k slot refl, tt)) all

each_contained : {A : Type 0} (P : A → Type 0) (xs : List A) → ((x : A) → Contains xs x → P x) → Each P xs
each_contained P [] h = tt
each_contained P (x ∷ xs) h = (h x (first_element x xs), each_contained P xs (λ y c. h y (later_element x y xs c)))

each_both : {A : Type 0} (P Q : A → Type 0) (xs : List A) → Each P xs → Each Q xs → Each (λ x. P x × Q x) xs
each_both P Q [] h k = tt
each_both P Q (x ∷ xs) h k = ((h.0, k.0), each_both P Q xs h.1 k.1)

descends : (p q : Program) (old : Ty → Bool) (kept : Extends p q) → AreClosed p q old → Descends p q old kept.ranked.rank
descends p q old kept closed =
    record {
      closed = closed;
      base = λ t u o e. (closed.base t u o e, kept.ranked.base t u e);
      interfaces = λ t o. each_both (λ u. old u ≡ true) (λ u. kept.ranked.rank u < kept.ranked.rank t) (interfaces_of p t) (closed.interfaces t o) (each_contained (λ u. kept.ranked.rank u < kept.ranked.rank t) (interfaces_of p t) (λ u c. kept.ranked.interfaces t u c));
      most = λ t o. kept.ranked.within t;
    }

pub answers_alike : (p q : Program) → Extends p q → NamesOwn p → NamesNone p q → AnswersAlike p q
answers_alike p q kept whole none =
    let old = is_below (length p.types) in
    let rank = kept.ranked.rank in
    let falls = descends p q old kept (are_closed p q whole none) in
    record {
      chains = answers.chain_same p q old rank kept whole falls;
      subs = answers.sub_same p q old rank kept whole falls;
      layouts = answers.layout_same p q old rank kept whole falls;
      statics = answers.static_same p q old rank kept whole falls;
      slots = λ t s o h. slot_of_same p q old rank kept whole falls t s o h;
      bodies = λ t s o h. body_for_same p q old rank kept whole falls t s o h;
    }
