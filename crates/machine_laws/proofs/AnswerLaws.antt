-- Look-ups in a program that has grown.
use Rattle.std.proofs.Common.{◌≡◌, ◌∙◌, sym, ap, refl, arith, ℕ, zero, suc, ◌<◌, ◌≤◌, List, [], ◌∷◌, ◌++◌, length, Bool, true, false, ◌⊎◌, inl, inr}
use Rattle.std.proofs.lemmas.Bool.{cases_lt}
use Rattle.std.proofs.Math.ListN.{get_or-eq_default}
use Rattle.std.proofs.lemmas.Option.{unwrap_or-slice_get}
use Rattle.std.specs.Prelude.{unwrap_or, slice_get, cond, ◌||◌, not, map, filter, Option, Some, None, option_to_list}
use Rattle.cil_model.specs.declared.ty.Ty.{Ty, out-Ty}
use Rattle.cil_model.specs.declared.program.Program.{Program}
use Rattle.cil_model.specs.declared.program.TypeDesc.{TypeDesc}
use Rattle.cil_semantics.specs.Words.{any, maybe}
use Rattle.cil_semantics.specs.Types.{under, all_under, same_ty}
use Rattle.cil_semantics.specs.Core.{object_ty}
use Rattle.cil_semantics.specs.Lookups.{contract_exception, type_of, field_of, in_set, base_from, base_of, interfaces_from, interfaces_of, chain_on, chain_within, chain, is_sub_within, is_sub, most_bases}
use Rattle.cil_semantics.specs.Dispatch.{methods_of, impls_of, is_interface, is_interface_at, is_interface_kind}
use Rattle.cil_semantics.specs.Places.{own_fields, own_layout, layouts, layout, static_layout}
use Rattle.machine_laws.specs.Growth.{Extends}
use Rattle.machine_laws.specs.Answers.{Each, NamesOwn}

-- ---- lists

pub or_false : (b : Bool) → (b || false) ≡ b
or_false true = refl
or_false false = refl

pub any_on : {A : Type 0} (f g : A → Bool) (xs : List A) → Each (λ x. f x ≡ g x) xs → any f xs ≡ any g xs
any_on f g [] h = refl
any_on f g (x ∷ xs) h = ap (λ (b : Bool). b || any f xs) h.0 ∙ ap (λ (b : Bool). g x || b) (any_on f g xs h.1)

pub filter_on : {A : Type 0} (f g : A → Bool) (xs : List A) → Each (λ x. f x ≡ g x) xs → filter f xs ≡ filter g xs
filter_on f g [] h = refl
filter_on {A} f g (x ∷ xs) h =
    ap (λ (b : Bool). cond b (x ∷ filter f xs) (filter f xs)) h.0
    ∙ ap (λ (l : List A). cond (g x) (x ∷ l) l) (filter_on f g xs h.1)

pub map_on : {A B : Type 0} (f g : A → B) (xs : List A) → Each (λ x. f x ≡ g x) xs → map f xs ≡ map g xs
map_on f g [] h = refl
map_on {A} {B} f g (x ∷ xs) h = ap (λ (b : B). b ∷ map f xs) h.0 ∙ ap (λ (l : List B). g x ∷ l) (map_on f g xs h.1)

pub each_on : {A : Type 0} (P Q : A → Type 0) (xs : List A) → ((x : A) → P x → Q x) → Each P xs → Each Q xs
each_on P Q [] f h = h
each_on P Q (x ∷ xs) f h = (f x h.0, each_on P Q xs f h.1)

pub each_filter : {A : Type 0} (P : A → Type 0) (test : A → Bool) (xs : List A) → Each P xs → Each P (filter test xs)
each_filter P test [] h = h
each_filter {A} P test (x ∷ xs) h = go (test x) (each_filter P test xs h.1)
  where
    go : (b : Bool) → Each P (filter test xs) → Each P (cond b (x ∷ filter test xs) (filter test xs))
    go true rest = (h.0, rest)
    go false rest = rest

-- ---- one program and another that keeps it

-- Types of p alone, with all that stands above them; and the types that q has besides name no interface.
pub record AreClosed (p q : Program) (old : Ty → Bool) : Type 0 where
  pub number : (t : Ty) (d : ℕ × List Ty) → old t ≡ true → in_set (out-Ty t) ≡ Some d → d.0 < length p.types
  pub base : (t u : Ty) → old t ≡ true → base_of p t ≡ Some u → old u ≡ true
  pub interfaces : (t : Ty) → old t ≡ true → Each (λ u. old u ≡ true) (interfaces_of p t)
  pub names_none : (k : ℕ) → length p.types ≤ k → (type_of q k).interfaces ≡ []

-- the closed types, with a height that falls from each to what is above it
pub record Descends (p p' : Program) (is_old : Ty → Bool) (height : Ty → ℕ) : Type 0 where
  pub closed : AreClosed p p' is_old
  pub base : (t u : Ty) → is_old t ≡ true → base_of p t ≡ Some u → (is_old u ≡ true) × (height u < height t)
  pub interfaces : (t : Ty) → is_old t ≡ true → Each (λ u. (is_old u ≡ true) × (height u < height t)) (interfaces_of p t)
  pub most : (t : Ty) → is_old t ≡ true → height t < most_bases p

module _ (p p' : Program) (is_old : Ty → Bool) (height : Ty → ℕ) (kept : Extends p p') (whole : NamesOwn p) (falls : Descends p p' is_old height) where
  type_base : (k : ℕ) → k < length p.types → (type_of p' k).base ≡ (type_of p k).base
  type_base k h = (kept.types k h).base

  type_interfaces : (k : ℕ) → k < length p.types → (type_of p' k).interfaces ≡ (type_of p k).interfaces
  type_interfaces k h = (kept.types k h).interfaces

  type_fields : (k : ℕ) → k < length p.types → (type_of p' k).fields ≡ (type_of p k).fields
  type_fields k h = (kept.types k h).fields

  pub type_kind : (k : ℕ) → k < length p.types → (type_of p' k).kind ≡ (type_of p k).kind
  type_kind k h = (kept.types k h).kind

  field_ty : (f : ℕ) → f < length p.fields → (field_of p' f).ty ≡ (field_of p f).ty
  field_ty f h = (kept.fields f h).ty

  field_static : (f : ℕ) → f < length p.fields → (field_of p' f).is_static ≡ (field_of p f).is_static
  field_static f h = (kept.fields f h).is_static

  -- ---- bases and interfaces

  pub base_same : (t : Ty) → is_old t ≡ true → base_of p' t ≡ base_of p t
  unfolding base_of
  base_same t old = go (in_set (out-Ty t)) (λ d e. falls.closed.number t d old e)
    where
      go : (o : Option (ℕ × List Ty)) → ((d : ℕ × List Ty) → o ≡ Some d → d.0 < length p.types) → base_from p' o (out-Ty t) ≡ base_from p o (out-Ty t)
      go None h = refl
      go (Some d) h = ap (λ (b : Option Ty). Some (maybe object_ty (under d.1 []) b)) (type_base d.0 (h d refl))

  pub interfaces_same : (t : Ty) → is_old t ≡ true → interfaces_of p' t ≡ interfaces_of p t
  unfolding interfaces_of
  interfaces_same t old = go (in_set (out-Ty t)) (λ d e. falls.closed.number t d old e)
    where
      go : (o : Option (ℕ × List Ty)) → ((d : ℕ × List Ty) → o ≡ Some d → d.0 < length p.types) → interfaces_from p' o ≡ interfaces_from p o
      go None h = refl
      go (Some d) h = ap (all_under d.1 []) (type_interfaces d.0 (h d refl))

  chain_none : (n : ℕ) (q : Program) (t : Ty) → base_of q t ≡ None → chain_within n q t ≡ t ∷ []
  unfolding chain_within
  chain_none zero q t e = refl
  chain_none (suc n) q t e = ap (λ (o : Option Ty). t ∷ chain_on (chain_within n q) o) e

  -- a type at height 0 has no base
  no_base : (t : Ty) → is_old t ≡ true → height t ≤ 0 → base_of p t ≡ None
  no_base t old h = go (base_of p t) refl
    where
      go : (o : Option Ty) → base_of p t ≡ o → base_of p t ≡ None
      go None e = e
      go (Some u) e = let less : height u < height t = (falls.base t u old e).1 in absurd (omega (arith, less, h))

  chain_on_same : (n m : ℕ) (t : Ty) → is_old t ≡ true → height t ≤ n → height t ≤ m → chain_within n p' t ≡ chain_within m p t
  unfolding chain_within
  chain_on_same zero m t old hn hm = sym (chain_none m p t (no_base t old hn))
  chain_on_same (suc n) zero t old hn hm = chain_none (suc n) p' t (base_same t old ∙ no_base t old hm)
  chain_on_same (suc n) (suc m) t old hn hm =
      ap (λ (o : Option Ty). t ∷ chain_on (chain_within n p') o) (base_same t old) ∙ ap (λ (l : List Ty). t ∷ l) (go (λ u o a b. chain_on_same n m u o a b) (base_of p t) (λ u e. falls.base t u old e))
    where
      go : ((u : Ty) → is_old u ≡ true → height u ≤ n → height u ≤ m → chain_within n p' u ≡ chain_within m p u)
          → (o : Option Ty) → ((u : Ty) → o ≡ Some u → (is_old u ≡ true) × (height u < height t)) → chain_on (chain_within n p') o ≡ chain_on (chain_within m p) o
      go again None h = refl
      go again (Some u) h =
          let lower : (is_old u ≡ true) × (height u < height t) = h u refl in
          let less : height u < height t = lower.1 in
          again u lower.0 (omega (arith, less, hn)) (omega (arith, less, hm))

  pub more_bases : most_bases p ≤ most_bases p'
  more_bases = omega (arith, kept.more_types)

  pub chain_same : (t : Ty) → is_old t ≡ true → chain p' t ≡ chain p t
  chain_same t old =
      let less : height t < most_bases p = falls.most t old in
      let low : height t ≤ most_bases p = omega (arith, less) in
      let high : height t ≤ most_bases p' = omega (arith, low, more_bases) in
      chain_on_same (most_bases p') (most_bases p) t old high low

  -- ---- subs

  abbrev above : Program → Ty → List Ty
  above q t = option_to_list (base_of q t) ++ interfaces_of q t

  abbrev pub Lower : Ty → Ty → Type 0
  Lower t u = (is_old u ≡ true) × (height u < height t)

  above_same : (t : Ty) → is_old t ≡ true → above p' t ≡ above p t
  above_same t old = ap (λ (o : Option Ty). option_to_list o ++ interfaces_of p' t) (base_same t old) ∙ ap (λ (l : List Ty). option_to_list (base_of p t) ++ l) (interfaces_same t old)

  pub above_lower : (t : Ty) → is_old t ≡ true → Each (Lower t) (above p t)
  above_lower t old = go (base_of p t) (λ u e. falls.base t u old e)
    where
      go : (o : Option Ty) → ((u : Ty) → o ≡ Some u → Lower t u) → Each (Lower t) (option_to_list o ++ interfaces_of p t)
      go None h = falls.interfaces t old
      go (Some u) h = (h u refl, falls.interfaces t old)

  none_lower : (t : Ty) (us : List Ty) → height t ≤ 0 → Each (Lower t) us → us ≡ []
  none_lower t [] h e = refl
  none_lower t (u ∷ us) h e = let less : height u < height t = e.0.1 in absurd (omega (arith, less, h))

  sub_none : (n : ℕ) (q : Program) (a b : Ty) → above q a ≡ [] → is_sub_within n q a b ≡ same_ty a b
  unfolding is_sub_within
  sub_none zero q a b e = refl
  sub_none (suc n) q a b e = ap (λ (l : List Ty). same_ty a b || any (λ c. is_sub_within n q c b) l) e ∙ or_false (same_ty a b)

  sub_on_same : (n m : ℕ) (a b : Ty) → is_old a ≡ true → height a ≤ n → height a ≤ m → is_sub_within n p' a b ≡ is_sub_within m p a b
  unfolding is_sub_within
  sub_on_same zero m a b old hn hm = sym (sub_none m p a b (none_lower a (above p a) hn (above_lower a old)))
  sub_on_same (suc n) zero a b old hn hm = sub_none (suc n) p' a b (above_same a old ∙ none_lower a (above p a) hm (above_lower a old))
  sub_on_same (suc n) (suc m) a b old hn hm =
      ap (λ (l : List Ty). same_ty a b || any (λ c. is_sub_within n p' c b) l) (above_same a old)
      ∙ ap (λ (x : Bool). same_ty a b || x) (any_on (λ c. is_sub_within n p' c b) (λ c. is_sub_within m p c b) (above p a)
      (each_on (Lower a) (λ c. is_sub_within n p' c b ≡ is_sub_within m p c b) (above p a) (go (λ u o x y. sub_on_same n m u b o x y)) (above_lower a old)))
    where
      go : ((u : Ty) → is_old u ≡ true → height u ≤ n → height u ≤ m → is_sub_within n p' u b ≡ is_sub_within m p u b) → (c : Ty) → Lower a c → is_sub_within n p' c b ≡ is_sub_within m p c b
      go again c l = let less : height c < height a = l.1 in again c l.0 (omega (arith, less, hn)) (omega (arith, less, hm))

  pub sub_same : (t u : Ty) → is_old t ≡ true → is_sub p' t u ≡ is_sub p t u
  unfolding is_sub
  sub_same t u old =
      let less : height t < most_bases p = falls.most t old in
      let low : height t ≤ most_bases p = omega (arith, less) in
      let high : height t ≤ most_bases p' = omega (arith, low, more_bases) in
      sub_on_same (most_bases p') (most_bases p) t u old high low

  own_same : (k : ℕ) → k < length p.types → own_fields p' (type_of p' k) ≡ own_fields p (type_of p k)
  own_same k h =
      ap (filter (λ f. not (field_of p' f).is_static)) (type_fields k h)
      ∙ filter_on (λ f. not (field_of p' f).is_static) (λ f. not (field_of p f).is_static) (type_of p k).fields
      (each_on (λ f. f < length p.fields) (λ f. not (field_of p' f).is_static ≡ not (field_of p f).is_static) (type_of p k).fields (λ f l. ap not (field_static f l)) (whole.fields k h))

  own_there : (k : ℕ) → k < length p.types → Each (λ f. f < length p.fields) (own_fields p (type_of p k))
  own_there k h = each_filter (λ f. f < length p.fields) (λ f. not (field_of p f).is_static) (type_of p k).fields (whole.fields k h)

  -- ---- layouts

  typed_same : (args : List Ty) (fs : List ℕ) → Each (λ f. f < length p.fields) fs → map {B = ℕ × Ty} (λ f. (f, under args [] (field_of p' f).ty)) fs ≡ map {B = ℕ × Ty} (λ f. (f, under args [] (field_of p f).ty)) fs
  typed_same args fs h =
      map_on {B = ℕ × Ty} (λ f. (f, under args [] (field_of p' f).ty)) (λ f. (f, under args [] (field_of p f).ty)) fs
      (each_on (λ f. f < length p.fields) (λ f. ◌≡◌ {A = ℕ × Ty} (f, under args [] (field_of p' f).ty) (f, under args [] (field_of p f).ty)) fs (λ f l. ap (λ (t : Ty). (f, under args [] t)) (field_ty f l)) h)

  own_layout_same : (t : Ty) → is_old t ≡ true → own_layout p' t ≡ own_layout p t
  own_layout_same t old = go (in_set (out-Ty t)) (λ d e. falls.closed.number t d old e)
    where
      go : (o : Option (ℕ × List Ty)) → ((d : ℕ × List Ty) → o ≡ Some d → d.0 < length p.types)
          → maybe {Y = List (ℕ × Ty)} [] (λ (d : ℕ × List Ty). map {B = ℕ × Ty} (λ f. (f, under d.1 [] (field_of p' f).ty)) (own_fields p' (type_of p' d.0))) o
          ≡ maybe {Y = List (ℕ × Ty)} [] (λ (d : ℕ × List Ty). map {B = ℕ × Ty} (λ f. (f, under d.1 [] (field_of p f).ty)) (own_fields p (type_of p d.0))) o
      go None h = refl
      go (Some d) h =
          ap (λ (fs : List ℕ). map {B = ℕ × Ty} (λ f. (f, under d.1 [] (field_of p' f).ty)) fs) (own_same d.0 (h d refl))
          ∙ typed_same d.1 (own_fields p (type_of p d.0)) (own_there d.0 (h d refl))

  layouts_same : (ts : List Ty) → Each (λ t. is_old t ≡ true) ts → layouts p' ts ≡ layouts p ts
  layouts_same [] h = refl
  layouts_same (t ∷ ts) h = ap (λ (l : List (ℕ × Ty)). l ++ own_layout p' t) (layouts_same ts h.1) ∙ ap (λ (l : List (ℕ × Ty)). layouts p ts ++ l) (own_layout_same t h.0)

  pub chain_old : (n : ℕ) (t : Ty) → is_old t ≡ true → Each (λ u. is_old u ≡ true) (chain_within n p t)
  unfolding chain_within
  chain_old zero t old = (old, tt)
  chain_old (suc n) t old = (old, go (λ u o. chain_old n u o) (base_of p t) (λ u e. falls.base t u old e))
    where
      go : ((u : Ty) → is_old u ≡ true → Each (λ v. is_old v ≡ true) (chain_within n p u))
          → (o : Option Ty) → ((u : Ty) → o ≡ Some u → Lower t u) → Each (λ v. is_old v ≡ true) (chain_on (chain_within n p) o)
      go again None h = tt
      go again (Some u) h = again u (h u refl).0

  pub layout_same : (t : Ty) → is_old t ≡ true → layout p' t ≡ layout p t
  unfolding layout
  layout_same t old = ap (layouts p') (chain_same t old) ∙ layouts_same (chain p t) (chain_old (most_bases p) t old)

  pub static_same : (t : Ty) → is_old t ≡ true → static_layout p' t ≡ static_layout p t
  static_same t old = go (in_set (out-Ty t)) (λ d e. falls.closed.number t d old e)
    where
      statics : Program → ℕ → List ℕ
      statics q k = filter (λ f. (field_of q f).is_static) (type_of q k).fields

      go : (o : Option (ℕ × List Ty)) → ((d : ℕ × List Ty) → o ≡ Some d → d.0 < length p.types)
          → maybe {Y = List (ℕ × Ty)} [] (λ (d : ℕ × List Ty). map {B = ℕ × Ty} (λ f. (f, under d.1 [] (field_of p' f).ty)) (filter (λ f. (field_of p' f).is_static) (type_of p' d.0).fields)) o
          ≡ maybe {Y = List (ℕ × Ty)} [] (λ (d : ℕ × List Ty). map {B = ℕ × Ty} (λ f. (f, under d.1 [] (field_of p f).ty)) (filter (λ f. (field_of p f).is_static) (type_of p d.0).fields)) o
      go None h = refl
      go (Some d) h =
          let l : d.0 < length p.types = h d refl in
          ap (λ (fs : List ℕ). map {B = ℕ × Ty} (λ f. (f, under d.1 [] (field_of p' f).ty)) (filter (λ f. (field_of p' f).is_static) fs)) (type_fields d.0 l)
          ∙ ap (map {B = ℕ × Ty} (λ f. (f, under d.1 [] (field_of p' f).ty)))
          (filter_on (λ f. (field_of p' f).is_static) (λ f. (field_of p f).is_static) (type_of p d.0).fields
          (each_on (λ f. f < length p.fields) (λ f. (field_of p' f).is_static ≡ (field_of p f).is_static) (type_of p d.0).fields (λ f m. field_static f m) (whole.fields d.0 l)))
          ∙ typed_same d.1 (filter (λ f. (field_of p f).is_static) (type_of p d.0).fields)
          (each_filter (λ f. f < length p.fields) (λ f. (field_of p f).is_static) (type_of p d.0).fields (whole.fields d.0 l))

  -- ---- methods

  pub methods_same : (t : Ty) → is_old t ≡ true → methods_of p' t ≡ methods_of p t
  methods_same t old = go (in_set (out-Ty t)) (λ d e. falls.closed.number t d old e)
    where
      go : (o : Option (ℕ × List Ty)) → ((d : ℕ × List Ty) → o ≡ Some d → d.0 < length p.types)
          → maybe [] (λ (d : ℕ × List Ty). (type_of p' d.0).methods) o ≡ maybe [] (λ (d : ℕ × List Ty). (type_of p d.0).methods) o
      go None h = refl
      go (Some d) h = (kept.types d.0 (h d refl)).methods

  pub impls_same : (t : Ty) → is_old t ≡ true → impls_of p' t ≡ impls_of p t
  impls_same t old = go (in_set (out-Ty t)) (λ d e. falls.closed.number t d old e)
    where
      go : (o : Option (ℕ × List Ty)) → ((d : ℕ × List Ty) → o ≡ Some d → d.0 < length p.types)
          → maybe [] (λ (d : ℕ × List Ty). (type_of p' d.0).impls) o ≡ maybe [] (λ (d : ℕ × List Ty). (type_of p d.0).impls) o
      go None h = refl
      go (Some d) h = (kept.types d.0 (h d refl)).impls

  -- ---- interfaces

  at_all : (k : ℕ) → (type_of p' k).interfaces ≡ (type_of p k).interfaces
  unfolding contract_exception
  at_all k = by_side (cases_lt k (length p.types))
    where
      by_side : (k < length p.types) ⊎ (length p.types ≤ k) → (type_of p' k).interfaces ≡ (type_of p k).interfaces
      by_side (inl h) = type_interfaces k h
      by_side (inr h) = falls.closed.names_none k h ∙ sym (ap (λ (d : TypeDesc). d.interfaces) (unwrap_or-slice_get p.types k contract_exception ∙ get_or-eq_default p.types contract_exception h))

  any_grown : (t : Ty) (ds ds' : List TypeDesc) → ((k : ℕ) → (unwrap_or (slice_get ds' k) contract_exception).interfaces ≡ (unwrap_or (slice_get ds k) contract_exception).interfaces)
      → any (λ (d : TypeDesc). any (same_ty t) d.interfaces) ds' ≡ any (λ (d : TypeDesc). any (same_ty t) d.interfaces) ds
  unfolding contract_exception
  any_grown t [] [] h = refl
  any_grown t [] (d' ∷ ds') h =
      ap (λ (l : List Ty). any (same_ty t) l || any (λ (d : TypeDesc). any (same_ty t) d.interfaces) ds') (h 0) ∙ any_grown t [] ds' (λ k. h (suc k))
  any_grown t (d ∷ ds) [] h =
      sym (ap (λ (l : List Ty). any (same_ty t) l || any (λ (e : TypeDesc). any (same_ty t) e.interfaces) ds) (sym (h 0)) ∙ sym (any_grown t ds [] (λ k. h (suc k))))
  any_grown t (d ∷ ds) (d' ∷ ds') h =
      ap (λ (l : List Ty). any (same_ty t) l || any (λ (e : TypeDesc). any (same_ty t) e.interfaces) ds') (h 0)
      ∙ ap (λ (b : Bool). any (same_ty t) d.interfaces || b) (any_grown t ds ds' (λ k. h (suc k)))

  pub interface_same : (t : Ty) → is_old t ≡ true → is_interface p' t ≡ is_interface p t
  unfolding is_interface
  interface_same t old = go (in_set (out-Ty t)) (λ d e. falls.closed.number t d old e)
    where
      go : (o : Option (ℕ × List Ty)) → ((d : ℕ × List Ty) → o ≡ Some d → d.0 < length p.types) → is_interface_at p' t o ≡ is_interface_at p t o
      go None h = any_grown t p.types p'.types at_all
      go (Some d) h = ap is_interface_kind (type_kind d.0 (h d refl))
