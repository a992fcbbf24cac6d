-- The reader of types reads the types, and that of methods the methods.
use Rattle.std.proofs.Common.{◌≡◌, ℕ, zero, suc, ◌+◌, ◌≤◌, Bool, true, false, cond, List, [], ◌∷◌, ◌++◌, length, Option, Some, None, refl, sym, ap, subst, ◌∙◌, append_assoc, arith, inl, inr, ◌⊎◌, ◌==◌}
use Rattle.std.proofs.lemmas.Bool.{eqb-true}
use Rattle.std.proofs.lemmas.List.{length-append}
use Rattle.cli_sigs.specs.declared.elements.Element.{Element}
use Rattle.cli_sigs.specs.declared.elements.Element.TheVariants as e
use Rattle.cli_sigs.specs.declared.elements.Slot.{Slot}
use Rattle.cli_sigs.specs.declared.elements.Slot.TheVariants.{Plain, Pointed, Param}
use Rattle.cli_sigs.specs.declared.elements.MethodKind.{MethodKind}
use Rattle.cli_sigs.specs.declared.elements.MethodKind.TheVariants.{Method, Pointer, Property}
use Rattle.cli_sigs.specs.declared.types.SigTy.{SigTy}
use Rattle.cli_sigs.specs.declared.types.SigTy.TheVariants as ty
use Rattle.cli_sigs.specs.declared.types.MethodSig.{MethodSig}
use Rattle.cli_sigs.specs.Elements.{is_prim, element_of, may_stand, element_in, slot_behind, allows_by_ref, allows_pinned}
use Rattle.cli_sigs.specs.Methods.{may_begin, result_slot, is_generic, is_vararg}
use Rattle.cli_sigs.specs.Numbers.{IsPacked, IsSigned, IsCoded}
use Rattle.cli_sigs.specs.Grammar.{Each, Counted, IsGenerics, IsParams, all_fixed, some_extra, method_of, IsMethod, method, named_byte, modifier_byte, Layer, prim, ptr, by_ref, named, var, mvar, array, inst, func, sz_array, modified, pinned}
use Rattle.cli_sigs.specs.Read.{Outcome, Reader, and_then, ◌>>=◌, pure, maps, byte_as, byte_where, many}
use Rattle.cli_sigs.specs.Reading.{packed, signed, generics_after, open_params, params_after, method_at, named_value, array_of, inst_of, modified_of, type_after}
use Rattle.cli_sigs.proofs.Readers.{IsReader, Avoids, Then, Nothing, IsByte, IsByteAs, Image, Many, Marked, reads-bind, reads-pure, reads-byte, reads-as, reads-maps, reads-many, reads-marked, same_grammar}
use Rattle.cli_sigs.proofs.Packed.{reads-packed, reads-coded, reads-signed, reads-counted}

-- ---- bytes and element types

-- the byte of an element type
abbrev pub byte_of : Element → ℕ
byte_of (e.Prim b) = b
byte_of e.Ptr = 0x0F
byte_of e.ByRef = 0x10
byte_of (e.Named value) = named_byte value
byte_of e.Var = 0x13
byte_of e.MVar = 0x1E
byte_of e.Array = 0x14
byte_of e.Inst = 0x15
byte_of e.Func = 0x1B
byte_of e.SzArray = 0x1D
byte_of (e.Modified required) = modifier_byte required
byte_of e.Pinned = 0x45

-- it is the element type of its byte
abbrev pub Fits : ℕ → Element → Type 0
Fits b k = byte_of k ≡ b

-- a test of the chain, and what comes after it
one_of : (t : Bool) (b : ℕ) (x k : Element) (o : Option Element) → (t ≡ true → Fits b x) → (o ≡ Some k → Fits b k) → cond t (Some x) o ≡ Some k → Fits b k
one_of true b x k o here there h = let same : x ≡ k = cc in subst (λ (y : Element). Fits b y) same (here refl)
one_of false b x k o here there h = there h

is : (b c : ℕ) → (b == c) ≡ true → c ≡ b
is b c t = sym (eqb-true b c t)

pub byte_fits : (b : ℕ) (k : Element) → element_of b ≡ Some k → Fits b k
byte_fits b k h =
    one_of (is_prim b) b (e.Prim b) k _ (λ t. refl)
    (one_of (b == 0x0F) b e.Ptr k _ (λ t. is b 0x0F t)
    (one_of (b == 0x10) b e.ByRef k _ (λ t. is b 0x10 t)
    (one_of (b == 0x11) b (e.Named true) k _ (λ t. is b 0x11 t)
    (one_of (b == 0x12) b (e.Named false) k _ (λ t. is b 0x12 t)
    (one_of (b == 0x13) b e.Var k _ (λ t. is b 0x13 t)
    (one_of (b == 0x14) b e.Array k _ (λ t. is b 0x14 t)
    (one_of (b == 0x15) b e.Inst k _ (λ t. is b 0x15 t)
    (one_of (b == 0x1B) b e.Func k _ (λ t. is b 0x1B t)
    (one_of (b == 0x1D) b e.SzArray k _ (λ t. is b 0x1D t)
    (one_of (b == 0x1E) b e.MVar k _ (λ t. is b 0x1E t)
    (one_of (b == 0x1F) b (e.Modified true) k _ (λ t. is b 0x1F t)
    (one_of (b == 0x20) b (e.Modified false) k _ (λ t. is b 0x20 t)
    (one_of (b == 0x45) b e.Pinned k None (λ t. is b 0x45 t) (λ n. absurd cc)))))))))))))) h

-- ---- a byte that may begin a type in a slot

-- it may stand there, and is the byte of its element type
pub record Begins_with (slot : Slot) (b : ℕ) (k : Element) : Type 0 where
  pub allowed : may_stand slot b ≡ true
  pub known : element_of b ≡ Some k
  pub fits : Fits b k

allowed_and : (t : Bool) (o : Option Element) (k : Element) → cond t o None ≡ Some k → (t ≡ true) × (o ≡ Some k)
allowed_and true o k h = (refl, h)
allowed_and false o k h = absurd cc

pub begins : (slot : Slot) (b : ℕ) (k : Element) → element_in slot b ≡ Some k → Begins_with slot b k
begins slot b k h =
    let p = allowed_and (may_stand slot b) (element_of b) k h in
    record { allowed = p.0; known = p.1; fits = byte_fits b k p.1 }

pub may : (t : Bool) (o : Option Element) (k : Element) → t ≡ true → o ≡ Some k → cond t o None ≡ Some k
may true o k h e = e
may false o k h e = absurd cc

prim_known : (t : Bool) (b c : ℕ) (o : Option Element) → (o ≡ Some (e.Prim c) → ⊥) → cond t (Some (e.Prim b)) o ≡ Some (e.Prim c) → t ≡ true
prim_known true b c o none h = refl
prim_known false b c o none h = absurd (none h)

not_prim : (t : Bool) (x : Element) (o : Option Element) (c : ℕ) → (x ≡ e.Prim c → ⊥) → (o ≡ Some (e.Prim c) → ⊥) → cond t (Some x) o ≡ Some (e.Prim c) → ⊥
not_prim true x o c here there h = here (cc)
not_prim false x o c here there h = there h

pub is_primitive : (b c : ℕ) → element_of b ≡ Some (e.Prim c) → is_prim b ≡ true
is_primitive b c h =
    prim_known (is_prim b) b c _
    (not_prim (b == 0x0F) e.Ptr _ c (λ n. cc)
    (not_prim (b == 0x10) e.ByRef _ c (λ n. cc)
    (not_prim (b == 0x11) (e.Named true) _ c (λ n. cc)
    (not_prim (b == 0x12) (e.Named false) _ c (λ n. cc)
    (not_prim (b == 0x13) e.Var _ c (λ n. cc)
    (not_prim (b == 0x14) e.Array _ c (λ n. cc)
    (not_prim (b == 0x15) e.Inst _ c (λ n. cc)
    (not_prim (b == 0x1B) e.Func _ c (λ n. cc)
    (not_prim (b == 0x1D) e.SzArray _ c (λ n. cc)
    (not_prim (b == 0x1E) e.MVar _ c (λ n. cc)
    (not_prim (b == 0x1F) (e.Modified true) _ c (λ n. cc)
    (not_prim (b == 0x20) (e.Modified false) _ c (λ n. cc)
    (not_prim (b == 0x45) e.Pinned None c (λ n. cc) (λ n. cc)))))))))))))) h

-- ---- the pieces of a type

named_text : (b : ℕ) (value : Bool) → named_value b ≡ Some value → b ≡ named_byte value
named_text b value h = go (b == 0x11) refl (b == 0x12) refl h
  where
    go : (t : Bool) → (b == 0x11) ≡ t → (u : Bool) → (b == 0x12) ≡ u → cond t (Some true) (cond u (Some false) None) ≡ Some value → b ≡ named_byte value
    go true p u q h = let same : true ≡ value = cc in subst (λ (v : Bool). b ≡ named_byte v) same (eqb-true b 0x11 p)
    go false p true q h = let same : false ≡ value = cc in subst (λ (v : Bool). b ≡ named_byte v) same (eqb-true b 0x12 q)
    go false p false q h = absurd cc

abbrev pub Named_byte : List ℕ → Bool → Type 0
Named_byte = IsByteAs named_value

pub named_front : (bs : List ℕ) (value : Bool) → Named_byte bs value → bs ≡ named_byte value ∷ []
named_front bs value (b, e, h) = e ∙ ap (λ (n : ℕ). n ∷ []) (named_text b value h)

pub named_back : (value : Bool) → Named_byte (named_byte value ∷ []) value
named_back true = (0x11, refl, refl)
named_back false = (0x12, refl, refl)

pub reads-named : IsReader Named_byte (byte_as named_value)
reads-named = reads-as named_value 0x11 true refl

-- ---- parameters

module _ (Parameter : List ℕ → SigTy → Type 0) (r : Reader SigTy) (h : IsReader Parameter r) (avoids : Avoids 0x41 r) where
  -- so many parameters, the first being number k
  Open : ℕ → ℕ → List ℕ → List SigTy × Option ℕ → Type 0
  Open k n bs p =
      ((length p.0 ≡ n) × Each Parameter bs p.0 × (p.1 ≡ None))
      ⊎ ((front : List ℕ) × (back : List ℕ) × (fixed : List SigTy) × (extra : List SigTy) × (bs ≡ front ++ 0x41 ∷ back) × (p.0 ≡ fixed ++ extra) × (p.1 ≡ Some (k + length fixed)) × (length p.0 ≡ n) × Each Parameter front fixed × Each Parameter back extra × (1 ≤ length extra))

  abbrev Pair : Type 0
  Pair = List SigTy × Option ℕ

  abbrev Step : ℕ → ℕ → List ℕ → Pair → Type 0
  Step k n = Marked 0x41 (Image (λ (ts : List SigTy). let p : Pair = (ts, Some k) in p) (Many Parameter (suc n))) (Then Parameter (λ t. Image (λ (p : Pair). let q : Pair = (t ∷ p.0, p.1) in q) (Open (k + 1) n)))

  to_open : (k n : ℕ) (bs : List ℕ) (p : Pair) → Step k n bs p → Open k (suc n) bs p
  unfolding Open
  to_open k n bs p (inl (rest, e, (ts, (len, each), is))) =
      let types : ts ≡ p.0 = ap (λ (q : Pair). q.0) is in
      inr ([], rest, [], ts, e, sym types, sym (ap (λ (q : Pair). q.1) is) ∙ ap Some (omega arith), ap (λ (l : List SigTy). length l) (sym types) ∙ len, refl, each, omega arith)
  to_open k n bs p (inr (f, b, t, e, g, (q, inl (len, each, none), is))) =
      let types : t ∷ q.0 ≡ p.0 = ap (λ (x : Pair). x.0) is in
      inl (ap (λ (l : List SigTy). length l) (sym types) ∙ ap suc len, subst (λ (l : List SigTy). Each Parameter bs l) types (f, b, e, g, each), sym (ap (λ (x : Pair). x.1) is) ∙ none)
  to_open k n bs p (inr (f, b, t, e, g, (q, inr (front, back, fixed, extra, e2, split, mark, len, one, two, some), is))) =
      let types : t ∷ q.0 ≡ p.0 = ap (λ (x : Pair). x.0) is in
      inr (
        f ++ front,
        back,
        t ∷ fixed,
        extra,
        e ∙ ap (λ (l : List ℕ). f ++ l) e2 ∙ sym (append_assoc f front (0x41 ∷ back)),
        sym types ∙ ap (λ (l : List SigTy). t ∷ l) split,
        sym (ap (λ (x : Pair). x.1) is) ∙ mark ∙ ap Some (omega arith),
        ap (λ (l : List SigTy). length l) (sym types) ∙ ap suc len,
        (f, front, refl, g, one),
        two,
        some,
      )

  from_inl : (k n : ℕ) (bs : List ℕ) (ts : List SigTy) (s : Option ℕ) → length ts ≡ suc n → Each Parameter bs ts → s ≡ None → Step k n bs (ts, s)
  unfolding Open
  from_inl k n bs [] s len each none = absurd cc
  from_inl k n bs (t ∷ ts) s len (f, b, e, g, each) none = inr (f, b, t, e, g, ((ts, s), inl (cc, each, none), refl))

  from_inr : (k n : ℕ) (bs front back : List ℕ) (ts fixed extra : List SigTy) (s : Option ℕ) → bs ≡ front ++ 0x41 ∷ back → ts ≡ fixed ++ extra → s ≡ Some (k + length fixed) → length ts ≡ suc n → Each Parameter front fixed → Each Parameter back extra → 1 ≤ length extra → Step k n bs (ts, s)
  unfolding Open
  from_inr k n bs front back ts [] extra s e split mark len one two some =
      let at : Some k ≡ s = ap Some (omega arith) ∙ sym mark in
      let start : bs ≡ 0x41 ∷ back = e ∙ ap (λ (l : List ℕ). l ++ 0x41 ∷ back) one in
      inl (back, start, (extra, (ap (λ (l : List SigTy). length l) (sym split) ∙ len, two), ap (λ (l : List SigTy). let p : Pair = (l, Some k) in p) (sym split) ∙ ap (λ (o : Option ℕ). let p : Pair = (ts, o) in p) at))
  from_inr k n bs front back ts (t ∷ fixed) extra s e split mark len (f, b, e2, g, one) two some =
      let whole : bs ≡ f ++ (b ++ 0x41 ∷ back) = e ∙ ap (λ (l : List ℕ). l ++ 0x41 ∷ back) e2 ∙ append_assoc f b (0x41 ∷ back) in
      let count : length (fixed ++ extra) ≡ n = cc (ap (λ (l : List SigTy). length l) split, len) in
      let at : s ≡ Some (k + 1 + length fixed) = mark ∙ ap Some (omega arith) in
      inr (f, b ++ 0x41 ∷ back, t, whole, g, ((fixed ++ extra, s), inr (b, back, fixed, extra, refl, refl, at, count, one, two, some), ap (λ (l : List SigTy). let p : Pair = (l, s) in p) (sym split)))

  from_open : (k n : ℕ) (bs : List ℕ) (p : Pair) → Open k (suc n) bs p → Step k n bs p
  unfolding Open
  from_open k n bs p (inl (len, each, none)) = from_inl k n bs p.0 p.1 len each none
  from_open k n bs p (inr (front, back, fixed, extra, e, split, mark, len, one, two, some)) = from_inr k n bs front back p.0 fixed extra p.1 e split mark len one two some

  to_end : (k : ℕ) (bs : List ℕ) (p : Pair) → Nothing ([], None) bs p → Open k 0 bs p
  unfolding Open
  to_end k bs p (e, is) = subst (λ (q : Pair). Open k 0 bs q) is (inl (refl, e, refl))

  none_extra : (ts fixed extra : List SigTy) → ts ≡ fixed ++ extra → length ts ≡ 0 → 1 ≤ length extra → ⊥
  none_extra ts fixed extra split len some = omega (arith, ap (λ (l : List SigTy). length l) split, length-append fixed extra)

  end_inl : (bs : List ℕ) (ts : List SigTy) (s : Option ℕ) → length ts ≡ 0 → Each Parameter bs ts → s ≡ None → Nothing {A = Pair} ([], None) bs (ts, s)
  end_inl bs [] s len each none = (each, ap (λ (o : Option ℕ). let p : Pair = ([], o) in p) (sym none))
  end_inl bs (t ∷ ts) s len each none = absurd cc

  from_end : (k : ℕ) (bs : List ℕ) (p : Pair) → Open k 0 bs p → Nothing ([], None) bs p
  unfolding Open
  from_end k bs p (inl (len, each, none)) = end_inl bs p.0 p.1 len each none
  from_end k bs p (inr (front, back, fixed, extra, e, split, mark, len, one, two, some)) = absurd (none_extra p.0 fixed extra split len some)

  reads-open : (n k : ℕ) → IsReader (Open k n) (open_params r k n)
  unfolding open_params
  reads-open zero k = same_grammar (Nothing ([], None)) (Open k 0) (pure ([], None)) (reads-pure ([], None)) (to_end k) (from_end k)
  reads-open (suc n) k = same_grammar (Step k n) (Open k (suc n)) _
      (reads-marked 0x41 _ _ _ _
      (reads-maps (λ (ts : List SigTy). let p : Pair = (ts, Some k) in p) (Many Parameter (suc n)) (many (suc n) r) (reads-many Parameter r h (suc n)))
      (reads-bind _ _ _ _ h (λ t f g. reads-maps (λ (p : Pair). let q : Pair = (t ∷ p.0, p.1) in q) (Open (k + 1) n) (open_params r (k + 1) n) (reads-open n (k + 1))))
      (record { empty = ap (λ (o : Outcome SigTy). and_then o (next k n)) avoids.empty; refuses = λ rest. ap (λ (o : Outcome SigTy). and_then o (next k n)) (avoids.refuses rest) }))
      (to_open k n) (from_open k n)
    where
      next : ℕ → ℕ → SigTy → Reader Pair
      next k n t = maps (λ p. (t ∷ p.0, p.1)) (open_params r (k + 1) n)

  -- so many parameters
  Params : Bool → ℕ → List ℕ → Pair → Type 0
  Params vararg n bs p = (length p.0 ≡ n) × IsParams Parameter vararg bs p.0 p.1

  to_params_open : (n : ℕ) (bs : List ℕ) (p : Pair) → Open 0 n bs p → Params true n bs p
  unfolding Open Params
  to_params_open n bs p (inl (len, each, none)) = (len, subst (λ (s : Option ℕ). IsParams Parameter true bs p.0 s) (sym none) (all_fixed each))
  to_params_open n bs p (inr (front, back, fixed, extra, e, split, mark, len, one, two, some)) = (
    len,
    subst (λ (s : Option ℕ). IsParams Parameter true bs p.0 s) (ap Some (omega arith) ∙ sym mark)
        (subst (λ (l : List SigTy). IsParams Parameter true bs l (Some (length fixed))) (sym split)
        (subst (λ (l : List ℕ). IsParams Parameter true l (fixed ++ extra) (Some (length fixed))) (sym e) (some_extra front back fixed extra refl one two some))),
  )

  from_params_open : (n : ℕ) (bs : List ℕ) (ts : List SigTy) (s : Option ℕ) → length ts ≡ n → IsParams Parameter true bs ts s → Open 0 n bs (ts, s)
  unfolding Open
  from_params_open n bs ts s len (all_fixed each) = inl (len, each, refl)
  from_params_open n bs ts s len (some_extra front back fixed extra t one two some) = inr (front, back, fixed, extra, refl, refl, ap Some (omega arith), len, one, two, some)

  to_params_closed : (n : ℕ) (bs : List ℕ) (p : Pair) → Image (λ (ts : List SigTy). let q : Pair = (ts, None) in q) (Many Parameter n) bs p → Params false n bs p
  unfolding Params
  to_params_closed n bs p (ts, (len, each), is) = subst (λ (q : Pair). Params false n bs q) is (len, all_fixed each)

  from_params_closed : (n : ℕ) (bs : List ℕ) (ts : List SigTy) (s : Option ℕ) → length ts ≡ n → IsParams Parameter false bs ts s → Image (λ (us : List SigTy). let q : Pair = (us, None) in q) (Many Parameter n) bs (ts, s)
  from_params_closed n bs ts s len (all_fixed each) = (ts, (len, each), refl)
  from_params_closed n bs ts s len (some_extra front back fixed extra t one two some) = absurd cc

  reads-params : (vararg : Bool) (n : ℕ) → IsReader (Params vararg n) (params_after vararg r n)
  unfolding params_after Params
  reads-params true n = same_grammar (Open 0 n) (Params true n) (open_params r 0 n) (reads-open n 0) (to_params_open n) (λ bs p m. from_params_open n bs p.0 p.1 m.0 m.1)
  reads-params false n = same_grammar _ (Params false n) _ (reads-maps (λ (ts : List SigTy). let q : Pair = (ts, None) in q) (Many Parameter n) (many n r) (reads-many Parameter r h n)) (to_params_closed n) (λ bs p m. from_params_closed n bs p.0 p.1 m.0 m.1)

-- ---- methods

reads-generics : (generic : Bool) → IsReader (IsGenerics generic) (generics_after generic)
unfolding generics_after
reads-generics true = reads-packed
reads-generics false = reads-pure 0

module _ (Inner : Slot → List ℕ → SigTy → Type 0) (inner : Slot → Reader SigTy) (h : (slot : Slot) → IsReader (Inner slot) (inner slot)) (avoids : Avoids 0x41 (inner Param)) where
  abbrev Parts : Bool → ℕ → List ℕ → List SigTy × Option ℕ → Type 0
  Parts = Params (Inner Param) (inner Param) (h Param) avoids

  abbrev Method_parts : MethodKind → List ℕ → MethodSig → Type 0
  Method_parts kind = Then (IsByte (may_begin kind)) (λ f. Then (IsGenerics (is_generic f)) (λ g. Then IsPacked (λ n. Then (Inner (result_slot kind)) (λ t. Image (λ (p : List SigTy × Option ℕ). method_of f g t p.0 p.1) (Parts (is_vararg f) n)))))

  to_method : (kind : MethodKind) (bs : List ℕ) (m : MethodSig) → Method_parts kind bs m → IsMethod Inner kind bs m
  unfolding Params
  to_method kind bs m (ff, fb, f, e, (fe, fh), (gs, gb, g, e2, gg, (ns, nb, n, e3, pn, (rs, rb, t, e4, it, (p, (len, ps), is))))) =
      let all : f ∷ gs ++ (ns ++ (rs ++ rb)) ≡ bs = cc in
      subst (λ (l : List ℕ). IsMethod Inner kind l m) all
      (subst (λ (x : MethodSig). IsMethod Inner kind (f ∷ gs ++ (ns ++ (rs ++ rb))) x) is
      (method gs ns rs rb fh gg (subst (λ (k : ℕ). IsPacked ns k) (sym len) pn) it ps))

  from_method : (kind : MethodKind) (bs : List ℕ) (m : MethodSig) → IsMethod Inner kind bs m → Method_parts kind bs m
  unfolding Params
  from_method kind bs m (method {flags = f} {generics = g} {result = t} {params = ts} {sentinel = s} gs ns rs ps fh gg pn it pp) =
      (f ∷ [], gs ++ (ns ++ (rs ++ ps)), f, refl, (refl, fh), (gs, ns ++ (rs ++ ps), g, refl, gg, (ns, rs ++ ps, length ts, refl, pn, (rs, ps, t, refl, it, ((ts, s), (refl, pp), refl)))))

  first_byte : (kind : MethodKind) → IsReader (IsByte (may_begin kind)) (byte_where (may_begin kind))
  first_byte Method = reads-byte (may_begin Method) 0 refl
  first_byte Pointer = reads-byte (may_begin Pointer) 0 refl
  first_byte Property = reads-byte (may_begin Property) 8 refl

  pub reads-method : (kind : MethodKind) → IsReader (IsMethod Inner kind) (method_at kind inner)
  unfolding method_at
  reads-method kind = same_grammar (Method_parts kind) (IsMethod Inner kind) _
      (reads-bind _ _ _ _ (first_byte kind) (λ f x y. reads-bind _ _ _ _ (reads-generics (is_generic f)) (λ g x y. reads-bind _ _ _ _ reads-packed (λ n x y. reads-bind _ _ _ _ (h (result_slot kind)) (λ t x y.
      reads-maps (λ (p : List SigTy × Option ℕ). method_of f g t p.0 p.1) (Parts (is_vararg f) n) (params_after (is_vararg f) (inner Param) n) (reads-params (Inner Param) (inner Param) (h Param) avoids (is_vararg f) n))))))
      (to_method kind) (from_method kind)

  -- ---- types

  module _ (slot : Slot) where
    After : Element → List ℕ → SigTy → Type 0
    After (e.Prim b) = Nothing (ty.Prim b)
    After e.Ptr = Image ty.Ptr (Inner Pointed)
    After e.ByRef = Image ty.ByRef (Inner Plain)
    After (e.Named value) = Image (λ c. ty.Named value c) IsCoded
    After e.Var = Image ty.Var IsPacked
    After e.MVar = Image ty.MVar IsPacked
    After e.Array = Then (Inner Plain) (λ t. Then IsPacked (λ rank. Then (Counted IsPacked) (λ sizes. Image (λ lows. ty.Array t rank sizes lows) (Counted IsSigned))))
    After e.Inst = Then Named_byte (λ value. Then IsCoded (λ c. Image (λ args. ty.Inst value c args) (Counted (Inner Plain))))
    After e.Func = Image ty.Func (IsMethod Inner Pointer)
    After e.SzArray = Image ty.SzArray (Inner Plain)
    After (e.Modified required) = Then IsCoded (λ c. Image (λ t. ty.Modified required c t) (Inner (slot_behind slot)))
    After e.Pinned = Image ty.Pinned (Inner (slot_behind slot))

    reads-after : (k : Element) → IsReader (After k) (type_after inner slot k)
    unfolding After type_after array_of inst_of modified_of
    reads-after (e.Prim b) = reads-pure (ty.Prim b)
    reads-after e.Ptr = reads-maps ty.Ptr _ _ (h Pointed)
    reads-after e.ByRef = reads-maps ty.ByRef _ _ (h Plain)
    reads-after (e.Named value) = reads-maps (λ c. ty.Named value c) _ _ reads-coded
    reads-after e.Var = reads-maps ty.Var _ _ reads-packed
    reads-after e.MVar = reads-maps ty.MVar _ _ reads-packed
    reads-after e.Array = reads-bind _ _ _ _ (h Plain) (λ t x y. reads-bind _ _ _ _ reads-packed (λ rank x y. reads-bind _ _ _ _ (reads-counted IsPacked packed reads-packed) (λ sizes x y. reads-maps (λ lows. ty.Array t rank sizes lows) _ _ (reads-counted IsSigned signed reads-signed))))
    reads-after e.Inst = reads-bind _ _ _ _ reads-named (λ value x y. reads-bind _ _ _ _ reads-coded (λ c x y. reads-maps (λ args. ty.Inst value c args) _ _ (reads-counted (Inner Plain) (inner Plain) (h Plain))))
    reads-after e.Func = reads-maps ty.Func _ _ (reads-method Pointer)
    reads-after e.SzArray = reads-maps ty.SzArray _ _ (h Plain)
    reads-after (e.Modified required) = reads-bind _ _ _ _ reads-coded (λ c x y. reads-maps (λ t. ty.Modified required c t) _ _ (h (slot_behind slot)))
    reads-after e.Pinned = reads-maps ty.Pinned _ _ (h (slot_behind slot))

    retyped : (bs cs : List ℕ) (v w : SigTy) → Layer Inner slot bs v → bs ≡ cs → v ≡ w → Layer Inner slot cs w
    retyped bs cs v w x e f = subst (λ (l : List ℕ). Layer Inner slot l w) e (subst (λ (t : SigTy). Layer Inner slot bs t) f x)

    layer_of : (k : Element) (b : ℕ) (back : List ℕ) (v : SigTy) → Begins_with slot b k → After k back v → Layer Inner slot (b ∷ back) v
    unfolding After
    layer_of (e.Prim c) b back v w (none, is) =
        retyped (b ∷ []) (b ∷ back) (ty.Prim b) v (prim (is_primitive b c w.known) w.allowed) (ap (λ (l : List ℕ). b ∷ l) (sym none)) (ap ty.Prim (sym w.fits) ∙ is)
    layer_of e.Ptr b back v w (t, it, is) = retyped _ _ _ _ (ptr it) (ap (λ (n : ℕ). n ∷ back) w.fits) is
    layer_of e.ByRef b back v w (t, it, is) = retyped _ _ _ _ (by_ref (ap (may_stand slot) w.fits ∙ w.allowed) it) (ap (λ (n : ℕ). n ∷ back) w.fits) is
    layer_of (e.Named value) b back v w (c, pc, is) = retyped _ _ _ _ (named value pc) (ap (λ (n : ℕ). n ∷ back) w.fits) is
    layer_of e.Var b back v w (n, pn, is) = retyped _ _ _ _ (var pn) (ap (λ (n : ℕ). n ∷ back) w.fits) is
    layer_of e.MVar b back v w (n, pn, is) = retyped _ _ _ _ (mvar pn) (ap (λ (n : ℕ). n ∷ back) w.fits) is
    layer_of e.Array b back v w (ts, tb, t, e1, it, (rs, rb, rank, e2, pr, (ss, ls, sizes, e3, cs, (lows, cl, is)))) =
        let all : 0x14 ∷ ts ++ (rs ++ (ss ++ ls)) ≡ b ∷ back = cc (w.fits, e1, e2, e3) in
        retyped _ _ _ _ (array sizes lows ts rs ss ls it pr cs cl) all is
    layer_of e.Inst b back v w (vf, vb, value, e1, nb, (cs, ts, c, e2, pc, (args, ca, is))) =
        let first = named_front vf value nb in
        let all : 0x15 ∷ named_byte value ∷ cs ++ ts ≡ b ∷ back = cc (w.fits, e1, e2, first) in
        retyped _ _ _ _ (inst value args cs ts pc ca) all is
    layer_of e.Func b back v w (m, im, is) = retyped _ _ _ _ (func im) (ap (λ (n : ℕ). n ∷ back) w.fits) is
    layer_of e.SzArray b back v w (t, it, is) = retyped _ _ _ _ (sz_array it) (ap (λ (n : ℕ). n ∷ back) w.fits) is
    layer_of (e.Modified required) b back v w (cs, ts, c, e1, pc, (t, it, is)) =
        let all : modifier_byte required ∷ cs ++ ts ≡ b ∷ back = cc (w.fits, e1) in
        retyped _ _ _ _ (modified required cs ts pc it) all is
    layer_of e.Pinned b back v w (t, it, is) = retyped _ _ _ _ (pinned (ap (may_stand slot) w.fits ∙ w.allowed) it) (ap (λ (n : ℕ). n ∷ back) w.fits) is

    abbrev Whole : List ℕ → SigTy → Type 0
    Whole = Then (IsByteAs (element_in slot)) After

    to_layer : (bs : List ℕ) (v : SigTy) → Whole bs v → Layer Inner slot bs v
    to_layer bs v (front, back, k, e, (b, fe, hb), g) =
        let all : b ∷ back ≡ bs = sym (e ∙ ap (λ (l : List ℕ). l ++ back) fe) in
        retyped (b ∷ back) bs v v (layer_of k b back v (begins slot b k hb) g) all refl

    first_is : (b : ℕ) (t : Bool) (o : Option Element) → t ≡ true → cond t (Some (e.Prim b)) o ≡ Some (e.Prim b)
    first_is b true o h = refl
    first_is b false o h = absurd cc

    named_in : (value : Bool) → element_in slot (named_byte value) ≡ Some (e.Named value)
    named_in true = refl
    named_in false = refl

    modified_in : (required : Bool) → element_in slot (modifier_byte required) ≡ Some (e.Modified required)
    modified_in true = refl
    modified_in false = refl

    from_layer : (bs : List ℕ) (v : SigTy) → Layer Inner slot bs v → Whole bs v
    unfolding After
    from_layer bs v (prim {b = b} p a) = (b ∷ [], [], e.Prim b, refl, (b, refl, may (may_stand slot b) (element_of b) (e.Prim b) a (first_is b (is_prim b) _ p)), (refl, refl))
    from_layer bs v (ptr {bytes = back} {t = t} it) = (0x0F ∷ [], back, e.Ptr, refl, (0x0F, refl, refl), (t, it, refl))
    from_layer bs v (by_ref {bytes = back} {t = t} a it) = (0x10 ∷ [], back, e.ByRef, refl, (0x10, refl, may (allows_by_ref slot) (Some e.ByRef) e.ByRef a refl), (t, it, refl))
    from_layer bs v (named {bytes = back} {coded = c} value pc) = (named_byte value ∷ [], back, e.Named value, refl, (named_byte value, refl, named_in value), (c, pc, refl))
    from_layer bs v (var {bytes = back} {n = n} pn) = (0x13 ∷ [], back, e.Var, refl, (0x13, refl, refl), (n, pn, refl))
    from_layer bs v (mvar {bytes = back} {n = n} pn) = (0x1E ∷ [], back, e.MVar, refl, (0x1E, refl, refl), (n, pn, refl))
    from_layer bs v (array {t = t} {rank = rank} sizes lows ts rs ss ls it pr cs cl) =
        (0x14 ∷ [], ts ++ (rs ++ (ss ++ ls)), e.Array, refl, (0x14, refl, refl), (ts, rs ++ (ss ++ ls), t, refl, it, (rs, ss ++ ls, rank, refl, pr, (ss, ls, sizes, refl, cs, (lows, cl, refl)))))
    from_layer bs v (inst {coded = c} value args cs ts pc ca) =
        (0x15 ∷ [], named_byte value ∷ cs ++ ts, e.Inst, refl, (0x15, refl, refl), (named_byte value ∷ [], cs ++ ts, value, refl, named_back value, (cs, ts, c, refl, pc, (args, ca, refl))))
    from_layer bs v (func {bytes = back} {m = m} im) = (0x1B ∷ [], back, e.Func, refl, (0x1B, refl, refl), (m, im, refl))
    from_layer bs v (sz_array {bytes = back} {t = t} it) = (0x1D ∷ [], back, e.SzArray, refl, (0x1D, refl, refl), (t, it, refl))
    from_layer bs v (modified {coded = c} {t = t} required cs ts pc it) =
        (modifier_byte required ∷ [], cs ++ ts, e.Modified required, refl, (modifier_byte required, refl, modified_in required), (cs, ts, c, refl, pc, (t, it, refl)))
    from_layer bs v (pinned {bytes = back} {t = t} a it) = (0x45 ∷ [], back, e.Pinned, refl, (0x45, refl, may (allows_pinned slot) (Some e.Pinned) e.Pinned a refl), (t, it, refl))

    pub reads-layer : IsReader (Layer Inner slot) (byte_as (element_in slot) >>= type_after inner slot)
    reads-layer = same_grammar Whole (Layer Inner slot) _ (reads-bind _ _ _ _ (reads-as (element_in slot) 2 (e.Prim 2) refl) (λ k f g. reads-after k)) to_layer from_layer
