-- What is added to the bytes is a spelling of the value.
use Rattle.std.proofs.Common.{◌≡◌, ℕ, zero, suc, ◌+◌, ◌-◌, ◌<◌, ◌≤◌, List, [], ◌∷◌, ◌++◌, length, take, drop, get_or, Bool, true, Option, Some, None, refl, sym, ap, subst, ◌∙◌, arith, append-nil, append_assoc, length-drop}
use Rattle.std.proofs.lemmas.List.{take_more, take-append-drop, length-take-le}
use Rattle.std.specs.Prelude.{ℤ, OnOk, Result}
use Rattle.cli_sigs.specs.declared.elements.Slot.{Slot}
use Rattle.cli_sigs.specs.declared.elements.Slot.TheVariants.{Plain, Param}
use Rattle.cli_sigs.specs.declared.elements.MethodKind.{MethodKind}
use Rattle.cli_sigs.specs.declared.types.SigTy.{SigTy, out-SigTy, roll-SigTy, out-roll-SigTy}
use Rattle.cli_sigs.specs.declared.types.SigTy.TheOpen.{SigTy-F}
use Rattle.cli_sigs.specs.declared.types.SigTy.TheVariants as ty
use Rattle.cli_sigs.specs.declared.types.SigTy.TheVariants.{rolls-Prim}
use Rattle.cli_sigs.specs.declared.types.MethodSig.{MethodSig, out-MethodSig, roll-out-MethodSig}
use Rattle.cli_sigs.specs.Elements.{slot_behind}
use Rattle.cli_sigs.specs.Methods.{result_slot, is_generic, is_vararg}
use Rattle.cil_base.proofs.Small.{on_ok}
use Rattle.cli_sigs.specs.Numbers.{Shortest, IsNumber, IsSignedNumber, IsCodedBy}
use Rattle.cli_sigs.specs.Grammar.{Adds, Behind, Each, CountedBy, IsGenericsBy, IsParams, all_fixed, some_extra, IsMethodBy, method, LayerBy, prim, array, inst, modified, IsTypeBy, named_byte, modifier_byte, method_of}
use Rattle.cli_sigs.specs.Valid.{StandsBefore, IsValidMethod, IsValidForm, IsValidType}

-- ---- what a valid value has inside

pub in_form : (Inner : Slot → SigTy → Type 0) (slot : Slot) (t u : SigTy) (form : SigTy-F SigTy MethodSig) → t ≡ u → roll-SigTy form ≡ u → IsValidForm Inner slot (out-SigTy t) → IsValidForm Inner slot form
in_form Inner slot t u form is rolls h = subst (λ (x : SigTy-F SigTy MethodSig). IsValidForm Inner slot x) (ap out-SigTy (is ∙ sym rolls) ∙ out-roll-SigTy form) h

-- ---- a byte and what stands behind it

pub behind_adds : {A : Type 0} (G : List ℕ → A → Type 0) (b : ℕ) (v : A) (old mid new : List ℕ) → mid ≡ old ++ b ∷ [] → Adds G mid new v → Adds (Behind b G) old new v
behind_adds G b v old mid new m (text, n, g) = (b ∷ text, n ∙ ap (λ (l : List ℕ). l ++ text) m ∙ append_assoc old (b ∷ []) text, (text, refl, g))

-- ---- all that was printed

pub from_empty : {A : Type 0} (G : List ℕ → A → Type 0) (new : List ℕ) (v : A) → Adds G [] new v → G new v
from_empty G new v (text, e, g) = subst (λ (l : List ℕ). G l v) (sym e) g

-- ---- lists

each_push : {A : Type 0} (G : List ℕ → A → Type 0) (bs text : List ℕ) (xs : List A) (y : A) → Each G bs xs → G text y → Each G (bs ++ text) (xs ++ y ∷ [])
each_push G bs text [] y e g = (text, [], ap (λ (l : List ℕ). l ++ text) e ∙ sym (append-nil text), g, refl)
each_push G bs text (x ∷ xs) y (f, b, e, gx, gs) g = (f, b ++ text, ap (λ (l : List ℕ). l ++ text) e ∙ append_assoc f b text, gx, each_push G b text xs y gs g)

pub each_adds : {A : Type 0} (G : List ℕ → A → Type 0) (xs : List A) (i : ℕ) (d y : A) (old mid new : List ℕ) → i < length xs → y ≡ get_or xs i d → Adds (Each G) old mid (take i xs) → Adds G mid new y → Adds (Each G) old new (take (i + 1) xs)
each_adds G xs i d y old mid new lt is (text, m, gs) (more, n, g) = (
  text ++ more,
  n ∙ ap (λ (l : List ℕ). l ++ more) m ∙ append_assoc old text more,
  subst (λ l. Each G (text ++ more) l) (sym (take_more xs i d lt)) (subst (λ z. Each G (text ++ more) (take i xs ++ z ∷ [])) is (each_push G text more (take i xs) y gs g)),
)

pub counted_adds : {A : Type 0} (G : List ℕ → A → Type 0) (vs : List A) (n : ℕ) (old mid new : List ℕ) → n ≡ length vs → Adds (IsNumber Shortest) old mid n → Adds (Each G) mid new vs → Adds (CountedBy Shortest G) old new vs
counted_adds G vs n old mid new is (count, e1, c) (texts, e2, g) = (
  count ++ texts,
  e2 ∙ ap (λ (l : List ℕ). l ++ texts) e1 ∙ append_assoc old count texts,
  (count, texts, refl, subst (λ (k : ℕ). IsNumber Shortest count k) is c, g),
)

-- ---- parameters

pub none_adds : (P : List ℕ → SigTy → Type 0) (ts : List SigTy) (s : Option ℕ) (old new : List ℕ) → s ≡ None → Adds (Each P) old new ts → Adds (λ bs us. IsParams P true bs us s) old new ts
none_adds P ts s old new is (text, m, g) = (text, m, subst (λ (z : Option ℕ). IsParams P true text ts z) (sym is) (all_fixed g))

pub some_adds : (P : List ℕ → SigTy → Type 0) (ts : List SigTy) (s : Option ℕ) (k : ℕ) (o0 o1 o2 o3 : List ℕ) → s ≡ Some k → k < length ts → Adds (Each P) o0 o1 (take k ts) → o2 ≡ o1 ++ 0x41 ∷ [] → Adds (Each P) o2 o3 (drop k ts)
    → Adds (λ bs us. IsParams P true bs us s) o0 o3 ts
some_adds P ts s k o0 o1 o2 o3 is lt (front, e1, ef) e2 (back, e3, eb) =
    let all : o3 ≡ o0 ++ (front ++ 0x41 ∷ back) = e3 ∙ ap (λ (l : List ℕ). l ++ back) (e2 ∙ ap (λ (l : List ℕ). l ++ 0x41 ∷ []) e1) ∙ simp append_assoc in
    let some : 1 ≤ length (drop k ts) = grind (arith, length-drop) in
    let same : Some (length (take k ts)) ≡ s = ap (λ (n : ℕ). let o : Option ℕ = Some n in o) (length-take-le k ts (omega arith)) ∙ sym is in
    let whole : take k ts ++ drop k ts ≡ ts = take-append-drop k ts in (
      front ++ 0x41 ∷ back,
      all,
      subst (λ (us : List SigTy). IsParams P true (front ++ 0x41 ∷ back) us s) whole
          (subst (λ (z : Option ℕ). IsParams P true (front ++ 0x41 ∷ back) (take k ts ++ drop k ts) z) same (some_extra front back (take k ts) (drop k ts) refl ef eb some)),
    )

params_in : (P : List ℕ → SigTy → Type 0) (vararg : Bool) (bs : List ℕ) (ts : List SigTy) (s : Option ℕ) → StandsBefore vararg (length ts) s → IsParams P true bs ts s → IsParams P vararg bs ts s
params_in P vararg bs ts s h (all_fixed e) = all_fixed e
params_in P vararg bs ts s h (some_extra front back fixed extra t ef eb n) = some_extra front back fixed extra h.0 ef eb n

module _ (I : Slot → List ℕ → SigTy → Type 0) where
  pub method_adds : (Inner : Slot → SigTy → Type 0) (kind : MethodKind) (sig : MethodSig) (o0 o1 o2 o3 o4 o5 : List ℕ) → IsValidMethod Inner kind sig
      → o1 ≡ o0 ++ (out-MethodSig sig).flags ∷ [] → Adds (IsGenericsBy Shortest (is_generic (out-MethodSig sig).flags)) o1 o2 (out-MethodSig sig).generics → Adds (IsNumber Shortest) o2 o3 (length (out-MethodSig sig).params)
      → Adds (I (result_slot kind)) o3 o4 (out-MethodSig sig).result → Adds (λ bs ts. IsParams (I Param) true bs ts (out-MethodSig sig).sentinel) o4 o5 (out-MethodSig sig).params → Adds (IsMethodBy Shortest I kind) o0 o5 sig
  method_adds Inner kind sig o0 o1 o2 o3 o4 o5 valid e1 (gs, e2, g) (ns, e3, n) (rs, e4, r) (ps, e5, p) =
      let m = out-MethodSig sig in
      let all : o5 ≡ o0 ++ (m.flags ∷ gs ++ (ns ++ (rs ++ ps))) =
      e5 ∙ ap (λ (l : List ℕ). l ++ ps) (e4 ∙ ap (λ (l : List ℕ). l ++ rs) (e3 ∙ ap (λ (l : List ℕ). l ++ ns) (e2 ∙ ap (λ (l : List ℕ). l ++ gs) e1))) ∙ simp append_assoc in
      let spelled : IsMethodBy Shortest I kind (m.flags ∷ gs ++ (ns ++ (rs ++ ps))) (method_of m.flags m.generics m.result m.params m.sentinel) =
      method gs ns rs ps valid.begins g n r (params_in (I Param) (is_vararg m.flags) ps m.params m.sentinel valid.sentinel p) in
      (m.flags ∷ gs ++ (ns ++ (rs ++ ps)), all, subst (λ (x : MethodSig). IsMethodBy Shortest I kind (m.flags ∷ gs ++ (ns ++ (rs ++ ps))) x) (roll-out-MethodSig sig) spelled)

  -- ---- types

  module _ (slot : Slot) where
    form_of : {A : Type 0} (G : List ℕ → A → Type 0) (b : ℕ) (v : A) (t u : SigTy) (old new : List ℕ) → ((text : List ℕ) → G text v → LayerBy Shortest I slot (b ∷ text) u) → t ≡ u → Adds (Behind b G) old new v → Adds (LayerBy Shortest I slot) old new t
    form_of G b v t u old new f is (text, n, (rest, m, g)) =
        (text, n, subst (λ (x : SigTy). LayerBy Shortest I slot text x) (sym is) (subst (λ (l : List ℕ). LayerBy Shortest I slot l u) (sym m) (f rest g)))

    pub form_adds : {A E X : Type 0} (G : List ℕ → A → Type 0) (b : ℕ) (v : A) (t u : SigTy) (old new : List ℕ) (r : Result X E) → ((text : List ℕ) → G text v → LayerBy Shortest I slot (b ∷ text) u) → t ≡ u → OnOk r (Adds (Behind b G) old new v) → OnOk r (Adds (LayerBy Shortest I slot) old new t)
    form_adds G b v t u old new r f is h = on_ok r (form_of G b v t u old new f is) h

    pub prim_adds : (Inner : Slot → SigTy → Type 0) (b : ℕ) (t : SigTy) (old new : List ℕ) → t ≡ ty.Prim b → IsValidForm Inner slot (out-SigTy t) → new ≡ old ++ b ∷ [] → Adds (LayerBy Shortest I slot) old new t
    prim_adds Inner b t old new is valid e =
        let h = in_form Inner slot t (ty.Prim b) (SigTy-F.Prim b) is (rolls-Prim b) valid in
        (b ∷ [], e, subst (λ (x : SigTy). LayerBy Shortest I slot (b ∷ []) x) (sym is) (prim h.0 h.1))

    pub array_adds : (v t : SigTy) (rank : ℕ) (sizes : List ℕ) (lows : List ℤ) (o0 o1 o2 o3 o4 : List ℕ) → v ≡ ty.Array t rank sizes lows → Adds (Behind 0x14 (I Plain)) o0 o1 t → Adds (IsNumber Shortest) o1 o2 rank
        → Adds (CountedBy Shortest (IsNumber Shortest)) o2 o3 sizes → Adds (CountedBy Shortest (IsSignedNumber Shortest)) o3 o4 lows → Adds (LayerBy Shortest I slot) o0 o4 v
    array_adds v t rank sizes lows o0 o1 o2 o3 o4 is (bs, e1, (ts, m, it)) (rs, e2, pr) (ss, e3, cs) (ls, e4, cl) =
        let all : o4 ≡ o0 ++ (0x14 ∷ ts ++ (rs ++ (ss ++ ls))) =
        e4 ∙ ap (λ (l : List ℕ). l ++ ls) (e3 ∙ ap (λ (l : List ℕ). l ++ ss) (e2 ∙ ap (λ (l : List ℕ). l ++ rs) (e1 ∙ ap (λ (l : List ℕ). o0 ++ l) m))) ∙ simp append_assoc in
        (0x14 ∷ ts ++ (rs ++ (ss ++ ls)), all, subst (λ (x : SigTy). LayerBy Shortest I slot (0x14 ∷ ts ++ (rs ++ (ss ++ ls))) x) (sym is) (array sizes lows ts rs ss ls it pr cs cl))

    pub inst_adds : (v : SigTy) (value : Bool) (coded : ℕ) (args : List SigTy) (o0 o1 o2 o3 : List ℕ) → v ≡ ty.Inst value coded args → o1 ≡ o0 ++ 0x15 ∷ [] → Adds (Behind (named_byte value) (IsCodedBy Shortest)) o1 o2 coded
        → Adds (CountedBy Shortest (I Plain)) o2 o3 args → Adds (LayerBy Shortest I slot) o0 o3 v
    inst_adds v value coded args o0 o1 o2 o3 is e1 (bs, e2, (cs, m, pc)) (ts, e3, ca) =
        let all : o3 ≡ o0 ++ (0x15 ∷ named_byte value ∷ cs ++ ts) = e3 ∙ ap (λ (l : List ℕ). l ++ ts) (e2 ∙ ap (λ (l : List ℕ). l ++ bs) e1 ∙ ap (λ (l : List ℕ). (o0 ++ 0x15 ∷ []) ++ l) m) ∙ simp append_assoc in
        (0x15 ∷ named_byte value ∷ cs ++ ts, all, subst (λ (x : SigTy). LayerBy Shortest I slot (0x15 ∷ named_byte value ∷ cs ++ ts) x) (sym is) (inst value args cs ts pc ca))

    pub modified_adds : (v t : SigTy) (required : Bool) (coded : ℕ) (o0 o1 o2 : List ℕ) → v ≡ ty.Modified required coded t → Adds (Behind (modifier_byte required) (IsCodedBy Shortest)) o0 o1 coded → Adds (I (slot_behind slot)) o1 o2 t → Adds (LayerBy Shortest I slot) o0 o2 v
    modified_adds v t required coded o0 o1 o2 is (bs, e1, (cs, m, pc)) (ts, e2, it) =
        let all : o2 ≡ o0 ++ (modifier_byte required ∷ cs ++ ts) = e2 ∙ ap (λ (l : List ℕ). l ++ ts) (e1 ∙ ap (λ (l : List ℕ). o0 ++ l) m) ∙ simp append_assoc in
        (modifier_byte required ∷ cs ++ ts, all, subst (λ (x : SigTy). LayerBy Shortest I slot (modifier_byte required ∷ cs ++ ts) x) (sym is) (modified required cs ts pc it))

-- ---- depth

pub deep : (d : ℕ) (slot : Slot) (t : SigTy) → IsValidType d slot t → 1 ≤ d
unfolding IsValidType
deep zero slot t h = absurd h
deep (suc d) slot t h = omega arith

pub opened : (d : ℕ) (slot : Slot) (t : SigTy) → IsValidType d slot t → IsValidForm (IsValidType (d - 1)) slot (out-SigTy t)
unfolding IsValidType
opened zero slot t h = absurd h
opened (suc d) slot t h = let one : d ≡ suc d - 1 = omega arith in subst (λ (k : ℕ). IsValidForm (IsValidType k) slot (out-SigTy t)) one h

pub closed : (d : ℕ) (slot : Slot) (t : SigTy) (old new : List ℕ) → IsValidType d slot t → Adds (LayerBy Shortest (IsTypeBy Shortest (d - 1)) slot) old new t → Adds (IsTypeBy Shortest d slot) old new t
unfolding IsValidType IsTypeBy
closed zero slot t old new h a = absurd h
closed (suc d) slot t old new h a = let one : suc d - 1 ≡ d = omega arith in subst (λ (k : ℕ). Adds (LayerBy Shortest (IsTypeBy Shortest k) slot) old new t) one a
