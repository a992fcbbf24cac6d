-- What stands above the types of a set by their rows, and that no type is above itself (N3).
use Rattle.std.proofs.Common.{◌≡◌, ◌∙◌, sym, ap, refl, subst, arith, ℕ, zero, suc, ◌<◌, List, [], ◌∷◌, ◌++◌, length, Bool, true, false}
use Rattle.std.specs.Prelude.{Option, Some, None, is_some, slice_get, map, filter, flat_map, option_map, option_to_list, ◌==◌, ◌||◌, if◌then◌else◌}
use Rattle.std.proofs.lemmas.Bool.{eqb-true}
use Rattle.cil_base.proofs.Small.{decide}
use Rattle.cil_base.specs.declared.rule.Rule.TheVariants.{N3, N4}
use Rattle.cil_base.specs.declared.tables.TheConstants.{INTERFACE_IMPL, TYPE_DEF}
use Rattle.cil_model.specs.declared.ty.Ty.{Ty, out-Ty}
use Rattle.cil_model.specs.declared.ty.Ty.TheOpen.{Ty-F}
use Rattle.cil_model.specs.declared.ty.Ty.TheVariants as ty
use Rattle.cil_model.specs.declared.ty.Ty as types
use Rattle.cil_semantics.specs.Types.{Layer}
use Rattle.cli_sigs.specs.declared.types.SigTy.{SigTy, out-SigTy}
use Rattle.cli_sigs.specs.declared.types.SigTy.TheOpen.{SigTy-F}
use Rattle.cli_sigs.specs.declared.types.MethodSig.{MethodSig}
use Rattle.set_names.specs.Cycles.{any, reaches, is_deep}
use Rattle.set_rows.specs.Sets.{Assembly, Assemblies, assembly_at, cell, rows_in}
use Rattle.set_types.specs.CodedIndexes.{tag, row_of}
use Rattle.set_types.specs.SignatureTypes.{ty_or, instance_of, spec_ty, coded_ty, layer_ty, ty_within, ty_of}
use Rattle.set_program.specs.declared.identity.TypeId.{TypeId}
use Rattle.set_program.specs.declared.identity.TypeId.TheVariants.{Row, Outside}
use Rattle.set_program.specs.Numbering.{Cell, same_id}
use Rattle.set_program.specs.TypeNames.{full_name}
use Rattle.set_program.specs.Attributes.{named_id}
use Rattle.set_program.specs.Environment.{types_of, number_of, number_or, outside_ty, prim_byte, ty_by_id, coded_in, ty_at}
use Rattle.set_program.specs.TypeRules.{test, row_of_number, layer_leads_to, leads_to, own_number, above, around, within, deepest, is_on_cycle, is_entangled, name_is_taken}
use Rattle.type_graphs.proofs.AnyLaws.{or_either}
use Rattle.type_graphs.proofs.StepLaws.{is_among}
use Rattle.type_graphs.proofs.DepthLaws.{shallow}
use Rattle.program_growth.specs.Rules.{IsRowOf}
use Rattle.growth_premises.specs.Rules.{KeepsRules}
use Rattle.growth_premises.proofs.NumberedLaws.{row_numbered, named_numbered, is_numbered}
use Rattle.growth_premises.proofs.RuleLaws.{no_first}
use Rattle.growth_rules.proofs.NestingLaws.{IsSlot, slot_of, same_row}

append_either : (f : ℕ → Bool) (xs ys : List ℕ) {P : Type 0} → (any f xs ≡ true → P) → (any f ys ≡ true → P) → any f (xs ++ ys) ≡ true → P
append_either f [] ys left right e = right e
append_either f (x ∷ xs) ys left right e =
    or_either (f x) (any f (xs ++ ys))
    (λ h. left (ap (λ (b : Bool). b || any f xs) h))
    (λ h. append_either f xs ys (λ g. left (behind (f x) (any f xs) g)) right h)
    e
  where
    behind : (a b : Bool) → b ≡ true → (a || b) ≡ true
    behind true b g = refl
    behind false b g = g

slot_low : {A : Type 0} (xs : List A) (k : ℕ) (v : A) → slice_get xs k ≡ Some v → k < length xs
slot_low [] k v e = absurd cc
slot_low (x ∷ xs) zero v e = omega arith
slot_low (x ∷ xs) (suc k) v e = let h : k < length xs = slot_low xs k v e in omega (arith, h)

module _ (x : Assembly) (xs : Assemblies) where
  abbrev s : Assemblies
  s = x ∷ xs

  abbrev pub count : ℕ
  count = length (types_of s)

  -- the number of a row
  pub record IsOwn (k : ℕ) : Type 0 where
    pub assembly : ℕ
    pub row : ℕ
    pub number : number_of s (Row assembly row) ≡ Some k

  own_slot : (k : ℕ) (own : IsOwn k) → slice_get (types_of s) k ≡ Some (Row own.assembly own.row)
  own_slot k own =
      let slot : IsSlot (same_id (Row own.assembly own.row)) (types_of s) 0 k = slot_of (same_id (Row own.assembly own.row)) (types_of s) 0 k own.number in
      let at : k ≡ slot.at = omega (arith, slot.place) in
      ap (slice_get (types_of s)) at ∙ slot.there ∙ ap (λ (i : TypeId). Some i) (same_row own.assembly own.row slot.value slot.passes)

  pub own_low : (k : ℕ) → IsOwn k → k < count
  own_low k own = slot_low (types_of s) k (Row own.assembly own.row) (own_slot k own)

  -- each row of the list has a number
  pub row_has_number : (k a r : ℕ) → slice_get (types_of s) k ≡ Some (Row a r) → is_some (number_of s (Row a r)) ≡ true
  row_has_number k a r e = row_numbered x xs a r ((is_numbered x xs).types k (Row a r) e)

  -- ---- the types that coded indexes lead to

  abbrev pub LayerOwn : Layer → Type 0
  LayerOwn (Ty-F.Known k) = IsOwn k
  LayerOwn (Ty-F.Inst k args) = IsOwn k
  LayerOwn _ = Unit {0}

  id_own : (a coded : ℕ) (id : TypeId) → named_id s a coded ≡ Some id → LayerOwn (out-Ty (ty_by_id s id))
  unfolding types.out-Ty denote.Hole.Carrier.out denote.Hole.Carrier.hidden denote.Hole.Carrier.shown
  id_own a coded (Outside name) e = by_byte (prim_byte name)
    where
      by_byte : (o : Option ℕ) → LayerOwn (out-Ty (outside_ty s name o))
      by_byte None = tt
      by_byte (Some b) = tt
  id_own a coded (Row b r) e = by_number (number_of s (Row b r)) refl (named_numbered x xs a coded (Row b r) e)
    where
      by_number : (o : Option ℕ) → number_of s (Row b r) ≡ o → is_some o ≡ true → LayerOwn (out-Ty (ty.Known (number_or 0 o)))
      by_number None f g = absurd cc
      by_number (Some k) f g = record { assembly = b; row = r; number = f }

  named_own : (a coded : ℕ) → LayerOwn (out-Ty (ty_or ty.Opaque (option_map (ty_by_id s) (named_id s a coded))))
  unfolding types.out-Ty denote.Hole.Carrier.out denote.Hole.Carrier.hidden denote.Hole.Carrier.shown
  named_own a coded = go (named_id s a coded) refl
    where
      go : (o : Option TypeId) → named_id s a coded ≡ o → LayerOwn (out-Ty (ty_or ty.Opaque (option_map (ty_by_id s) o)))
      go None e = tt
      go (Some id) e = id_own a coded id e

  instance_own : (args : List Ty) (t : Ty) (l : Layer) → LayerOwn l → LayerOwn (out-Ty t) → LayerOwn (out-Ty (instance_of args t l))
  unfolding types.out-Ty denote.Hole.Carrier.out denote.Hole.Carrier.hidden denote.Hole.Carrier.shown
  instance_own [] t l h g = g
  instance_own (a ∷ more) t (Ty-F.Known k) h g = h
  instance_own (a ∷ more) t (Ty-F.Prim b) h g = g
  instance_own (a ∷ more) t (Ty-F.Outside name value) h g = g
  instance_own (a ∷ more) t (Ty-F.Array item) h g = g
  instance_own (a ∷ more) t (Ty-F.ByRef item) h g = g
  instance_own (a ∷ more) t (Ty-F.Var k) h g = g
  instance_own (a ∷ more) t (Ty-F.MVar k) h g = g
  instance_own (a ∷ more) t Ty-F.Opaque h g = g
  instance_own (a ∷ more) t (Ty-F.Inst k args) h g = g

  abbrev Again : ℕ → ℕ → Type 0
  Again a depth = (t : SigTy) → LayerOwn (out-Ty (ty_within (coded_in s a) depth t))

  within_own : (a depth : ℕ) (t : SigTy) → LayerOwn (out-Ty (ty_within (coded_in s a) depth t))
  unfolding ty_within types.out-Ty denote.Hole.Carrier.out denote.Hole.Carrier.hidden denote.Hole.Carrier.shown
  within_own a zero t = tt
  within_own a (suc depth) t = by_layer (within_own a depth) (out-SigTy t)
    where
      spec_own : Again a depth → (o : Option SigTy) → LayerOwn (out-Ty (spec_ty (ty_within (coded_in s a) depth) o))
      spec_own again None = tt
      spec_own again (Some u) = again u

      coded_own : Again a depth → (coded : ℕ) → LayerOwn (out-Ty (coded_ty (coded_in s a) (ty_within (coded_in s a) depth) coded))
      coded_own again coded = go (tag coded == 2)
        where
          go : (b : Bool) → LayerOwn (out-Ty (if b then spec_ty (ty_within (coded_in s a) depth) ((coded_in s a).spec (row_of coded)) else ty_or ty.Opaque ((coded_in s a).named coded)))
          go true = spec_own again ((coded_in s a).spec (row_of coded))
          go false = named_own a coded

      by_layer : Again a depth → (l : SigTy-F SigTy MethodSig) → LayerOwn (out-Ty (layer_ty (coded_in s a) (ty_within (coded_in s a) depth) l))
      by_layer again (SigTy-F.Prim b) = tt
      by_layer again (SigTy-F.Ptr u) = tt
      by_layer again (SigTy-F.ByRef u) = tt
      by_layer again (SigTy-F.Named value coded) = coded_own again coded
      by_layer again (SigTy-F.Var n) = tt
      by_layer again (SigTy-F.MVar n) = tt
      by_layer again (SigTy-F.Array u rank sizes lows) = tt
      by_layer again (SigTy-F.Inst value coded args) =
          instance_own (map (ty_within (coded_in s a) depth) args) (coded_ty (coded_in s a) (ty_within (coded_in s a) depth) coded)
          (out-Ty (coded_ty (coded_in s a) (ty_within (coded_in s a) depth) coded)) (coded_own again coded) (coded_own again coded)
      by_layer again (SigTy-F.Func m) = tt
      by_layer again (SigTy-F.SzArray u) = tt
      by_layer again (SigTy-F.Modified required coded u) = again u
      by_layer again (SigTy-F.Pinned u) = again u

  -- a base or an interface that is named
  abbrev pub AreOwn : Option Ty → Type 0
  AreOwn None = Unit {0}
  AreOwn (Some t) = LayerOwn (out-Ty t)

  pub at_own : (a coded : ℕ) → AreOwn (ty_at s a coded)
  at_own a coded = go (row_of coded == 0) (tag coded == 2)
    where
      by_spec : (o : Option SigTy) → AreOwn (option_map (ty_of (coded_in s a)) o)
      by_spec None = tt
      by_spec (Some t) = within_own a 1000 t

      by_id : (o : Option TypeId) → named_id s a coded ≡ o → AreOwn (option_map (ty_by_id s) o)
      by_id None e = tt
      by_id (Some id) e = id_own a coded id e

      go : (b c : Bool) → AreOwn (if b then None else if c then option_map (ty_of (coded_in s a)) ((coded_in s a).spec (row_of coded)) else (coded_in s a).named coded)
      go true c = tt
      go false true = by_spec ((coded_in s a).spec (row_of coded))
      go false false = by_id (named_id s a coded) refl

  -- ---- what a row leads to

  one_among : (i j : ℕ) → is_among (i ∷ []) j ≡ true → i ≡ j
  one_among i j e = or_either (i == j) false (λ h. eqb-true i j h) (λ h. absurd cc) e

  itself_own : (a r j : ℕ) → is_among (own_number s a r) j ≡ true → IsOwn j
  itself_own a r j e = go (number_of s (Row a r)) refl e
    where
      go : (o : Option ℕ) → number_of s (Row a r) ≡ o → is_among (option_to_list o) j ≡ true → IsOwn j
      go None f g = absurd cc
      go (Some k) f g = subst IsOwn (one_among k j g) (record { assembly = a; row = r; number = f })

  leads_own : (a r : ℕ) (o : Option Ty) (j : ℕ) → AreOwn o → is_among (leads_to (own_number s a r) o) j ≡ true → IsOwn j
  leads_own a r None j h e = absurd cc
  leads_own a r (Some t) j h e = by_layer (out-Ty t) h e
    where
      by_layer : (l : Layer) → LayerOwn l → is_among (layer_leads_to (own_number s a r) l) j ≡ true → IsOwn j
      by_layer (Ty-F.Known k) g f = subst IsOwn (one_among k j f) g
      by_layer (Ty-F.Inst k args) g f = subst IsOwn (one_among k j f) g
      by_layer (Ty-F.Var k) g f = itself_own a r j f
      by_layer (Ty-F.MVar k) g f = itself_own a r j f
      by_layer (Ty-F.Prim b) g f = absurd cc
      by_layer (Ty-F.Outside name value) g f = absurd cc
      by_layer (Ty-F.Array item) g f = absurd cc
      by_layer (Ty-F.ByRef item) g f = absurd cc
      by_layer Ty-F.Opaque g f = absurd cc

  abbrev pub base_index : ℕ → ℕ → ℕ
  base_index a r = cell (assembly_at s a) TYPE_DEF r 3

  abbrev pub interface_index : ℕ → ℕ → ℕ
  interface_index a i = cell (assembly_at s a) INTERFACE_IMPL i 1

  abbrev pub interface_rows : ℕ → ℕ → List ℕ
  interface_rows a r = filter (λ i. cell (assembly_at s a) INTERFACE_IMPL i 0 == r) (rows_in (assembly_at s a) INTERFACE_IMPL)

  abbrev pub interfaces_lead : ℕ → ℕ → List ℕ → List ℕ
  interfaces_lead a r is = flat_map (λ i. leads_to (own_number s a r) (ty_at s a (interface_index a i))) is

  abbrev pub row_above : ℕ → ℕ → List ℕ
  row_above a r = leads_to (own_number s a r) (ty_at s a (base_index a r)) ++ interfaces_lead a r (interface_rows a r)

  pub above_row : (k a r : ℕ) → row_of_number s k ≡ Some (a, r) → above s k ≡ row_above a r ++ []
  above_row k a r e = ap (λ (o : Option Cell). flat_map (λ (c : Cell). row_above c.0 c.1) (option_to_list o)) e

  above_none : (k : ℕ) → row_of_number s k ≡ None → above s k ≡ []
  above_none k e = ap (λ (o : Option Cell). flat_map (λ (c : Cell). row_above c.0 c.1) (option_to_list o)) e

  interfaces_own : (a r j : ℕ) (is : List ℕ) → is_among (interfaces_lead a r is) j ≡ true → IsOwn j
  interfaces_own a r j [] e = absurd cc
  interfaces_own a r j (i ∷ is) e =
      append_either (λ k. k == j) (leads_to (own_number s a r) (ty_at s a (interface_index a i))) (interfaces_lead a r is)
      (λ h. leads_own a r (ty_at s a (interface_index a i)) j (at_own a (interface_index a i)) h)
      (λ h. interfaces_own a r j is h)
      e

  row_own : (a r j : ℕ) → is_among (row_above a r ++ []) j ≡ true → IsOwn j
  row_own a r j e =
      append_either (λ k. k == j) (row_above a r) []
      (λ f.
      append_either (λ k. k == j) (leads_to (own_number s a r) (ty_at s a (base_index a r))) (interfaces_lead a r (interface_rows a r))
      (λ h. leads_own a r (ty_at s a (base_index a r)) j (at_own a (base_index a r)) h)
      (λ h. interfaces_own a r j (interface_rows a r) h)
      f)
      (λ f. absurd cc)
      e

  pub above_own : (k j : ℕ) → is_among (above s k) j ≡ true → IsOwn j
  above_own k j e = go (row_of_number s k) refl
    where
      go : (o : Option Cell) → row_of_number s k ≡ o → IsOwn j
      go None f = absurd (let wrong : is_among [] j ≡ true = sym (ap (λ (l : List ℕ). is_among l j) (above_none k f)) ∙ e in cc)
      go (Some c) f = row_own c.0 c.1 j (sym (ap (λ (l : List ℕ). is_among l j) (above_row k c.0 c.1 f)) ∙ e)

  -- ---- circles

  first_of_three : (a b : Bool) → (a || b) ≡ false → a ≡ false
  first_of_three true b e = absurd cc
  first_of_three false b e = refl

  reached_own : (n k to : ℕ) → reaches (above s) n k to ≡ true → IsOwn to
  unfolding reaches
  reached_own zero k to e = absurd cc
  reached_own (suc n) k to e = among (above s k) (λ j h. reached_own n j to h) (λ h. above_own k to h) e
    where
      behind : (a b : Bool) → b ≡ true → (a || b) ≡ true
      behind true b g = refl
      behind false b g = g

      among : (l : List ℕ) → ((j : ℕ) → reaches (above s) n j to ≡ true → IsOwn to) → (is_among l to ≡ true → IsOwn to) → any (λ j. (j == to) || reaches (above s) n j to) l ≡ true → IsOwn to
      among [] again own f = absurd cc
      among (j ∷ l) again own f =
          or_either ((j == to) || reaches (above s) n j to) (any (λ j. (j == to) || reaches (above s) n j to) l)
          (λ g. or_either (j == to) (reaches (above s) n j to) (λ h. own (ap (λ (b : Bool). b || is_among l to) h)) (λ h. again j h) g)
          (λ g. among l again (λ h. own (behind (j == to) (is_among l to) h)) g)
          f

  module _ (kept : KeepsRules s) where
    alone : (b : Bool) → (b || false) ≡ false → b ≡ false
    alone true e = absurd cc
    alone false e = refl

    own_circle : (k : ℕ) → IsOwn k → reaches (above s) count k k ≡ false
    own_circle k own =
        let at : IsRowOf s (Row own.assembly own.row) = (is_numbered x xs).types k (Row own.assembly own.row) (own_slot k own) in
        first_of_three (is_on_cycle s (above s) k) (is_on_cycle s (around s) k || (is_on_cycle s (within s) k || is_deep (within s) deepest k))
        (alone (is_entangled s k)
        (sym (ap (λ (o : Option ℕ). any (is_entangled s) (option_to_list o)) own.number)
        ∙ no_first (test N3 own.assembly TYPE_DEF own.row (any (is_entangled s) (option_to_list (number_of s (Row own.assembly own.row)))))
        (test N4 own.assembly TYPE_DEF own.row (name_is_taken (assembly_at s own.assembly) (full_name (assembly_at s own.assembly) own.row) own.row) ∷ [])
        (kept.types own.assembly TYPE_DEF own.row at.1.0 at.1.1)))

    no_circle : (k : ℕ) → reaches (above s) count k k ≡ false
    no_circle k = decide (reaches (above s) count k k) (λ e. own_circle k (reached_own count k k e)) (λ f. f)

    -- no chain above a type is as long as there are types
    pub above_shallow : (k : ℕ) → k < count → is_deep (above s) count k ≡ false
    above_shallow k low = shallow (above s) count (λ i j e. own_low j (above_own i j e)) no_circle k low
