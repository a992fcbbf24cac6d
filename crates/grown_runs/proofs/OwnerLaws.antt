-- Initializers and constructors of types of the input.
use Rattle.std.proofs.Common.{◌≡◌, ◌∙◌, ap, refl, rules, ℕ, ◌<◌, List, [], length, Bool, true, false}
use Rattle.std.specs.Prelude.{◌&&◌, ◌||◌, ◌==◌, ◌%◌, not, bytes_eq, nat_lt, find, Option, Some, None, option_and_then, is_some, codes}
use Rattle.std.proofs.lemmas.Bool.{ltb-true}
use Rattle.cil_model.specs.declared.ty.Ty.{Ty, out-Ty}
use Rattle.cil_model.specs.declared.program.Program.{Program}
use Rattle.cil_semantics.specs.declared.state.Statics.{Statics}
use Rattle.cil_semantics.specs.declared.state.World.{World}
use Rattle.cil_semantics.specs.Words.{maybe}
use Rattle.cil_semantics.specs.Types.{same_tys}
use Rattle.cil_semantics.specs.Lookups.{type_of, method_of, in_set}
use Rattle.cil_semantics.specs.Dispatch.{methods_of, is_public}
use Rattle.cil_semantics.specs.Unwind.{find_statics}
use Rattle.cil_semantics.specs.Frames.{is_initializer, initializer_state, initializer}
use Rattle.cil_semantics.specs.Checks.{is_accessible, constructor_with}
use Rattle.machine_laws.specs.Answers.{IsOld, NamesOwn}
use Rattle.machine_laws.specs.Growth.{Extends}
use Rattle.machine_laws.proofs.AnswerLaws.{each_on}
use Rattle.machine_laws.proofs.FindLaws.{find_on}

same_bytes : (x y : List ℕ) → bytes_eq x y ≡ true → x ≡ y
same_bytes x y e = search (rules, e)

module _ (p0 p : Program) (kept : Extends p0 p) (whole : NamesOwn p0) where
  abbrev IsLow : ℕ → Type 0
  IsLow m = m < length p0.methods

  -- the methods of a type of the input are those that it had, and a test that answers the same on each finds the same
  pub found_same : (t : Ty) (f g : ℕ → Bool) → IsOld p0 t → ((m : ℕ) → m < length p0.methods → f m ≡ g m) → find f (methods_of p t) ≡ find g (methods_of p0 t)
  found_same t f g old same = go (in_set (out-Ty t)) old
    where
      go : (o : Option (ℕ × List Ty)) → maybe true (λ (d : ℕ × List Ty). nat_lt d.0 (length p0.types)) o ≡ true
          → find f (maybe [] (λ (d : ℕ × List Ty). (type_of p d.0).methods) o) ≡ find g (maybe [] (λ (d : ℕ × List Ty). (type_of p0 d.0).methods) o)
      go None e = refl
      go (Some d) e =
          let l : d.0 < length p0.types = ltb-true d.0 (length p0.types) e in
          ap (find f) (kept.types d.0 l).methods ∙ find_on f g (type_of p0 d.0).methods (each_on IsLow (λ m. f m ≡ g m) (type_of p0 d.0).methods (λ m k. same m k) (whole.methods d.0 l))

  -- ---- initializers

  abbrev begins : Program → ℕ → Bool
  begins q m = is_initializer (method_of q m) && not (type_of q (method_of q m).owner).reference

  abbrev begins_by : Program → List ℕ → Bool → Bool → ℕ → Bool
  begins_by q name static body owner = (bytes_eq name (codes ".cctor") && (static && body)) && not (type_of q owner).reference

  begins_same : (m : ℕ) → m < length p0.methods → (method_of p0 m).owner < length p0.types → begins p m ≡ begins p0 m
  begins_same m l o =
      let d = method_of p m in
      let d0 = method_of p0 m in
      let same = kept.methods m l in
      ap (λ (n : List ℕ). begins_by p n d.is_static (is_some d.body) d.owner) same.name
      ∙ ap (λ (b : Bool). begins_by p d0.name b (is_some d.body) d.owner) same.is_static
      ∙ ap (λ (b : Bool). begins_by p d0.name d0.is_static b d.owner) same.has_body
      ∙ ap (begins_by p d0.name d0.is_static (is_some d0.body)) same.owner
      ∙ ap (λ (b : Bool). (bytes_eq d0.name (codes ".cctor") && (d0.is_static && is_some d0.body)) && not b) (kept.types d0.owner o).reference

  pub initializer_same : ((m : ℕ) → m < length p0.methods → (method_of p0 m).owner < length p0.types) → (w : World) (t : Ty) → IsOld p0 t → initializer p w t ≡ initializer p0 w t
  unfolding initializer
  initializer_same members w t old =
      ap (initializer_state (option_and_then (λ (s : Statics). s.init) (find_statics t w.statics))) (found_same t (begins p) (begins p0) old (λ m l. begins_same m l (members m l)))

  -- ---- constructors

  abbrev seen_by : Bool → ℕ → ℕ → ℕ → Bool
  seen_by public access home own = public || (((access == 3) || (access == 5)) && (home == own))

  access_same : (home m : ℕ) → home < length p0.methods → m < length p0.methods → (method_of p m).flags % 8 ≡ (method_of p0 m).flags % 8 → is_accessible p home m ≡ is_accessible p0 home m
  access_same home m h l e =
      ap (λ (b : Bool). seen_by b ((method_of p m).flags % 8) (method_of p home).assembly (method_of p m).assembly) (kept.methods m l).public_too
      ∙ ap (λ (a : ℕ). seen_by (is_public (method_of p0 m)) a (method_of p home).assembly (method_of p m).assembly) e
      ∙ ap (λ (a : ℕ). seen_by (is_public (method_of p0 m)) ((method_of p0 m).flags % 8) a (method_of p m).assembly) (kept.methods home h).assembly
      ∙ ap (seen_by (is_public (method_of p0 m)) ((method_of p0 m).flags % 8) (method_of p0 home).assembly) (kept.methods m l).assembly

  abbrev constructs : Program → ℕ → List Ty → ℕ → Bool
  constructs q home ts m = bytes_eq (method_of q m).name (codes ".ctor") && (same_tys (method_of q m).params ts && is_accessible q home m)

  constructs_same : (home : ℕ) (ts : List Ty) (m : ℕ) → home < length p0.methods → m < length p0.methods → ((method_of p0 m).name ≡ codes ".ctor" → (method_of p m).flags % 8 ≡ (method_of p0 m).flags % 8) → constructs p home ts m ≡ constructs p0 home ts m
  constructs_same home ts m h l access =
      ap (λ (n : List ℕ). bytes_eq n (codes ".ctor") && (same_tys (method_of p m).params ts && is_accessible p home m)) (kept.methods m l).name
      ∙ ap (λ (us : List Ty). bytes_eq (method_of p0 m).name (codes ".ctor") && (same_tys us ts && is_accessible p home m)) (kept.methods m l).params
      ∙ by_name (bytes_eq (method_of p0 m).name (codes ".ctor")) refl
    where
      by_name : (b : Bool) → bytes_eq (method_of p0 m).name (codes ".ctor") ≡ b → (b && (same_tys (method_of p0 m).params ts && is_accessible p home m)) ≡ (b && (same_tys (method_of p0 m).params ts && is_accessible p0 home m))
      by_name true e = ap (λ (b : Bool). same_tys (method_of p0 m).params ts && b) (access_same home m h l (access (same_bytes (method_of p0 m).name (codes ".ctor") e)))
      by_name false e = refl

  pub constructor_same : ((m : ℕ) → m < length p0.methods → (method_of p0 m).name ≡ codes ".ctor" → (method_of p m).flags % 8 ≡ (method_of p0 m).flags % 8) → (t : Ty) (home : ℕ) (ts : List Ty) → IsOld p0 t → home < length p0.methods → constructor_with p t home ts ≡ constructor_with p0 t home ts
  constructor_same access t home ts old h = found_same t (constructs p home ts) (constructs p0 home ts) old (λ m l. constructs_same home ts m h l (access m l))
