-- Bounds of places, searches that find nothing, and what both programs answer alike.
use Rattle.std.proofs.Common.{◌≡◌, ℕ, zero, suc, ◌+◌, ◌<◌, ◌≤◌, Bool, true, false, List, [], ◌∷◌, Option, Some, None, refl, sym, ap, ◌∙◌, arith}
use Rattle.std.specs.Prelude.{◌&&◌, not, option_map, if◌then◌else◌, IsTrue}
use Rattle.cil_base.specs.declared.token.Token.{Token}
use Rattle.cil_model.specs.declared.ty.Ty.{Ty}
use Rattle.cil_model.specs.declared.value.Value.{Value}
use Rattle.cil_model.specs.declared.body.Region.{Region}
use Rattle.cil_semantics.specs.Core.{object_ty}
use Rattle.cil_semantics.specs.Lookups.{is_sub, method_of}
use Rattle.cil_semantics.specs.Places.{Storage, Void, storage, stored_in}
use Rattle.cil_semantics.specs.Returns.{kept_as, returned}
use Rattle.cil_semantics.specs.Tokens.{as_type, meaning_of}
use Rattle.cil_semantics.specs.Types.{under}
use Rattle.cil_semantics.specs.Unwind.{holds_place, in_try, is_finally, object_type, fits_type, caught_type, found_in, search_from, NoHandler, left_from}
use Rattle.cil_semantics.specs.Words.{maybe}
use Rattle.cil_semantics.specs.declared.state.Frame.{Frame}
use Rattle.cil_semantics.specs.declared.state.World.{World}
use Rattle.machine_rows.specs.Everything.{everything}
use Rattle.simulation.proofs.ProgramLaws.{stored_in_same, sub_same}
use Rattle.splice_facts.specs.Exceptions.{IsException}
use Rattle.splice_laws.specs.Straight.{Misses, LeavesFreely}
use Rattle.splice_program.specs.Program.{input}
use Rattle.splice_program.specs.Written.{output, written_methods}

-- ---- places

pub bounds : (a b q : ℕ) → IsTrue (holds_place a b q) → (a ≤ q) × (q < b)
bounds a b q h = (grind (arith, h), grind (arith, h))

pub holds : (a b q : ℕ) → a ≤ q → q < b → IsTrue (holds_place a b q)
holds a b q l h = grind (arith, l, h)

pub lies_before : (a b q : ℕ) → q < a → holds_place a b q ≡ false
lies_before a b q h = grind (arith, h)

pub lies_behind : (a b q : ℕ) → b ≤ q → holds_place a b q ≡ false
lies_behind a b q h = grind (arith, h)

-- ---- searches

pub never_found : (fits : Token → Bool) (skip i q : ℕ) (rs : List Region) → Misses q rs → search_from fits skip i q rs ≡ NoHandler
never_found fits skip i q [] m = refl
never_found fits zero i q (r ∷ rs) m = ap (λ b. if b then maybe (search_from fits zero (i + 1) q rs) (λ x. x) (found_in fits r i r.kind) else search_from fits zero (i + 1) q rs) m.0 ∙ never_found fits zero (i + 1) q rs m.1
never_found fits (suc n) i q (r ∷ rs) m = never_found fits n (i + 1) q rs m.1

pub never_left : (skip i q t : ℕ) (rs : List Region) → LeavesFreely q rs → left_from skip i q t rs ≡ None
never_left skip i q t [] m = refl
never_left zero i q t (r ∷ rs) m =
    ap (λ b. if b then Some (i, r) else left_from zero (i + 1) q t rs) (neither (is_finally r.kind) (in_try r q) (not (in_try r t)) m.0) ∙ never_left zero (i + 1) q t rs m.1
  where
    neither : (a b c : Bool) → (a && b) ≡ false → (a && (b && c)) ≡ false
    neither false b c e = refl
    neither true false c e = refl
    neither true true c e = absurd (cc e)
never_left (suc n) i q t (r ∷ rs) m = never_left n (i + 1) q t rs m.1

-- ---- the two programs

pub stored_alike : (t : Ty) (v : Value) → stored_in output t v ≡ stored_in input t v
stored_alike t v = stored_in_same input written_methods t v

pub under_alike : (u t : Ty) → is_sub output u t ≡ is_sub input u t
under_alike u t = sub_same input written_methods u t

fits_alike : (w : World) (x : ℕ) (o : Option Ty) → fits_type output w x o ≡ fits_type input w x o
fits_alike w x None = refl
fits_alike w x (Some t) = by_object (object_type w x)
  where
    by_object : (o : Option Ty) → maybe false (λ u. is_sub output u t) o ≡ maybe false (λ u. is_sub input u t) o
    by_object None = refl
    by_object (Some u) = under_alike u t

pub exceptions_alike : (w : World) (x : ℕ) → IsException input w x → IsException output w x
exceptions_alike w x h = fits_alike w x (Some object_ty) ∙ h

-- what a region of Next catches
pub catches_alike : (f : Frame) (w : World) (x : ℕ) (t : Token) → f.method ≡ 0 → fits_type output w x (caught_type output f t) ≡ fits_type input w x (caught_type input f t)
unfolding everything
catches_alike f w x t me =
    fits_alike w x (caught_type output f t)
    ∙ ap (λ m. fits_type input w x (option_map (under f.type_args f.method_args) (as_type (meaning_of output (method_of output m).assembly t)))) me
    ∙ ap (λ m. fits_type input w x (option_map (under f.type_args f.method_args) (as_type (meaning_of input (method_of input m).assembly t)))) (sym me)

kept_alike : (t : Ty) (h : Storage) (s : List Value) → kept_as output t h s ≡ kept_as input t h s
kept_alike t Void s = refl
kept_alike t _ [] = refl
kept_alike t _ (v ∷ s) = ap (option_map Some) (stored_alike t v)

-- what Next returns
pub returned_alike : (f : Frame) (s : List Value) → f.method ≡ 0 → returned output f s ≡ returned input f s
unfolding everything
returned_alike f s me =
    ap (λ m. kept_as output (under f.type_args f.method_args (method_of output m).result) (storage output (under f.type_args f.method_args (method_of output m).result)) s) me
    ∙ kept_alike (under f.type_args f.method_args (method_of input 0).result) (storage input (under f.type_args f.method_args (method_of input 0).result)) s
    ∙ ap (λ m. kept_as input (under f.type_args f.method_args (method_of input m).result) (storage input (under f.type_args f.method_args (method_of input m).result)) s) (sym me)
