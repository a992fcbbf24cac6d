-- What look-ups answer on what a run of the input holds, in the input and where its tables have grown.
use Rattle.std.specs.Prelude.{◌≡◌, ℕ, ◌<◌, List, length}
use Rattle.cil_base.specs.declared.token.Token.{Token}
use Rattle.cil_model.specs.declared.ty.Ty.{Ty}
use Rattle.cil_model.specs.declared.ty.Under.{Under}
use Rattle.cil_model.specs.declared.value.Value.{Value}
use Rattle.cil_model.specs.declared.contract.TyRef.{TyRef}
use Rattle.cil_model.specs.declared.program.Program.{Program}
use Rattle.cil_semantics.specs.declared.state.Object.{Object}
use Rattle.cil_semantics.specs.declared.state.World.{World}
use Rattle.cil_semantics.specs.Acts.{ty_name}
use Rattle.cil_semantics.specs.Calls.{core_of, body_seen}
use Rattle.cil_semantics.specs.Checks.{constructor_with}
use Rattle.cil_semantics.specs.Contracted.{is_visible}
use Rattle.cil_semantics.specs.Dispatch.{Seen}
use Rattle.cil_semantics.specs.Frames.{initializer}
use Rattle.cil_semantics.specs.Lookups.{is_sub}
use Rattle.cil_semantics.specs.Outside.{is_outside, fits}
use Rattle.cil_semantics.specs.Places.{storage, stored_in, default_value, write_path, layout, static_layout, field_place}
use Rattle.cil_semantics.specs.Tokens.{Here, meaning_of, token_here, ref_type}
use Rattle.machine_laws.specs.Answers.{Each, IsOld}
use Rattle.grown_runs.specs.Grown.{IsHeld, StaysUnmeant, KeepsRef}
use Rattle.std.specs.Prelude.{Option}

-- each object is of a type that a run may hold
abbrev pub HeldHeap : Program → ℕ → List Object → Type 0
HeldHeap p0 exception os = Each (λ (o : Object). IsHeld p0 exception o.ty) os

-- the laws by which the walk over the machine goes
pub record LooksAlike (p0 p : Program) (exception : ℕ) : Type 0 where
  pub storages : (t : Ty) → storage p t ≡ storage p0 t
  pub stores : (t : Ty) (v : Value) → stored_in p t v ≡ stored_in p0 t v
  pub defaults : (t : Ty) → default_value p t ≡ default_value p0 t
  pub paths : (is : List ℕ) (t : Ty) (v old : Value) → write_path p is t v old ≡ write_path p0 is t v old
  pub fitting : (w : World) (t : Ty) (v : Value) → HeldHeap p0 exception w.heap → fits p w t v ≡ fits p0 w t v
  pub layouts : (t : Ty) → IsOld p0 t → layout p t ≡ layout p0 t
  pub field_places : (t : Ty) (f : ℕ) → IsHeld p0 exception t → f < length p0.fields → field_place p t f ≡ field_place p0 t f
  pub statics : (t : Ty) → IsOld p0 t → static_layout p t ≡ static_layout p0 t
  pub subs : (t u : Ty) → IsHeld p0 exception t → is_sub p t u ≡ is_sub p0 t u
  pub names : (t : Ty) → IsHeld p0 exception t → ty_name p t ≡ ty_name p0 t
  pub outside : (m : ℕ) → m < length p0.methods → is_outside p m ≡ is_outside p0 m
  pub cores : (owner : Ty) (m : ℕ) → m < length p0.methods → IsOld p0 owner → core_of p owner m ≡ core_of p0 owner m
  pub bodies : (t : Ty) (s : Seen) → IsHeld p0 exception t → IsOld p0 s.0 → s.1 < length p0.methods → body_seen p t s ≡ body_seen p0 t s
  pub initializers : (w : World) (t : Ty) → IsOld p0 t → initializer p w t ≡ initializer p0 w t
  pub visible : (m : ℕ) → m < length p0.methods → is_visible p m ≡ is_visible p0 m
  pub meanings : (assembly : ℕ) (token : Token) → StaysUnmeant p0 p assembly token → meaning_of p assembly token ≡ meaning_of p0 assembly token
  pub tokens : (here : Here) (u : Option Under) (assembly : ℕ) (token : Token) → StaysUnmeant p0 p assembly token → token_here p here u assembly token ≡ token_here p0 here u assembly token
  pub refs : (here : Here) (r : TyRef) → KeepsRef p0 p r → ref_type p here r ≡ ref_type p0 here r
  pub constructors : (t : Ty) (home : ℕ) (ts : List Ty) → IsOld p0 t → home < length p0.methods → constructor_with p t home ts ≡ constructor_with p0 t home ts
