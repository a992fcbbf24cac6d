-- Stores into arguments and locals of the frames below.
use Rattle.std.proofs.Common.{◌≡◌, ap, refl, subst, ℕ, List, ◌∷◌, reverse}
use Rattle.std.specs.Prelude.{Option, None, Some, option_and_then, option_map, slice_get, slice_set}
use Rattle.cil_model.specs.declared.value.Value.{Value}
use Rattle.cil_model.specs.declared.program.Program.{Program}
use Rattle.cil_semantics.specs.Frames.{frame_at, in_frame, set_args, set_in, set_locals}
use Rattle.cil_semantics.specs.Places.{write_path}
use Rattle.cil_semantics.specs.declared.Cell.{Cell}
use Rattle.cil_semantics.specs.declared.Frame.{Frame}
use Rattle.run_places.proofs.CellLaws.{left_at, not_set, some_set}
use Rattle.run_places.proofs.FrameLaws.{changed_to, is_at, unchanged}

-- a fact of the frame that was found holds of the frame at its place
pub of_frame : (P : Frame → Type 0) (fs : List Frame) (n m : ℕ) (f g : Frame) → Some f ≡ frame_at fs n m → slice_get (reverse fs) n ≡ Some g → P f → P g
of_frame P fs n m f g e h k = let at : slice_get (reverse fs) n ≡ Some f = is_at fs n m f e in let same : f ≡ g = cc in subst P same k

with_cell : (p : Program) (is : List ℕ) (v w : Value) (cs : List Cell) (i : ℕ) (c : Cell) → slice_get cs i ≡ Some c → Some w ≡ left_at p is v cs i → Some (slice_set cs i (record { ty = c.ty; value = w })) ≡ set_in p (i ∷ is) v cs
with_cell p is v w cs i c k h =
    some_set p is v cs (slice_set cs i (record { ty = c.ty; value = w })) i w h (λ d q. let same : c ≡ d = cc in ap (λ (x : Cell). slice_set cs i (record { ty = x.ty; value = w })) same)

-- ---- arguments

pub no_argument : (p : Program) (is : List ℕ) (v : Value) (fs : List Frame) (n m i : ℕ) (f : Frame) → Some f ≡ frame_at fs n m → None ≡ left_at p is v f.local.args i → None ≡ in_frame fs n m (set_args p (i ∷ is) v)
no_argument p is v fs n m i f e h = unchanged fs n m (set_args p (i ∷ is) v) f e (ap (option_map (λ (cs : List Cell). record f.local { args = cs })) (not_set p is v f.local.args i h))

pub argument_put : (p : Program) (is : List ℕ) (v w : Value) (fs gs : List Frame) (n m i : ℕ) (f : Frame) → Some f ≡ frame_at fs n m → Some w ≡ left_at p is v f.local.args i → ((g : Frame) (c : Cell) → slice_get (reverse fs) n ≡ Some g → slice_get g.local.args i ≡ Some c → reverse gs ≡ slice_set (reverse fs) n (record g { local = record g.local { args = slice_set g.local.args i (record { ty = c.ty; value = w }) } })) → Some gs ≡ in_frame fs n m (set_args p (i ∷ is) v)
argument_put p is v w fs gs n m i f e h put = cases (slice_get f.local.args i) refl h
  where
    cases : (o : Option Cell) → slice_get f.local.args i ≡ o → Some w ≡ option_and_then (λ (c : Cell). write_path p is c.ty v c.value) o → Some gs ≡ in_frame fs n m (set_args p (i ∷ is) v)
    cases None k q = absurd cc
    cases (Some c) k q =
        changed_to fs gs n m (set_args p (i ∷ is) v) f (record f.local { args = slice_set f.local.args i (record { ty = c.ty; value = w }) }) e
        (ap (option_map (λ (cs : List Cell). record f.local { args = cs })) (with_cell p is v w f.local.args i c k h))
        (put f c (is_at fs n m f e) k)

-- ---- locals

pub no_local : (p : Program) (is : List ℕ) (v : Value) (fs : List Frame) (n m i : ℕ) (f : Frame) → Some f ≡ frame_at fs n m → None ≡ left_at p is v f.local.locals i → None ≡ in_frame fs n m (set_locals p (i ∷ is) v)
no_local p is v fs n m i f e h = unchanged fs n m (set_locals p (i ∷ is) v) f e (ap (option_map (λ (cs : List Cell). record f.local { locals = cs })) (not_set p is v f.local.locals i h))

pub local_put : (p : Program) (is : List ℕ) (v w : Value) (fs gs : List Frame) (n m i : ℕ) (f : Frame) → Some f ≡ frame_at fs n m → Some w ≡ left_at p is v f.local.locals i → ((g : Frame) (c : Cell) → slice_get (reverse fs) n ≡ Some g → slice_get g.local.locals i ≡ Some c → reverse gs ≡ slice_set (reverse fs) n (record g { local = record g.local { locals = slice_set g.local.locals i (record { ty = c.ty; value = w }) } })) → Some gs ≡ in_frame fs n m (set_locals p (i ∷ is) v)
local_put p is v w fs gs n m i f e h put = cases (slice_get f.local.locals i) refl h
  where
    cases : (o : Option Cell) → slice_get f.local.locals i ≡ o → Some w ≡ option_and_then (λ (c : Cell). write_path p is c.ty v c.value) o → Some gs ≡ in_frame fs n m (set_locals p (i ∷ is) v)
    cases None k q = absurd cc
    cases (Some c) k q =
        changed_to fs gs n m (set_locals p (i ∷ is) v) f (record f.local { locals = slice_set f.local.locals i (record { ty = c.ty; value = w }) }) e
        (ap (option_map (λ (cs : List Cell). record f.local { locals = cs })) (with_cell p is v w f.local.locals i c k h))
        (put f c (is_at fs n m f e) k)
