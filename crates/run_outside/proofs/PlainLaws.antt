-- Values that are plain, one level of structs after another.
use Rattle.std.proofs.Common.{◌≡◌, ◌∙◌, sym, ap, refl, List}
use Rattle.std.specs.Prelude.{Bool, true, false, ◌&&◌, is_some}
use Rattle.cil_model.specs.declared.value.Value.{Value, out-Value, Row_of-Value, end_of-Value, more_of-Value}
use Rattle.cil_model.specs.declared.value.Value as val
use Rattle.cil_model.specs.declared.value.Value.TheVariants as value
use Rattle.cil_model.specs.declared.value.Value.TheOpen.{Value-F}
use Rattle.cil_semantics.specs.Words.{all}
use Rattle.cil_semantics.specs.State.{object_at}
use Rattle.cil_semantics.specs.declared.state.World.{World}
use Rattle.cil_semantics.specs.Outside.{is_plain, are_plain}

plain_layer : World → Value-F Value → Bool
plain_layer w (Value-F.Obj k) = is_some (object_at w k)
plain_layer w (Value-F.Ptr q) = false
plain_layer w (Value-F.Func m u) = false
plain_layer w (Value-F.Struct vs) = all (is_plain w) vs
plain_layer w _ = true

plain_items : (w : World) {m : _} (row : Row_of-Value m) → are_plain w row ≡ all (is_plain w) (val.items-the_row-Value m row)
plain_items w end_of-Value = refl
plain_items w (more_of-Value v rest) = ap (λ b. is_plain w v && b) (plain_items w rest)

plain_by : (w : World) (v : Value) → is_plain w v ≡ plain_layer w (out-Value v)
unfolding val.out-Value denote.Hole.Carrier.out plain_layer
plain_by w (val.I4 z) = refl
plain_by w (val.I8 z) = refl
plain_by w (val.Native z) = refl
plain_by w val.Null = refl
plain_by w (val.Obj k) = refl
plain_by w (val.Text units) = refl
plain_by w (val.Ptr q) = refl
plain_by w (val.Func m u) = refl
plain_by w (val.Opaque bytes) = refl
plain_by w (val.Struct' shape parts) = plain_items w parts ∙ ap (all (is_plain w)) (sym (val.items_shown-the_row-Value-0 shape parts))

struct_out : (vs : List Value) → out-Value (value.Struct vs) ≡ Value-F.Struct vs
unfolding val.out-Value denote.Hole.Carrier.out
struct_out vs = ap Value-F.Struct (val.items_shown-the_row-Value-0 _ _ ∙ val.items_hidden-the_row-Value-0 vs)

pub plain_struct : (w : World) (v : Value) (vs : List Value) (b : Bool) → v ≡ value.Struct vs → b ≡ all (is_plain w) vs → b ≡ is_plain w v
unfolding plain_layer
plain_struct w v vs b e h = h ∙ sym (plain_by w v ∙ ap (plain_layer w) (ap out-Value e ∙ struct_out vs))
