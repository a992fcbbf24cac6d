use Rattle.std.proofs.Common.{◌≡◌, ◌∙◌, sym, ap, reverse, slice_set, List, Some}
use Rattle.std.specs.Prelude.{slice_get}
use Rattle.std.proofs.lemmas.List.{reverse-reverse}
use Rattle.std.proofs.lemmas.Option.{get_or_from_slice_get}
use Rattle.cil_semantics.specs.declared.state.Cell.{Cell}
use Rattle.cil_semantics.specs.declared.state.Frame.{Frame}
use Rattle.cil_semantics.proofs.state.Frames.put_argument.Goals as goal

pub returns : goal.returns
returns c f x is_f is_x =
    let xs : List Frame = c.self.inside.items.items in
    let same : slice_get xs c.args.number ≡ Some f = ap (λ (s : List Frame). slice_get s c.args.number) (sym (reverse-reverse xs)) ∙ ap (λ (s : List Frame). slice_get (reverse s) c.args.number) c.self.view_is ∙ is_f in
    let frame : c.index_mut.result.now ≡ f = c.index_mut.ensures.value ∙ get_or_from_slice_get xs c.args.number f _ same in
    let cells : c.put.new.self ≡ slice_set f.local.args c.args.place (record { ty = x.ty; value = c.args.value }) = c.put.ensures x (ap (λ (g : Frame). slice_get g.local.args c.args.place) frame ∙ is_x) ∙ ap (λ (g : Frame). slice_set g.local.args c.args.place (record { ty = x.ty; value = c.args.value })) frame in
    reverse-reverse _
    ∙ ap (λ (g : Frame). slice_set xs c.args.number (record g { local = record g.local { args = c.put.new.self } })) frame
    ∙ ap (λ (cs : List Cell). slice_set xs c.args.number (record f { local = record f.local { args = cs } })) cells
    ∙ ap (λ (s : List Frame). slice_set s c.args.number (record f { local = record f.local { args = slice_set f.local.args c.args.place (record { ty = x.ty; value = c.args.value }) } })) (sym (reverse-reverse xs) ∙ ap reverse c.self.view_is)
