use Rattle.std.proofs.Common.{◌∙◌, ap}
use Rattle.pe_image.specs.Images.{File}
use Rattle.pe_image.specs.SectionGrowth.{room_of}
use Rattle.pe_image.proofs.GrowthLaws.{room_is}
use Rattle.pe_image.proofs.image.Image.room.Goals as goal

pub returns : goal.returns
returns c =
    let i = c.self.inside in
    room_is i.bytes.now i.assembly i.headers c.room.result c.self.invariant.0.headers c.room.ensures
    ∙ ap (λ (f : File). room_of f.bytes f.assembly) c.self.view_is
