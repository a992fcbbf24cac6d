use Rattle.std.proofs.Common.{◌∙◌, sym, ap}
use Rattle.pe_image.specs.Images.{File}
use Rattle.set_rows.specs.Sets.{Assembly}
use Rattle.body_rules.proofs.RowLaws.{bytes_are}
use Rattle.body_rules.proofs.sets.bodies_of.Goals as goal

pub assembly_bodies-requires-clause-image : goal.assembly_bodies-requires-clause-image
assembly_bodies-requires-clause-image c =
    ap (λ (file : File). file.bytes) c.image.ensures ∙ sym (ap (λ (x : Assembly). x.bytes) c.requires.assembly ∙ bytes_are c.args.assembly.now.bytes)
