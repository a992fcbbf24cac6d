use Rattle.std.proofs.Common.{◌∙◌, sym, ap}
use Rattle.pe_image.specs.Images.{File}
use Rattle.set_rows.specs.Sets.{Assembly}
use Rattle.body_rules.proofs.RowLaws.{bytes_are}
use Rattle.body_rules.proofs.sets.check_assembly.Goals as goal

pub check_rows-requires-clause-image : goal.check_rows-requires-clause-image
check_rows-requires-clause-image c =
    ap (λ (file : File). file.bytes) c.image.ensures ∙ sym (ap (λ (x : Assembly). x.bytes) c.requires.assembly ∙ bytes_are c.args.assembly.now.bytes)
