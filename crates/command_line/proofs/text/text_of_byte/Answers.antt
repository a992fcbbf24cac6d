use Rattle.std.proofs.Common.{◌≡◌, ◌∙◌, IfOk, string_bytes, true}
use Rattle.std.proofs.lemmas.Fmt.{hex_byte}
use Rattle.std.proofs.lemmas.Result.{IfOk-weaker}
use Rattle.command_line.proofs.text.text_of_byte.Goals as goal

pub returns : goal.returns
returns c = IfOk-weaker c.padded_byte.result _ _ (λ text e. e ∙ hex_byte true c.args.n c.ranges.n.fits) c.padded_byte.ensures
