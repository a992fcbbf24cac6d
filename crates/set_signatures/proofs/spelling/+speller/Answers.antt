use Rattle.std.proofs.Common.{◌-◌}
use Rattle.cli_sigs.specs.declared.types.SigTy.{out-SigTy}
use Rattle.set_types.specs.CodedTypes.{coded_of}
use Rattle.set_signatures.specs.Spelling.{spelled_within, spelled_layer}
use Rattle.set_signatures.proofs.SpellingLaws.{spelled_step, said_is}
use Rattle.set_signatures.proofs.spelling.+speller.Goals as goal

pub spell_type-returns : goal.spell_type-returns
spell_type-returns t c =
    said_is c.spell_layer.result c.args.out.now c.spell_layer.new.out (spelled_layer (coded_of c.args.coded.now) c.args.args.now (spelled_within (coded_of c.args.coded.now) c.args.args.now (c.args.depth - 1)) (out-SigTy c.args.ty.now)) (spelled_within (coded_of c.args.coded.now) c.args.args.now c.args.depth c.args.ty.now)
    (spelled_step (coded_of c.args.coded.now) c.args.args.now c.args.depth c.args.ty.now c.if-depth-eq0.false) c.spell_layer.ensures
