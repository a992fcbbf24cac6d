use Rattle.cil_base.specs.declared.rule.Rule.TheVariants.{S1}
use Rattle.cli_sigs.specs.declared.elements.Slot.TheVariants.{Plain}
use Rattle.cli_sigs.specs.Grammar.{IsTypeSpec}
use Rattle.cli_sigs.specs.Valid.{IsValidTypeSpec}
use Rattle.cli_sigs.specs.Reading.{type_at}
use Rattle.cli_sigs.proofs.KindLaws.{reads-spec}
use Rattle.cli_sigs.proofs.ValidLaws.{read_valid, type_valid}
use Rattle.cli_sigs.proofs.BlobLaws.{reads_within, answers_found, answers_only, answers_refused, answers_read}
use Rattle.cli_sigs.proofs.blobs.read_type_spec.Goals as goal

pub whole-requires-clause-within : goal.whole-requires-clause-within
whole-requires-clause-within c = reads_within IsTypeSpec (type_at 999 Plain) (reads-spec Plain) (λ x. (x.0, x.1.now)) c.args.blob.now c.type_of-read.result c.type_of-read.ensures

pub returns-clause-found : goal.returns-clause-found
returns-clause-found c = answers_found IsTypeSpec (type_at 999 Plain) (reads-spec Plain) (λ x. (x.0, x.1.now)) c.args.blob.now S1 c.args.place c.type_of-read.result c.whole.result c.type_of-read.ensures c.whole.ensures

pub returns-clause-only : goal.returns-clause-only
returns-clause-only c = answers_only IsTypeSpec (type_at 999 Plain) (reads-spec Plain) (λ x. (x.0, x.1.now)) c.args.blob.now S1 c.args.place c.type_of-read.result c.whole.result c.type_of-read.ensures c.whole.ensures

pub returns-clause-refused : goal.returns-clause-refused
returns-clause-refused c = answers_refused IsTypeSpec (type_at 999 Plain) (reads-spec Plain) (λ x. (x.0, x.1.now)) c.args.blob.now S1 c.args.place c.type_of-read.result c.whole.result c.type_of-read.ensures c.whole.ensures

pub returns-clause-valid : goal.returns-clause-valid
returns-clause-valid c =
    read_valid IsTypeSpec IsValidTypeSpec c.args.blob.now c.whole.result (λ t g. type_valid 1000 Plain c.args.blob.now t g)
    (answers_found IsTypeSpec (type_at 999 Plain) (reads-spec Plain) (λ x. (x.0, x.1.now)) c.args.blob.now S1 c.args.place c.type_of-read.result c.whole.result c.type_of-read.ensures c.whole.ensures)

pub returns-clause-read : goal.returns-clause-read
returns-clause-read c = answers_read (type_at 999 Plain) (λ x. (x.0, x.1.now)) c.args.blob.now S1 c.args.place c.type_of-read.result c.whole.result c.type_of-read.ensures c.whole.ensures
