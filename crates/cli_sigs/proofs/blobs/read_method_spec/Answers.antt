use Rattle.cil_base.specs.declared.rule.Rule.TheVariants.{S1}
use Rattle.cli_sigs.specs.declared.elements.Slot.TheVariants.{Plain}
use Rattle.cli_sigs.specs.Grammar.{IsType, IsMethodSpec}
use Rattle.cli_sigs.specs.Valid.{IsValidType, IsValidMethodSpec}
use Rattle.cli_sigs.specs.Reading.{list_at}
use Rattle.cli_sigs.proofs.KindLaws.{reads-list}
use Rattle.cli_sigs.proofs.ValidLaws.{read_valid, counted_valid, type_valid}
use Rattle.cli_sigs.proofs.BlobLaws.{reads_within, answers_found, answers_only, answers_refused, answers_read}
use Rattle.cli_sigs.proofs.blobs.read_method_spec.Goals as goal

pub whole-requires-clause-within : goal.whole-requires-clause-within
whole-requires-clause-within c = reads_within IsMethodSpec (list_at 10 999 Plain) (reads-list 10 Plain) (λ x. (x.0, x.1.now)) c.args.blob.now c.list_of-read.result c.list_of-read.ensures

pub returns-clause-found : goal.returns-clause-found
returns-clause-found c = answers_found IsMethodSpec (list_at 10 999 Plain) (reads-list 10 Plain) (λ x. (x.0, x.1.now)) c.args.blob.now S1 c.args.place c.list_of-read.result c.whole.result c.list_of-read.ensures c.whole.ensures

pub returns-clause-only : goal.returns-clause-only
returns-clause-only c = answers_only IsMethodSpec (list_at 10 999 Plain) (reads-list 10 Plain) (λ x. (x.0, x.1.now)) c.args.blob.now S1 c.args.place c.list_of-read.result c.whole.result c.list_of-read.ensures c.whole.ensures

pub returns-clause-refused : goal.returns-clause-refused
returns-clause-refused c = answers_refused IsMethodSpec (list_at 10 999 Plain) (reads-list 10 Plain) (λ x. (x.0, x.1.now)) c.args.blob.now S1 c.args.place c.list_of-read.result c.whole.result c.list_of-read.ensures c.whole.ensures

pub returns-clause-valid : goal.returns-clause-valid
returns-clause-valid c =
    read_valid IsMethodSpec IsValidMethodSpec c.args.blob.now c.whole.result (λ ts g. counted_valid (IsType 1000 Plain) (IsValidType 1000 Plain) (type_valid 1000 Plain) g.0 ts g.2)
    (answers_found IsMethodSpec (list_at 10 999 Plain) (reads-list 10 Plain) (λ x. (x.0, x.1.now)) c.args.blob.now S1 c.args.place c.list_of-read.result c.whole.result c.list_of-read.ensures c.whole.ensures)

pub returns-clause-read : goal.returns-clause-read
returns-clause-read c = answers_read (list_at 10 999 Plain) (λ x. (x.0, x.1.now)) c.args.blob.now S1 c.args.place c.list_of-read.result c.whole.result c.list_of-read.ensures c.whole.ensures
