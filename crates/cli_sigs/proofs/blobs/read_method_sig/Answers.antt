use Rattle.cil_base.specs.declared.rule.Rule.TheVariants.{S1}
use Rattle.cli_sigs.specs.declared.elements.MethodKind.TheVariants.{Method}
use Rattle.cli_sigs.specs.Grammar.{IsType, IsMethodSig}
use Rattle.cli_sigs.specs.Valid.{IsValidType, IsValidMethodSig}
use Rattle.cli_sigs.specs.Reading.{type_at, method_at}
use Rattle.cli_sigs.proofs.KindLaws.{reads-methods}
use Rattle.cli_sigs.proofs.ValidLaws.{read_valid, method_valid, type_valid}
use Rattle.cli_sigs.proofs.BlobLaws.{reads_within, answers_found, answers_only, answers_refused, answers_read}
use Rattle.cli_sigs.proofs.blobs.read_method_sig.Goals as goal

pub whole-requires-clause-within : goal.whole-requires-clause-within
whole-requires-clause-within c = reads_within IsMethodSig (method_at Method (type_at 999)) (reads-methods Method) (λ x. (x.0, x.1.now)) c.args.blob.now c.method_of-read.result c.method_of-read.ensures

pub returns-clause-found : goal.returns-clause-found
returns-clause-found c = answers_found IsMethodSig (method_at Method (type_at 999)) (reads-methods Method) (λ x. (x.0, x.1.now)) c.args.blob.now S1 c.args.place c.method_of-read.result c.whole.result c.method_of-read.ensures c.whole.ensures

pub returns-clause-only : goal.returns-clause-only
returns-clause-only c = answers_only IsMethodSig (method_at Method (type_at 999)) (reads-methods Method) (λ x. (x.0, x.1.now)) c.args.blob.now S1 c.args.place c.method_of-read.result c.whole.result c.method_of-read.ensures c.whole.ensures

pub returns-clause-refused : goal.returns-clause-refused
returns-clause-refused c = answers_refused IsMethodSig (method_at Method (type_at 999)) (reads-methods Method) (λ x. (x.0, x.1.now)) c.args.blob.now S1 c.args.place c.method_of-read.result c.whole.result c.method_of-read.ensures c.whole.ensures

pub returns-clause-valid : goal.returns-clause-valid
returns-clause-valid c =
    read_valid IsMethodSig IsValidMethodSig c.args.blob.now c.whole.result (λ sig g. method_valid (IsType 1000) (IsValidType 1000) (type_valid 1000) Method c.args.blob.now sig g)
    (answers_found IsMethodSig (method_at Method (type_at 999)) (reads-methods Method) (λ x. (x.0, x.1.now)) c.args.blob.now S1 c.args.place c.method_of-read.result c.whole.result c.method_of-read.ensures c.whole.ensures)

pub returns-clause-read : goal.returns-clause-read
returns-clause-read c = answers_read (method_at Method (type_at 999)) (λ x. (x.0, x.1.now)) c.args.blob.now S1 c.args.place c.method_of-read.result c.whole.result c.method_of-read.ensures c.whole.ensures
