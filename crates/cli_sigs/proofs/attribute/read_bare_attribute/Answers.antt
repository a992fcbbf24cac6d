use Rattle.cil_base.specs.declared.rule.Rule.TheVariants.{S2}
use Rattle.cli_sigs.specs.Attributes.{IsBareAttribute}
use Rattle.cli_sigs.specs.Reading.{bare_attribute}
use Rattle.cli_sigs.proofs.AttributeLaws.{reads-bare}
use Rattle.cli_sigs.proofs.BlobLaws.{reads_within, answers_found, answers_only, answers_refused, answers_read}
use Rattle.cli_sigs.proofs.attribute.read_bare_attribute.Goals as goal

pub whole-requires-clause-within : goal.whole-requires-clause-within
whole-requires-clause-within c = reads_within IsBareAttribute bare_attribute reads-bare (λ x. (x.0, x.1.now)) c.args.blob.now c.bare_attribute_of-read.result c.bare_attribute_of-read.ensures

pub returns-clause-found : goal.returns-clause-found
returns-clause-found c = answers_found IsBareAttribute bare_attribute reads-bare (λ x. (x.0, x.1.now)) c.args.blob.now S2 c.args.place c.bare_attribute_of-read.result c.whole.result c.bare_attribute_of-read.ensures c.whole.ensures

pub returns-clause-only : goal.returns-clause-only
returns-clause-only c = answers_only IsBareAttribute bare_attribute reads-bare (λ x. (x.0, x.1.now)) c.args.blob.now S2 c.args.place c.bare_attribute_of-read.result c.whole.result c.bare_attribute_of-read.ensures c.whole.ensures

pub returns-clause-refused : goal.returns-clause-refused
returns-clause-refused c = answers_refused IsBareAttribute bare_attribute reads-bare (λ x. (x.0, x.1.now)) c.args.blob.now S2 c.args.place c.bare_attribute_of-read.result c.whole.result c.bare_attribute_of-read.ensures c.whole.ensures

pub returns-clause-read : goal.returns-clause-read
returns-clause-read c = answers_read bare_attribute (λ x. (x.0, x.1.now)) c.args.blob.now S2 c.args.place c.bare_attribute_of-read.result c.whole.result c.bare_attribute_of-read.ensures c.whole.ensures
