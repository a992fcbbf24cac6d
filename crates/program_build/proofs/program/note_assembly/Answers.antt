use Rattle.std.proofs.Common.{◌≡◌, ◌∙◌, ap, sym}
use Rattle.cli_heaps.specs.Root.{Metadata}
use Rattle.set_types.specs.CodedTypes.{coded_of}
use Rattle.row_descriptions.specs.TokenTables.{all_noted}
use Rattle.program_build.proofs.CutLaws.{meta_is}
use Rattle.program_build.proofs.TokenLaws.{on_ok, tokens_are}
use Rattle.program_build.proofs.program.note_assembly.Goals as goal

pub note_tokens-requires : goal.note_tokens-requires
note_tokens-requires c =
    ap (λ (m : Metadata). m.bytes) c.heaps-heaps.ensures ∙ meta_is c.args.assembly.now c.rows_at.result.now (c.rows_at.ensures ∙ sym c.requires.is)

pub returns : goal.returns
returns c =
    let number : c.heaps-heaps.result.now.assembly ≡ c.args.a = ap (λ (m : Metadata). m.assembly) c.heaps-heaps.ensures ∙ c.requires.number in
    on_ok c.note_tokens.result
    (λ e. e ∙ ap (all_noted c.args.tokens.now) (tokens_are c.args.tables.now c.args.a c.heaps-heaps.result.now.assembly c.args.known.now.members (coded_of c.coded-coded.result.now) c.rows_at.result.now
    c.coded-coded.ensures c.rows_at.ensures number c.requires.known.members (c.facts_give_tokens.ensures c.args.tables.now c.args.a c.args.known.now.members)))
    c.note_tokens.ensures
