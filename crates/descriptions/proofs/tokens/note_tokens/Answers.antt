use Rattle.std.proofs.Common.{◌∙◌, ap, ℕ, List, [], ◌∷◌, ◌++◌}
use Rattle.std.specs.Prelude.{flat_map}
use Rattle.cil_base.specs.declared.tables.TheConstants.{FIELD, MEMBER_REF, METHOD_DEF, METHOD_SPEC, STAND_ALONE_SIG, TYPE_DEF, TYPE_REF, TYPE_SPEC}
use Rattle.cil_model.specs.declared.program.TokenRow.{TokenRow}
use Rattle.cli_heaps.specs.Root.{user_strings}
use Rattle.set_types.specs.CodedTypes.{coded_of}
use Rattle.row_descriptions.specs.TokenTables.{all_noted}
use Rattle.row_descriptions.specs.UserTexts.{user_texts}
use Rattle.descriptions.specs.Programs.{token_tables}
use Rattle.descriptions.specs.TokenFacts.{table_tokens_by}
use Rattle.descriptions.proofs.NotedLaws.{noted_table, on_ok}
use Rattle.descriptions.proofs.tokens.note_tokens.Goals as goal

pub returns : goal.returns
returns c =
    let g : ℕ → ℕ → List TokenRow = table_tokens_by c.args.rows.now (coded_of c.args.coded.now) c.args.facts.now in
    let a : ℕ = c.assembly-assembly.result in
    let texts : List TokenRow = user_texts c.args.heaps.now.assembly (user_strings c.args.heaps.now.bytes) in
    let start : List TokenRow = c.args.tokens.now in
    on_ok c.note_texts.result
    (λ e.
    e
    ∙ noted_table (g a) METHOD_SPEC [] texts c.note_table-7.new.tokens c.note_table-8.new.tokens c.in_ok-note_table-8.ensures
    ∙ noted_table (g a) TYPE_SPEC (METHOD_SPEC ∷ []) texts c.note_table-6.new.tokens c.note_table-7.new.tokens c.in_ok-note_table-7.ensures
    ∙ noted_table (g a) STAND_ALONE_SIG (TYPE_SPEC ∷ METHOD_SPEC ∷ []) texts c.note_table-5.new.tokens c.note_table-6.new.tokens c.in_ok-note_table-6.ensures
    ∙ noted_table (g a) MEMBER_REF (STAND_ALONE_SIG ∷ TYPE_SPEC ∷ METHOD_SPEC ∷ []) texts c.note_table-4.new.tokens c.note_table-5.new.tokens c.in_ok-note_table-5.ensures
    ∙ noted_table (g a) METHOD_DEF (MEMBER_REF ∷ STAND_ALONE_SIG ∷ TYPE_SPEC ∷ METHOD_SPEC ∷ []) texts c.note_table-3.new.tokens c.note_table-4.new.tokens c.in_ok-note_table-4.ensures
    ∙ noted_table (g a) FIELD (METHOD_DEF ∷ MEMBER_REF ∷ STAND_ALONE_SIG ∷ TYPE_SPEC ∷ METHOD_SPEC ∷ []) texts c.note_table-2.new.tokens c.note_table-3.new.tokens c.in_ok-note_table-3.ensures
    ∙ noted_table (g a) TYPE_DEF (FIELD ∷ METHOD_DEF ∷ MEMBER_REF ∷ STAND_ALONE_SIG ∷ TYPE_SPEC ∷ METHOD_SPEC ∷ []) texts c.note_table.new.tokens c.note_table-2.new.tokens c.in_ok-note_table-2.ensures
    ∙ noted_table (g a) TYPE_REF (TYPE_DEF ∷ FIELD ∷ METHOD_DEF ∷ MEMBER_REF ∷ STAND_ALONE_SIG ∷ TYPE_SPEC ∷ METHOD_SPEC ∷ []) texts start c.note_table.new.tokens c.in_ok-note_table.ensures
    ∙ ap (λ (n : ℕ). all_noted start (flat_map (g n) token_tables ++ texts)) c.assembly-assembly.ensures
    ∙ ap (λ (meta : List ℕ). all_noted start (flat_map (g c.args.heaps.now.assembly) token_tables ++ user_texts c.args.heaps.now.assembly (user_strings meta))) c.requires)
    c.note_texts.ensures
