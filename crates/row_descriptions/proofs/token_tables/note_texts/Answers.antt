use Rattle.std.proofs.Common.{◌≡◌, ◌∙◌, sym, ap, arith, ℕ, suc, ◌+◌, ◌-◌, ◌≤◌, ◌<◌, List, length}
use Rattle.std.specs.Prelude.{Option, None, Some}
use Rattle.std.specs.Option.{option_copied}
use Rattle.cil_base.specs.Packed.{packed_at}
use Rattle.cli_heaps.specs.Root.{user_strings}
use Rattle.cli_heaps.specs.Entries.{blob_at}
use Rattle.cil_model.specs.declared.program.TokenRow.{TokenRow}
use Rattle.row_descriptions.specs.TokenTables.{all_noted}
use Rattle.row_descriptions.specs.UserTexts.{text_row, texts_from}
use Rattle.row_descriptions.proofs.TokenLaws.{no_texts, texts_end, texts_on}
use Rattle.row_descriptions.proofs.token_tables.note_texts.Goals as goal

pub returns-then-at-end : goal.returns-then-at-end
returns-then-at-end c =
    let a : ℕ = c.args.heaps.now.assembly in
    let heap : List ℕ = user_strings c.args.heaps.now.bytes in
    let past : length heap ≤ c.loop-k.at = omega (arith, c.if-at-end.true, c.lengths-end.ensures.user_strings) in
    sym (ap (all_noted c.loop-k.tokens) (no_texts a heap (c.lengths-end.result.2 - c.loop-k._k) c.loop-k.at past c.loop-k.invariant.from)) ∙ c.loop-k.invariant.texts

pub returns-in_default : goal.returns-in_default
returns-in_default c =
    let a : ℕ = c.args.heaps.now.assembly in
    let heap : List ℕ = user_strings c.args.heaps.now.bytes in
    let n : ℕ = c.lengths-end.result.2 - (c.loop-k._k + 1) in
    let count : suc n ≡ c.lengths-end.result.2 - c.loop-k._k = omega (arith, c.loop-k-test.true) in
    let noted : c.note_text.new.tokens ≡ all_noted c.loop-k.tokens (text_row a c.loop-k.at (blob_at heap c.loop-k.at)) =
    c.in_ok-note_text.ensures
    ∙ ap (λ (o : Option (List ℕ)). all_noted c.loop-k.tokens (text_row c.assembly.result c.loop-k.at o)) c.user.ensures
    ∙ ap (λ (j : ℕ). all_noted c.loop-k.tokens (text_row j c.loop-k.at (blob_at heap c.loop-k.at))) c.assembly.ensures in
    let none : packed_at heap c.loop-k.at ≡ None = ap (λ (h : List ℕ). packed_at h c.loop-k.at) (sym c.user_strings.ensures) ∙ sym c.in_default.ensures in
    sym (texts_end a heap n c.loop-k.at c.loop-k.tokens c.note_text.new.tokens noted none)
    ∙ ap (λ (j : ℕ). all_noted c.loop-k.tokens (texts_from a heap j c.loop-k.at)) count
    ∙ c.loop-k.invariant.texts

pub loop-k-preserved : goal.loop-k-preserved
loop-k-preserved c =
    let a : ℕ = c.args.heaps.now.assembly in
    let heap : List ℕ = user_strings c.args.heaps.now.bytes in
    let n : ℕ = c.lengths-end.result.2 - (c.loop-k._k + 1) in
    let count : suc n ≡ c.lengths-end.result.2 - c.loop-k._k = omega (arith, c.loop-k-test.true) in
    let noted : c.note_text.new.tokens ≡ all_noted c.loop-k.tokens (text_row a c.loop-k.at (blob_at heap c.loop-k.at)) =
    c.in_ok-note_text.ensures
    ∙ ap (λ (o : Option (List ℕ)). all_noted c.loop-k.tokens (text_row c.assembly.result c.loop-k.at o)) c.user.ensures
    ∙ ap (λ (j : ℕ). all_noted c.loop-k.tokens (text_row j c.loop-k.at (blob_at heap c.loop-k.at))) c.assembly.ensures in
    let some : packed_at heap c.loop-k.at ≡ Some (c.in-Some.length, c.in-Some.width) = ap (λ (h : List ℕ). packed_at h c.loop-k.at) (sym c.user_strings.ensures) ∙ sym c.in-Some.ensures in
    record {
      from = omega (arith, c.loop-k.invariant.from);
      texts =
          sym (texts_on a heap n c.loop-k.at c.loop-k.tokens c.note_text.new.tokens noted c.in-Some.length c.in-Some.width some)
          ∙ ap (λ (j : ℕ). all_noted c.loop-k.tokens (texts_from a heap j c.loop-k.at)) count
          ∙ c.loop-k.invariant.texts;
    }

pub returns : goal.returns
unfolding texts_from
returns c =
    let a : ℕ = c.args.heaps.now.assembly in
    let heap : List ℕ = user_strings c.args.heaps.now.bytes in
    let none : c.lengths-end.result.2 - c.loop-k._k ≡ 0 = omega (arith, c.loop-k-test.false) in
    sym (ap (λ (j : ℕ). all_noted c.loop-k.tokens (texts_from a heap j c.loop-k.at)) none) ∙ c.loop-k.invariant.texts
