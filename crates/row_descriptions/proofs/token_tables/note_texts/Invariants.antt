use Rattle.std.proofs.Common.{◌≡◌, ◌≤◌, ◌-◌}
use Rattle.cli_heaps.specs.Root.{user_strings}
use Rattle.row_descriptions.specs.TokenTables.{all_noted}
use Rattle.row_descriptions.specs.UserTexts.{texts_from, user_texts}
use Rattle.row_descriptions.proofs.token_tables.note_texts.Given as goal

-- what is left of the texts
abbrev pub invariant-loop-k : goal.invariant-loop-k
invariant-loop-k l = record {
  from : 1 ≤ l.at;
  texts : all_noted l.tokens (texts_from l.heaps.assembly (user_strings l.heaps.bytes) (l.end - l._k) l.at) ≡ all_noted l.initial.tokens (user_texts l.heaps.assembly (user_strings l.heaps.bytes));
}
