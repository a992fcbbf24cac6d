use Rattle.std.proofs.Common.{sym, ap, ◌∙◌, List, ℕ, Bor}
use Rattle.std.specs.Prelude.{slice_get}
use Rattle.std.specs.Option.{option_map}
use Rattle.std.proofs.lemmas.Option.{slice_get-map}
use Rattle.il_opcodes.specs.Opcodes.{the_mnemonics, mnemonic_of}
use Rattle.il_opcodes.proofs.find.find_mnemonic.Goals as goal

text : Bor (List ℕ) → List ℕ
text s = s.now

pub returns : goal.returns
unfolding mnemonic_of text
returns c =
    ap (option_map text) c.copy_text.ensures
    ∙ sym (slice_get-map text c.mnemonics.result.now c.find_index.result)
    ∙ ap (λ (l : List (List ℕ)). slice_get l c.find_index.result) c.mnemonics.ensures
    ∙ ap (slice_get the_mnemonics) c.find_index.ensures
