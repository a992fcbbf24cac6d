-- What is answered where the words of a process can't be had.
use Rattle.std.specs.Prelude.{ℕ, List, codes}
use Rattle.command_line.specs.Text.{memory_text}
use Rattle.program.specs.declared.process.WordsFault.{WordsFault}
use Rattle.program.specs.declared.process.WordsFault.TheVariants.{NoText, Memory}

abbrev pub fault_status : WordsFault → ℕ
fault_status NoText = 2
fault_status Memory = 5

-- The first word is wrong, or memory has run out.
abbrev pub fault_text : WordsFault → List ℕ
fault_text NoText = codes "words: 0\n"
fault_text Memory = memory_text
