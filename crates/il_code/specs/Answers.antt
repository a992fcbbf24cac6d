-- What a reader answers, and what it is given.
use Rattle.std.specs.Prelude.{◌≡◌, ℕ, ◌<◌, List, length, get_or, Result, Ok, Err}
use Rattle.cil_base.specs.declared.rule.Rule.{Rule}
use Rattle.cil_model.specs.BodyCode.{Reader, instr_at}
use Rattle.cil_model.specs.SmallBody.{small_at}
use Rattle.il_code.specs.declared.code.Form.{Form}
use Rattle.il_code.specs.declared.code.Form.TheVariants.{Any, Small}
use Rattle.il_code.specs.declared.instr.ReadFault.{ReadFault}
use Rattle.il_code.specs.declared.instr.ReadFault.TheVariants.{Broken, Memory}

-- The call answers what is read, unless it has no memory.
abbrev pub Gives : {T : Type 0} → Result T ReadFault → Result T Rule → Type 0
Gives (Ok x) read = read ≡ Ok x
Gives (Err (Broken rule)) read = read ≡ Err rule
Gives (Err (Memory e)) read = Unit {0}

-- what reads an instruction of a form in the assembly a
abbrev pub reader_of : Form → ℕ → Reader
reader_of Any a = instr_at a
reader_of Small a = small_at a

-- each number is greater than those before it
abbrev pub Rise : List ℕ → Type 0
Rise xs = (i j : ℕ) → i < j → j < length xs → get_or xs i 0 < get_or xs j 0
