-- What the program answers, and when.
use Rattle.std.specs.Prelude.{◌≡◌, ◌≢◌, ◌⊎◌, ℕ, ◌≤◌, Bool, List, [], ◌++◌, length, take, Option, Some, None, IsTrue}
use Rattle.cil_base.specs.Causes.{Rose}
use Rattle.cil_base.specs.declared.refusal.Refusal.{Refusal}
use Rattle.outside_core.specs.Store.{Files, SameFiles}
use Rattle.command_line.specs.Text.{done_text, rewrite_text, refusal_text, words_text, store_text, memory_text}
use Rattle.command_line.specs.declared.words.Command.{Command}
use Rattle.command_line.specs.declared.words.Command.TheVariants as commands
use Rattle.command_line.specs.Words.{wrong_word, IsCommand}
use Rattle.body_splice.specs.Rewrite.{IsRewriting}
use Rattle.assembly_rewrite.specs.Rewrite.{KeepsRows}
use Rattle.set_check.specs.Sets.{bytes_at}
use Rattle.set_list.specs.Lists.{IsListed}
use Rattle.program.specs.Layers.{IsInnerRefusal, KeepsInnerRules, IsInnerEither}
use Rattle.program.specs.Reading.{Reading, Whole, Missing, Passes, reading, IsNamed}

-- ---- what a command makes of its files

-- The new bytes are what the command makes of the old ones, and the text says so. A list is a text alone.
abbrev pub IsMade : Command → List (List ℕ) → List ℕ → List ℕ → Type 0
IsMade commands.Body set new text = (clauses : ℕ) × IsRewriting (bytes_at set 0) new clauses × (text ≡ done_text clauses)
IsMade (commands.Rewrite settings) set new text = KeepsRows (bytes_at set 0) 0 new × (text ≡ rewrite_text (length set) 0 0)
IsMade commands.List set new text = (new ≡ []) × IsListed set text

-- The files are refused by this: a limit that they pass, or else the first broken rule.
abbrev pub IsRefusal : Command → Reading → Refusal → Type 0
IsRefusal command (Whole set) r = IsInnerRefusal command set r
IsRefusal command (Missing name) r = ⊥
IsRefusal command (Passes limit) r = r ≡ limit

-- Either of the two may be named.
abbrev pub IsEither : Command → Reading → Refusal → Refusal → Type 0
IsEither command (Whole set) r s = IsInnerEither command set r s
IsEither command (Missing name) r s = ⊥
IsEither command (Passes limit) r s = ⊥

-- ---- the statuses of a command

-- The bytes stand under the name, and the other names hold what they held.
pub record PutsFile (old new : Files) (output bytes : List ℕ) : Type 0 where
  pub there : new output ≡ Some bytes
  pub others : (name : List ℕ) → name ≢ output → new name ≡ old name

-- What becomes of the files: the bytes are put under the output's name; where there is none, all stay.
abbrev pub Leaves : Files → Files → Option (List ℕ) → List ℕ → Type 0
Leaves old new None bytes = SameFiles old new
Leaves old new (Some output) bytes = PutsFile old new output bytes

-- The output, if there is one, holds what the command makes of what the inputs held, and the other names what they held.
pub record IsDone (command : Command) (old new : Files) (text : List ℕ) (inputs : List (List ℕ)) (output : Option (List ℕ)) : Type 0 where
  pub set : List (List ℕ)
  pub to : List ℕ
  pub in_files : reading old inputs ≡ Whole set
  pub out_file : Leaves old new output to
  pub made : IsMade command set to text
  pub accepted : KeepsInnerRules command set

-- The inputs break a rule, and this is the refusal, the only one but for a second limit.
pub record IsRefused (command : Command) (old : Files) (text : List ℕ) (inputs : List (List ℕ)) : Type 0 where
  pub refusal : Refusal
  pub breaks : IsRefusal command (reading old inputs) refusal
  pub only : (other : Refusal) → IsRefusal command (reading old inputs) other → (other ≡ refusal) ⊎ IsEither command (reading old inputs) other refusal
  pub prints : text ≡ refusal_text refusal

-- A file of the words can't be read or written: the count rose, or an input is missing, and those before it are there and pass no limit.
pub record StoreFailed (tells : Bool) (old : Files) (before now : ℕ) (text : List ℕ) (inputs : List (List ℕ)) (output : Option (List ℕ)) : Type 0 where
  pub name : List ℕ
  pub named : IsNamed inputs name ⊎ (output ≡ Some name)
  pub cause : Rose before now ⊎ (IsTrue tells × (reading old inputs ≡ Missing name))
  pub prints : text ≡ store_text name

-- What becomes of the bytes of files that were read: of the output, by the status.
pub record FromBytes (command : Command) (tells : Bool) (old new : Files) (before now : ℕ) (set : List (List ℕ)) (output : Option (List ℕ)) (status : ℕ) (text : List ℕ) : Type 0 where
  pub done : status ≡ 0 → (now ≡ before) × KeepsInnerRules command set × ((to : List ℕ) × IsMade command set to text × (IsTrue tells → Leaves old new output to))
  pub refused : status ≡ 1 → (now ≡ before) × ((r : Refusal) × IsInnerRefusal command set r × (text ≡ refusal_text r))
  pub failed : status ≡ 3 → Rose before now × ((name : List ℕ) × (output ≡ Some name) × (text ≡ store_text name))
  pub memory : status ≡ 5 → text ≡ memory_text
  pub kept : status ≢ 0 → IsTrue tells → SameFiles old new
  pub only : (status ≡ 0) ⊎ (status ≡ 1) ⊎ (status ≡ 3) ⊎ (status ≡ 5)

-- What a command does with its files, by its status: the files and the count of faults before and after, and the text.
pub record FileAnswer (command : Command) (tells : Bool) (old new : Files) (before now : ℕ) (inputs : List (List ℕ)) (output : Option (List ℕ)) (status : ℕ) (text : List ℕ) : Type 0 where
  pub done : status ≡ 0 → (now ≡ before) × (IsTrue tells → IsDone command old new text inputs output)
  pub refused : status ≡ 1 → (now ≡ before) × (IsTrue tells → IsRefused command old text inputs)
  pub failed : status ≡ 3 → StoreFailed tells old before now text inputs output
  pub memory : status ≡ 5 → text ≡ memory_text
  pub kept : status ≢ 0 → IsTrue tells → SameFiles old new
  pub only : (status ≡ 0) ⊎ (status ≡ 1) ⊎ (status ≡ 3) ⊎ (status ≡ 5)

-- Wrong words: nothing is asked of the store.
pub record WrongAnswer (old new : Files) (before now : ℕ) (place status : ℕ) (text : List ℕ) : Type 0 where
  pub wrong : status ≡ 2 → text ≡ words_text place
  pub memory : status ≡ 5 → text ≡ memory_text
  pub kept : SameFiles old new
  pub count : now ≡ before
  pub only : (status ≡ 2) ⊎ (status ≡ 5)

-- What the program does with these words.
abbrev pub Answer : Bool → Files → Files → ℕ → ℕ → List (List ℕ) → ℕ → List ℕ → Type 0
Answer tells old new before now words status text =
    ((place : ℕ) × (wrong_word words ≡ Some place) × WrongAnswer old new before now place status text)
    ⊎ ((command : Command) × (inputs : List (List ℕ)) × (output : Option (List ℕ)) × IsCommand words command inputs output × FileAnswer command tells old new before now inputs output status text)

-- ---- completeness

-- Where no fault is counted, what the inputs hold tells the status, unless memory runs out.
abbrev pub Expected : Command → Reading → ℕ → Type 0
Expected command (Missing name) status = (status ≡ 3) ⊎ (status ≡ 5)
Expected command (Passes limit) status = (status ≡ 1) ⊎ (status ≡ 5)
Expected command (Whole set) status = ((status ≡ 0) × KeepsInnerRules command set) ⊎ ((status ≡ 1) × ((r : Refusal) × IsInnerRefusal command set r)) ⊎ (status ≡ 5)

-- ---- the text

abbrev pub HasRoom : Option ℕ → List ℕ → Type 0
HasRoom None text = ⊥
HasRoom (Some room) text = length text ≤ room

-- The sink is given the text: the status stands, or where the sink fails it is 4 and some of the first bytes were taken.
pub record Puts (tells : Bool) (old new : List ℕ) (before now : ℕ) (room : Option ℕ) (text : List ℕ) (status result : ℕ) : Type 0 where
  pub whole : result ≢ 4 → (result ≡ status) × (IsTrue tells → new ≡ old ++ text)
  pub cut : result ≡ 4 → Rose before now × (IsTrue tells → (k : ℕ) × (k ≤ length text) × (new ≡ old ++ take k text))
  pub roomy : HasRoom room text → result ≡ status
