-- Which words are a command's.
use Rattle.std.specs.Prelude.{◌≡◌, ◌<◌, ℕ, true, false, length, if◌then◌else◌, List, [], ◌∷◌, Option, Some, None, codes}
use Rattle.std.specs.Str.{bytes_eq}
use Rattle.std.specs.Option.{unwrap_or}
use Rattle.cil_model.specs.declared.contract.Level.{Level}
use Rattle.cil_model.specs.declared.contract.Level.TheVariants.{NoChecks, ReleaseRequires, Preconditions, PreAndPost, Full}
use Rattle.cil_model.specs.declared.contract.Settings.{Settings}
use Rattle.command_line.specs.declared.options.OptionName.{OptionName}
use Rattle.command_line.specs.declared.options.OptionName.TheVariants as option
use Rattle.command_line.specs.declared.words.Command.{Command}
use Rattle.command_line.specs.declared.words.Command.TheVariants as commands
use Rattle.command_line.specs.Options.{number_of, value_of, positionals, wrong_behind}

abbrev pub rewrite_options : List OptionName
rewrite_options = option.Level ∷ option.Guard ∷ option.Out ∷ []

-- the first wrong word by its place, or the number of words where one is missing
abbrev pub wrong_word : List (List ℕ) → Option ℕ
wrong_word [] = Some 0
wrong_word (c ∷ words) =
    if bytes_eq c (codes "body") then wrong_behind [] false 2 words
    else if bytes_eq c (codes "rewrite") then wrong_behind rewrite_options true 1 words
    else if bytes_eq c (codes "list") then wrong_behind [] true 1 words
    else Some 0

-- the words of a rewriting of one body
pub record IsBodyCommand (words inputs : List (List ℕ)) (output : List ℕ) : Type 0 where
  pub right : wrong_word words ≡ None
  pub input : List ℕ
  pub inputs_are : inputs ≡ input ∷ []
  pub is : words ≡ codes "body" ∷ input ∷ output ∷ []

-- ---- the rewriting of an assembly

abbrev pub level_number : Level → ℕ
level_number NoChecks = 0
level_number ReleaseRequires = 1
level_number Preconditions = 2
level_number PreAndPost = 3
level_number Full = 4

-- the number that an option's value writes, or the default where the option isn't there
abbrev pub number_or : ℕ → ℕ → Option (List ℕ) → ℕ
number_or max default None = default
number_or max default (Some text) = unwrap_or (number_of max text) default

-- the settings that the words behind the command tell
pub record AreSettings (words : List (List ℕ)) (settings : Settings) : Type 0 where
  pub level_is : level_number settings.level ≡ number_or 4 4 (value_of (codes "--level") words)
  pub guard_is : settings.guard ≡ number_or 100 4 (value_of (codes "--guard") words)
  pub throwing_is : settings.throwing ≡ true
  pub surface_is : settings.surface ≡ false
  pub callsite_is : settings.callsite ≡ false

-- TARGET comes first, and REFs behind it.
pub record IsRewriteCommand (words : List (List ℕ)) (settings : Settings) (output : List ℕ) (inputs : List (List ℕ)) : Type 0 where
  pub right : wrong_word words ≡ None
  pub behind : List (List ℕ)
  pub is : words ≡ codes "rewrite" ∷ behind
  pub settings_are : AreSettings behind settings
  pub out_is : value_of (codes "--out") behind ≡ Some output
  pub inputs_are : positionals behind ≡ inputs
  pub target : 0 < length inputs

-- ---- the list of an assembly

-- TARGET comes first, and REFs behind it; there are no options.
pub record IsListCommand (words inputs : List (List ℕ)) : Type 0 where
  pub right : wrong_word words ≡ None
  pub is : words ≡ codes "list" ∷ inputs
  pub target : 0 < length inputs

-- ---- all

-- The words are those of this command, which reads these files and writes that one, or none.
abbrev pub IsCommand : List (List ℕ) → Command → List (List ℕ) → Option (List ℕ) → Type 0
IsCommand words commands.Body inputs None = ⊥
IsCommand words commands.Body inputs (Some output) = IsBodyCommand words inputs output
IsCommand words (commands.Rewrite settings) inputs None = ⊥
IsCommand words (commands.Rewrite settings) inputs (Some output) = IsRewriteCommand words settings output inputs
IsCommand words commands.List inputs None = IsListCommand words inputs
IsCommand words commands.List inputs (Some output) = ⊥
