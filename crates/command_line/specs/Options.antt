-- The options of commands: pairs of a name and a value that stand before the positional words.
use Rattle.std.specs.Prelude.{ℕ, ◌+◌, ◌-◌, Bool, true, false, not, ◌==◌, ◌&&◌, ◌||◌, nat_le, if◌then◌else◌, List, [], ◌∷◌, ◌++◌, length, map, Option, Some, None, is_some, String, string_bytes, codes}
use Rattle.std.specs.Option.{option_or}
use Rattle.std.specs.Str.{bytes_eq, all_ascii_digits}
use Rattle.std.specs.Str.Parse.{digits_value}
use Rattle.std.specs.declared.alloc.Global.{Global}
use Rattle.command_line.specs.declared.options.OptionName.{OptionName}
use Rattle.command_line.specs.declared.options.OptionName.TheVariants.{Level, Guard, Out}

abbrev pub texts : List (String Global) → List (List ℕ)
texts words = map string_bytes words

abbrev pub is_dashed : List ℕ → Bool
is_dashed [] = false
is_dashed (c ∷ cs) = c == 45

-- two dashes come first
abbrev pub is_option : List ℕ → Bool
is_option [] = false
is_option (c ∷ cs) = (c == 45) && is_dashed cs

-- ---- numbers

-- no sign stands first, and no zero before further digits
abbrev pub begins_plain : List ℕ → Bool
begins_plain [] = false
begins_plain (c ∷ []) = not (c == 43)
begins_plain (c ∷ d ∷ cs) = not (c == 43) && not (c == 48)

abbrev pub is_number : ℕ → List ℕ → Bool
is_number max text = begins_plain text && all_ascii_digits text && nat_le (digits_value 10 text) max

-- the number that is written in decimal, where it is at most max
abbrev pub number_of : ℕ → List ℕ → Option ℕ
number_of max text = if is_number max text then Some (digits_value 10 text) else None

-- ---- one option

abbrev pub option_text : OptionName → List ℕ
option_text Level = codes "--level"
option_text Guard = codes "--guard"
option_text Out = codes "--out"

abbrev pub is_required : OptionName → Bool
is_required Level = false
is_required Guard = false
is_required Out = true

-- the values that it may have
abbrev pub takes : OptionName → List ℕ → Bool
takes Level value = is_some (number_of 4 value)
takes Guard value = is_some (number_of 100 value)
takes Out value = not (is_dashed value)

-- ---- the words behind a command

-- the value of the option of that name
abbrev pub value_of : List ℕ → List (List ℕ) → Option (List ℕ)
value_of name [] = None
value_of name (w ∷ []) = None
value_of name (w ∷ v ∷ ws) = if is_option w then (if bytes_eq w name then Some v else value_of name ws) else None

-- what stands behind the options
abbrev pub positionals : List (List ℕ) → List (List ℕ)
positionals [] = []
positionals (w ∷ []) = w ∷ []
positionals (w ∷ v ∷ ws) = if is_option w then positionals ws else w ∷ v ∷ ws

-- the option of these that the word names
abbrev pub named : List OptionName → List ℕ → Option OptionName
named [] word = None
named (o ∷ os) word = if bytes_eq (option_text o) word then Some o else named os word

-- the option of these that the word names, where it doesn't stand before
abbrev pub unless_there : Option (List ℕ) → Option OptionName → Option OptionName
unless_there None option = option
unless_there (Some value) option = None

abbrev pub allowed : List OptionName → List (List ℕ) → List ℕ → Option OptionName
allowed options before word = unless_there (value_of word before) (named options word)

-- the place of what is wrong with an option: the word that names it, or its value behind it
abbrev pub wrong_pair : Option OptionName → List ℕ → ℕ → Option ℕ
wrong_pair None value place = Some place
wrong_pair (Some option) value place = if takes option value then None else Some (place + 1)

-- the place of what is wrong with a last word that names an option, since its value is missing
abbrev pub wrong_last : Option OptionName → ℕ → ℕ
wrong_last None place = place
wrong_last (Some option) place = place + 1

-- the first wrong word of the options that begin at the place, behind those before
abbrev pub wrong_option : List OptionName → List (List ℕ) → ℕ → List (List ℕ) → Option ℕ
wrong_option options before place [] = None
wrong_option options before place (w ∷ []) = if is_option w then Some (wrong_last (allowed options before w) place) else None
wrong_option options before place (w ∷ v ∷ ws) =
    if is_option w then option_or (wrong_pair (allowed options before w) v place) (wrong_option options (before ++ (w ∷ v ∷ [])) (place + 2) ws) else None

-- the first wrong word of the positionals that begin at the place and are to be so many, or at least so many: one that begins with
-- a dash, one too many, or the place behind them where one is missing
abbrev pub wrong_positional : Bool → ℕ → ℕ → List (List ℕ) → Option ℕ
wrong_positional at_least count place [] = if count == 0 then None else Some place
wrong_positional at_least count place (w ∷ ws) =
    if ((count == 0) && not at_least) || is_dashed w then Some place else wrong_positional at_least (count - 1) (place + 1) ws

-- the option is there, or needn't be
abbrev pub is_given : List (List ℕ) → OptionName → Bool
is_given words option = not (is_required option) || is_some (value_of (option_text option) words)

abbrev pub are_given : List (List ℕ) → List OptionName → Bool
are_given words [] = true
are_given words (o ∷ os) = is_given words o && are_given words os

-- the first wrong word behind the command, or the number of words where one is missing
abbrev pub wrong_behind : List OptionName → Bool → ℕ → List (List ℕ) → Option ℕ
wrong_behind options at_least count words =
    option_or (wrong_option options [] 1 words)
    (option_or (wrong_positional at_least count (1 + (length words - length (positionals words))) (positionals words))
    (if are_given words options then None else Some (1 + length words)))
