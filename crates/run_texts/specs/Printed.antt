-- What a run's values, outside calls and end are printed as.
use Rattle.std.specs.Prelude.{◌≡◌, ℕ, ◌/◌, ◌%◌, Bool, true, ◌==◌, ◌||◌, ◌&&◌, not, nat_le, if◌then◌else◌, List, [], ◌∷◌, ◌++◌, codes, decimal, Some, None}
use Rattle.std.specs.Fmt.{digit_glyph, signed_decimal}
use Rattle.std.specs.List.{flat_map, join_by}
use Rattle.cil_model.specs.declared.value.Value.{Value, out-Value}
use Rattle.cil_model.specs.declared.value.Value.TheOpen.{Value-F}
use Rattle.cil_model.specs.declared.run.ReplyResult.{ReplyResult}
use Rattle.cil_model.specs.declared.run.ReplyResult.TheVariants.{Default, Void, Given, Throw}
use Rattle.cil_model.specs.declared.run.TraceItem.{TraceItem}
use Rattle.cil_model.specs.declared.run.Outcome.{Outcome}
use Rattle.cil_model.specs.declared.run.Outcome.TheVariants.{Return, Thrown, Stuck}

-- `new` is `old` with a first part of the text behind it
pub record Begun (old text new : List ℕ) : Type 0 where
  pub front : List ℕ
  pub rest : List ℕ
  pub text_is : text ≡ front ++ rest
  pub new_is : new ≡ old ++ front

-- an upper-case hexadecimal digit
abbrev pub hex : ℕ → ℕ
hex n = digit_glyph true n

abbrev pub is_printable : ℕ → Bool
is_printable unit = nat_le 0x20 unit && nat_le unit 0x7E

-- a unit between quotes: `"` and `\` get a `\`, what isn't printable is `\uXXXX`
abbrev pub unit_text : ℕ → List ℕ
unit_text unit =
    if unit == 34 || unit == 92 then 92 ∷ unit ∷ []
    else if is_printable unit then unit ∷ []
    else 92 ∷ 117 ∷ hex (unit / 4096) ∷ hex (unit / 256 % 16) ∷ hex (unit / 16 % 16) ∷ hex (unit % 16) ∷ []

-- a byte of a name: `\` and what isn't printable or is blank are `\xHH`
abbrev pub name_byte_text : ℕ → List ℕ
name_byte_text byte =
    if nat_le 0x21 byte && (nat_le byte 0x7E && not (byte == 92)) then byte ∷ []
    else 92 ∷ 120 ∷ hex (byte / 16) ∷ hex (byte % 16) ∷ []

abbrev pub name_text : List ℕ → List ℕ
name_text name = flat_map name_byte_text name

abbrev pub quoted : List ℕ → List ℕ
quoted units = codes "\"" ++ (flat_map unit_text units ++ codes "\"")

abbrev pub object_text : ℕ → List ℕ
object_text k = codes "#" ++ decimal k

abbrev pub text_at : Value-F Value → List ℕ
text_at (Value-F.I4 n) = signed_decimal n
text_at (Value-F.I8 n) = signed_decimal n ++ codes "L"
text_at (Value-F.Native n) = signed_decimal n ++ codes "n"
text_at Value-F.Null = codes "null"
text_at (Value-F.Obj k) = object_text k
text_at (Value-F.Text units) = quoted units
text_at (Value-F.Ptr pointer) = codes "&"
text_at (Value-F.Struct fields) = codes "struct"
text_at (Value-F.Func method under) = codes "fn"
text_at (Value-F.Opaque bytes) = codes "opaque"

abbrev pub value_text : Value → List ℕ
value_text v = text_at (out-Value v)

abbrev pub throw_text : List ℕ → List ℕ
throw_text name = codes "throw " ++ name_text name

-- no run leaves `default` in an item
abbrev pub reply_text : ReplyResult → List ℕ
reply_text Default = codes "default"
reply_text Void = codes "void"
reply_text (Given v) = value_text v
reply_text (Throw name) = throw_text name

-- a value behind another
abbrev pub more_text : Value → List ℕ
more_text v = codes ", " ++ value_text v

abbrev pub arguments_text : List Value → List ℕ
arguments_text vs = join_by value_text (codes ", ") vs

abbrev pub call_text : List ℕ → List Value → List ℕ
call_text member args = codes "call " ++ (name_text member ++ (codes "(" ++ (arguments_text args ++ codes ") -> ")))

-- the line of an outside call
abbrev pub item_text : TraceItem → List ℕ
item_text t = call_text t.member t.args ++ (reply_text t.reply.result ++ codes "\n")

abbrev pub return_text : Value → List ℕ
return_text v = codes "return " ++ (value_text v ++ codes "\n")

abbrev pub thrown_text : List ℕ → List ℕ
thrown_text name = throw_text name ++ codes "\n"

-- the last line of a run that ended
abbrev pub outcome_text : Outcome → List ℕ
outcome_text (Return None) = codes "return void\n"
outcome_text (Return (Some v)) = return_text v
outcome_text (Thrown object name) = thrown_text name
outcome_text Stuck = codes "stuck\n"
