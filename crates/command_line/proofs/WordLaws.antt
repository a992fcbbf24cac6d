-- The words of a command.
use Rattle.std.proofs.Common.{◌≡◌, ℕ, ◌+◌, ◌-◌, ◌≤◌, ◌<◌, Bool, true, false, ◌&&◌, ◌||◌, ◌==◌, List, [], ◌∷◌, length, take, drop, get_or, Option, Some, None, refl, sym, ap, ◌∙◌, subst, arith, string_bytes}
use Rattle.std.specs.Prelude.{String, codes, is_some, if◌then◌else◌}
use Rattle.std.specs.Option.{option_or}
use Rattle.std.specs.Str.{bytes_eq}
use Rattle.std.specs.declared.alloc.Global.{Global}
use Rattle.std.proofs.Math.Seq.{take-length}
use Rattle.std.proofs.lemmas.List.{length-map}
use Rattle.std.proofs.lemmas.Slice.Eq.{bytes_eq-Decides}
use Rattle.cil_model.specs.declared.contract.Settings.{Settings}
use Rattle.command_line.specs.Options.{texts, is_dashed, number_of, value_of, positionals, wrong_option, wrong_positional, are_given, wrong_behind}
use Rattle.command_line.specs.Words.{wrong_word, rewrite_options, number_or, AreSettings, IsBodyCommand, IsRewriteCommand, IsListCommand}

-- ---- values

pub number_there : (max default n : ℕ) (o : Option (List ℕ)) (text : List ℕ) → o ≡ Some text → number_of max text ≡ Some n → n ≡ number_or max default o
number_there max default n o text e h = rw e (rw h refl)

pub number_bad : (max default : ℕ) (o : Option (List ℕ)) (text : List ℕ) → o ≡ Some text → number_of max text ≡ None → default ≡ number_or max default o
number_bad max default o text e h = rw e (rw h refl)

-- ---- what right words have

no_first : (o p : Option ℕ) → option_or o p ≡ None → o ≡ None
no_first None p e = refl
no_first (Some x) p e = absurd cc

no_second : (o p : Option ℕ) → option_or o p ≡ None → p ≡ None
no_second None p e = e
no_second (Some x) p e = absurd cc

given : (b : Bool) (k : ℕ) → (if b then None else Some k) ≡ None → b ≡ true
given true k e = refl
given false k e = absurd cc

-- where at least one is wanted, right words have one
pub some_positional : (words : List (List ℕ)) → wrong_behind rewrite_options true 1 words ≡ None → 0 < length (positionals words)
some_positional words e =
    let place = 1 + (length words - length (positionals words)) in
    let later = if are_given words rewrite_options then None else Some (1 + length words) in
    let p = no_second (wrong_option rewrite_options [] 1 words) (option_or (wrong_positional true 1 place (positionals words)) later) e in
    some place (positionals words) (no_first (wrong_positional true 1 place (positionals words)) later p)
  where
    some : (place : ℕ) (names : List (List ℕ)) → wrong_positional true 1 place names ≡ None → 0 < length names
    some place [] f = absurd cc
    some place (n ∷ ns) f = omega arith

pub out_there : (words : List (List ℕ)) → wrong_behind rewrite_options true 1 words ≡ None → value_of (codes "--out") words ≡ None → ⊥
out_there words e none =
    let place = 1 + (length words - length (positionals words)) in
    let later = if are_given words rewrite_options then None else Some (1 + length words) in
    let p = no_second (wrong_option rewrite_options [] 1 words) (option_or (wrong_positional true 1 place (positionals words)) later) e in
    let g = given (are_given words rewrite_options) (1 + length words) (no_second (wrong_positional true 1 place (positionals words)) later p) in
    let h : (is_some (value_of (codes "--out") words) && true) ≡ true = g in
    let f : false ≡ true = rw none at h in
    absurd cc

-- ---- the command

take_rest : (x : String Global) (ws : List (String Global)) → take (length (x ∷ ws) - 1) ws ≡ ws
take_rest x ws = let e : length (x ∷ ws) - 1 ≡ length ws = omega arith in rw e (take-length ws)

pub body_command : (words : List (String Global)) (c : String Global) (inputs : List (List ℕ)) (input output : List ℕ) → 1 ≤ length words → c ≡ get_or words 0 c → bytes_eq (string_bytes c) (codes "body") ≡ true → wrong_behind [] false 2 (texts (take (length words - 1) (drop 1 words))) ≡ None → texts (take (length words - 1) (drop 1 words)) ≡ input ∷ output ∷ [] → inputs ≡ input ∷ [] → IsBodyCommand (texts words) inputs output
body_command [] c inputs input output l e t r n i = absurd (omega arith)
body_command (x ∷ ws) c inputs input output l e t r n i =
    let rest = take_rest x ws in
    let r' : wrong_behind [] false 2 (texts ws) ≡ None = ap (λ l. wrong_behind [] false 2 (texts l)) (sym rest) ∙ r in
    let n' : texts ws ≡ input ∷ output ∷ [] = ap texts (sym rest) ∙ n in
    let t' : bytes_eq (string_bytes x) (codes "body") ≡ true = ap (λ s. bytes_eq (string_bytes s) (codes "body")) (sym e) ∙ t in
    let b : string_bytes x ≡ codes "body" = (bytes_eq-Decides (string_bytes x) (codes "body")).0 t' in
    record { right = ap (λ s. wrong_word (s ∷ texts ws)) b ∙ r'; input = input; inputs_are = i; is = ap (λ s. s ∷ texts ws) b ∙ ap (λ l. codes "body" ∷ l) n' }

pub rewrite_command : (words : List (String Global)) (c : String Global) (settings : Settings) (inputs : List (List ℕ)) (output : List ℕ) → 1 ≤ length words → c ≡ get_or words 0 c → bytes_eq (string_bytes c) (codes "rewrite") ≡ true → wrong_behind rewrite_options true 1 (texts (take (length words - 1) (drop 1 words))) ≡ None → positionals (texts (take (length words - 1) (drop 1 words))) ≡ inputs → 0 < length inputs → value_of (codes "--out") (texts (take (length words - 1) (drop 1 words))) ≡ Some output → AreSettings (texts (take (length words - 1) (drop 1 words))) settings → IsRewriteCommand (texts words) settings output inputs
rewrite_command [] c settings inputs output l e t r n m o s = absurd (omega arith)
rewrite_command (x ∷ ws) c settings inputs output l e t r n m o s =
    let rest = take_rest x ws in
    let r' : wrong_behind rewrite_options true 1 (texts ws) ≡ None = ap (λ l. wrong_behind rewrite_options true 1 (texts l)) (sym rest) ∙ r in
    let t' : bytes_eq (string_bytes x) (codes "rewrite") ≡ true = ap (λ s. bytes_eq (string_bytes s) (codes "rewrite")) (sym e) ∙ t in
    let b : string_bytes x ≡ codes "rewrite" = (bytes_eq-Decides (string_bytes x) (codes "rewrite")).0 t' in
    record {
      right = ap (λ s. wrong_word (s ∷ texts ws)) b ∙ r';
      behind = texts ws;
      is = ap (λ s. s ∷ texts ws) b;
      settings_are = subst (λ l. AreSettings (texts l) settings) rest s;
      out_is = ap (λ l. value_of (codes "--out") (texts l)) (sym rest) ∙ o;
      inputs_are = ap (λ l. positionals (texts l)) (sym rest) ∙ n;
      target = m;
    }

pub list_command : (words : List (String Global)) (c : String Global) (inputs : List (List ℕ)) → 1 ≤ length words → c ≡ get_or words 0 c → bytes_eq (string_bytes c) (codes "list") ≡ true → wrong_behind [] true 1 (texts (take (length words - 1) (drop 1 words))) ≡ None → 0 < length (take (length words - 1) (drop 1 words)) → inputs ≡ texts (take (length words - 1) (drop 1 words)) → IsListCommand (texts words) inputs
list_command [] c inputs l e t r m i = absurd (omega arith)
list_command (x ∷ ws) c inputs l e t r m i =
    let rest = take_rest x ws in
    let r' : wrong_behind [] true 1 (texts ws) ≡ None = ap (λ l. wrong_behind [] true 1 (texts l)) (sym rest) ∙ r in
    let t' : bytes_eq (string_bytes x) (codes "list") ≡ true = ap (λ s. bytes_eq (string_bytes s) (codes "list")) (sym e) ∙ t in
    let b : string_bytes x ≡ codes "list" = (bytes_eq-Decides (string_bytes x) (codes "list")).0 t' in
    let i' : inputs ≡ texts ws = i ∙ ap texts rest in
    let some : length inputs ≡ length ws = ap length i' ∙ length-map ws string_bytes in
    let many : length (take (length (x ∷ ws) - 1) ws) ≡ length ws = ap length rest in
    record {
      right = ap (λ s. wrong_word (s ∷ texts ws)) b ∙ r';
      is = ap (λ s. s ∷ texts ws) b ∙ ap (λ l. codes "list" ∷ l) (sym i');
      target = omega (arith, m, some, many);
    }
