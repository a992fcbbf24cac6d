-- What tokens mean, one assembly after another.
use Rattle.std.proofs.Common.{◌≡◌, ◌∙◌, sym, ap, refl, zero-add, ℕ, ◌+◌, List, [], ◌∷◌, ◌++◌}
use Rattle.std.specs.Prelude.{flat_map, Result, Ok, Err, OnOk}
use Rattle.std.specs.List.{range_with_len}
use Rattle.std.proofs.lemmas.List.{append-nil}
use Rattle.std.proofs.lemmas.Grind.{flat_map-append}
use Rattle.set_program.proofs.NumberLaws.{range_split}
use Rattle.cil_model.specs.declared.program.TokenRow.{TokenRow}
use Rattle.cil_model.specs.TokenLists.{noted_row}
use Rattle.set_rows.specs.Sets.{Assembly, Assemblies, assembly_at}
use Rattle.set_types.specs.SignatureTypes.{Coded}
use Rattle.set_program.specs.Environment.{coded_in}
use Rattle.row_descriptions.specs.TokenTables.{all_noted}
use Rattle.descriptions.specs.declared.facts.MemberFacts.{MemberFacts}
use Rattle.descriptions.specs.Facts.{AreFacts}
use Rattle.descriptions.specs.Programs.{assembly_tokens}
use Rattle.descriptions.specs.TokenFacts.{assembly_tokens_by, GiveTokens}

noted_append : (rows xs ys : List TokenRow) → all_noted rows (xs ++ ys) ≡ all_noted (all_noted rows xs) ys
noted_append rows [] ys = refl
noted_append rows (x ∷ xs) ys = noted_append (noted_row rows x) xs ys

pub on_ok : {V E : Type 0} (r : Result V E) {A B : Type 0} → (A → B) → OnOk r A → OnOk r B
on_ok (Ok v) f a = f a
on_ok (Err e) f a = tt

pub tokens_are : (s : Assemblies) (a n : ℕ) (f : MemberFacts) (c : Coded) (x : Assembly) → c ≡ coded_in s a → x ≡ assembly_at s a → n ≡ a → AreFacts s a f → GiveTokens s a f → assembly_tokens_by x c f n ≡ assembly_tokens s a
tokens_are s a n f c x e g h facts give =
    ap (λ (d : Coded). assembly_tokens_by x d f n) e
    ∙ ap (λ (y : Assembly). assembly_tokens_by y (coded_in s a) f n) g
    ∙ ap (assembly_tokens_by (assembly_at s a) (coded_in s a) f) h
    ∙ give facts

pub tokens_more : (f : ℕ → List TokenRow) (k : ℕ) (older newer : List TokenRow) → newer ≡ all_noted older (f k) → older ≡ all_noted [] (flat_map f (range_with_len 0 k)) → newer ≡ all_noted [] (flat_map f (range_with_len 0 (k + 1)))
tokens_more f k older newer e h =
    e ∙ ap (λ (r : List TokenRow). all_noted r (f k)) h
    ∙ sym (noted_append [] (flat_map f (range_with_len 0 k)) (f k))
    ∙ ap (λ (j : ℕ). all_noted [] (flat_map f (range_with_len 0 k) ++ f j)) (sym (zero-add k))
    ∙ ap (λ (l : List TokenRow). all_noted [] (flat_map f (range_with_len 0 k) ++ l)) (sym (append-nil (f (0 + k))))
    ∙ ap (all_noted []) (sym (flat_map-append f (range_with_len 0 k) (range_with_len (0 + k) 1)) ∙ ap (flat_map f) (sym (range_split 0 k 1)))
