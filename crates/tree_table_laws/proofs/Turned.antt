-- A ret that leaves instead, and what the classes of codes say.
use Rattle.std.proofs.Common.{◌≡◌, ℕ, Bool, true, false, not, cond, ◌||◌, ◌⊎◌, inl, inr, Some, List, [], ◌∷◌, refl, ◌∙◌, sym}
use Rattle.std.specs.Prelude.{◌==◌, find}
use Rattle.std.specs.List.{list_all}
use Rattle.std.proofs.lemmas.Bool.{and_parts, both_ways, eq-eqb, eqb-true, false_from_ne_true, or_cases, not-true}
use Rattle.cil_model.specs.declared.body.Instr.{Instr}
use Rattle.cil_model.specs.declared.body.Operand.TheVariants.{Target}
use Rattle.il_opcodes.specs.declared.opcode.Opcode.{Opcode}
use Rattle.il_opcodes.specs.declared.class.Class.TheVariants as class
use Rattle.il_opcodes.specs.Opcodes.{class_of, class_or, opcode_of, the_opcodes}
use Rattle.il_flow.specs.Successors.{successors}
use Rattle.region_tree.specs.Rules.{is_ret}

-- the instruction that stands for a ret
abbrev pub leaves : ℕ → Instr → Instr
leaves exit i = record i { op = 0xDD; operand = Target exit }

pub leave_goes : (k exit : ℕ) (i : Instr) → successors k (leaves exit i) ≡ exit ∷ []
unfolding opcode_of the_opcodes
leave_goes k exit i = refl

pub leave_class : class_of 0xDD ≡ class.Leave
unfolding class_of opcode_of the_opcodes
leave_class = refl

-- only one code is of ret's class
is_ret_row : Opcode → Bool
is_ret_row o = not (is_ret o.class) || (o.code == 0x2A)

all_rows : list_all is_ret_row the_opcodes ≡ true
unfolding is_ret_row the_opcodes
all_rows = refl

found : (op : ℕ) (os : List Opcode) → list_all is_ret_row os ≡ true → is_ret (class_or (find (λ (o : Opcode). o.code == op) os)) ≡ true → op ≡ 0x2A
unfolding is_ret_row
found op [] a e = absurd (both_ways false refl e)
found op (o ∷ os) a e =
    let two = and_parts (is_ret_row o) (list_all is_ret_row os) a in
    go (o.code == op) refl two.0 (λ t. found op os two.1 t) e
  where
    its : o.code ≡ op → (not (is_ret o.class) ≡ true) ⊎ ((o.code == 0x2A) ≡ true) → is_ret o.class ≡ true → op ≡ 0x2A
    its f (inl n) t = absurd (both_ways (is_ret o.class) (not-true (is_ret o.class) n) t)
    its f (inr n) t = sym f ∙ eqb-true o.code 0x2A n

    go : (b : Bool) → (o.code == op) ≡ b → (not (is_ret o.class) || (o.code == 0x2A)) ≡ true → (is_ret (class_or (find (λ (x : Opcode). x.code == op) os)) ≡ true → op ≡ 0x2A) → is_ret (class_or (cond b (Some o) (find (λ (x : Opcode). x.code == op) os))) ≡ true → op ≡ 0x2A
    go true f r rest t = its (eqb-true o.code op f) (or_cases (not (is_ret o.class)) (o.code == 0x2A) r) t
    go false f r rest t = rest t

pub only_ret : (op : ℕ) → (op == 0x2A) ≡ false → is_ret (class_of op) ≡ false
unfolding class_of opcode_of
only_ret op e = false_from_ne_true (is_ret (class_of op)) (λ t. both_ways (op == 0x2A) e (eq-eqb op 0x2A (found op the_opcodes all_rows t)))
