-- Kinds by what coded types lead to.
use Rattle.std.proofs.Common.{◌≡◌, ◌∙◌, ap, ℕ, List}
use Rattle.std.specs.Prelude.{Result, Ok, Err, IfOk, map}
use Rattle.cil_base.specs.declared.tables.TheConstants.{TYPE_DEF}
use Rattle.cil_model.specs.declared.program.Kind.{Kind}
use Rattle.set_rows.specs.Sets.{Assembly, Assemblies, assembly_at, rows_in}
use Rattle.set_types.specs.SignatureTypes.{Coded}
use Rattle.set_program.specs.Environment.{coded_in}
use Rattle.set_program.specs.Kinds.{kind_at}
use Rattle.coded_tables.specs.RowKinds.{row_kind}

pub kinds_are : {V E : Type 0} (items : V → List Kind) (r : Result V E) (x : Assembly) (c : Coded) → IfOk r (λ v. items v ≡ map (row_kind x c) (rows_in x TYPE_DEF))
    → IfOk r (λ v. (s : Assemblies) → (a : ℕ) → x ≡ assembly_at s a → c ≡ coded_in s a → items v ≡ map (kind_at s a) (rows_in x TYPE_DEF))
kinds_are items (Ok v) x c h = λ s a there e.
    h ∙ ap (λ (y : Assembly). map (row_kind y c) (rows_in x TYPE_DEF)) there ∙ ap (λ (d : Coded). map (row_kind (assembly_at s a) d) (rows_in x TYPE_DEF)) e
kinds_are items (Err e) x c h = tt
