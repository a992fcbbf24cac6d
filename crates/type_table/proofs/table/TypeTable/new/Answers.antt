use Rattle.std.proofs.Common.{◌≡◌, ◌∙◌, ap, arith, ◌-◌, ℕ, List, length, get_or}
use Rattle.cil_base.specs.declared.tables.TheConstants.{TYPE_DEF}
use Rattle.set_rows.specs.Sets.{Assembly, Assemblies, assembly_at, count_in}
use Rattle.set_program.specs.Numbering.{type_cut}
use Rattle.type_table.specs.Table.{types_before}
use Rattle.type_table.proofs.NumberingLaws.{start_is}
use Rattle.type_table.proofs.table.TypeTable.new.Goals as goal

pub invariant_of-result : goal.invariant_of-result
invariant_of-result c =
    let s : Assemblies = c.args.set.now in
    let start : c.start_at-before.result ≡ types_before s (length s) =
    c.start_at-before.ensures ∙ ap (λ (l : List ℕ). get_or l (length s - 1) 0) c.as_slice.ensures.value ∙ start_is s c.in_ok-starts.starts.items (length s) c.in_ok-starts.ensures c.requires.some (omega arith) in
    let own : c.count.result ≡ count_in (assembly_at s 0) TYPE_DEF = c.count.ensures ∙ ap (λ (x : Assembly). count_in x TYPE_DEF) c.first-target.ensures in
    record {
      some = c.requires.some;
      starts_are = c.in_ok-starts.ensures;
      old_is = c.old_types-old.ensures ∙ ap (λ (x : Assembly). type_cut x - 1) c.first-target.ensures;
      names_are = c.in_ok-names.ensures;
      fits = c.in_ok-all.ensures.fits;
      all_is = omega (arith, c.in_ok-all.ensures.is, start, own, c.len.ensures);
    }
