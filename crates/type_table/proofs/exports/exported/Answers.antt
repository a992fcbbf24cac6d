use Rattle.std.proofs.Common.{◌≡◌, ◌∙◌, ap, sym, ℕ}
use Rattle.std.specs.Prelude.{Option, Some, None, option_map, reverse, Vec}
use Rattle.std.specs.declared.alloc.Global.{Global}
use Rattle.std.proofs.lemmas.List.{get_or_default}
use Rattle.set_rows.specs.Sets.{Assembly, no_assembly, assembly_at}
use Rattle.set_program.specs.TypeRules.{from_outermost_export, exported}
use Rattle.set_program.proofs.AlongLaws.{if_ok_is}
use Rattle.type_table.proofs.ExportLaws.{exported_is}
use Rattle.type_table.proofs.exports.exported.Goals as goal

pub returns-in-None : goal.returns-in-None
returns-in-None c =
    let x : Assembly = c.index-set-a.result in
    let there : assembly_at c.args.set.now c.args.a ≡ x = get_or_default c.args.set.now c.args.a no_assembly x c.requires.there ∙ sym c.index-set-a.is in
    exported_is c.args.set.now c.args.a c.args.row x None there
    (ap (λ (o : Option (Vec ℕ Global)). option_map (λ rows. rows.items) o) (sym c.in-None.is) ∙ c.in_ok-export_path.ensures)

pub returns-in-Some : goal.returns-in-Some
returns-in-Some c =
    let x : Assembly = c.index-set-a.result in
    let there : assembly_at c.args.set.now c.args.a ≡ x = get_or_default c.args.set.now c.args.a no_assembly x c.requires.there ∙ sym c.index-set-a.is in
    if_ok_is c.from_outermost.result (from_outermost_export c.args.set.now x (reverse c.in-Some.path.items)) (exported c.args.set.now c.args.a c.args.row)
    (exported_is c.args.set.now c.args.a c.args.row x (Some c.in-Some.path.items) there
    (ap (λ (o : Option (Vec ℕ Global)). option_map (λ rows. rows.items) o) (sym c.in-Some.is) ∙ c.in_ok-export_path.ensures))
    c.from_outermost.ensures
