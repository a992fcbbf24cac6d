use Rattle.std.proofs.Common.{◌≡◌, sym, subst}
use Rattle.std.specs.Prelude.{Option}
use Rattle.cil_base.specs.declared.refusal.Refusal.{Refusal}
use Rattle.cil_base.specs.Refusals.{first_of}
use Rattle.set_rows.specs.Sets.{Assemblies}
use Rattle.set_blobs.specs.BadBlobs.{TellsFirst}
use Rattle.name_rules.specs.NameTests.{InTable, rewrite_table_tests}
use Rattle.name_rules.proofs.TellLaws.{types_tell}
use Rattle.name_rules.proofs.tables.named_fault.Goals as goal

pub returns : goal.returns
returns c =
    let s : Assemblies = c.args.tables.now in
    let rewrites : c.in_ok-second.second ≡ first_of (rewrite_table_tests s c.args.writes c.args.a c.args.table) =
    subst (λ (t : Assemblies). c.in_ok-second.second ≡ first_of (rewrite_table_tests t c.args.writes c.args.a c.args.table)) c.set.ensures c.in_ok-second.ensures in
    subst (λ (o : Option Refusal). TellsFirst (InTable s c.args.writes c.args.a c.args.table) o) (sym c.by_row.ensures)
    (types_tell s c.args.writes c.args.a c.args.table c.requires.there c.requires.table c.in_ok-first.first c.in_ok-second.second c.in_ok-first.ensures rewrites)
