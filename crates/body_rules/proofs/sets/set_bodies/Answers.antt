use Rattle.std.proofs.Common.{◌≡◌, ◌∙◌, ap, arith, length}
use Rattle.std.proofs.lemmas.List.{length-map}
use Rattle.cil_base.specs.Refusals.{First}
use Rattle.cil_base.proofs.RefusalLaws.{IfRefused-weaker}
use Rattle.pe_image.specs.Images.{File}
use Rattle.set_rows.specs.Sets.{assembly_of}
use Rattle.body_rules.specs.Sets.{BreaksBodies, InAssembly}
use Rattle.body_rules.proofs.RowLaws.{one_assembly, first_assembly, all_assemblies}
use Rattle.body_rules.proofs.sets.set_bodies.Goals as goal

pub returns-in-Err-clause-refused : goal.returns-in-Err-clause-refused
returns-in-Err-clause-refused c =
    IfRefused-weaker c.in-Err.fault (First (InAssembly c.args.tables.now c.loop-a.a)) (First (BreaksBodies c.args.tables.now))
    (first_assembly c.args.tables.now c.loop-a.a c.loop-a.all.items c.loop-a.invariant) c.in-Err.ensures.refused

pub loop-a-preserved : goal.loop-a-preserved
loop-a-preserved c =
    one_assembly c.args.tables.now c.loop-a.a c.loop-a.all.items c.loop-a.invariant c.push_bodies.new.all.items c.in-Ok.bodies c.in_ok-push_bodies-in-Ok.ensures c.in-Ok.ensures.bodies c.in-Ok.ensures.accepted

pub returns-clause-bodies : goal.returns-clause-bodies
returns-clause-bodies c =
    let count : length c.args.tables.now ≡ length c.args.set.now = ap length c.requires.tables ∙ length-map c.args.set.now (λ (file : File). assembly_of file.bytes) in
    let all : c.loop-a.a ≡ length c.args.tables.now = omega (arith, c.loop-a-test.false, c.loop-a.auto.a-end, count) in
    all_assemblies c.args.tables.now c.loop-a.a c.loop-a.all.items c.loop-a.invariant all
