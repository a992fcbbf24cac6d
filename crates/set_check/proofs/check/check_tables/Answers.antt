use Rattle.std.proofs.Common.{◌≡◌, ℕ, List}
use Rattle.cil_base.proofs.Small.{on_ok}
use Rattle.cil_base.proofs.RefusalLaws.{IfRefused-weaker, OnRefused-weaker}
use Rattle.set_check.specs.Sets.{bytes_of}
use Rattle.set_check.proofs.SetLaws.{names_refused_of, bodies_refused_of, bodies_kept_of}
use Rattle.set_check.proofs.check.check_tables.Goals as goal

pub returns-in-Ok-clause-accepted : goal.returns-in-Ok-clause-accepted
returns-in-Ok-clause-accepted c =
    on_ok c.check_bodies.result (λ kept. bodies_kept_of (bytes_of c.args.set.now) c.args.writes c.args.tables.now c.requires.same c.in-Ok.ensures.accepted kept) c.check_bodies.ensures.accepted

pub returns-in-Ok-clause-refused : goal.returns-in-Ok-clause-refused
returns-in-Ok-clause-refused c =
    OnRefused-weaker c.check_bodies.result _ _ (λ r x. bodies_refused_of (bytes_of c.args.set.now) c.args.writes c.args.tables.now c.requires.same r c.in-Ok.ensures.accepted x) c.check_bodies.ensures.refused

pub returns-in-Err-clause-refused : goal.returns-in-Err-clause-refused
returns-in-Err-clause-refused c =
    IfRefused-weaker c.in-Err.fault _ _ (λ r x. names_refused_of (bytes_of c.args.set.now) c.args.writes c.args.tables.now c.requires.same r x) c.in-Err.ensures.refused
