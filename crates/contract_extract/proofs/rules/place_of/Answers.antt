use Rattle.std.proofs.Common.{sym, ap}
use Rattle.cil_base.specs.declared.refusal.Place.{Place}
use Rattle.cil_model.specs.declared.program.MethodDesc.{MethodDesc}
use Rattle.cil_semantics.specs.Lookups.{no_method}
use Rattle.contract_parts.proofs.LookupLaws.{method_past}
use Rattle.contract_extract.proofs.rules.place_of.Goals as goal

at_row : MethodDesc → Place
at_row d = record { assembly = d.assembly; table = 6; row = d.row }

pub returns-in-None : goal.returns-in-None
unfolding no_method at_row
returns-in-None c = sym (ap at_row (method_past c.args.p.now c.args.m (sym c.in-None.ensures)))
