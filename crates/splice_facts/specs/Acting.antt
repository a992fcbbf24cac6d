-- What an act of the run with contracts keeps, and which pointers it uses.
use Rattle.std.specs.Prelude.{◌≡◌, ◌<◌, length, IsTrue}
use Rattle.cil_semantics.specs.declared.state.Local.{Local}
use Rattle.cil_semantics.specs.Acts.{Act, Stuck, GoOn, Jump, Raise, Throw, Rethrow, Leave, EndHandler, Return, Load, Store, Copy, UseStatic, CallMember, CallVirtual, NewObject, LoadVirtualFunction}
use Rattle.machine_laws.specs.Answers.{is_below}
use Rattle.splice_facts.specs.WellFormed.{Bounds, WellFormedPointer, WellFormedAccess}

-- no act changes what is returned, or how many locals there are
pub record KeepsPlaces (l l2 : Local) : Type 0 where
  pub result : l2.result ≡ l.result
  pub locals : length l2.locals ≡ length l.locals
  pub captured : length l2.captured ≡ length l.captured

abbrev pub WellFormedAct : Bounds → Local → Act → Type 0
WellFormedAct b l0 Stuck = Unit {0}
WellFormedAct b l0 (GoOn made l) = KeepsPlaces l0 l
WellFormedAct b l0 (Jump t l) = KeepsPlaces l0 l
WellFormedAct b l0 (Raise name) = Unit {0}
WellFormedAct b l0 (Throw x) = Unit {0}
WellFormedAct b l0 Rethrow = Unit {0}
WellFormedAct b l0 (Leave t) = Unit {0}
WellFormedAct b l0 EndHandler = Unit {0}
WellFormedAct b l0 Return = Unit {0}
WellFormedAct b l0 (Load q h l) = KeepsPlaces l0 l × WellFormedPointer b q
WellFormedAct b l0 (Store q v l) = KeepsPlaces l0 l × WellFormedPointer b q
WellFormedAct b l0 (Copy q r h l) = KeepsPlaces l0 l × WellFormedPointer b q × WellFormedPointer b r
WellFormedAct b l0 (UseStatic t a l) = KeepsPlaces l0 l × IsTrue (is_below b.types t) × WellFormedAccess b a
WellFormedAct b l0 (CallMember c l) = KeepsPlaces l0 l × (c.method < b.methods) × IsTrue (is_below b.types c.owner)
WellFormedAct b l0 (CallVirtual c l) = KeepsPlaces l0 l × (c.method < b.methods) × IsTrue (is_below b.types c.owner)
WellFormedAct b l0 (NewObject c l) = KeepsPlaces l0 l × (c.method < b.methods) × IsTrue (is_below b.types c.owner)
WellFormedAct b l0 (LoadVirtualFunction c l) = KeepsPlaces l0 l × (c.method < b.methods) × IsTrue (is_below b.types c.owner)
