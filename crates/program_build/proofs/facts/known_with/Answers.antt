use Rattle.std.proofs.Common.{subst, sym}
use Rattle.cil_base.specs.declared.tables.TheConstants.{FIELD, METHOD_DEF}
use Rattle.set_rows.specs.Owners.{AreOwners}
use Rattle.program_build.proofs.facts.known_with.Goals as goal

pub type_lists-requires-clause-fields : goal.type_lists-requires-clause-fields
type_lists-requires-clause-fields c = subst (λ x. AreOwners x 4 FIELD c.args.members.field_owners.items) (sym c.rows_at.ensures) c.requires.members.field_owners

pub type_lists-requires-clause-methods : goal.type_lists-requires-clause-methods
type_lists-requires-clause-methods c = subst (λ x. AreOwners x 5 METHOD_DEF c.args.members.method_owners.items) (sym c.rows_at.ensures) c.requires.members.method_owners
