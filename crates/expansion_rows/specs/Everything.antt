-- All that unfolds when a clause of an abbreviator is computed. The last names are those by which a type is read.
use Rattle.cil_model.specs.declared.ty.Ty as types

unfoldable pub everything : Unit {0}
unfolding
    Rattle.cil_semantics.specs.ContractCalls.contract_call
    Rattle.cil_semantics.specs.Lookups.contract_exception
    Rattle.cil_semantics.specs.Lookups.no_method
    Rattle.cil_semantics.specs.Tokens.meaning_of
    Rattle.clause_expansion.specs.Expansion.expanded
    Rattle.std.specs.Fmt.digits
    types.out-Ty denote.Hole.Carrier.out denote.Hole.Carrier.hidden denote.Hole.Carrier.shown
    Rattle.cil_model.specs.declared.ty.Ty.TheBlock.hidden-the_row-Ty-1 Rattle.cil_model.specs.declared.ty.Ty.TheBlock.shown-the_row-Ty-1
everything = tt
