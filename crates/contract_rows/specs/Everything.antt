-- All that unfolds when an own contract is computed.
unfoldable pub everything : Unit {0}
unfolding
    Rattle.machine_rows.specs.Everything.everything
    Rattle.il_opcodes.specs.Opcodes.the_opcodes
    Rattle.il_opcodes.specs.Opcodes.opcode_of
    Rattle.std.specs.Fmt.digits
    Rattle.cil_semantics.specs.ContractCalls.contract_call
    Rattle.il_flow.specs.Boundaries.the_boundaries
    Rattle.il_flow.specs.Ranges.is_closed
    Rattle.il_flow.specs.Ranges.last_argument
    Rattle.il_flow.specs.Ranges.argument_before
    Rattle.contract_extract.specs.OwnContract.own_contract
    Rattle.contract_extract.specs.Exceptions.is_exception_within
    Rattle.contract_extract.specs.Rules.tests
everything = tt
