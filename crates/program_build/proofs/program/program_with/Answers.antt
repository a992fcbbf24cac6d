use Rattle.program_build.proofs.ProgramLaws.{program_is}
use Rattle.program_build.proofs.program.program_with.Goals as goal

pub returns : goal.returns
returns c =
    program_is c.args.tables.now (record { types = c.in_ok-types.types; fields = c.in_ok-fields.fields; methods = c.in_ok-methods.methods; tokens = c.in_ok-tokens.tokens })
    c.in_ok-types.ensures c.in_ok-fields.ensures c.in_ok-methods.ensures c.in_ok-tokens.ensures
