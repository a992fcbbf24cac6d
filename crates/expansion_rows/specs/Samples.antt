-- Words to write small clauses, and calls of abbreviators.
use Rattle.std.specs.Prelude.{ℕ, false, List, [], ◌∷◌, None, codes, pos}
use Rattle.cil_base.specs.declared.token.Token.{Token}
use Rattle.cil_model.specs.declared.body.Instr.{Instr}
use Rattle.cil_model.specs.declared.body.Operand.{Operand}
use Rattle.cil_model.specs.declared.body.Operand.TheVariants.{Nothing, Int, Index, Target, Tok}
use Rattle.cil_model.specs.declared.contract.Clause.{Clause}
use Rattle.cil_model.specs.declared.contract.ClauseKind.{ClauseKind}
use Rattle.cil_model.specs.declared.contract.TyRef.{TyRef}
use Rattle.cil_model.specs.declared.program.Program.{Program}
use Rattle.cil_model.specs.declared.program.Meaning.TheVariants.{OfMethod}
use Rattle.cil_model.specs.declared.program.MethodDesc.{MethodDesc}
use Rattle.cil_model.specs.declared.ty.Instance.{Instance}
use Rattle.cil_model.specs.declared.ty.Ty.{Ty, Prim}
use Rattle.cil_model.specs.declared.ty.Under.{Under}
use Rattle.cil_semantics.specs.Core.{Name, class_named, contract_name}
use Rattle.cil_semantics.specs.Lookups.{contract_exception, no_method}
use Rattle.clause_expansion.specs.declared.site.Site.{Site}

abbrev pub instr : ℕ → Operand → Instr
instr op operand = record { op = op; operand = operand; constrained = None; prefixes = 0; under = None }

abbrev pub ldarg : ℕ → Instr
ldarg k = instr 0xFE09 (Index k)

abbrev pub ldloc : ℕ → Instr
ldloc k = instr 0xFE0C (Index k)

abbrev pub stloc : ℕ → Instr
stloc k = instr 0xFE0E (Index k)

abbrev pub int : ℕ → Instr
int n = instr 0x20 (Int (pos n))

abbrev pub sub : Instr
sub = instr 0x59 Nothing

-- greater than
abbrev pub above : Instr
above = instr 0xFE02 Nothing

abbrev pub jump : ℕ → Instr
jump t = instr 0x38 (Target t)

abbrev pub jump_if_false : ℕ → Instr
jump_if_false t = instr 0x39 (Target t)

abbrev pub member : ℕ → Token
member k = record { table = 0x0A; row = k }

abbrev pub call : ℕ → Instr
call k = instr 0x28 (Tok 0 (member k))

abbrev pub requires : Instr
requires = call 1

abbrev pub assert_call : Instr
assert_call = call 2

-- an old range's end, whatever it calls
abbrev pub old_value : Instr
old_value = call 3

-- a clause of the abbreviator with the number 7, before its labels are made
abbrev pub clause : ClauseKind → List Instr → Clause
clause k is = record { kind = k; home = 7; instrs = is; locals = []; olds = []; exception = None; user = false; label = []; inline = [] }

-- a type spec of the first assembly
abbrev pub ty : ℕ → TyRef
ty k = record { assembly = 0; token = record { table = 0x1B; row = k }; index = 0; under = None }

abbrev pub site : List (List Instr) → Site
site args = record { lead = []; args = args; locals = []; under = None }

-- the arguments of a method, by one instance
abbrev pub under_method : List Ty → Instance → Under
under_method args i = record { type_args = []; method_args = args; instances = i ∷ [] }

-- a method of the first type of the program, by its name
abbrev pub called : Name → MethodDesc
called name = record no_method { name = name; owner = 0; params = Prim 0x02 ∷ [] }

-- The type T with the method U, and Requires and Assert by their member references.
abbrev pub program : Program
program =
    record {
      types = record contract_exception { name = codes "T" } ∷ [];
      fields = [];
      methods = called (codes "U") ∷ called (codes "Requires") ∷ called (codes "Assert") ∷ [];
      tokens =
          record { assembly = 0; token = member 1; meaning = OfMethod (class_named contract_name) 1 [] }
          ∷ record { assembly = 0; token = member 2; meaning = OfMethod (class_named contract_name) 2 [] } ∷ [];
    }
