-- A clause whose method is named by an instance: what stands for the type parameters in it (ECMA-335, II.9.2, II.23.2.14 and II.23.2.15).
use Rattle.std.specs.Prelude.{List, [], ◌++◌, map, Option, Some, None, option_map}
use Rattle.cil_model.specs.declared.ty.Under.{Under}
use Rattle.cil_model.specs.declared.body.Instr.{Instr}
use Rattle.cil_model.specs.declared.contract.Clause.{Clause}
use Rattle.cil_model.specs.declared.contract.Old.{Old}
use Rattle.cil_model.specs.declared.contract.TyRef.{TyRef}
use Rattle.cil_semantics.specs.Types.{all_under}

-- What stands for parameters, where others stand for those that it names in its turn. The instances follow one another.
abbrev pub within : Under → Under → Under
within outer inner =
    record {
      type_args = all_under outer.type_args outer.method_args inner.type_args;
      method_args = all_under outer.type_args outer.method_args inner.method_args;
      instances = inner.instances ++ outer.instances;
    }

-- The same where nothing may stand for one of the two.
abbrev pub joined : Option Under → Option Under → Option Under
joined None inner = inner
joined (Some outer) None = Some outer
joined (Some outer) (Some inner) = Some (within outer inner)

abbrev pub instr_under : Option Under → Instr → Instr
instr_under u i = record i { under = joined u i.under }

abbrev pub ref_under : Option Under → TyRef → TyRef
ref_under u t = record t { under = joined u t.under }

abbrev pub old_under : Option Under → Old → Old
old_under u o = record o { ty = ref_under u o.ty }

-- the clause with this under each of its instructions and types
abbrev pub clause_under : Option Under → Clause → Clause
clause_under u x =
    record x {
      instrs = map (instr_under u) x.instrs;
      locals = map (ref_under u) x.locals;
      olds = map (old_under u) x.olds;
      exception = option_map (ref_under u) x.exception;
    }
