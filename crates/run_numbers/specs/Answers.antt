-- What answers of functions on values mean to the machine (own; the exceptions as ECMA-335, III.1.7.3, names them).
use Rattle.std.specs.Prelude.{codes, []}
use Rattle.cil_semantics.specs.Core.{Name}
use Rattle.cil_semantics.specs.State.{pushed}
use Rattle.cil_semantics.specs.declared.Local.{Local}
use Rattle.cil_semantics.specs.Acts.{Act, Stuck, GoOn, Raise}
use Rattle.run_numbers.specs.declared.answer.Exception.{Exception}
use Rattle.run_numbers.specs.declared.answer.Exception.TheVariants as exception
use Rattle.run_numbers.specs.declared.answer.Answer.{Answer}
use Rattle.run_numbers.specs.declared.answer.Answer.TheVariants as answer

abbrev pub exception_name : Exception → Name
exception_name exception.NullReference = codes "System.NullReferenceException"
exception_name exception.Overflow = codes "System.OverflowException"
exception_name exception.DivideByZero = codes "System.DivideByZeroException"
exception_name exception.InvalidCast = codes "System.InvalidCastException"
exception_name exception.OutOfRange = codes "System.IndexOutOfRangeException"
exception_name exception.Mismatch = codes "System.ArrayTypeMismatchException"

-- the act, where `l` is the frame without the operands
abbrev pub act_of : Answer → Local → Act
act_of (answer.Push v) l = GoOn [] (pushed v l)
act_of (answer.Raise x) l = Raise (exception_name x)
act_of answer.Stuck l = Stuck
