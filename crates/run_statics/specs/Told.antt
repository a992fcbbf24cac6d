-- What is told of an initializer, in the machine's words (own).
use Rattle.cil_semantics.specs.Frames as frames
use Rattle.run_statics.specs.declared.initializers.Initializer.{Initializer}
use Rattle.run_statics.specs.declared.initializers.Initializer.TheVariants.{Ready, FailedWith, ToRun}

abbrev pub told : Initializer → frames.Initializer
told Ready = frames.Ready
told (FailedWith object) = frames.FailedWith object
told (ToRun method) = frames.ToRun method
