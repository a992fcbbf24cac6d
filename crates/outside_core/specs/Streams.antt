-- What reading a whole stream answers.
use Rattle.std.specs.Prelude.{Result, Ok, Err, ⊤}
use Rattle.outside_core.specs.declared.store.ReadRefusal.{ReadRefusal}
use Rattle.outside_core.specs.declared.store.ReadRefusal.TheVariants.{Failed, TooLong, Memory}

-- Too long is the answer only where this holds.
abbrev pub TooLongOnly : {T : Type 0} → Result T ReadRefusal → Type 0 → Type 0
TooLongOnly (Ok x) P = ⊤
TooLongOnly (Err TooLong) P = P
TooLongOnly (Err Failed) P = ⊤
TooLongOnly (Err (Memory e)) P = ⊤
