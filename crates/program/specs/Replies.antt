-- What a command answers before its text is put. Want of memory is status 5, whose text needs none.
use Rattle.std.specs.Prelude.{ℕ, List, Result, Ok, Err}
use Rattle.std.specs.declared.alloc.AllocError.{AllocError}
use Rattle.program.specs.declared.program.Reply.{Reply}
use Rattle.command_line.specs.Text.{memory_text}

-- This holds of the status and the text.
abbrev pub Replied : (ℕ → List ℕ → Type 0) → Result Reply AllocError → Type 0
Replied P (Ok reply) = P reply.status reply.text
Replied P (Err e) = P 5 memory_text
