use Rattle.std.proofs.Common.{◌≡◌, ◌∙◌, ◌+◌, ◌<◌, ◌^◌, ℕ, List, length, refl, sym, ap₂, subst}
use Rattle.cil_base.specs.Refusals.{NoneBroken}
use Rattle.cli_heaps.specs.RootRules.{Broken}
use Rattle.cli_heaps.proofs.AcceptedLaws.{whole_root}
use Rattle.heap_writer.specs.Growth.{HeapGrowths}
use Rattle.heap_writer.specs.Written.{Part, parts, written_root, bodies, first_body, IsWritten, Within}
use Rattle.heap_writer.proofs.WrittenLaws.{rooted, is_written, entries_read}
use Rattle.heap_writer.proofs.LimitLaws.{within_limits, few_streams, short_root}
use Rattle.heap_writer.proofs.writer.write_metadata.Goals as goal

pub write_root-requires-clause-whole : goal.write_root-requires-clause-whole
write_root-requires-clause-whole c = whole_root c.metadata.result.now c.args.heaps.now.assembly (rw c.metadata.ensures.bytes c.metadata.ensures.accepted)

pub write_root-requires-clause-short : goal.write_root-requires-clause-short
write_root-requires-clause-short c =
    let w = within_limits c.args.heaps.now.bytes c.args.grown.now c.args.tables.now (c.in_default.ensures c.args.tables.now refl) in
    subst (λ (ps : List Part). first_body c.metadata.result.now ps + length (bodies ps) < 2 ^ 32) (sym (c.as_slice.ensures.value ∙ c.in_ok-parts.ensures.parts))
    (subst (λ (l : List ℕ). first_body l (parts c.args.heaps.now.bytes c.args.grown.now c.args.tables.now) + length (bodies (parts c.args.heaps.now.bytes c.args.grown.now c.args.tables.now)) < 2 ^ 32) (sym c.metadata.ensures.bytes)
    (short_root c.args.heaps.now.bytes c.args.grown.now c.args.tables.now c.args.heaps.now.assembly c.metadata.ensures.accepted w))

bytes_are : (c : goal.After-drop-parts-2) → c.from_vec.result ≡ written_root c.args.heaps.now.bytes (parts c.args.heaps.now.bytes c.args.grown.now c.args.tables.now)
bytes_are c = c.from_vec.ensures ∙ c.in_ok-bytes.ensures ∙ ap₂ written_root c.metadata.ensures.bytes (c.as_slice.ensures.value ∙ c.in_ok-parts.ensures.parts)

is : (c : goal.After-drop-parts-2) → IsWritten c.args.heaps.now.bytes c.args.grown.now c.args.tables.now c.from_vec.result
is c =
    let old : List ℕ = c.args.heaps.now.bytes in
    let g : HeapGrowths = c.args.grown.now in
    let t : List ℕ = c.args.tables.now in
    let w : Within c.args.heaps.now.bytes c.args.grown.now c.args.tables.now = within_limits c.args.heaps.now.bytes c.args.grown.now c.args.tables.now (c.in_default.ensures c.args.tables.now refl) in
    let none : NoneBroken (Broken c.args.heaps.now.bytes c.args.heaps.now.assembly) = c.metadata.ensures.accepted in
    let short = short_root old g t c.args.heaps.now.assembly none w in
    is_written old c.from_vec.result g t c.args.heaps.now.assembly none short c.requires.full_words
    (rooted old c.from_vec.result g t c.args.heaps.now.assembly none c.requires.grew c.in_ok-parts.ensures.user_strings c.requires.whole (bytes_are c) (few_streams old g t w) short)

pub returns-clause-ok : goal.returns-clause-ok
returns-clause-ok c = is c

pub returns-clause-entries : goal.returns-clause-entries
returns-clause-entries c = entries_read c.args.heaps.now.bytes c.from_vec.result c.args.grown.now c.args.tables.now c.requires.grew c.in_ok-parts.ensures.read.0 c.in_ok-parts.ensures.read.1 c.in_ok-parts.ensures.read.2 (is c)
