-- The finished assembly holds the rows, heaps and code of the sample.
use Rattle.std.proofs.Common.{◌≡◌, ℕ, ◌+◌, ◌^◌, ◌<◌, ◌≤◌, ◌⊎◌, inl, inr, List, length, Result, Ok, Err, sym, subst, arith}
use Rattle.std.specs.Prelude.{IfOk, OnOk}
use Rattle.cil_base.specs.declared.refusal.Refusal.{Refusal}
use Rattle.cil_base.specs.declared.refusal.Fault.{Fault}
use Rattle.cil_base.specs.declared.limits.TheConstants.{IMAGE_LIMIT}
use Rattle.cil_base.specs.Refusals.{NoneBroken, Fails, OnRefused, OnMemory}
use Rattle.cil_base.proofs.RefusalLaws.{OnRefused-weaker, OnMemory-weaker}
use Rattle.cli_heaps.specs.Root as root
use Rattle.cli_heaps.specs.Root.{Metadata}
use Rattle.heap_writer.specs.Written.{IsWritten, EntriesRead, limit_tests, parts, written_root}
use Rattle.cli_tables.specs.Tables.{AreIn}
use Rattle.cli_tables.specs.TableRules.{HeaderBroken}
use Rattle.cli_tables.specs.Written.{stream_in, AreOfOne, NoneFull, IsRefused, FitsLimits}
use Rattle.asm_gen.specs.Layout.{file_size, image, text_size}
use Rattle.asm_gen.specs.Blank.{blank}
use Rattle.asm_gen.specs.Reading.{IsImageOf}
use Rattle.asm_gen.specs.Samples.{Sample, metadata_bytes, HoldsRows, PassesLimit, IsTooLong, WithinLimits}
use Rattle.asm_gen.proofs.SizeLaws.{raw_covers}
use Rattle.asm_gen.proofs.SampleLaws.{is_image}

-- ---- the metadata, which are written over the blank ones

abbrev pub blank_metadata : Metadata
blank_metadata = record { bytes = blank; assembly = 0 }

pub held : (s : Sample) (h : Metadata) (r : Result (List ℕ) Fault) → h ≡ blank_metadata → IfOk r (IsWritten h.bytes s.heaps (stream_in h.bytes s.heaps s.tables)) → IfOk r (EntriesRead h.bytes s.heaps) → IfOk r (λ m. AreIn (root.tables m) s.tables) → IfOk r (λ m. AreOfOne s.tables → (assembly : ℕ) → NoneBroken (HeaderBroken m assembly)) → IfOk r (HoldsRows s)
held s h (Ok m) e w x y z = record {
  streams = subst (λ (k : Metadata). IsWritten k.bytes s.heaps (stream_in k.bytes s.heaps s.tables) m) e w;
  entries = subst (λ (k : Metadata). EntriesRead k.bytes s.heaps m) e x;
  cells = y;
  header = z;
}
held s h (Err f) e w x y z = tt

pub stated : (s : Sample) (h : Metadata) (r : Result (List ℕ) Fault) → h ≡ blank_metadata → IfOk r (λ m. m ≡ written_root h.bytes (parts h.bytes s.heaps (stream_in h.bytes s.heaps s.tables))) → IfOk r (λ m. m ≡ metadata_bytes s)
stated s h r e x = subst (λ (k : Metadata). IfOk r (λ m. m ≡ written_root k.bytes (parts k.bytes s.heaps (stream_in k.bytes s.heaps s.tables)))) e x

too_long_for : (s : Sample) → 2 ^ 27 < length (metadata_bytes s) → IMAGE_LIMIT < file_size (length s.code + length (metadata_bytes s))
too_long_for s long = let covers = raw_covers (text_size (length s.code + length (metadata_bytes s))) in omega arith

refused_by : (s : Sample) (f : Refusal) → IsRefused blank s.heaps s.tables f → PassesLimit s f ⊎ IsTooLong s f
refused_by s f (inl full) = inl (inl full)
refused_by s f (inr (inl limit)) = inl (inr limit)
refused_by s f (inr (inr long)) = inr (long.refusal_is, too_long_for s long.long)

pub passed : (s : Sample) (h : Metadata) (r : Result (List ℕ) Fault) → h ≡ blank_metadata → OnRefused r (IsRefused h.bytes s.heaps s.tables) → OnRefused r (λ f. PassesLimit s f ⊎ IsTooLong s f)
passed s h r e x =
    OnRefused-weaker r (IsRefused blank s.heaps s.tables) (λ f. PassesLimit s f ⊎ IsTooLong s f) (refused_by s)
    (subst (λ (k : Metadata). OnRefused r (IsRefused k.bytes s.heaps s.tables)) e x)

none_passed : (s : Sample) → NoneFull s.tables → NoneBroken (Fails (limit_tests blank s.heaps (stream_in blank s.heaps s.tables))) → NoneBroken (PassesLimit s)
none_passed s few clean f (inl x) = let few_there = few f.table in let many = x.1 in absurd (omega arith)
none_passed s few clean f (inr x) = clean f x

within_all : (s : Sample) → FitsLimits blank s.heaps s.tables → WithinLimits s
within_all s f = record { limits = none_passed s f.0 f.1.limits; short = f.1.short }

pub within : (s : Sample) (h : Metadata) (r : Result (List ℕ) Fault) → h ≡ blank_metadata → OnOk r (NoneFull s.tables) → OnOk r (NoneBroken (Fails (limit_tests h.bytes s.heaps (stream_in h.bytes s.heaps s.tables)))) → OnOk r (length (written_root h.bytes (parts h.bytes s.heaps (stream_in h.bytes s.heaps s.tables))) ≤ 2 ^ 27) → OnOk r (WithinLimits s)
within s h (Ok m) e few clean short = record {
  limits = none_passed s few (subst (λ (k : Metadata). NoneBroken (Fails (limit_tests k.bytes s.heaps (stream_in k.bytes s.heaps s.tables)))) e clean);
  short = subst (λ (k : Metadata). length (written_root k.bytes (parts k.bytes s.heaps (stream_in k.bytes s.heaps s.tables))) ≤ 2 ^ 27) e short;
}
within s h (Err f) e few clean short = tt

pub within_first : (s : Sample) (h : Metadata) (r : Result (List ℕ) Fault) → h ≡ blank_metadata → OnMemory r (FitsLimits h.bytes s.heaps s.tables) → OnMemory r (WithinLimits s)
within_first s h r e x =
    OnMemory-weaker r (FitsLimits blank s.heaps s.tables) (WithinLimits s) (within_all s)
    (subst (λ (k : Metadata). OnMemory r (FitsLimits k.bytes s.heaps s.tables)) e x)

-- ---- the image

pub reads_back : (code meta : List ℕ) (entry : ℕ) (r : Result (List ℕ) Fault) → entry < 2 ^ 32 → IfOk r (λ b. b ≡ image code meta entry) → OnOk r (file_size (length code + length meta) ≤ IMAGE_LIMIT) → IfOk r (IsImageOf code meta entry)
reads_back code meta entry (Ok b) fits is short = subst (IsImageOf code meta entry) (sym is) (is_image code meta entry short fits)
reads_back code meta entry (Err f) fits is short = tt
