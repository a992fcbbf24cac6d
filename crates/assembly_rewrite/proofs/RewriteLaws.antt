-- An assembly written anew: what its parts say of it.
use Rattle.std.proofs.Common.{◌≡◌, ◌≢◌, ◌⊎◌, ℕ, ◌-◌, ◌^◌, ◌<◌, ◌≤◌, eqb, ltb, Bool, true, false, cond, not, ◌||◌, List, length, take, drop, Result, Ok, Err, refl, sym, ap, ◌∙◌, subst, inl, inr, arith}
use Rattle.std.specs.Prelude.{IfOk, IsOk, OnOk}
use Rattle.std.proofs.lemmas.List.{take_all}
use Rattle.std.proofs.lemmas.Bool.{cases_Bool, and_parts, eqb-true, lt-ltb}
use Rattle.cil_base.specs.declared.rule.Rule.TheVariants.{L5, L6}
use Rattle.cil_base.specs.declared.refusal.Refusal.{Refusal}
use Rattle.cil_base.specs.declared.refusal.Fault.{Fault}
use Rattle.cil_base.specs.declared.refusal.Fault.TheVariants.{Refused, Memory}
use Rattle.cil_base.specs.Refusals.{NoneBroken, Fails, OnRefused, OnMemory}
use Rattle.cil_base.proofs.RefusalLaws.{OnRefused-weaker, OnMemory-weaker}
use Rattle.cil_base.proofs.OrderLaws.{first_is_one}
use Rattle.cil_base.proofs.Small.{on_ok, same_err}
use Rattle.pe_image.specs.declared.growth.SectionGrowth.{SectionGrowth}
use Rattle.pe_image.specs.Headers.{headers_of, file_alignment}
use Rattle.pe_image.proofs.WrittenLaws.{next_up}
use Rattle.pe_image.specs.Cli.{metadata_of, cli_of, cli_header_offset}
use Rattle.cil_base.specs.Bytes.{part}
use Rattle.pe_image.specs.SectionGrowth.{growth_in, growth_of, grown_len, has_room, room_of, no_room, too_long, new_address}
use Rattle.pe_image.specs.Written.{grown_of, grown_by, grown_image, grown_cli, KeepsBytes}
use Rattle.pe_image.specs.ReadBack.{new_rva, Grows}
use Rattle.pe_image.specs.Images.{File}
use Rattle.cli_heaps.specs.Root as root
use Rattle.cli_heaps.specs.Root.{Metadata}
use Rattle.heap_writer.specs.Written.{limit_tests, IsWritten}
use Rattle.cli_tables.specs.Tables.{rows_in, AreIn}
use Rattle.cli_tables.specs.TableRules.{HeaderBroken, has_unread, is_one_assembly}
use Rattle.cli_tables.specs.Written.{NoneFull, AreOfOne, IsOverfull, IsRefused, FitsLimits}
use Rattle.assembly.specs.Assemblies.{metadata_in, tables_of}
use Rattle.assembly_rewrite.specs.Rewrite.{no_growths, stream_of, metadata_with, new_metadata, IsLimit, AreTooLong, AreShort, KeepsRows, IsContract, PassesLimit, HasNoRoom, Layer, Contracts, Limits, Room, Breaks, Names, MayBoth, IsRewriteRefusal, KeepsRewriteRules}

-- ---- limits

none_over : (meta : List ℕ) (ts : List (List (List ℕ))) → NoneFull ts → NoneBroken (Fails (limit_tests meta (no_growths meta) (stream_of meta ts))) → NoneBroken (IsLimit meta ts)
none_over meta ts few none r (inl x) = omega (arith, x.1, few r.table)
none_over meta ts few none r (inr x) = none r x

pub within : (r : Result (List ℕ) Fault) (meta : List ℕ) (ts : List (List (List ℕ))) → OnOk r (NoneFull ts) → OnOk r (NoneBroken (Fails (limit_tests meta (no_growths meta) (stream_of meta ts)))) → OnOk r (length (metadata_with meta ts) ≤ 2 ^ 27) → OnOk r (AreShort meta ts)
within (Ok x) meta ts few none short = (none_over meta ts few none, short)
within (Err e) meta ts few none short = tt

pub short_only : (r : Result (List ℕ) Fault) (meta : List ℕ) (ts : List (List (List ℕ))) → OnMemory r (FitsLimits meta (no_growths meta) ts) → OnMemory r (AreShort meta ts)
short_only r meta ts h = OnMemory-weaker r (FitsLimits meta (no_growths meta) ts) (AreShort meta ts) (λ f. (none_over meta ts f.0 f.1.limits, f.1.short)) h

-- what the writer refuses
limit_or_length : (meta : List ℕ) (ts : List (List (List ℕ))) (r : Refusal) → IsRefused meta (no_growths meta) ts r → IsOverfull ts r ⊎ NoneFull ts → IsLimit meta ts r ⊎ AreTooLong meta ts r
limit_or_length meta ts r (inl x) full = inl (inl x)
limit_or_length meta ts r (inr (inl x)) full = inl (inr x)
limit_or_length meta ts r (inr (inr x)) (inl over) = inl (inl over)
limit_or_length meta ts r (inr (inr x)) (inr none) = inr (record { within = none_over meta ts none x.within; long = x.long; refusal_is = x.refusal_is })

pub write_refused : (result : Result (List ℕ) Fault) (meta : List ℕ) (ts : List (List (List ℕ))) → OnRefused result (IsRefused meta (no_growths meta) ts) → OnRefused result (λ r. IsOverfull ts r ⊎ NoneFull ts) → OnRefused result (λ r. IsLimit meta ts r ⊎ AreTooLong meta ts r)
write_refused (Ok x) meta ts refused full = tt
write_refused (Err (Refused r)) meta ts refused full = limit_or_length meta ts r refused full
write_refused (Err (Memory e)) meta ts refused full = tt

-- ---- room

-- metadata that no image can hold
long_refused : (bytes m : List ℕ) (a room : ℕ) → room_of bytes a ≡ Ok room → 2 ^ 27 < length m → growth_in bytes a (headers_of bytes) (length m) ≡ Err too_long
unfolding room_of
long_refused bytes m a room e long = go (has_room bytes (headers_of bytes)) e
  where
    past : ltb (2 ^ 27) (grown_len (growth_of bytes (headers_of bytes) (length m))) ≡ true
    past = lt-ltb (2 ^ 27) (grown_len (growth_of bytes (headers_of bytes) (length m))) (omega (arith, long, next_up (length m) (file_alignment bytes (headers_of bytes))))

    go : (b : Bool) → cond b (Ok (new_address bytes (headers_of bytes))) (Err (no_room a (headers_of bytes))) ≡ Ok room → cond b (cond (ltb (2 ^ 27) (grown_len (growth_of bytes (headers_of bytes) (length m)))) (Err too_long) (Ok (growth_of bytes (headers_of bytes) (length m)))) (Err (no_room a (headers_of bytes))) ≡ Err too_long
    go true k = rw past refl
    go false k = absurd cc

pub no_error : (bytes m out : List ℕ) (a rva len : ℕ) → grown_of bytes a m rva len ≡ Ok out → NoneBroken (λ r. growth_in bytes a (headers_of bytes) (length m) ≡ Err r)
unfolding grown_of
no_error bytes m out a rva len e r g =
    apart (sym (ap (λ (z : Result SectionGrowth Refusal). grown_by z (grown_image bytes (headers_of bytes) (cli_header_offset bytes (headers_of bytes)) (grown_cli (cli_of bytes) rva len) m)) g) ∙ e)
  where
    apart : Err r ≡ Ok out → ⊥
    apart k = cc

pub error_of : (bytes m : List ℕ) (a rva len : ℕ) (r : Refusal) → grown_of bytes a m rva len ≡ Err r → growth_in bytes a (headers_of bytes) (length m) ≡ Err r
unfolding grown_of
error_of bytes m a rva len r e = go (growth_in bytes a (headers_of bytes) (length m)) e
  where
    go : (z : Result SectionGrowth Refusal) → grown_by z (grown_image bytes (headers_of bytes) (cli_header_offset bytes (headers_of bytes)) (grown_cli (cli_of bytes) rva len) m) ≡ Err r → z ≡ Err r
    go (Ok g) k = cc
    go (Err x) k = cc

pub error_room : (bytes m : List ℕ) (a : ℕ) (r : Refusal) → room_of bytes a ≡ Err r → growth_in bytes a (headers_of bytes) (length m) ≡ Err r
unfolding room_of
error_room bytes m a r e = go (has_room bytes (headers_of bytes)) (cond (ltb (2 ^ 27) (grown_len (growth_of bytes (headers_of bytes) (length m)))) (Err too_long) (Ok (growth_of bytes (headers_of bytes) (length m)))) e
  where
    go : (b : Bool) (z : Result SectionGrowth Refusal) → cond b (Ok (new_address bytes (headers_of bytes))) (Err (no_room a (headers_of bytes))) ≡ Err r → cond b z (Err (no_room a (headers_of bytes))) ≡ Err r
    go true z k = absurd cc
    go false z k = cc

-- ---- metadata

-- one Module and one Assembly row, where the header breaks no rule
pub one_each : (meta : List ℕ) (ts : List (List (List ℕ))) (a : ℕ) → AreIn (root.tables meta) ts → NoneBroken (HeaderBroken meta a) → AreOfOne ts
unfolding HeaderBroken
one_each meta ts a are none = elim (cases_Bool (is_one_assembly (root.tables meta))) [
  | inl e ↦
      let both = and_parts (eqb (rows_in (root.tables meta) 0x00) 1) (eqb (rows_in (root.tables meta) 0x20) 1) e in
      (are.rows 0x00 ∙ eqb-true (rows_in (root.tables meta) 0x00) 1 both.0, are.rows 0x20 ∙ eqb-true (rows_in (root.tables meta) 0x20) 1 both.1)
  | inr e ↦ absurd (none _ (inr (inl (ap (λ (b : Bool). has_unread (root.tables meta) || not b) e ∙ or_true (has_unread (root.tables meta)), refl))))
]
  where
    or_true : (b : Bool) → (b || true) ≡ true
    or_true true = refl
    or_true false = refl

-- ---- the written assembly

whole : (m : List ℕ) (n : ℕ) → part m (n - n) (length m) ≡ m
whole m n =
    let none : n - n ≡ 0 = omega arith in
    ap (λ (k : ℕ). take (length m) (drop k m)) none ∙ take_all (length m) m (omega arith)

-- the metadata that are written, in an image that has grown by them
pub record IsPlaced (old : List ℕ) (a : ℕ) (m : List ℕ) : Type 0 where
  pub exact : m ≡ new_metadata old
  pub streams : IsWritten (metadata_of old) (no_growths (metadata_of old)) (root.tables m) m
  pub rows : AreIn (root.tables m) (tables_of old)
  pub header : NoneBroken (HeaderBroken m a)

pub done : (r : Result (List ℕ) Fault) (old : List ℕ) (a : ℕ) (m : List ℕ) → IsPlaced old a m
    → IfOk r (Grows old a m (new_rva old) (length m)) → IfOk r (λ new. grown_of old a m (new_rva old) (length m) ≡ Ok new) → IfOk r (KeepsBytes old) → IfOk r (KeepsRows old a)
done (Err e) old a m p g i k = tt
done (Ok new) old a m p g i k =
    let same : m ≡ metadata_of new = sym (g.metadata ∙ whole m (new_rva old)) in
    record {
      exact = sym same ∙ p.exact;
      grows = subst (λ (x : List ℕ). Grows old a x (new_rva old) (length x) new) same g;
      streams = subst (λ (x : List ℕ). IsWritten (metadata_of old) (no_growths (metadata_of old)) (root.tables x) x) same p.streams;
      rows = subst (λ (x : List ℕ). AreIn (root.tables x) (tables_of old)) same p.rows;
      header = subst (λ (x : List ℕ). NoneBroken (HeaderBroken x a)) same p.header;
      image_is = subst (λ (x : List ℕ). grown_of old a x (new_rva old) (length x) ≡ Ok new) same i;
      bytes_stay = k;
    }

-- ---- the assembly's parts

-- what is said of heaps and tables is said of the assembly's
pub of_parts : (P : List ℕ → List (List (List ℕ)) → Type 0) (file : File) (heaps : Metadata) (ts : List (List (List ℕ))) → heaps ≡ metadata_in file → ts ≡ tables_of file.bytes → P heaps.bytes ts → P (metadata_of file.bytes) (tables_of file.bytes)
of_parts P file heaps ts h t p =
    subst (λ (x : List (List (List ℕ))). P (metadata_of file.bytes) x) t (subst (λ (m : Metadata). P m.bytes ts) h p)

-- and what is said of the image and of the slice is said of the assembly and its new metadata
pub of_image : (P : List ℕ → ℕ → List ℕ → Type 0) (file image : File) (slice m : List ℕ) → image ≡ file → slice ≡ m → P image.bytes image.assembly slice → P file.bytes file.assembly m
of_image P file image slice m f s h =
    subst (λ (x : List ℕ). P file.bytes file.assembly x) s (subst (λ (x : File). P x.bytes x.assembly slice) f h)

pub is_new : (bytes : List ℕ) (r : Result (List ℕ) Fault) → IfOk r (λ new. new ≡ metadata_with (metadata_of bytes) (tables_of bytes)) → IfOk r (λ new. new ≡ new_metadata bytes)
unfolding new_metadata
is_new bytes r h = h

pub streams_are : (meta stream m : List ℕ) → IsWritten meta (no_growths meta) stream m → IsWritten meta (no_growths meta) (root.tables m) m
streams_are meta stream m w = subst (λ (s : List ℕ). IsWritten meta (no_growths meta) s m) (sym w.tables_are) w

-- ---- what is refused

limit_rule : (bytes : List ℕ) (r : Refusal) → PassesLimit bytes r → r.rule ≡ L5
limit_rule bytes r (inl x) = ap (λ (t : Refusal). t.rule) x.0
limit_rule bytes r (inr (inl x)) = ap (λ (t : Refusal). t.rule) (sym x.1)
limit_rule bytes r (inr (inr (inl x))) = ap (λ (t : Refusal). t.rule) (sym x.1)
limit_rule bytes r (inr (inr (inr (inl x)))) = ap (λ (t : Refusal). t.rule) (sym x.1)
limit_rule bytes r (inr (inr (inr (inr (inl x))))) = ap (λ (t : Refusal). t.rule) (sym x.1)
limit_rule bytes r (inr (inr (inr (inr (inr (inl x)))))) = ap (λ (t : Refusal). t.rule) (sym x.1)
limit_rule bytes r (inr (inr (inr (inr (inr (inr x)))))) = absurd x

-- L5 before P5, and P5 before L6
pub limit_first : (bytes : List ℕ) (r s n : Refusal) → (r.rule ≢ L6 → s ≡ r) → (r.rule ≡ L6 → s ≡ n) → PassesLimit bytes r ⊎ AreTooLong (metadata_of bytes) (tables_of bytes) r → PassesLimit bytes s ⊎ (NoneBroken (PassesLimit bytes) × (s ≡ n))
limit_first bytes r s n other long (inl x) = inl (subst (λ (t : Refusal). PassesLimit bytes t) (sym (other (λ e. apart (sym (limit_rule bytes r x) ∙ e)))) x)
  where
    apart : L5 ≡ L6 → ⊥
    apart k = cc
limit_first bytes r s n other long (inr x) = inr (x.within, long (ap (λ (t : Refusal). t.rule) x.refusal_is))

-- which refusal of an image without room is named
pub room_first : (bytes : List ℕ) (a : ℕ) (n s : Refusal) → NoneBroken (IsContract (metadata_of bytes) a) → room_of bytes a ≡ Err n → PassesLimit bytes s ⊎ (NoneBroken (PassesLimit bytes) × (s ≡ n)) → IsRewriteRefusal bytes a s
room_first bytes a n s contracts e (inl x) = inr (contracts, inl x)
room_first bytes a n s contracts e (inr x) = inr (contracts, inr (x.0, inl (subst (λ (t : Refusal). HasNoRoom bytes a t) (sym x.1) (error_room bytes (new_metadata bytes) a n e))))

-- and of metadata that can't be written, where there is room
pub named_refusal : (bytes : List ℕ) (a : ℕ) (r : Refusal) → NoneBroken (IsContract (metadata_of bytes) a) → IsOk (room_of bytes a) → PassesLimit bytes r ⊎ AreTooLong (metadata_of bytes) (tables_of bytes) r → IsRewriteRefusal bytes a r
unfolding new_metadata
named_refusal bytes a r contracts ok (inl x) = inr (contracts, inl x)
named_refusal bytes a r contracts ok (inr x) = by_room (room_of bytes a) refl ok
  where
    by_room : (o : Result ℕ Refusal) → room_of bytes a ≡ o → IsOk o → IsRewriteRefusal bytes a r
    by_room (Ok room) e k = inr (contracts, inr (x.within, inl (subst (λ (t : Refusal). HasNoRoom bytes a t) (sym x.refusal_is) (long_refused bytes (new_metadata bytes) a room e x.long))))
    by_room (Err n) e k = absurd cc

-- no room is refused behind the limits
pub room_refused : (bytes : List ℕ) (a : ℕ) (m : List ℕ) (r : Result (List ℕ) Fault) → NoneBroken (IsContract (metadata_of bytes) a) → NoneBroken (PassesLimit bytes) → m ≡ new_metadata bytes
    → OnRefused r (λ x. growth_in bytes a (headers_of bytes) (length m) ≡ Err x) → OnRefused r (IsRewriteRefusal bytes a)
room_refused bytes a m r contracts limits e f =
    OnRefused-weaker r (λ x. growth_in bytes a (headers_of bytes) (length m) ≡ Err x) (IsRewriteRefusal bytes a)
    (λ x g. inr (contracts, inr (limits, inl (subst (λ (l : List ℕ). growth_in bytes a (headers_of bytes) (length l) ≡ Err x) e g)))) f

pub all_kept : (bytes : List ℕ) (a : ℕ) (m : List ℕ) (r : Result (List ℕ) Fault) → NoneBroken (IsContract (metadata_of bytes) a) → NoneBroken (PassesLimit bytes) → m ≡ new_metadata bytes
    → OnOk r (NoneBroken (λ x. growth_in bytes a (headers_of bytes) (length m) ≡ Err x)) → OnOk r (KeepsRewriteRules bytes a)
all_kept bytes a m r contracts limits e f =
    on_ok {P = NoneBroken (λ x. growth_in bytes a (headers_of bytes) (length m) ≡ Err x)} {Q = KeepsRewriteRules bytes a} r
    (λ h. (contracts, (limits, (subst (λ (l : List ℕ). NoneBroken (λ x. growth_in bytes a (headers_of bytes) (length l) ≡ Err x)) e h, tt)))) f

-- ---- which refusals are named

pub names_broken : (bytes : List ℕ) (a : ℕ) (l : Layer) (r : Refusal) → Names bytes a l r → Breaks bytes a l r
names_broken bytes a Contracts r h = h.broken
names_broken bytes a Limits r h = h
names_broken bytes a Room r h = h

pub names_one : (bytes : List ℕ) (a : ℕ) (l : Layer) (r s : Refusal) → Names bytes a l r → Names bytes a l s → (s ≡ r) ⊎ MayBoth bytes l s r
names_one bytes a Contracts r s h k = inl (first_is_one (IsContract (metadata_of bytes) a) r s h k)
names_one bytes a Limits r s h k = inr (limit_rule bytes s k, limit_rule bytes r h, k, h)
names_one bytes a Room r s h k = inl (same_err s r _ k h)
