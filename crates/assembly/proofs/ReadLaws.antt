-- What is read of an image belongs together.
use Rattle.std.proofs.Common.{◌≡◌, ℕ, ◌^◌, ◌<◌, ◌≤◌, List, [], length, Option, Some, None, option_map, take, drop, sym, ap, ◌∙◌, subst, inl, inr, arith}
use Rattle.std.specs.Prelude.{unwrap_or}
use Rattle.std.proofs.lemmas.List.{take-append-drop, length-append, length-drop}
use Rattle.cil_base.specs.declared.refusal.Refusal.{Refusal}
use Rattle.cil_base.specs.declared.refusal.Fault.{Fault}
use Rattle.cil_base.specs.Refusals.{First, NoneBroken, InTurn, IfRefused}
use Rattle.cil_base.proofs.RefusalLaws.{IfRefused-weaker}
use Rattle.pe_image.specs.Headers.{headers_of}
use Rattle.pe_image.specs.Cli.{metadata_of, cli_of}
use Rattle.cil_base.specs.Bytes.{part}
use Rattle.pe_image.specs.Sections.{offset_in, section_of}
use Rattle.pe_image.specs.Images.{File}
use Rattle.pe_image.specs.Rules as image
use Rattle.cli_heaps.specs.Root.{Metadata}
use Rattle.cli_heaps.specs.Root as root
use Rattle.cli_heaps.specs.RootRules as heaps
use Rattle.cli_tables.specs.Layout.{tables_in}
use Rattle.cli_tables.specs.Tables.{AreIn}
use Rattle.cli_tables.specs.TableRules.{HeaderBroken, RowsBroken}
use Rattle.assembly.specs.Assemblies.{IsUnread, IsReadable, AreWritable, Belong}

short_part : (bytes : List ℕ) (at n : ℕ) → length (part bytes at n) ≤ length bytes
short_part bytes at n =
    omega (arith, length-append (take n (drop at bytes)) (drop n (drop at bytes)), ap (λ (l : List ℕ). length l) (take-append-drop n (drop at bytes)), length-drop at bytes)

short_option : {S : Type 0} (f : S → List ℕ) (n : ℕ) (o : Option S) → ((s : S) → length (f s) ≤ n) → length (unwrap_or (option_map f o) []) ≤ n
short_option f n None h = omega arith
short_option f n (Some s) h = h s

-- they are bytes of the file
pub short_metadata : (bytes : List ℕ) → length (metadata_of bytes) ≤ length bytes
unfolding metadata_of
short_metadata bytes =
    short_option (λ s. part bytes (offset_in s (cli_of bytes).metadata_rva) (cli_of bytes).metadata_len) (length bytes)
    (section_of bytes (headers_of bytes) (cli_of bytes).metadata_rva (cli_of bytes).metadata_len)
    (λ s. short_part bytes (offset_in s (cli_of bytes).metadata_rva) (cli_of bytes).metadata_len)

-- ---- what is read

abbrev metadata_at : List ℕ → ℕ → Metadata
metadata_at x n = record { bytes = x; assembly = n }

module _ (bytes raw : List ℕ) (a : ℕ) (image_is : File) (meta : Metadata) (f : image_is ≡ record { bytes = bytes; assembly = a }) (e : raw ≡ metadata_of image_is.bytes) (g : meta ≡ record { bytes = raw; assembly = a }) where
  pub raw_is : raw ≡ metadata_of bytes
  raw_is = e ∙ ap (λ (x : File). metadata_of x.bytes) f

  meta_is : meta.bytes ≡ metadata_of bytes
  meta_is = ap (λ (x : Metadata). x.bytes) g ∙ raw_is

  pub readable : NoneBroken (image.Broken bytes a) → NoneBroken (heaps.Broken raw a) → NoneBroken (HeaderBroken meta.bytes a) → NoneBroken (RowsBroken meta.bytes a) → IsReadable bytes a
  readable first second third fourth = (
    first,
    (
      subst (λ (x : List ℕ). NoneBroken (heaps.Broken x a)) raw_is second,
      (
        subst (λ (x : List ℕ). NoneBroken (HeaderBroken x a)) meta_is third,
        (subst (λ (x : List ℕ). NoneBroken (RowsBroken x a)) meta_is fourth, tt),
      ),
    ),
  )

  pub belong : (ts : List (List (List ℕ))) → AreIn (root.tables meta.bytes) ts → ts ≡ tables_in (root.tables meta.bytes) → AreWritable meta.bytes ts → IsReadable bytes a → Belong image_is meta ts
  belong ts cells exact writable rules =
      let same : meta.bytes ≡ metadata_of image_is.bytes = ap (λ (x : Metadata). x.bytes) g ∙ e in
      let number : a ≡ image_is.assembly = sym (ap (λ (x : File). x.assembly) f) in
      record {
        heaps_are = g ∙ ap (λ (x : List ℕ). metadata_at x a) e ∙ ap (λ (n : ℕ). metadata_at (metadata_of image_is.bytes) n) number;
        tables_are = exact ∙ ap (λ (x : List ℕ). tables_in (root.tables x)) same;
        cells = subst (λ (x : List ℕ). AreIn (root.tables x) ts) same cells;
        writable = subst (λ (x : List ℕ). AreWritable x ts) same writable;
        readable = subst (λ (x : File). IsReadable x.bytes x.assembly) (sym f) rules;
      }

  -- ---- what is refused

  pub unread_root : (r : Refusal) → NoneBroken (image.Broken bytes a) → First (heaps.Broken raw a) r → IsUnread bytes a r
  unread_root r first h = inr (first, inl (subst (λ (x : List ℕ). First (heaps.Broken x a) r) raw_is h))

  unread_table : (r : Refusal) → NoneBroken (image.Broken bytes a) → NoneBroken (heaps.Broken raw a) → InTurn (HeaderBroken meta.bytes a) (First (RowsBroken meta.bytes a)) r → IsUnread bytes a r
  unread_table r first second (inl h) =
      inr (first, inr (subst (λ (x : List ℕ). NoneBroken (heaps.Broken x a)) raw_is second, inl (subst (λ (x : List ℕ). First (HeaderBroken x a) r) meta_is h)))
  unread_table r first second (inr h) =
      inr (
        first,
        inr (
          subst (λ (x : List ℕ). NoneBroken (heaps.Broken x a)) raw_is second,
          inr (subst (λ (x : List ℕ). NoneBroken (HeaderBroken x a)) meta_is h.0, inl (subst (λ (x : List ℕ). First (RowsBroken x a) r) meta_is h.1)),
        ),
      )

  pub unread_tables : (fault : Fault) → NoneBroken (image.Broken bytes a) → NoneBroken (heaps.Broken raw a) → IfRefused fault (InTurn (HeaderBroken meta.bytes a) (First (RowsBroken meta.bytes a))) → IfRefused fault (IsUnread bytes a)
  unread_tables fault first second h =
      IfRefused-weaker fault (InTurn (HeaderBroken meta.bytes a) (First (RowsBroken meta.bytes a))) (IsUnread bytes a) (λ r x. unread_table r first second x) h
