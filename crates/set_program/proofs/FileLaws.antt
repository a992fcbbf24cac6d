-- The assemblies of files, by their places.
use Rattle.std.proofs.Common.{◌≡◌, ◌∙◌, sym, ap, arith, ℕ, zero, suc, ◌+◌, List, [], ◌∷◌, ◌++◌, length, slice_get}
use Rattle.std.specs.Prelude.{map, Option, Some, None, option_map}
use Rattle.std.proofs.lemmas.List.{map-append}
use Rattle.std.proofs.lemmas.Option.{slice_get-map, get_or_from_slice_get}
use Rattle.pe_image.specs.Images.{File}
use Rattle.pe_image.specs.Cli.{metadata_of}
use Rattle.assembly.specs.Assemblies.{tables_of}
use Rattle.set_rows.specs.Sets.{Assembly, Assemblies, no_assembly, assembly_at, assembly_of}
use Rattle.set_program.specs.Files.{assemblies_of, AreNumbered}

module _ (files : List File) (s : Assemblies) (a : ℕ) (file : File) (view : assemblies_of files ≡ s) (there : slice_get files a ≡ Some file) where
  pub file_at : assembly_of file.bytes ≡ assembly_at s a
  file_at =
      sym (get_or_from_slice_get (assemblies_of files) a (assembly_of file.bytes) no_assembly (slice_get-map (λ (f : File). assembly_of f.bytes) files a ∙ ap (option_map (λ (f : File). assembly_of f.bytes)) there))
      ∙ ap (λ (l : Assemblies). assembly_at l a) view

  bytes_of : file.bytes ≡ (assembly_of file.bytes).bytes
  unfolding assembly_of
  bytes_of = λ i. file.bytes

  meta_of : metadata_of file.bytes ≡ (assembly_of file.bytes).meta
  unfolding assembly_of
  meta_of = λ i. metadata_of file.bytes

  rows_of : tables_of file.bytes ≡ (assembly_of file.bytes).tables
  unfolding assembly_of
  rows_of = λ i. tables_of file.bytes

  pub bytes_at : file.bytes ≡ (assembly_at s a).bytes
  bytes_at = bytes_of ∙ ap (λ (x : Assembly). x.bytes) file_at

  pub metadata_at : metadata_of file.bytes ≡ (assembly_at s a).meta
  metadata_at = meta_of ∙ ap (λ (x : Assembly). x.meta) file_at

  pub tables_at : tables_of file.bytes ≡ (assembly_at s a).tables
  tables_at = rows_of ∙ ap (λ (x : Assembly). x.tables) file_at

number_or : Option File → ℕ
number_or None = 0
number_or (Some file) = file.assembly

numbered_from : (i : ℕ) (files : List File) (last : File) → ((k : ℕ) (file : File) → slice_get files k ≡ Some file → file.assembly ≡ i + k) → last.assembly ≡ i + length files
    → (k : ℕ) (file : File) → slice_get (files ++ last ∷ []) k ≡ Some file → file.assembly ≡ i + k
unfolding number_or
numbered_from i [] last h e zero file there = sym (ap number_or there) ∙ e
numbered_from i [] last h e (suc k) file there = absurd cc
numbered_from i (x ∷ files) last h e zero file there = h zero file there
numbered_from i (x ∷ files) last h e (suc k) file there =
    let later : file.assembly ≡ (i + 1) + k = numbered_from (i + 1) files last (λ j g t. let here : g.assembly ≡ i + suc j = h (suc j) g t in omega (arith, here)) (omega (arith, e)) k file there in
    omega (arith, later)

-- one more file behind the others
pub numbered_more : (files : List File) (last : File) → AreNumbered files → last.assembly ≡ length files → AreNumbered (files ++ last ∷ [])
numbered_more files last h e = λ k file there.
    let later : file.assembly ≡ 0 + k = numbered_from 0 files last (λ j g t. let here : g.assembly ≡ j = h j g t in omega (arith, here)) (omega (arith, e)) k file there in
    omega (arith, later)

pub one_more_file : (files now : List File) (last : File) (s : Assemblies) (bytes : List ℕ) → now ≡ files ++ last ∷ [] → last.bytes ≡ bytes → assemblies_of files ≡ s → assemblies_of now ≡ s ++ assembly_of bytes ∷ []
one_more_file files now last s bytes e b view =
    ap assemblies_of e
    ∙ map-append (λ (f : File). assembly_of f.bytes) files (last ∷ [])
    ∙ ap (λ (l : Assemblies). l ++ assembly_of last.bytes ∷ []) view
    ∙ ap (λ (l : List ℕ). s ++ assembly_of l ∷ []) b
