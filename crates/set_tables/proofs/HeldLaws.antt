-- What the coded types of the assemblies lead to, one assembly more.
use Rattle.std.proofs.Common.{◌≡◌, ◌∙◌, ◌⊎◌, sym, ap, refl, inl, inr, arith, ℕ, zero, suc, ◌+◌, ◌<◌, List, [], ◌∷◌, ◌++◌, length, get_or, map}
use Rattle.std.specs.Prelude.{Option, Some, None, slice_get}
use Rattle.std.proofs.lemmas.List.{length-append}
use Rattle.set_rows.specs.Sets.{Assemblies, assembly_at}
use Rattle.set_types.specs.declared.coded.CodedTypes.{CodedTypes}
use Rattle.set_types.specs.CodedTypes.{coded_of}
use Rattle.set_program.specs.Environment.{coded_in}
use Rattle.members.specs.declared.assembly_members.AssemblyMembers.{AssemblyMembers}
use Rattle.set_tables.specs.Held.{AreCoded}

-- of the first assemblies
pub record CodedUpTo (s : Assemblies) (k : ℕ) (list : List CodedTypes) : Type 0 where
  pub size : length list ≡ k
  pub leads : (a : ℕ) (c : CodedTypes) → slice_get list a ≡ Some c → coded_of c ≡ coded_in s a

abbrev value_or : {A : Type 0} → A → Option A → A
value_or d None = d
value_or d (Some x) = x

-- what stands in a list with one item more
last_or_before : {A : Type 0} (xs : List A) (y : A) (a : ℕ) (d : A) → slice_get (xs ++ y ∷ []) a ≡ Some d → (slice_get xs a ≡ Some d) ⊎ ((a ≡ length xs) × (y ≡ d))
last_or_before [] y zero d e = inr (refl, ap (value_or y) e)
last_or_before [] y (suc a) d e = absurd cc
last_or_before (x ∷ xs) y zero d e = inl e
last_or_before (x ∷ xs) y (suc a) d e = on (last_or_before xs y a d e)
  where
    on : (slice_get xs a ≡ Some d) ⊎ ((a ≡ length xs) × (y ≡ d)) → (slice_get xs a ≡ Some d) ⊎ ((suc a ≡ suc (length xs)) × (y ≡ d))
    on (inl h) = inl h
    on (inr h) = inr (ap suc h.0, h.1)

pub one_more : (s : Assemblies) (k : ℕ) (list list' : List CodedTypes) (c : CodedTypes) → list' ≡ list ++ c ∷ [] → coded_of c ≡ coded_in s k → CodedUpTo s k list → CodedUpTo s (k + 1) list'
one_more s k list list' c e h so_far = record {
  size = ap length e ∙ length-append list (c ∷ []) ∙ ap (λ (n : ℕ). n + 1) so_far.size;
  leads = λ a d g. go a d (last_or_before list c a d (ap (λ (l : List CodedTypes). slice_get l a) (sym e) ∙ g));
}
  where
    go : (a : ℕ) (d : CodedTypes) → (slice_get list a ≡ Some d) ⊎ ((a ≡ length list) × (c ≡ d)) → coded_of d ≡ coded_in s a
    go a d (inl g) = so_far.leads a d g
    go a d (inr g) = ap coded_of (sym g.1) ∙ h ∙ ap (coded_in s) (sym (g.0 ∙ so_far.size))

pub none_yet : (s : Assemblies) → CodedUpTo s 0 []
none_yet s = record { size = refl; leads = λ a c e. absurd cc }

pub all_are : (s : Assemblies) (k : ℕ) (list : List CodedTypes) → k ≡ length s → CodedUpTo s k list → AreCoded s list
all_are s k list e h = record { many = h.size ∙ e; leads = h.leads }

-- ---- the rows of one assembly

rows_of_one : (l : List AssemblyMembers) (a : ℕ) (m : AssemblyMembers) → a < length l → m ≡ get_or l a m → m.rows ≡ assembly_at (map (λ n. n.rows) l) a
rows_of_one [] a m h e = absurd (omega (arith, h))
rows_of_one (x ∷ xs) zero m h e = ap (λ (n : AssemblyMembers). n.rows) e
rows_of_one (x ∷ xs) (suc a) m h e = rows_of_one xs a m (omega (arith, h)) e

pub rows_there : (s : Assemblies) (l : List AssemblyMembers) (a : ℕ) (m : AssemblyMembers) → map (λ n. n.rows) l ≡ s → a < length l → m ≡ get_or l a m → m.rows ≡ assembly_at s a
rows_there s l a m h below e = rows_of_one l a m below e ∙ ap (λ (x : Assemblies). assembly_at x a) h
