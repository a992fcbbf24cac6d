-- The layers of `list`: the rules of a set, then those on contracts.
use Rattle.std.proofs.Common.{◌≡◌, ◌<◌, ℕ, false, List, [], ◌∷◌, map, length, get_or, ap, subst, inl, inr, arith, Option, Some, None, Result, Ok, Err}
use Rattle.std.specs.Prelude.{IfOk, MatchOption}
use Rattle.cil_base.specs.declared.refusal.Refusal.{Refusal}
use Rattle.cil_base.specs.Refusals.{First, NoneBroken, InLayers, NoneOf}
use Rattle.cil_base.proofs.LayerLaws.{named_before, named_behind, none_joined}
use Rattle.cil_base.proofs.OrderLaws.{first_is_one}
use Rattle.cil_model.specs.declared.contract.Contract.{Contract}
use Rattle.cil_model.specs.declared.program.Program.{Program}
use Rattle.pe_image.specs.Images.{File}
use Rattle.set_rows.specs.Sets.{Assembly, assembly_at, assembly_of}
use Rattle.own_contracts.specs.Own.{AreOwn, BreaksOwn}
use Rattle.own_contracts.specs.Inherited.{Inherits}
use Rattle.set_check.specs.Sets as checked
use Rattle.set_check.specs.Sets.{assemblies_of, bytes_of, IsContractFrom, IsReadProgram}
use Rattle.set_list.specs.Unread.{IsUnread}
use Rattle.set_list.specs.Lists.{Layer, OfSet, contract_layers, later_layers, unread_layers, Breaks, Names, IsSound, IsUnsound}
use Rattle.set_list.proofs.UniqueLaws.{none_in_blocks, first_in_blocks, none_from_others, first_from_others}

-- ---- which refusals are named

pub names_broken : (set : List (List ℕ)) (l : Layer) (r : Refusal) → Names set l r → Breaks set l r
names_broken set l r h = h.broken

pub names_one : (set : List (List ℕ)) (l : Layer) (r s : Refusal) → Names set l r → Names set l s → s ≡ r
names_one set l r s h k = first_is_one (Breaks set l) r s h k

module _ (set : List (List ℕ)) where
  -- ---- layers of the set among those of the command

  named_in_set : (ls : List checked.Layer) (r : Refusal) → InLayers (checked.Breaks set) (checked.Names set) ls r → InLayers (Breaks set) (Names set) (map OfSet ls) r
  named_in_set [] r h = absurd h
  named_in_set (l ∷ ls) r (inl h) = inl h
  named_in_set (l ∷ ls) r (inr h) = inr (h.0, named_in_set ls r h.1)

  none_in_set : (ls : List checked.Layer) → NoneOf (checked.Breaks set) ls → NoneOf (Breaks set) (map OfSet ls)
  none_in_set [] h = tt
  none_in_set (l ∷ ls) h = (h.0, none_in_set ls h.1)

  pub unread_refused : (r : Refusal) → InLayers (checked.Breaks set) (checked.Names set) (checked.all_reading_layers 0 (length set)) r → IsUnsound set r
  unread_refused r h = named_before (Breaks set) (Names set) (map OfSet (checked.all_reading_layers 0 (length set))) later_layers r (named_in_set (checked.all_reading_layers 0 (length set)) r h)

  pub later_refused : (r : Refusal) → NoneOf (checked.Breaks set) (checked.all_reading_layers 0 (length set)) → InLayers (Breaks set) (Names set) later_layers r → IsUnsound set r
  later_refused r read h =
      named_behind (Breaks set) (Names set) (map OfSet (checked.all_reading_layers 0 (length set))) later_layers r (none_in_set (checked.all_reading_layers 0 (length set)) read) h

  pub all_kept : NoneOf (checked.Breaks set) (checked.all_reading_layers 0 (length set)) → NoneOf (Breaks set) later_layers → IsSound set
  all_kept read h = none_joined (Breaks set) (Names set) (map OfSet (checked.all_reading_layers 0 (length set))) later_layers (none_in_set (checked.all_reading_layers 0 (length set)) read) h

  pub rows_refused : (r : Refusal) → InLayers (checked.Breaks set) (checked.Names set) (checked.row_layers false) r → InLayers (Breaks set) (Names set) later_layers r
  rows_refused r h = named_before (Breaks set) (Names set) (map OfSet (checked.row_layers false)) contract_layers r (named_in_set (checked.row_layers false) r h)

  pub contracts_refused : (r : Refusal) → NoneOf (checked.Breaks set) (checked.row_layers false) → InLayers (Breaks set) (Names set) contract_layers r → InLayers (Breaks set) (Names set) later_layers r
  contracts_refused r sound h = named_behind (Breaks set) (Names set) (map OfSet (checked.row_layers false)) contract_layers r (none_in_set (checked.row_layers false) sound) h

  pub contracts_kept : NoneOf (checked.Breaks set) (checked.row_layers false) → NoneOf (Breaks set) contract_layers → NoneOf (Breaks set) later_layers
  contracts_kept sound h = none_joined (Breaks set) (Names set) (map OfSet (checked.row_layers false)) contract_layers (none_in_set (checked.row_layers false) sound) h

  -- ---- what isn't read yet

  abbrev pub Unread : Option Refusal → Type 0
  Unread o = MatchOption o (NoneOf (Breaks set) unread_layers) (InLayers (Breaks set) (Names set) unread_layers)

  module _ (p : Program) (cs : List Contract) (is : IsReadProgram (assemblies_of set) p) (own : AreOwn p cs) where
    sources_told : NoneBroken (IsContractFrom 1 set) → NoneBroken (IsUnread (assembly_at (assemblies_of set) 0)) → (o : Option Refusal) → MatchOption o (NoneBroken (Inherits p cs)) (First (Inherits p cs)) → Unread o
    sources_told one two None h = (one, (two, (none_from_others (assemblies_of set) p is cs own h, tt)))
    sources_told one two (Some r) h = inr (one, inr (two, inl (first_from_others (assemblies_of set) p is cs own r h)))

    pub unread_told : {E : Type 0} → NoneBroken (IsContractFrom 1 set) → NoneBroken (IsUnread (assembly_at (assemblies_of set) 0)) → (result : Result (Option Refusal) E) → IfOk result (λ o. MatchOption o (NoneBroken (Inherits p cs)) (First (Inherits p cs))) → IfOk result Unread
    unread_told one two (Ok o) h = sources_told one two o h
    unread_told one two (Err e) h = h

  pub other_told : (r : Refusal) → First (IsContractFrom 1 set) r → InLayers (Breaks set) (Names set) unread_layers r
  other_told r h = inl h

  pub attribute_told : (r : Refusal) → NoneBroken (IsContractFrom 1 set) → First (IsUnread (assembly_at (assemblies_of set) 0)) r → InLayers (Breaks set) (Names set) unread_layers r
  attribute_told r one h = inr (one, inl h)

  -- ---- contract blocks, and what isn't read yet

  module _ (p : Program) (is : IsReadProgram (assemblies_of set) p) where
    pub block_refused : (r : Refusal) → First (BreaksOwn p) r → InLayers (Breaks set) (Names set) contract_layers r
    block_refused r h = inl (first_in_blocks (assemblies_of set) p is r h)

    pub unread_behind : (r : Refusal) → NoneBroken (BreaksOwn p) → InLayers (Breaks set) (Names set) unread_layers r → InLayers (Breaks set) (Names set) contract_layers r
    unread_behind r none h = inr (none_in_blocks (assemblies_of set) p is none, h)

    pub blocks_kept : NoneBroken (BreaksOwn p) → NoneOf (Breaks set) unread_layers → NoneOf (Breaks set) contract_layers
    blocks_kept none h = (none_in_blocks (assemblies_of set) p is none, h)

  -- of the answer of what isn't read yet
  pub told_some : (o : Option Refusal) (r : Refusal) → o ≡ Some r → Unread o → InLayers (Breaks set) (Names set) unread_layers r
  told_some o r e h = subst Unread e h

  pub told_none : (o : Option Refusal) → o ≡ None → Unread o → NoneOf (Breaks set) unread_layers
  told_none o e h = subst Unread e h

  -- of bytes that are those of the files
  pub all_kept_of : (bytes : List (List ℕ)) → bytes ≡ set → NoneOf (checked.Breaks set) (checked.all_reading_layers 0 (length set)) → NoneOf (Breaks bytes) later_layers → IsSound set
  all_kept_of bytes e read h = all_kept read (subst (λ (l : List (List ℕ)). NoneOf (Breaks l) later_layers) e h)

  pub later_refused_of : (bytes : List (List ℕ)) → bytes ≡ set → (r : Refusal) → NoneOf (checked.Breaks set) (checked.all_reading_layers 0 (length set)) → InLayers (Breaks bytes) (Names bytes) later_layers r → IsUnsound set r
  later_refused_of bytes e r read h = later_refused r read (subst (λ (l : List (List ℕ)). InLayers (Breaks l) (Names l) later_layers r) e h)

-- ---- the first assembly

first_there : (set : List File) (f : File) → 0 < length set → f ≡ get_or set 0 f → assembly_of f.bytes ≡ assembly_at (assemblies_of (bytes_of set)) 0
first_there [] f l e = absurd (omega (arith, l))
first_there (x ∷ set) f l e = ap (λ (y : File). assembly_of y.bytes) e

pub none_of_target : (set : List File) (f : File) → 0 < length set → f ≡ get_or set 0 f → NoneBroken (IsUnread (assembly_of f.bytes)) → NoneBroken (IsUnread (assembly_at (assemblies_of (bytes_of set)) 0))
none_of_target set f l e h = subst (λ (x : Assembly). NoneBroken (IsUnread x)) (first_there set f l e) h

pub first_of_target : (set : List File) (f : File) (r : Refusal) → 0 < length set → f ≡ get_or set 0 f → First (IsUnread (assembly_of f.bytes)) r → First (IsUnread (assembly_at (assemblies_of (bytes_of set)) 0)) r
first_of_target set f r l e h = subst (λ (x : Assembly). First (IsUnread x) r) (first_there set f l e) h
