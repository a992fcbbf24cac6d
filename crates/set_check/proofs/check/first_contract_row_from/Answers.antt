use Rattle.std.proofs.Common.{◌≡◌, ◌⊎◌, ◌<◌, ◌≤◌, ◌+◌, sym, subst, length, List, ℕ, get_or, inl, inr, arith}
use Rattle.std.proofs.lemmas.List.{length-map}
use Rattle.std.proofs.lemmas.Bool.{cases_lt}
use Rattle.cil_base.specs.Refusals.{First, NoneBroken}
use Rattle.pe_image.specs.Images.{File}
use Rattle.pe_image.specs.Cli.{metadata_of}
use Rattle.assembly_rewrite.specs.Rewrite.{IsContract}
use Rattle.set_check.specs.Sets.{bytes_of, files_from}
use Rattle.set_check.proofs.SetLaws.{first_of_all, none_of_all, element, Has, NoneUpTo}
use Rattle.set_check.proofs.check.first_contract_row_from.Goals as goal

pub returns-in-Some : goal.returns-in-Some
returns-in-Some c =
    let set = c.args.set.now in
    let here = element set c.loop-k.k c.index-set-k.result c.requires c.loop-k-test.true c.index-set-k.is in
    first_of_all (bytes_of set) c.args.from c.loop-k.k c.in-Some.refusal c.loop-k.invariant.0 (omega (arith, c.loop-k-test.true, length-map set (λ (f : File). f.bytes))) c.loop-k.invariant.1
    (subst (λ (f : File). First (IsContract (metadata_of f.bytes) f.assembly) c.in-Some.refusal) here c.in-Some.ensures)

none_more : (set : List File) (from k : ℕ) (f : File) → set ≡ files_from 0 (bytes_of set) → k < length set → f ≡ get_or set k f → NoneUpTo (bytes_of set) from k → NoneBroken (IsContract (metadata_of f.bytes) f.assembly) → NoneUpTo (bytes_of set) from (k + 1)
none_more set from k f numbered l e none here j above less = by_place (cases_lt j k)
  where
    at_place : j ≡ k → NoneBroken (Has (bytes_of set) j)
    at_place same =
        subst (λ (n : ℕ). NoneBroken (Has (bytes_of set) n)) (sym same)
        (subst (λ (f : File). NoneBroken (IsContract (metadata_of f.bytes) f.assembly)) (element set k f numbered l e) here)

    by_place : (j < k) ⊎ (k ≤ j) → NoneBroken (Has (bytes_of set) j)
    by_place (inl before) = none j above before
    by_place (inr le) = at_place (omega (arith, le, less))

pub loop-k-preserved : goal.loop-k-preserved
loop-k-preserved c =
    let above : c.args.from ≤ c.loop-k.k = c.loop-k.invariant.0 in
    (omega (arith, above), none_more c.args.set.now c.args.from c.loop-k.k c.index-set-k.result c.requires c.loop-k-test.true c.index-set-k.is c.loop-k.invariant.1 c.in_default.ensures)

pub returns : goal.returns
returns c =
    let set = c.args.set.now in
    none_of_all (bytes_of set) c.args.from (λ j above less. c.loop-k.invariant.1 j above (omega (arith, less, c.loop-k-test.false, length-map set (λ (f : File). f.bytes))))
