use Rattle.std.proofs.Common.{◌≡◌, ◌∙◌, sym, ap, arith, ◌<◌, length}
use Rattle.std.specs.Prelude.{Some}
use Rattle.std.proofs.lemmas.List.FromFn.{length-map-range_with_len}
use Rattle.set_rows.specs.Sets.{Assemblies}
use Rattle.set_program.specs.declared.identity.TypeId.TheVariants.{Row}
use Rattle.set_program.specs.Environment.{types_of, number_of}
use Rattle.set_program.specs.TypeRules.{is_entangled}
use Rattle.set_rules.proofs.RowTestLaws.{said_of}
use Rattle.set_rules.proofs.NameLaws.{number_below}
use Rattle.set_rules.proofs.definitions.is_entangled.Goals as goal

pub bounds-entangled-k : goal.bounds-entangled-k
bounds-entangled-k c =
    let s : Assemblies = c.args.types.now in
    let below : c.in-Some.k < length (types_of s) = number_below s (Row c.args.a c.args.row) c.in-Some.k (sym c.row_number.ensures ∙ c.in-Some.is) in
    let long : length c.args.entangled.now ≡ length (types_of s) = ap length c.requires ∙ length-map-range_with_len (is_entangled s) 0 (length (types_of s)) in
    omega (arith, below, long)

pub returns-in-Some : goal.returns-in-Some
returns-in-Some c =
    let s : Assemblies = c.args.types.now in
    let found : Some c.in-Some.k ≡ number_of s (Row c.args.a c.args.row) = sym c.in-Some.is ∙ c.row_number.ensures in
    said_of (is_entangled s) c.args.entangled.now (length (types_of s)) c.in-Some.k (number_of s (Row c.args.a c.args.row)) c.requires (number_below s (Row c.args.a c.args.row) c.in-Some.k (sym found)) found
