use Rattle.std.proofs.Common.{◌≡◌, ◌∙◌, sym, ap, arith, ◌+◌, ◌-◌, ◌<◌, ◌≤◌}
use Rattle.std.proofs.lemmas.List.{get_or_default}
use Rattle.set_rows.specs.Sets.{Assembly, Assemblies, no_assembly, assembly_at, count_in}
use Rattle.members.specs.MemberRows.{member_table}
use Rattle.member_numbers.specs.Kept.{rows_before}
use Rattle.member_numbers.proofs.KeptLaws.{other_fits, other_is, none_at}
use Rattle.member_numbers.proofs.kept.Kept.other_number.Goals as goal

pub returns-then-row-count : goal.returns-then-row-count
returns-then-row-count c =
    let s : Assemblies = c.args.set.now in
    let there : assembly_at s c.args.a ≡ c.index-set-a.result = get_or_default s c.args.a no_assembly c.index-set-a.result c.requires.high ∙ sym c.index-set-a.is in
    let counted : c.count.result ≡ count_in (assembly_at s c.args.a) (member_table c.args.is_field) =
    c.count.ensures ∙ ap (λ (x : Assembly). count_in x c.table_of.result) (sym there) ∙ ap (count_in (assembly_at s c.args.a)) c.table_of.ensures in
    let past : count_in (assembly_at s c.args.a) (member_table c.args.is_field) < c.args.row = omega (arith, c.if-row-count.true, counted) in
    none_at c.args.set.now c.args.is_field c.args.self.now.starts.items c.args.self.now.old c.args.self.now.all c.args.self.now.outside c.args.self.now.rows.items c.requires.are c.args.a c.args.row (λ high low. past) (λ e from. absurd (omega (arith, e, c.requires.low)))

pub overflow_add-result : goal.overflow_add-result
overflow_add-result c =
    let s : Assemblies = c.args.set.now in
    let there : assembly_at s c.args.a ≡ c.index-set-a.result = get_or_default s c.args.a no_assembly c.index-set-a.result c.requires.high ∙ sym c.index-set-a.is in
    let counted : c.count.result ≡ count_in (assembly_at s c.args.a) (member_table c.args.is_field) =
    c.count.ensures ∙ ap (λ (x : Assembly). count_in x c.table_of.result) (sym there) ∙ ap (count_in (assembly_at s c.args.a)) c.table_of.ensures in
    let to : c.args.row ≤ count_in (assembly_at s c.args.a) (member_table c.args.is_field) = omega (arith, c.if-row-count.false, counted) in
    let fit : rows_before s (member_table c.args.is_field) c.args.a + (c.args.row - 1) ≤ c.args.self.now.all = other_fits c.args.set.now c.args.is_field c.args.self.now.starts.items c.args.self.now.old c.args.self.now.all c.args.self.now.outside c.args.self.now.rows.items c.requires.are c.args.a c.args.row c.requires.low c.requires.high to in
    omega (arith, fit, c.requires.are.fits, c.before-before.ensures)

pub returns : goal.returns
returns c =
    let s : Assemblies = c.args.set.now in
    let there : assembly_at s c.args.a ≡ c.index-set-a.result = get_or_default s c.args.a no_assembly c.index-set-a.result c.requires.high ∙ sym c.index-set-a.is in
    let counted : c.count.result ≡ count_in (assembly_at s c.args.a) (member_table c.args.is_field) =
    c.count.ensures ∙ ap (λ (x : Assembly). count_in x c.table_of.result) (sym there) ∙ ap (count_in (assembly_at s c.args.a)) c.table_of.ensures in
    let to : c.args.row ≤ count_in (assembly_at s c.args.a) (member_table c.args.is_field) = omega (arith, c.if-row-count.false, counted) in
    other_is c.args.set.now c.args.is_field c.args.self.now.starts.items c.args.self.now.old c.args.self.now.all c.args.self.now.outside c.args.self.now.rows.items c.requires.are c.args.a c.args.row c.before-before.result c.before-before.ensures c.requires.low c.requires.high c.requires.from to
