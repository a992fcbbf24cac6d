use Rattle.std.proofs.Common.{◌≡◌, ◌∙◌, ap, arith, ◌<◌, ◌≤◌}
use Rattle.set_rows.specs.Sets.{Assembly, assembly_at, count_in}
use Rattle.members.specs.MemberRows.{member_table}
use Rattle.member_numbers.proofs.KeptLaws.{old_are, new_are, none_at}
use Rattle.member_numbers.proofs.kept.Kept.own_number.Goals as goal

pub returns-then-row-self : goal.returns-then-row-self
returns-then-row-self c =
    old_are c.args.set.now c.args.is_field c.args.self.now.starts.items c.args.self.now.old c.args.self.now.all c.args.self.now.outside c.args.self.now.rows.items c.requires.are c.args.row c.before-before.result c.before-before.ensures c.requires.from c.if-row-self.true

pub returns-then-row-count : goal.returns-then-row-count
returns-then-row-count c =
    let counted : c.count.result ≡ count_in (assembly_at c.args.set.now 0) (member_table c.args.is_field) =
    c.count.ensures ∙ ap (λ (x : Assembly). count_in x c.table_of.result) c.first-target.ensures ∙ ap (count_in (assembly_at c.args.set.now 0)) c.table_of.ensures in
    let past : count_in (assembly_at c.args.set.now 0) (member_table c.args.is_field) < c.args.row = omega (arith, c.if-row-count.true, counted) in
    let behind : c.args.self.now.old < c.args.row = omega (arith, c.if-row-self.false) in
    none_at c.args.set.now c.args.is_field c.args.self.now.starts.items c.args.self.now.old c.args.self.now.all c.args.self.now.outside c.args.self.now.rows.items c.requires.are 0 c.args.row (λ high low. past) (λ e from. behind)

pub returns : goal.returns
returns c =
    let counted : c.count.result ≡ count_in (assembly_at c.args.set.now 0) (member_table c.args.is_field) =
    c.count.ensures ∙ ap (λ (x : Assembly). count_in x c.table_of.result) c.first-target.ensures ∙ ap (count_in (assembly_at c.args.set.now 0)) c.table_of.ensures in
    let to : c.args.row ≤ count_in (assembly_at c.args.set.now 0) (member_table c.args.is_field) = omega (arith, c.if-row-count.false, counted) in
    new_are c.args.set.now c.args.is_field c.args.self.now.starts.items c.args.self.now.old c.args.self.now.all c.args.self.now.outside c.args.self.now.rows.items c.requires.are c.args.row c.before-before.result c.len.result c.before-before.ensures c.len.ensures (omega (arith, c.if-row-self.false)) to
