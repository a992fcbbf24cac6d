use Rattle.std.proofs.Common.{◌≡◌, ◌∙◌, ap, arith, ◌-◌, ℕ, List, length, map, get_or}
use Rattle.std.specs.List.{range_with_len}
use Rattle.set_rows.specs.Sets.{Assembly, Assemblies, assembly_at, count_in}
use Rattle.set_program.specs.Numbering.{cut}
use Rattle.members.specs.MemberRows.{member_table}
use Rattle.member_numbers.specs.Kept.{rows_before}
use Rattle.member_numbers.proofs.NumberingLaws.{start_is}
use Rattle.member_numbers.proofs.kept.kept_of.Goals as goal

pub returns : goal.returns
returns c =
    let s : Assemblies = c.args.set.now in
    let starts : c.in_ok-starts.starts.items ≡ map (rows_before s (member_table c.args.is_field)) (range_with_len 1 (length s)) =
    c.in_ok-starts.ensures ∙ ap (λ (t : ℕ). map (rows_before s t) (range_with_len 1 (length s))) c.table_of-number.ensures in
    let start : c.start_at-before.result ≡ rows_before s (member_table c.args.is_field) (length s) =
    c.start_at-before.ensures ∙ ap (λ (l : List ℕ). get_or l (length s - 1) 0) c.as_slice.ensures.value
    ∙ start_is s (member_table c.args.is_field) c.in_ok-starts.starts.items (length s) starts c.requires.some (omega arith) in
    let own : c.count-own.result ≡ count_in (assembly_at s 0) (member_table c.args.is_field) =
    c.count-own.ensures ∙ ap (λ (x : Assembly). count_in x c.table_of-number.result) c.first-target.ensures ∙ ap (count_in (assembly_at s 0)) c.table_of-number.ensures in
    record {
      some = c.requires.some;
      starts_are = starts;
      old_is = c.members_before_class-old.ensures ∙ ap (λ (x : Assembly). cut x (member_table c.args.is_field) - 1) c.first-target.ensures;
      outside_are = c.in_ok-noted.ensures.outside s c.requires.table;
      rows_are = c.in_ok-noted.ensures.rows s c.requires.table;
      fits = c.in_ok-all.ensures.fits;
      all_is = omega (arith, c.in_ok-all.ensures.is, start, own, c.len.ensures);
    }
