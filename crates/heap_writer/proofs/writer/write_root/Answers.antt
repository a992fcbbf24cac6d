use Rattle.std.proofs.Common.{◌≡◌, ℕ, List, ◌-◌, length, take, ap, arith, length-append}
use Rattle.std.proofs.lemmas.List.{length-take-le}
use Rattle.heap_writer.proofs.LimitLaws.{front_word}
use Rattle.heap_writer.proofs.writer.write_root.Goals as goal

pub push_bodies-requires : goal.push_bodies-requires
push_bodies-requires c =
    let first : ℕ = c.first_header-first.result.0 in
    let front : length c.extend_from_slice.new.self.items ≡ c.first_header-first.result.0 - 2 =
    omega (
      arith,
      ap (λ (l : List ℕ). length l) c.in_ok-extend_from_slice.ensures.items,
      length-append c.new-out.result.items (take (c.first_header-first.result.0 - 2) c.args.meta.now),
      ap (λ (l : List ℕ). length l) c.new-out.ensures.items,
      length-take-le (c.first_header-first.result.0 - 2) c.args.meta.now (omega (arith, c.first_header-first.ensures.within)),
    ) in
    front_word c.args.parts.now c.extend_from_slice.new.self.items c.push_u16.new.out.items c.push_headers.new.out.items c.push_zeros.new.out.items _ _ c.first_header-first.result.0 c.headers_end-end.result c.padding-gap.result
    (omega (arith, c.first_header-first.ensures.first)) front c.in_ok-push_u16.ensures c.in_ok-push_headers.ensures c.in_ok-push_zeros.ensures c.headers_end-end.ensures c.padding-gap.ensures
