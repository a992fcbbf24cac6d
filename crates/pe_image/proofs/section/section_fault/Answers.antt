use Rattle.std.proofs.Common.{◌≡◌, ◌+◌, ◌-◌, ◌*◌, ◌∙◌, sym, ap, arith, min, ◌^◌, Some, cond, ℕ}
use Rattle.std.specs.Prelude.{nat_lt}
use Rattle.cil_base.specs.Refusals.{refusal, assembly_place, first_of}
use Rattle.cil_base.specs.declared.rule.Rule.TheVariants.{P3}
use Rattle.pe_image.specs.Sections.{address_end, raw_end, section_at}
use Rattle.pe_image.specs.Rules.{section_tests}
use Rattle.pe_image.proofs.SectionLaws.{left, tests_on, tests_here, tests_cut, whole_table, floor_moved, floor_kept, floors}
use Rattle.pe_image.proofs.section.section_fault.Goals as goal
use Rattle.pe_image.proofs.section.section_fault.Goals.{then-section-gt0, else-section-gt0}

pub returns-then-bytes-at-clause-tests : goal.returns-then-bytes-at-clause-tests
returns-then-bytes-at-clause-tests c =
    let h = c.args.headers.now in
    c.first_cut.ensures
    ∙ sym (c.loop-i.invariant ∙ tests_cut c.args.bytes.now c.args.assembly c.loop-i.address_floor c.loop-i.raw_floor (h.sections + 40 * c.loop-i.i) (h.count - c.loop-i.i) (h.count - (c.loop-i.i + 1)) (left h.count c.loop-i.i c.loop-i-test.true) c.if-bytes-at.true)

pub returns-then-is_misplaced-clause-tests : goal.returns-then-is_misplaced-clause-tests
returns-then-is_misplaced-clause-tests c =
    let h = c.args.headers.now in
    let at = h.sections + 40 * c.loop-i.i in
    let here : min at (2 ^ 32 - 1) ≡ at = omega arith in
    ap Some (c.refusal_at.ensures ∙ ap (λ (k : ℕ). refusal P3 (assembly_place c.args.assembly) k) here)
    ∙ sym (c.loop-i.invariant ∙ tests_here c.args.bytes.now c.args.assembly c.loop-i.address_floor c.loop-i.raw_floor at (h.count - c.loop-i.i) (h.count - (c.loop-i.i + 1)) (left h.count c.loop-i.i c.loop-i-test.true) (omega arith) cc)

pub loop-i-preserved : goal.loop-i-preserved
loop-i-preserved c =
    let h = c.args.headers.now in
    let at = h.sections + 40 * c.loop-i.i in
    let next = h.sections + 40 * (c.loop-i.i + 1) in
    let s = section_at c.args.bytes.now at in
    let same : c.read-section.result ≡ s = c.read-section.ensures in
    let raw_floor : cond (nat_lt 0 s.raw_size) (raw_end s) c.loop-i.raw_floor ≡ c.if-section-gt0.raw_floor =
    elim c.if-section-gt0.branch [
      | then-section-gt0 w ↦ floor_moved c.read-section.result s c.loop-i.raw_floor c.if-section-gt0.raw_floor same w.if-section-gt0.true (w.raw_floor-is ∙ w.raw_end-raw_floor.ensures)
      | else-section-gt0 w ↦ floor_kept c.read-section.result s c.loop-i.raw_floor c.if-section-gt0.raw_floor same w.if-section-gt0.false w.raw_floor-is
    ] in
    c.loop-i.invariant
    ∙ tests_on c.args.bytes.now c.args.assembly c.loop-i.address_floor c.loop-i.raw_floor at next (h.count - c.loop-i.i) (h.count - (c.loop-i.i + 1)) (left h.count c.loop-i.i c.loop-i-test.true) (omega arith) (omega arith) (cc)
    ∙ floors c.args.bytes.now c.args.assembly (address_end s) c.address_end-address_floor.result (cond (nat_lt 0 s.raw_size) (raw_end s) c.loop-i.raw_floor) c.if-section-gt0.raw_floor next (h.count - (c.loop-i.i + 1)) (sym (c.address_end-address_floor.ensures.end ∙ ap address_end same)) raw_floor

pub returns-clause-whole : goal.returns-clause-whole
returns-clause-whole c =
    let h = c.args.headers.now in
    whole_table c.args.bytes.now c.args.assembly c.args.size c.args.size h.sections h.count
    (c.loop-i.invariant ∙ ap (λ (n : ℕ). first_of (section_tests c.args.bytes.now c.args.assembly c.loop-i.address_floor c.loop-i.raw_floor (h.sections + 40 * c.loop-i.i) n)) (let zero : h.count - c.loop-i.i ≡ 0 = omega arith in zero))
