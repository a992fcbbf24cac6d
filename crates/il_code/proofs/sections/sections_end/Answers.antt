use Rattle.std.proofs.Common.{◌≡◌, ◌-◌, ℕ, List, Option, Some, None, arith, refl, sym, ap, ◌∙◌, length}
use Rattle.std.specs.Option.{option_map}
use Rattle.cil_model.specs.declared.layout.RawClause.{RawClause}
use Rattle.cil_model.specs.BodyLayout.{aligned, clauses_of, section_at, sections_at}
use Rattle.il_code.proofs.SectionLaws.{no_section, unknown, last, next, room_left, end_before}
use Rattle.il_code.proofs.sections.sections_end.Goals as goal

abbrev end_of : Option (List RawClause × ℕ) → Option ℕ
end_of o = option_map (λ (x : List RawClause × ℕ). x.1) o

pub sections-init : goal.sections-init
sections-init c = (omega arith, (length c.args.bytes.now, omega arith, refl))

pub returns-in_default : goal.returns-in_default
returns-in_default c =
    let inv = c.sections.invariant.1 in
    let none : section_at c.args.bytes.now (aligned c.sections.at) ≡ None = ap (section_at c.args.bytes.now) (sym c.align.ensures.value) ∙ sym c.in_default.ensures.value in
    record { value = sym (ap end_of (no_section c.args.bytes.now inv.0 c.sections.at inv.1 none)) ∙ inv.2 }

pub returns-then-not-all_known : goal.returns-then-not-all_known
returns-then-not-all_known c =
    let inv = c.sections.invariant.1 in
    let some : section_at c.args.bytes.now (aligned c.sections.at) ≡ Some c.in-Some.section = ap (section_at c.args.bytes.now) (sym c.align.ensures.value) ∙ sym c.in-Some.ensures.value in
    record { value = sym (ap end_of (unknown c.args.bytes.now inv.0 c.sections.at c.in-Some.section inv.1 some (sym c.if-not-all_known.ensures))) ∙ inv.2 }

pub returns-then-not-section : goal.returns-then-not-section
returns-then-not-section c =
    let inv = c.sections.invariant.1 in
    let some : section_at c.args.bytes.now (aligned c.sections.at) ≡ Some c.in-Some.section = ap (section_at c.args.bytes.now) (sym c.align.ensures.value) ∙ sym c.in-Some.ensures.value in
    record { value = sym (ap end_of (last c.args.bytes.now inv.0 c.sections.at c.in-Some.section inv.1 some (sym c.if-not-all_known.ensures) c.if-not-section.true)) ∙ inv.2 }

pub sections-preserved : goal.sections-preserved
sections-preserved c =
    let bytes = c.args.bytes.now in
    let inv = c.sections.invariant.1 in
    let s = c.in-Some.section in
    let some : section_at bytes (aligned c.sections.at) ≡ Some s = ap (section_at bytes) (sym c.align.ensures.value) ∙ sym c.in-Some.ensures.value in
    let within = c.in-Some.ensures.within in
    let left = room_left bytes c.sections.at s some in
    let e = ap end_of (next bytes inv.0 c.sections.at s inv.1 some (sym c.if-not-all_known.ensures) c.if-not-section.false) ∙ end_before (clauses_of bytes s) (sections_at bytes (inv.0 - 1) s.end) in
    (within.1, (inv.0 - 1, omega arith, sym e ∙ inv.2))
