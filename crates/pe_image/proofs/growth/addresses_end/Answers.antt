use Rattle.std.proofs.Common.{◌≡◌, ◌+◌, ◌-◌, ◌*◌, ◌∙◌, ap, sym, arith, max, ℕ}
use Rattle.pe_image.specs.Sections.{section_at, sections_at, address_end}
use Rattle.pe_image.specs.SectionGrowth.{addresses_end}
use Rattle.pe_image.proofs.SectionLaws.{left}
use Rattle.pe_image.proofs.GrowthLaws.{ends_on}
use Rattle.pe_image.proofs.growth.addresses_end.Goals as goal

pub loop-i-preserved : goal.loop-i-preserved
loop-i-preserved c =
    let h = c.args.headers.now in
    let b = c.args.bytes.now in
    let i = c.loop-i.i in
    let at = h.sections + 40 * i in
    let next = h.sections + 40 * (i + 1) in
    let turn : max (address_end (section_at b at)) c.loop-i.end ≡ c.max-end.result = sym (c.max-end.ensures ∙ ap (λ (k : ℕ). max k c.loop-i.end) (c.address_end.ensures.end ∙ ap address_end c.read.ensures)) in (
      c.loop-i.invariant.0
          ∙ ends_on b c.loop-i.end at next (h.count - i) (h.count - (i + 1)) (left h.count i c.loop-i-test.true) (omega arith)
          ∙ ap (λ (k : ℕ). max k (addresses_end (sections_at b next (h.count - (i + 1))))) turn,
      omega arith,
    )
