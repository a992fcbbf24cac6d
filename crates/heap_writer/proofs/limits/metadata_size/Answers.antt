use Rattle.std.proofs.Common.{◌≡◌, ℕ, ◌+◌, ◌-◌, ◌^◌, min, ◌∙◌, ap}
use Rattle.cil_base.specs.Bytes.{padding}
use Rattle.cli_heaps.specs.Root.{first_header}
use Rattle.cli_heaps.proofs.AcceptedLaws.{whole_root}
use Rattle.heap_writer.proofs.LimitLaws.{whole_size}
use Rattle.heap_writer.proofs.limits.metadata_size.Goals as goal

pub first_header-first-requires : goal.first_header-first-requires
first_header-first-requires c = whole_root c.metadata.result.now c.args.heaps.now.assembly (rw c.metadata.ensures.bytes c.metadata.ensures.accepted)

pub returns : goal.returns
returns c tables e =
    let first : c.first_header-first.result.0 ≡ first_header c.args.heaps.now.bytes = c.first_header-first.ensures.first ∙ ap first_header c.metadata.ensures.bytes in
    c.saturating_add.ensures
    ∙ ap (λ (n : ℕ). min (c.old_size.result + (c.first_header-first.result.0 + n + c.all_missing_size-missing.result)) (2 ^ 64 - 1)) c.padding.ensures
    ∙ ap (λ (n : ℕ). min (c.old_size.result + (n + padding 4 n + c.all_missing_size-missing.result)) (2 ^ 64 - 1)) first
    ∙ whole_size c.args.heaps.now.bytes c.args.grown.now tables c.args.heaps.now.assembly c.old_size.result c.all_missing_size-missing.result c.metadata.ensures.accepted (c.old_size.ensures tables e) (c.all_missing_size-missing.ensures.size tables)
