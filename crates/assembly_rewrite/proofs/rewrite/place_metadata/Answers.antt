use Rattle.std.proofs.Common.{◌≡◌, ℕ, List, length, Ok, Err, sym}
use Rattle.cil_base.specs.Refusals.{NoneBroken}
use Rattle.cil_base.proofs.RefusalLaws.{OnRefused-weaker}
use Rattle.cil_base.proofs.Small.{on_ok_if}
use Rattle.pe_image.specs.Headers.{headers_of}
use Rattle.pe_image.specs.SectionGrowth.{growth_in}
use Rattle.pe_image.specs.Written.{grown_of}
use Rattle.assembly_rewrite.proofs.RewriteLaws.{no_error, error_of, error_room}
use Rattle.assembly_rewrite.proofs.rewrite.place_metadata.Goals as goal

pub returns-in-Ok-clause-room : goal.returns-in-Ok-clause-room
returns-in-Ok-clause-room c =
    let b : List ℕ = c.args.image.now.bytes in
    let m : List ℕ = c.args.metadata.now in
    on_ok_if {Q = NoneBroken (λ r. growth_in c.args.image.now.bytes c.args.image.now.assembly (headers_of c.args.image.now.bytes) (length c.args.metadata.now) ≡ Err r)}
    (λ out. grown_of c.args.image.now.bytes c.args.image.now.assembly c.args.metadata.now c.in-Ok.rva (length c.args.metadata.now) ≡ Ok out) c.write_image.result
    (λ out e. no_error b m out c.args.image.now.assembly c.in-Ok.rva (length m) e) c.write_image.ensures.ok

pub returns-in-Ok-clause-refused : goal.returns-in-Ok-clause-refused
returns-in-Ok-clause-refused c =
    let b : List ℕ = c.args.image.now.bytes in
    let m : List ℕ = c.args.metadata.now in
    OnRefused-weaker c.write_image.result (λ r. grown_of c.args.image.now.bytes c.args.image.now.assembly c.args.metadata.now c.in-Ok.rva (length c.args.metadata.now) ≡ Err r)
    (λ r. growth_in c.args.image.now.bytes c.args.image.now.assembly (headers_of c.args.image.now.bytes) (length c.args.metadata.now) ≡ Err r)
    (λ r e. error_of b m c.args.image.now.assembly c.in-Ok.rva (length m) r e) c.write_image.ensures.refused

pub returns-in-Err-clause-refused : goal.returns-in-Err-clause-refused
returns-in-Err-clause-refused c = error_room c.args.image.now.bytes c.args.metadata.now c.args.image.now.assembly c.in-Err.refusal (sym c.in-Err.ensures)
