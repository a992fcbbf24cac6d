use Rattle.std.proofs.Common.{◌≡◌, length, Ok, Err, sym, subst, rules}
use Rattle.std.specs.Prelude.{IfOk, IsOk, OnOk}
use Rattle.cil_base.specs.declared.refusal.Refusal.{Refusal}
use Rattle.cil_base.specs.Refusals.{NoneBroken, OnRefused}
use Rattle.cil_base.proofs.RefusalLaws.{IfRefused-weaker}
use Rattle.pe_image.specs.Images.{File}
use Rattle.pe_image.specs.Headers.{headers_of}
use Rattle.pe_image.specs.SectionGrowth.{growth_in, room_of}
use Rattle.pe_image.specs.Written.{grown_of, KeepsBytes}
use Rattle.pe_image.specs.ReadBack.{new_rva, Grows}
use Rattle.assembly_rewrite.proofs.RewriteLaws.{named_refusal, room_first, done, of_image, room_refused, all_kept}
use Rattle.assembly_rewrite.proofs.rewrite.rewrite_assembly.Goals as goal

pub returns-in-Err-clause-refused : goal.returns-in-Err-clause-refused
returns-in-Err-clause-refused c =
    let room : room_of c.args.assembly.now.bytes c.args.assembly.now.assembly ≡ Err c.in-Err.no_room = subst (λ (f : File). room_of f.bytes f.assembly ≡ Err c.in-Err.no_room) c.image.ensures (sym c.in-Err.ensures) in
    room_first c.args.assembly.now.bytes c.args.assembly.now.assembly c.in-Err.no_room c.without_room.result c.in_default.ensures room c.without_room.ensures

pub returns-in-Err-write_metadata-clause-refused : goal.returns-in-Err-write_metadata-clause-refused
returns-in-Err-write_metadata-clause-refused c =
    let room : IsOk (room_of c.args.assembly.now.bytes c.args.assembly.now.assembly) = search rules in
    IfRefused-weaker c.in-Err-write_metadata.fault _ _ (λ r x. named_refusal c.args.assembly.now.bytes c.args.assembly.now.assembly r c.in_default.ensures room x) c.in-Err-write_metadata.ensures.refused

pub returns-clause-done : goal.returns-clause-done
returns-clause-done c =
    done c.place_metadata.result c.args.assembly.now.bytes c.args.assembly.now.assembly c.in-Ok.metadata
    (record { exact = c.in-Ok.ensures.bytes; streams = c.in-Ok.ensures.ok; rows = c.in-Ok.ensures.rows; header = c.in-Ok.ensures.header })
    (of_image (λ b a m. IfOk c.place_metadata.result (Grows b a m (new_rva b) (length m))) c.args.assembly.now c.image-2.result.now c.as_slice.result.now c.in-Ok.metadata c.image-2.ensures c.as_slice.ensures c.place_metadata.ensures.grows)
    (of_image (λ b a m. IfOk c.place_metadata.result (λ new. grown_of b a m (new_rva b) (length m) ≡ Ok new)) c.args.assembly.now c.image-2.result.now c.as_slice.result.now c.in-Ok.metadata c.image-2.ensures c.as_slice.ensures c.place_metadata.ensures.ok)
    (of_image (λ b a m. IfOk c.place_metadata.result (KeepsBytes b)) c.args.assembly.now c.image-2.result.now c.as_slice.result.now c.in-Ok.metadata c.image-2.ensures c.as_slice.ensures c.place_metadata.ensures.kept)

pub returns-clause-accepted : goal.returns-clause-accepted
returns-clause-accepted c =
    all_kept c.args.assembly.now.bytes c.args.assembly.now.assembly c.in-Ok.metadata c.place_metadata.result c.in_default.ensures c.in-Ok.ensures.within.0 c.in-Ok.ensures.bytes
    (of_image (λ b a m. OnOk c.place_metadata.result (NoneBroken (λ r. growth_in b a (headers_of b) (length m) ≡ Err r))) c.args.assembly.now c.image-2.result.now c.as_slice.result.now c.in-Ok.metadata c.image-2.ensures c.as_slice.ensures c.place_metadata.ensures.room)

pub returns-clause-refused : goal.returns-clause-refused
returns-clause-refused c =
    room_refused c.args.assembly.now.bytes c.args.assembly.now.assembly c.in-Ok.metadata c.place_metadata.result c.in_default.ensures c.in-Ok.ensures.within.0 c.in-Ok.ensures.bytes
    (of_image (λ b a m. OnRefused c.place_metadata.result (λ (r : Refusal). growth_in b a (headers_of b) (length m) ≡ Err r)) c.args.assembly.now c.image-2.result.now c.as_slice.result.now c.in-Ok.metadata c.image-2.ensures c.as_slice.ensures c.place_metadata.ensures.refused)
