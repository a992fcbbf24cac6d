use Rattle.std.proofs.Common.{◌<◌, subst, length, arith}
use Rattle.std.specs.Prelude.{OnOk}
use Rattle.std.proofs.lemmas.List.{length-map}
use Rattle.cil_base.specs.Refusals.{OnRefused}
use Rattle.cil_base.proofs.Small.{on_ok}
use Rattle.cil_base.proofs.RefusalLaws.{OnRefused-weaker}
use Rattle.pe_image.specs.Images.{File}
use Rattle.assembly_rewrite.specs.Rewrite.{KeepsRewriteRules, IsRewriteRefusal}
use Rattle.set_check.specs.Sets.{bytes_of}
use Rattle.set_check.proofs.SetLaws.{element}
use Rattle.set_rewrite.proofs.RewriteLaws.{written_refused, written_kept}
use Rattle.set_rewrite.proofs.set.rewrite_first.Goals as goal

pub returns-clause-accepted : goal.returns-clause-accepted
returns-clause-accepted c =
    let set = c.args.set.now in
    let here = element set 0 c.index-set-0.result c.requires.numbered c.requires.some c.index-set-0.is in
    on_ok c.rewrite_assembly.result (λ kept. written_kept (bytes_of set) c.requires.sound kept)
    (subst (λ (f : File). OnOk c.rewrite_assembly.result (KeepsRewriteRules f.bytes f.assembly)) here c.rewrite_assembly.ensures.accepted)

pub returns-clause-refused : goal.returns-clause-refused
returns-clause-refused c =
    let set = c.args.set.now in
    let here = element set 0 c.index-set-0.result c.requires.numbered c.requires.some c.index-set-0.is in
    let some : 0 < length (bytes_of set) = omega (arith, c.requires.some, length-map set (λ (f : File). f.bytes)) in
    OnRefused-weaker c.rewrite_assembly.result _ _ (λ r x. written_refused (bytes_of set) some c.requires.sound r x)
    (subst (λ (f : File). OnRefused c.rewrite_assembly.result (IsRewriteRefusal f.bytes f.assembly)) here c.rewrite_assembly.ensures.refused)
