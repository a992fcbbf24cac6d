use Rattle.std.proofs.Common.{◌≡◌, List, ◌<◌, ◌∙◌, ap, sym, subst, None, Some, length, arith, rules}
use Rattle.cil_base.specs.Refusals.{First, refusal}
use Rattle.cil_model.specs.declared.body.Region.{Region}
use Rattle.cil_model.specs.ValidBody.{AllValidRegions}
use Rattle.il_code.proofs.SmallLaws.{small_plain, small_few}
use Rattle.body_splice.specs.Splice.{rewritten, call_fault, CallBreaks}
use Rattle.body_splice.proofs.Same.{same_body, rewritten_writable, IsWritable}
use Rattle.body_splice.proofs.Accepted.{valid_of}
use Rattle.body_splice.proofs.CallLaws.{fault_first, none_broken}
use Rattle.body_splice.proofs.splice.splice_one.Goals as goal

pub fault_of-requires : goal.fault_of-requires
fault_of-requires c =
    let few : length c.args.body.now.instrs < 64 = small_few c.args.place.assembly c.requires.0 c.args.body.now c.requires.2 in
    omega (arith, ap length c.as_slice.ensures)

pub rewritten_instrs-requires : goal.rewritten_instrs-requires
rewritten_instrs-requires c =
    let few : length c.args.body.now.instrs < 64 = small_few c.args.place.assembly c.requires.0 c.args.body.now c.requires.2 in
    omega (arith, ap length c.as_slice-2.ensures)

pub returns-clause-same : goal.returns-clause-same
returns-clause-same c =
    let new = c.in_ok-instrs.ensures ∙ ap (rewritten c.args.place.assembly) c.as_slice-2.ensures in
    let accepted : call_fault c.args.body.now.instrs ≡ None = search rules in
    same_body c.args.place.assembly c.args.body.now _ (small_plain c.args.place.assembly c.requires.0 c.args.body.now c.requires.2) new accepted

pub returns-clause-valid : goal.returns-clause-valid
returns-clause-valid c =
    let new = c.in_ok-instrs.ensures ∙ ap (rewritten c.args.place.assembly) c.as_slice-2.ensures in
    let all : IsWritable c.args.place.assembly c.args.body.now.instrs c.in_ok-instrs.instrs =
    rewritten_writable c.args.place.assembly c.args.body.now.instrs c.in_ok-instrs.instrs (small_plain c.args.place.assembly c.requires.0 c.args.body.now c.requires.2) (valid_of c.args.place.assembly c.requires.0 c.args.body.now c.requires.1 c.requires.2).instrs new in
    record { instrs = all.valid; regions = subst (λ (rs : List Region). AllValidRegions (length c.in_ok-instrs.instrs) rs) (sym c.new-2.ensures) tt; locals = (valid_of c.args.place.assembly c.requires.0 c.args.body.now c.requires.1 c.requires.2).locals }

pub returns-clause-few : goal.returns-clause-few
returns-clause-few c =
    let new = c.in_ok-instrs.ensures ∙ ap (rewritten c.args.place.assembly) c.as_slice-2.ensures in
    let all : IsWritable c.args.place.assembly c.args.body.now.instrs c.in_ok-instrs.instrs =
    rewritten_writable c.args.place.assembly c.args.body.now.instrs c.in_ok-instrs.instrs (small_plain c.args.place.assembly c.requires.0 c.args.body.now c.requires.2) (valid_of c.args.place.assembly c.requires.0 c.args.body.now c.requires.1 c.requires.2).instrs new in
    let few : length c.args.body.now.instrs < 64 = small_few c.args.place.assembly c.requires.0 c.args.body.now c.requires.2 in
    omega (arith, all.few)

pub returns-clause-bare : goal.returns-clause-bare
returns-clause-bare c =
    let new = c.in_ok-instrs.ensures ∙ ap (rewritten c.args.place.assembly) c.as_slice-2.ensures in
    let all : IsWritable c.args.place.assembly c.args.body.now.instrs c.in_ok-instrs.instrs =
    rewritten_writable c.args.place.assembly c.args.body.now.instrs c.in_ok-instrs.instrs (small_plain c.args.place.assembly c.requires.0 c.args.body.now c.requires.2) (valid_of c.args.place.assembly c.requires.0 c.args.body.now c.requires.1 c.requires.2).instrs new in
    all.bare

pub returns-clause-instrs : goal.returns-clause-instrs
returns-clause-instrs c = c.in_ok-instrs.ensures ∙ ap (rewritten c.args.place.assembly) c.as_slice-2.ensures

pub returns-clause-accepted : goal.returns-clause-accepted
returns-clause-accepted c =
    let accepted : call_fault c.args.body.now.instrs ≡ None = search rules in
    none_broken c.args.place c.args.body.now accepted

pub returns-in-Some-clause-refused : goal.returns-in-Some-clause-refused
returns-in-Some-clause-refused c =
    let place = c.args.place in
    let body = c.args.body.now in
    let fault : call_fault body.instrs ≡ Some (c.in-Some.rule, c.in-Some.k) = ap call_fault (sym c.as_slice.ensures) ∙ sym c.in-Some.ensures.value in
    subst (First (CallBreaks place body)) (sym (c.refusal.ensures ∙ ap (refusal c.in-Some.rule place) c.offset_of.ensures)) (fault_first place place.assembly c.requires.0 body c.in-Some.rule c.in-Some.k c.requires.2 fault)
