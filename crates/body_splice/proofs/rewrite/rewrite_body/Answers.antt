use Rattle.std.proofs.Common.{◌≡◌, List, sym, ap, subst, inl, inr, arith, length, map}
use Rattle.cil_base.proofs.RefusalLaws.{IfRefused-weaker}
use Rattle.cil_model.specs.declared.body.Body.{Body}
use Rattle.cil_model.specs.declared.body.Instr.{Instr}
use Rattle.cil_model.specs.BodyOf.{StandsFor}
use Rattle.cil_model.specs.ValidBody.{IsValid}
use Rattle.il_body.specs.BodyEncoding.{begins}
use Rattle.body_splice.proofs.Accepted.{first_of_bytes, none_of_bytes, unread, no_locals}
use Rattle.body_splice.proofs.rewrite.rewrite_body.Goals as goal

pub splice_one-requires : goal.splice_one-requires
splice_one-requires c = (c.args.bytes.now, (λ k. (c.type_inv.bytes k).fits), c.in-Ok.ensures.body)

pub encode_body-requires : goal.encode_body-requires
encode_body-requires c = (0, c.in-Ok-splice_one.ensures.valid)

pub returns-clause-done : goal.returns-clause-done
returns-clause-done c =
    let s = c.in-Ok-splice_one.ensures.same in
    let b : Body = c.in-Ok-splice_one.after in
    record {
      before = c.in-Ok.before;
      after = record b { offsets = begins 0 b.instrs };
      reads = c.in-Ok.ensures.body;
      writes = subst (λ (is : List Instr). StandsFor 0 c.in-Ok-encode_body.encoded (record b { instrs = is; offsets = begins 0 b.instrs }) (length c.in-Ok-encode_body.encoded)) c.in-Ok-splice_one.ensures.bare (c.in-Ok-encode_body.ensures.body 0 c.in-Ok-splice_one.ensures.valid);
      bytes = c.in-Ok-encode_body.ensures.bytes;
      instrs = c.in-Ok-splice_one.ensures.instrs;
      header = (let k = c.in-Ok-splice_one.ensures.kept in record { stack = k.stack; init = k.init; locals = k.locals; regions = k.regions });
      same = record { same = s.same; none_left = s.none_left };
      count = c.clauses_of.ensures;
    }

pub returns-clause-accepted : goal.returns-clause-accepted
returns-clause-accepted c = (c.in-Ok.ensures.accepted.0, (c.in-Ok.ensures.accepted.1, (none_of_bytes c.args.bytes.now c.in-Ok.before c.in-Ok.ensures.once c.in-Ok-splice_one.ensures.accepted, tt)))

pub returns-in-Err-clause-refused : goal.returns-in-Err-clause-refused
returns-in-Err-clause-refused c = IfRefused-weaker c.in-Err.fault _ _ (λ r f. unread c.args.bytes.now r f) c.in-Err.ensures.refused

pub returns-in-Err-splice_one-clause-refused : goal.returns-in-Err-splice_one-clause-refused
returns-in-Err-splice_one-clause-refused c =
    IfRefused-weaker c.in-Err-splice_one.fault _ _ (λ r f.
    inr (c.in-Ok.ensures.accepted.0, inr (c.in-Ok.ensures.accepted.1, inl (first_of_bytes c.args.bytes.now c.in-Ok.before r c.in-Ok.ensures.body c.in-Ok.ensures.once f)))) c.in-Err-splice_one.ensures.refused

pub returns-in-Err-encode_body-clause-refused : goal.returns-in-Err-encode_body-clause-refused
returns-in-Err-encode_body-clause-refused c =
    IfRefused-weaker c.in-Err-encode_body.fault _ _ (λ r x. let few = c.in-Ok-splice_one.ensures.few in absurd (omega (arith, x.0, few))) c.in-Err-encode_body.ensures.refused
