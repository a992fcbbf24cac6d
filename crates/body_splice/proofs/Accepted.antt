-- The rules on the one body that the bytes stand for are rules on the bytes.
use Rattle.std.proofs.Common.{◌≡◌, ℕ, List, ◌<◌, ◌^◌, ap, sym, ◌∙◌, subst, inl, inr, get_or, take, length}
use Rattle.std.specs.Prelude.{Option, None, IfSome}
use Rattle.cil_base.specs.declared.token.Token.{Token}
use Rattle.cil_base.specs.declared.refusal.Refusal.{Refusal}
use Rattle.cil_base.specs.declared.rule.Rule.TheVariants.{C1, C2}
use Rattle.cil_base.specs.Refusals.{First, NoneBroken, InTurn, refusal}
use Rattle.cil_model.specs.declared.body.Body.{Body}
use Rattle.cil_model.specs.SmallBody.{IsSmallBody, HeaderBreaks, CodeBreaks}
use Rattle.cil_model.specs.ValidBody.{AreBytes, IsValid}
use Rattle.il_body.proofs.ValidLaws.{body_valid}
use Rattle.body_splice.specs.Splice.{CallBreaks, CallsAt, first_call, is_one, height}
use Rattle.body_splice.specs.Rewrite.{ContractBreaks, IsBodyRefusal, body_place}

-- The calls of bodies with equal instructions and offsets break the same rules.
same_breaks : (b c : Body) (r : Refusal) → b.instrs ≡ c.instrs → b.offsets ≡ c.offsets → CallBreaks body_place b r → CallBreaks body_place c r
same_breaks b c r i o (inl x) =
    inl (x.0, sym (ap first_call i) ∙ x.1, sym (ap (λ l. is_one (height 0 (take x.0 l))) i) ∙ x.2, x.3 ∙ ap (λ l. refusal C2 body_place (get_or l x.0 0)) o)
same_breaks b c r i o (inr x) =
    inr (x.0, x.1, sym (ap first_call i) ∙ x.2, x.3, subst (λ l. CallsAt l x.1) i x.4, x.5 ∙ ap (λ l. refusal C1 body_place (get_or l x.1 0)) o)

abbrev pub Once : List ℕ → Body → Type 0
Once bytes body = (other : Body) → IsSmallBody 0 bytes other → (other.instrs ≡ body.instrs) × (other.offsets ≡ body.offsets)

pub none_of_bytes : (bytes : List ℕ) (body : Body) → Once bytes body → NoneBroken (CallBreaks body_place body) → NoneBroken (ContractBreaks bytes)
none_of_bytes bytes body once none = λ r x. let same = once x.0 x.1 in none r (same_breaks x.0 body r same.0 same.1 x.2)

pub first_of_bytes : (bytes : List ℕ) (body : Body) (r : Refusal) → IsSmallBody 0 bytes body → Once bytes body → First (CallBreaks body_place body) r → First (ContractBreaks bytes) r
first_of_bytes bytes body r reads once f = record {
  broken = (body, reads, f.broken);
  none_before = λ s x. let same = once x.0 x.1 in f.none_before s (same_breaks x.0 body s same.0 same.1 x.2);
}

-- what the reader refuses
pub unread : (bytes : List ℕ) (r : Refusal) → InTurn (HeaderBreaks body_place bytes) (First (CodeBreaks body_place bytes)) r → IsBodyRefusal bytes r
unread bytes r (inl first) = inl first
unread bytes r (inr behind) = inr (behind.0, inl behind.1)

-- no token of locals is too large where there is none
pub no_locals : (P : Token → Type 0) (o : Option Token) → o ≡ None → IfSome o P
no_locals P o e = subst (λ (x : Option Token). IfSome x P) (sym e) tt

-- what is read can be written again
pub valid_of : (a : ℕ) (bytes : List ℕ) (body : Body) → AreBytes bytes → IsSmallBody a bytes body → IsValid a body
valid_of a bytes body are small = body_valid a bytes body (length bytes) are small.stands (no_locals (λ token. token.row < 2 ^ 24) body.locals small.locals)
