-- Clauses and sections one after another.
use Rattle.std.proofs.Common.{◌≡◌, ℕ, zero, suc, ◌+◌, ◌-◌, ◌*◌, ◌<◌, ◌≤◌, Bool, true, false, ◌&&◌, cond, not, List, [], ◌∷◌, ◌++◌, length, Option, Some, None, refl, sym, ap, ◌∙◌, arith, append_assoc}
use Rattle.std.specs.Prelude.{nat_le}
use Rattle.std.specs.List.{list_all}
use Rattle.std.specs.Option.{option_map}
use Rattle.std.proofs.lemmas.Grind.{common_steps}
use Rattle.cil_base.proofs.Small.{not_true, not_false}
use Rattle.cil_model.specs.declared.layout.RawClause.{RawClause}
use Rattle.cil_model.specs.declared.layout.Section.{Section}
use Rattle.cil_model.specs.BodyLayout.{aligned, before, clause_at, clauses, clauses_of, is_kind, section_at, sections_at, width, with_section}

and_false : (b : Bool) → (b && false) ≡ false
and_false true = refl
and_false false = refl

and_assoc : (a b c d : Bool) → d ≡ (b && c) → (a && d) ≡ ((a && b) && c)
and_assoc true b c d h = h
and_assoc false b c d h = refl

pub all-append : {X : Type 0} (p : X → Bool) (xs ys : List X) → list_all p (xs ++ ys) ≡ (list_all p xs && list_all p ys)
all-append p [] ys = refl
all-append p (x ∷ xs) ys = and_assoc (p x) (list_all p xs) (list_all p ys) (list_all p (xs ++ ys)) (all-append p xs ys)

-- One clause of no known kind is enough.
stays_false_by : (fat : Bool) (bytes : List ℕ) (from n m : ℕ) → list_all is_kind (clauses fat bytes from n) ≡ false → list_all is_kind (clauses fat bytes from (n + m)) ≡ false
stays_false_by fat bytes from n zero h =
    let e : n + 0 ≡ n = omega arith in rw e h
stays_false_by fat bytes from n (suc m) h =
    let e : n + suc m ≡ suc (n + m) = omega arith in
    let last = clause_at fat bytes (from + width fat * (n + m)) ∷ [] in
    rw e (all-append is_kind (clauses fat bytes from (n + m)) last ∙ ap (λ (b : Bool). b && list_all is_kind last) (stays_false_by fat bytes from n m h))

pub stays_false : (fat : Bool) (bytes : List ℕ) (from n count : ℕ) → n ≤ count → list_all is_kind (clauses fat bytes from n) ≡ false → list_all is_kind (clauses fat bytes from count) ≡ false
stays_false fat bytes from n count le h =
    let e : n + (count - n) ≡ count = omega arith in
    let all = stays_false_by fat bytes from n (count - n) h in rw e at all

pub one_more : (fat : Bool) (bytes : List ℕ) (from n : ℕ) (b : Bool) → list_all is_kind (clauses fat bytes from n) ≡ true → is_kind (clause_at fat bytes (from + width fat * n)) ≡ b → list_all is_kind (clauses fat bytes from (suc n)) ≡ b
one_more fat bytes from n b h k =
    all-append is_kind (clauses fat bytes from n) (clause_at fat bytes (from + width fat * n) ∷ []) ∙ rw h (rw k (go b))
  where
    go : (b : Bool) → (b && true) ≡ b
    go true = refl
    go false = refl

-- There are sections enough.
pub section_step : (bytes : List ℕ) (k at : ℕ) → length bytes ≤ k + at → sections_at bytes k at ≡ with_section (sections_at bytes (k - 1)) bytes (section_at bytes (aligned at))
unfolding sections_at
section_step bytes zero at h =
    let past : nat_le (aligned at + 4) (length bytes) ≡ false = grind (arith, common_steps) in
    rw past refl
section_step bytes (suc k) at h =
    let e : suc k - 1 ≡ k = omega arith in rw e refl

pub end_before : (cs : List RawClause) (o : Option (List RawClause × ℕ)) → option_map (λ (x : List RawClause × ℕ). x.1) (before cs o) ≡ option_map (λ (x : List RawClause × ℕ). x.1) o
end_before cs None = refl
end_before cs (Some (ds, end)) = refl

pub no_section : (bytes : List ℕ) (k at : ℕ) → length bytes ≤ k + at → section_at bytes (aligned at) ≡ None → sections_at bytes k at ≡ None
no_section bytes k at enough none = section_step bytes k at enough ∙ ap (with_section (sections_at bytes (k - 1)) bytes) none

if_known : (more : ℕ → Option (List RawClause × ℕ)) (bytes : List ℕ) (s : Section) (b : Bool) → list_all is_kind (clauses_of bytes s) ≡ b → with_section more bytes (Some s) ≡ cond b (cond s.more (before (clauses_of bytes s) (more s.end)) (Some (clauses_of bytes s, s.end))) None
if_known more bytes s b h = ap (λ (b : Bool). cond b (cond s.more (before (clauses_of bytes s) (more s.end)) (Some (clauses_of bytes s, s.end))) None) h

at_section : (bytes : List ℕ) (k at : ℕ) (s : Section) (b : Bool) → length bytes ≤ k + at → section_at bytes (aligned at) ≡ Some s → list_all is_kind (clauses_of bytes s) ≡ b → sections_at bytes k at ≡ cond b (cond s.more (before (clauses_of bytes s) (sections_at bytes (k - 1) s.end)) (Some (clauses_of bytes s, s.end))) None
at_section bytes k at s b enough some h =
    section_step bytes k at enough ∙ ap (with_section (sections_at bytes (k - 1)) bytes) some ∙ if_known (sections_at bytes (k - 1)) bytes s b h

pub unknown : (bytes : List ℕ) (k at : ℕ) (s : Section) → length bytes ≤ k + at → section_at bytes (aligned at) ≡ Some s → list_all is_kind (clauses_of bytes s) ≡ false → sections_at bytes k at ≡ None
unknown bytes k at s enough some h = at_section bytes k at s false enough some h

pub last : (bytes : List ℕ) (k at : ℕ) (s : Section) → length bytes ≤ k + at → section_at bytes (aligned at) ≡ Some s → list_all is_kind (clauses_of bytes s) ≡ true → not s.more ≡ true → sections_at bytes k at ≡ Some (clauses_of bytes s, s.end)
last bytes k at s enough some h more =
    at_section bytes k at s true enough some h ∙ ap (λ (b : Bool). cond b (before (clauses_of bytes s) (sections_at bytes (k - 1) s.end)) (Some (clauses_of bytes s, s.end))) (not_true s.more more)

pub next : (bytes : List ℕ) (k at : ℕ) (s : Section) → length bytes ≤ k + at → section_at bytes (aligned at) ≡ Some s → list_all is_kind (clauses_of bytes s) ≡ true → not s.more ≡ false → sections_at bytes k at ≡ before (clauses_of bytes s) (sections_at bytes (k - 1) s.end)
next bytes k at s enough some h more =
    at_section bytes k at s true enough some h ∙ ap (λ (b : Bool). cond b (before (clauses_of bytes s) (sections_at bytes (k - 1) s.end)) (Some (clauses_of bytes s, s.end))) (not_false s.more more)

pub room_left : (bytes : List ℕ) (at : ℕ) (s : Section) → section_at bytes (aligned at) ≡ Some s → at < length bytes
room_left bytes at s some = go (length bytes - at) refl
  where
    go : (m : ℕ) → length bytes - at ≡ m → at < length bytes
    go zero e =
        let past : nat_le (aligned at + 4) (length bytes) ≡ false = grind (arith, common_steps) in
        let bad : section_at bytes (aligned at) ≡ None = rw past refl in absurd (cc)
    go (suc m) e = omega arith

pub before-append : (xs ys : List RawClause) (o : Option (List RawClause × ℕ)) → before xs (before ys o) ≡ before (xs ++ ys) o
before-append xs ys None = refl
before-append xs ys (Some (zs, end)) = ap (λ (l : List RawClause). Some (l, end)) (sym (append_assoc xs ys zs))

pub before-none : (o : Option (List RawClause × ℕ)) → before [] o ≡ o
before-none None = refl
before-none (Some (zs, end)) = refl
