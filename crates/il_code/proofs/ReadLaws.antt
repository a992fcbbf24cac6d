-- Instructions one after another, at offsets that rise.
use Rattle.std.proofs.Common.{◌≡◌, ◌≢◌, ℕ, ◌+◌, ◌<◌, List, [], ◌∷◌, ◌++◌, length, drop, get_or, Ok, Err, refl, sym, ap, ◌∙◌, subst, arith, length-append, ⊎_elim}
use Rattle.std.proofs.Math.ListN.{get_or-append}
use Rattle.std.proofs.Math.Seq.{get_or-append_seam}
use Rattle.std.proofs.lemmas.Bool.{cases_lt}
use Rattle.cil_base.specs.declared.rule.Rule.{Rule}
use Rattle.cil_base.proofs.Small.{same_ok, same_err, not_both}
use Rattle.cil_model.specs.declared.body.Instr.{Instr}
use Rattle.cil_model.specs.BodyCode.{Reader, Reads}
use Rattle.il_code.specs.Answers.{Rise}

pub read_more : (read : Reader) (at : ℕ) (bytes : List ℕ) (is : List Instr) (os : List ℕ) (end : ℕ) (rest : List ℕ) (i : Instr) (n : ℕ) → Reads read at bytes is os end rest → read end rest ≡ Ok (i, n) → Reads read at bytes (is ++ i ∷ []) (os ++ end ∷ []) (end + n) (drop n rest)
read_more read at bytes [] [] end rest i n h f =
    (h.0, (n, subst (λ b. read at b ≡ Ok (i, n)) h.1 (subst (λ a. read a rest ≡ Ok (i, n)) h.0 f), (ap (λ a. a + n) h.0, ap (drop n) h.1)))
read_more read at bytes [] (o ∷ os) end rest i n h f = absurd h
read_more read at bytes (x ∷ is) [] end rest i n h f = absurd h
read_more read at bytes (x ∷ is) (o ∷ os) end rest i n h f =
    (h.0, (h.1.0, h.1.1, read_more read (at + h.1.0) (drop h.1.0 bytes) is os end rest i n h.1.2 f))

pub below_more : (os : List ℕ) (o at : ℕ) → ((j : ℕ) → j < length os → get_or os j 0 < o) → o < at → (j : ℕ) → j < length (os ++ o ∷ []) → get_or (os ++ o ∷ []) j 0 < at
below_more os o at below h j inside = ⊎_elim
    (λ lt. let e = get_or-append os (o ∷ []) 0 j lt in let b = below j lt in omega arith)
    (λ ge. let s : j ≡ length os = omega (arith, length-append os (o ∷ [])) in let e : get_or (os ++ o ∷ []) j 0 ≡ o = ap (λ (k : ℕ). get_or (os ++ o ∷ []) k 0) s ∙ get_or-append_seam os o [] 0 in omega arith)
    (cases_lt j (length os))

pub rise_more : (os : List ℕ) (o : ℕ) → Rise os → ((j : ℕ) → j < length os → get_or os j 0 < o) → Rise (os ++ o ∷ [])
rise_more os o rise below i j lt inside =
    let size = length-append os (o ∷ []) in
    let e = get_or-append os (o ∷ []) 0 i (omega arith) in
    ⊎_elim
    (λ before. let f = get_or-append os (o ∷ []) 0 j before in let r = rise i j lt before in omega arith)
    (λ ge. let s : j ≡ length os = omega arith in let f : get_or (os ++ o ∷ []) j 0 ≡ o = ap (λ (k : ℕ). get_or (os ++ o ∷ []) k 0) s ∙ get_or-append_seam os o [] 0 in let b = below i (omega arith) in omega arith)
    (cases_lt j (length os))

-- what is read by a reader that reads nothing of no bytes
module _ (read : Reader) (none : (at : ℕ) (i : Instr) (n : ℕ) → read at [] ≡ Ok (i, n) → ⊥) where
  -- Code that is read to its end has no instruction that breaks a rule.
  pub never_broken : (at : ℕ) (bytes : List ℕ) (is is' : List Instr) (os os' : List ℕ) (end end' : ℕ) (rest : List ℕ) (rule : Rule) → Reads read at bytes is os end [] → Reads read at bytes is' os' end' rest → rest ≢ [] → read end' rest ≡ Err rule → ⊥
  never_broken at bytes [] [] [] [] end end' rest rule h k more err = more (k.1 ∙ sym h.1)
  never_broken at bytes [] (i ∷ is) [] (o ∷ os) end end' rest rule h k more err =
      none at i k.1.0 (ap (read at) h.1 ∙ k.1.1)
  never_broken at bytes (i ∷ is) [] (o ∷ os) [] end end' rest rule h k more err =
      not_both (i, h.1.0) rule (read at bytes) h.1.1 (subst (λ (e : ℕ). read e bytes ≡ Err rule) k.0 (subst (λ (l : List ℕ). read end' l ≡ Err rule) k.1 err))
  never_broken at bytes (i ∷ is) (j ∷ js) (o ∷ os) (p ∷ ps) end end' rest rule h k more err =
      let e : h.1.0 ≡ k.1.0 = ap (λ (x : Instr × ℕ). x.1) (same_ok (i, h.1.0) (j, k.1.0) (read at bytes) h.1.1 k.1.1) in
      let k' = subst (λ n. Reads read (at + n) (drop n bytes) js ps end' rest) (sym e) k.1.2 in
      never_broken (at + h.1.0) (drop h.1.0 bytes) is js os ps end end' rest rule h.1.2 k' more err
  never_broken at bytes [] is' (o ∷ os) os' end end' rest rule h k more err = absurd h
  never_broken at bytes (i ∷ is) is' [] os' end end' rest rule h k more err = absurd h
  never_broken at bytes is [] os (o ∷ os') end end' rest rule h k more err = absurd k
  never_broken at bytes is (i ∷ is') os [] end end' rest rule h k more err = absurd k

  -- It is read in one way.
  pub read_once : (at : ℕ) (bytes : List ℕ) (is is' : List Instr) (os os' : List ℕ) (end end' : ℕ) → Reads read at bytes is os end [] → Reads read at bytes is' os' end' [] → (is' ≡ is) × (os' ≡ os)
  read_once at bytes [] [] [] [] end end' h k = (refl, refl)
  read_once at bytes [] (i ∷ is) [] (o ∷ os) end end' h k =
      absurd (none at i k.1.0 (ap (read at) h.1 ∙ k.1.1))
  read_once at bytes (i ∷ is) [] (o ∷ os) [] end end' h k =
      absurd (none at i h.1.0 (ap (read at) k.1 ∙ h.1.1))
  read_once at bytes (i ∷ is) (j ∷ js) (o ∷ os) (p ∷ ps) end end' h k =
      let x = same_ok (i, h.1.0) (j, k.1.0) (read at bytes) h.1.1 k.1.1 in
      let e : h.1.0 ≡ k.1.0 = ap (λ (x : Instr × ℕ). x.1) x in
      let f : i ≡ j = ap (λ (x : Instr × ℕ). x.0) x in
      let k' = subst (λ n. Reads read (at + n) (drop n bytes) js ps end' []) (sym e) k.1.2 in
      let r = read_once (at + h.1.0) (drop h.1.0 bytes) is js os ps end end' h.1.2 k' in
      let g : p ≡ o = k.0 ∙ sym h.0 in
      (rw (r.0, ← f) refl, rw (r.1, g) refl)
  read_once at bytes [] is' (o ∷ os) os' end end' h k = absurd h
  read_once at bytes (i ∷ is) is' [] os' end end' h k = absurd h
  read_once at bytes is [] os (o ∷ os') end end' h k = absurd k
  read_once at bytes is (i ∷ is') os [] end end' h k = absurd k

  -- The first fault is the only one.
  pub fault_once : (at : ℕ) (bytes : List ℕ) (is is' : List Instr) (os os' : List ℕ) (end end' : ℕ) (rest rest' : List ℕ) (rule rule' : Rule) → Reads read at bytes is os end rest → read end rest ≡ Err rule → Reads read at bytes is' os' end' rest' → read end' rest' ≡ Err rule' → (end' ≡ end) × (rule' ≡ rule)
  fault_once at bytes [] [] [] [] end end' rest rest' rule rule' h e k e' =
      (k.0 ∙ sym h.0, same_err rule' rule (read at bytes) (subst (λ (e : ℕ). read e bytes ≡ Err rule') k.0 (subst (λ (l : List ℕ). read end' l ≡ Err rule') k.1 e')) (subst (λ (e : ℕ). read e bytes ≡ Err rule) h.0 (subst (λ (l : List ℕ). read end l ≡ Err rule) h.1 e)))
  fault_once at bytes [] (i ∷ is) [] (o ∷ os) end end' rest rest' rule rule' h e k e' =
      absurd (not_both (i, k.1.0) rule (read at bytes) k.1.1 (subst (λ (e : ℕ). read e bytes ≡ Err rule) h.0 (subst (λ (l : List ℕ). read end l ≡ Err rule) h.1 e)))
  fault_once at bytes (i ∷ is) [] (o ∷ os) [] end end' rest rest' rule rule' h e k e' =
      absurd (not_both (i, h.1.0) rule' (read at bytes) h.1.1 (subst (λ (e : ℕ). read e bytes ≡ Err rule') k.0 (subst (λ (l : List ℕ). read end' l ≡ Err rule') k.1 e')))
  fault_once at bytes (i ∷ is) (j ∷ js) (o ∷ os) (p ∷ ps) end end' rest rest' rule rule' h e k e' =
      let s : h.1.0 ≡ k.1.0 = ap (λ (x : Instr × ℕ). x.1) (same_ok (i, h.1.0) (j, k.1.0) (read at bytes) h.1.1 k.1.1) in
      let k' = subst (λ n. Reads read (at + n) (drop n bytes) js ps end' rest') (sym s) k.1.2 in
      fault_once (at + h.1.0) (drop h.1.0 bytes) is js os ps end end' rest rest' rule rule' h.1.2 e k' e'
  fault_once at bytes [] is' (o ∷ os) os' end end' rest rest' rule rule' h e k e' = absurd h
  fault_once at bytes (i ∷ is) is' [] os' end end' rest rest' rule rule' h e k e' = absurd h
  fault_once at bytes is [] os (o ∷ os') end end' rest rest' rule rule' h e k e' = absurd k
  fault_once at bytes is (i ∷ is') os [] end end' rest rest' rule rule' h e k e' = absurd k
