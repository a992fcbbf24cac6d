-- A set has one program, and its methods one list of own contracts.
use Rattle.std.proofs.Common.{◌≡◌, ◌∙◌, sym, ap, refl, subst, arith, ℕ, zero, suc, ◌<◌, List, [], ◌∷◌, length, Option, Some, None}
use Rattle.std.specs.Prelude.{MatchOption, map, slice_get, false}
use Rattle.cil_base.specs.declared.refusal.Refusal.{Refusal}
use Rattle.cil_base.specs.Refusals.{First, NoneBroken}
use Rattle.cil_model.specs.declared.body.Body.{Body}
use Rattle.cil_model.specs.declared.contract.Contract.{Contract}
use Rattle.cil_model.specs.declared.program.MethodDesc.{MethodDesc}
use Rattle.cil_model.specs.declared.program.Program.{Program}
use Rattle.cil_model.specs.BodyLayout.{locals_of}
use Rattle.cil_model.specs.BodyOf.{IsSame, StandsFor}
use Rattle.il_code.proofs.BodyLaws.{once}
use Rattle.cil_semantics.specs.Lookups.{method_of}
use Rattle.set_rows.specs.Sets.{Assemblies, assembly_at, cell}
use Rattle.member_table.specs.declared.named.MemberId.{MemberId}
use Rattle.member_table.specs.declared.named.MemberId.TheVariants as id
use Rattle.member_table.specs.Numbers.{member_ids}
use Rattle.descriptions.specs.WholePrograms.{without_body, without_bodies, BodyAt}
use Rattle.method_bodies.specs.Rows.{code_in}
use Rattle.body_rules.proofs.MethodLaws.{same_body}
use Rattle.body_rules.proofs.SearchLaws.{some_is}
use Rattle.contract_extract.specs.Methods.{HasContract}
use Rattle.contract_extract.proofs.MethodLaws.{has_one}
use Rattle.own_contracts.specs.Own.{no_contract, contract_at, AreOwn, BreaksOwn}
use Rattle.own_contracts.specs.Inherited.{Inherits}
use Rattle.set_check.specs.Sets.{IsReadBody, IsReadProgram}
use Rattle.set_list.specs.Lists.{BreaksBlocks, HasOtherSource}
use Rattle.set_list.proofs.HeightLaws.{There, id_there}

-- ---- one body

module _ (s : Assemblies) where
  no_row : (a row : ℕ) → cell (assembly_at s a) 0x06 row 0 ≡ 0 → 0 < cell (assembly_at s a) 0x06 row 0 → ⊥
  no_row a row e l = absurd (omega (arith, e, l))

  row_body : (a row : ℕ) (x y : Body) → BodyAt (code_in s) s (id.Row a row) (Some x) → BodyAt (code_in s) s (id.Row a row) (Some y) → IsReadBody s (id.Row a row) (Some x) → IsReadBody s (id.Row a row) (Some y) → y ≡ x
  row_body a row x y h g r t =
      let bytes : g.1.0 ≡ h.1.0 = some_is g.1.0 h.1.0 (code_in s a (cell (assembly_at s a) 0x06 row 0)) g.1.2 h.1.2 in
      let same : IsSame y x = once a h.1.0 x y h.1.1 g.1.1 h.1.3 (subst (λ (l : List ℕ). StandsFor a l y g.1.1) bytes g.1.3) in
      same_body y x same (t.0 ∙ ap locals_of same.locals ∙ sym r.0)

  one_body : (i : MemberId) (x y : Option Body) → BodyAt (code_in s) s i x → BodyAt (code_in s) s i y → IsReadBody s i x → IsReadBody s i y → x ≡ y
  one_body (id.Outside m) x y h g r t = h ∙ sym g
  one_body (id.Row a row) None None h g r t = refl
  one_body (id.Row a row) None (Some y) h g r t = absurd (no_row a row h g.0)
  one_body (id.Row a row) (Some x) None h g r t = absurd (no_row a row g h.0)
  one_body (id.Row a row) (Some x) (Some y) h g r t = ap (λ (b : Body). Some b) (sym (row_body a row x y h g r t))

-- ---- one program

same_desc : (d e : MethodDesc) → without_body d ≡ without_body e → d.body ≡ e.body → d ≡ e
same_desc d e h g = ap (λ (x : MethodDesc). record x { body = d.body }) h ∙ ap (λ (b : Option Body). record (without_body e) { body = b }) g

first_desc : (d e : MethodDesc) (ds es : List MethodDesc) → d ∷ ds ≡ e ∷ es → d ≡ e
first_desc d e ds es h = cc

rest_desc : (d e : MethodDesc) (ds es : List MethodDesc) → d ∷ ds ≡ e ∷ es → ds ≡ es
rest_desc d e ds es h = cc

same_methods : (ds es : List MethodDesc) → map without_body ds ≡ map without_body es → ((k : ℕ) (d e : MethodDesc) → slice_get ds k ≡ Some d → slice_get es k ≡ Some e → d.body ≡ e.body) → ds ≡ es
same_methods [] [] h bodies = refl
same_methods [] (e ∷ es) h bodies = absurd cc
same_methods (d ∷ ds) [] h bodies = absurd cc
same_methods (d ∷ ds) (e ∷ es) h bodies =
    let first = same_desc d e (first_desc (without_body d) (without_body e) (map without_body ds) (map without_body es) h) (bodies zero d e refl refl) in
    let rest = same_methods ds es (rest_desc (without_body d) (without_body e) (map without_body ds) (map without_body es) h) (λ k x y f g. bodies (suc k) x y f g) in
    ap (λ (x : MethodDesc). x ∷ ds) first ∙ ap (λ (l : List MethodDesc). e ∷ l) rest

same_program : (p q : Program) → without_bodies p ≡ without_bodies q → p.methods ≡ q.methods → p ≡ q
same_program p q h g = ap (λ (x : Program). record x { methods = p.methods }) h ∙ ap (λ (l : List MethodDesc). record (without_bodies q) { methods = l }) g

module _ (s : Assemblies) (p q : Program) (is : IsReadProgram s p) (is_also : IsReadProgram s q) where
  bodies_same : (k : ℕ) (d e : MethodDesc) → slice_get p.methods k ≡ Some d → slice_get q.methods k ≡ Some e → d.body ≡ e.body
  bodies_same k d e f g = go (id_there s p is k d f)
    where
      go : There (member_ids s false) k → d.body ≡ e.body
      go i = one_body s i.value d.body e.body (is.whole.bodies k i.value d i.at f) (is_also.whole.bodies k i.value e i.at g) (is.bodies k i.value d i.at f) (is_also.bodies k i.value e i.at g)

  pub one_program : p ≡ q
  one_program =
      let without : without_bodies p ≡ without_bodies q = is.whole.program ∙ sym is_also.whole.program in
      same_program p q without (same_methods p.methods q.methods (ap (λ (x : Program). x.methods) without) bodies_same)

-- ---- one list of contracts

own_one : (p : Program) (m : ℕ) (o : Option Body) (c e : Contract) → MatchOption o (c ≡ no_contract) (λ b. HasContract p m c) → MatchOption o (e ≡ no_contract) (λ b. HasContract p m e) → c ≡ e
own_one p m None c e h g = h ∙ sym g
own_one p m (Some b) c e h g = has_one p m c e h g

shorter : {n k : ℕ} → suc n ≡ suc k → n ≡ k
shorter e = cc

same_lists : (cs es : List Contract) → length cs ≡ length es → ((m : ℕ) → m < length cs → contract_at cs m ≡ contract_at es m) → cs ≡ es
same_lists [] [] size each = refl
same_lists [] (e ∷ es) size each = absurd cc
same_lists (c ∷ cs) [] size each = absurd cc
same_lists (c ∷ cs) (e ∷ es) size each =
    ap (λ (x : Contract). x ∷ cs) (each zero (omega arith))
    ∙ ap (λ (l : List Contract). e ∷ l) (same_lists cs es (shorter size) (λ m l. each (suc m) (omega (arith, l))))

pub one_list : (p : Program) (cs es : List Contract) → AreOwn p cs → AreOwn p es → cs ≡ es
one_list p cs es h g =
    same_lists cs es (h.count ∙ sym g.count)
    (λ m l. own_one p m (method_of p m).body (contract_at cs m) (contract_at es m) (h.each m (omega (arith, l, h.count))) (g.each m (omega (arith, l, h.count))))

-- ---- what is broken

module _ (s : Assemblies) (p : Program) (is : IsReadProgram s p) where
  blocks_of : (r : Refusal) → BreaksBlocks s r → BreaksOwn p r
  blocks_of r h = subst (λ (q : Program). BreaksOwn q r) (one_program s h.program p h.is is) h.breaks

  pub none_in_blocks : NoneBroken (BreaksOwn p) → NoneBroken (BreaksBlocks s)
  none_in_blocks none r h = none r (blocks_of r h)

  pub first_in_blocks : (r : Refusal) → First (BreaksOwn p) r → First (BreaksBlocks s) r
  first_in_blocks r f = record {
    broken = record { program = p; is = is; breaks = f.broken };
    none_before = λ t h. f.none_before t (blocks_of t h);
  }

  module _ (cs : List Contract) (own : AreOwn p cs) where
    source_of : (r : Refusal) → HasOtherSource s r → Inherits p cs r
    source_of r h =
        let same : h.program ≡ p = one_program s h.program p h.is is in
        let theirs : AreOwn p h.contracts = subst (λ (q : Program). AreOwn q h.contracts) same h.own in
        subst (λ (l : List Contract). Inherits p l r) (one_list p h.contracts cs theirs own) (subst (λ (q : Program). Inherits q h.contracts r) same h.inherits)

    pub none_from_others : NoneBroken (Inherits p cs) → NoneBroken (HasOtherSource s)
    none_from_others none r h = none r (source_of r h)

    pub first_from_others : (r : Refusal) → First (Inherits p cs) r → First (HasOtherSource s) r
    first_from_others r f = record {
      broken = record { program = p; contracts = cs; is = is; own = own; inherits = f.broken };
      none_before = λ t h. f.none_before t (source_of t h);
    }
