-- Programs with bodies, where rows are appended.
use Rattle.std.proofs.Common.{◌≡◌, ◌∙◌, sym, ap, refl, subst, arith, ℕ, zero, suc, ◌<◌, ◌≤◌, List, ◌∷◌, ◌++◌, length, false}
use Rattle.std.specs.Prelude.{◌==◌, not, is_some, slice_get, unwrap_or, Option, Some, None}
use Rattle.std.proofs.lemmas.List.{length-map}
use Rattle.cil_base.specs.declared.tables.TheConstants.{METHOD_DEF}
use Rattle.cil_model.specs.declared.body.Body.{Body}
use Rattle.cil_model.specs.declared.program.Program.{Program}
use Rattle.cil_model.specs.declared.program.MethodDesc.{MethodDesc}
use Rattle.cil_semantics.specs.Lookups.{no_method, method_of}
use Rattle.cil_semantics.specs.Tokens.{meaning_of}
use Rattle.machine_laws.specs.Growth.{KeptMethod, Ranked, Extends}
use Rattle.set_rows.specs.Sets.{Assembly, Assemblies, assembly_at, count_in, cell}
use Rattle.members.specs.declared.outside_member.OutsideMember.{OutsideMember}
use Rattle.member_table.specs.declared.named.MemberId.{MemberId}
use Rattle.member_table.specs.declared.named.MemberId.TheVariants as id
use Rattle.member_table.specs.Numbers.{member_ids}
use Rattle.descriptions.specs.Descriptions.{method_desc}
use Rattle.descriptions.specs.Programs.{program_of}
use Rattle.descriptions.specs.WholePrograms.{without_body, without_bodies, BodyAt, IsProgramOf}
use Rattle.set_growth.specs.Grown.{IsGrown, KeepsAccess, SaysAlike, KeepsTexts}
use Rattle.set_growth.specs.Orderly.{IsOrderly}
use Rattle.set_growth.proofs.FindLaws.{differs}
use Rattle.program_growth.specs.Rules.{IsNamed, IsNumbered, IsMember, IsDescribed, HasPlaces}
use Rattle.program_growth.specs.Kept.{KeepsProgram}
use Rattle.program_growth.specs.Bodies.{KeepsBodies}
use Rattle.program_growth.proofs.KeptMemberLaws.{get_before}
use Rattle.program_growth.proofs.KeptNumberLaws.{member_ids_grow}
use Rattle.program_growth.proofs.ProgramLaws.{At, at_place, map_got, keeps_program}
use Rattle.program_growth.proofs.SignatureNumberLaws.{signatures_same}

-- which methods have the same signature stays
abbrev SameSignatures : Program → Program → Type 0
SameSignatures p q = (i j : ℕ) → i < length p.methods → j < length p.methods → ((method_of q i).sig == (method_of q j).sig) ≡ ((method_of p i).sig == (method_of p j).sig)

-- ---- a program and the same without bodies

count_without : (p : Program) → length (without_bodies p).methods ≡ length p.methods
count_without p = length-map p.methods without_body

method_at : (p : Program) (k : ℕ) (d : MethodDesc) → slice_get p.methods k ≡ Some d → method_of p k ≡ d
method_at p k d e = ap (λ (o : Option MethodDesc). unwrap_or o no_method) e

method_without : (p : Program) (k : ℕ) (d : MethodDesc) → slice_get p.methods k ≡ Some d → method_of (without_bodies p) k ≡ without_body d
method_without p k d e = ap (λ (o : Option MethodDesc). unwrap_or o no_method) (map_got without_body p.methods k d e)

sig_without : (p : Program) (k : ℕ) → k < length p.methods → (method_of (without_bodies p) k).sig ≡ (method_of p k).sig
sig_without p k h =
    let at : At p.methods k = at_place p.methods k h in
    ap (λ (d : MethodDesc). d.sig) (method_without p k at.value at.there) ∙ sym (ap (λ (d : MethodDesc). d.sig) (method_at p k at.value at.there))

-- a description with its body is kept where the one without it is, and there is a body where there was
with_body : (d e : MethodDesc) → KeptMethod (without_body d) (without_body e) → is_some e.body ≡ is_some d.body → KeptMethod d e
with_body d e k b = record {
  assembly = k.assembly;
  row = k.row;
  owner = k.owner;
  name = k.name;
  params = k.params;
  result = k.result;
  is_static = k.is_static;
  outside = k.outside;
  abbreviator = k.abbreviator;
  generics = k.generics;
  has_body = b;
  overrides = k.overrides;
  new_slot = k.new_slot;
  abstract_too = k.abstract_too;
  public_too = k.public_too;
  seen = k.seen;
}

-- a row has a body just where its RVA isn't 0
body_there : (code : ℕ → ℕ → Option (List ℕ)) (u : Assemblies) (a row : ℕ) (b : Option Body) → BodyAt code u (id.Row a row) b → is_some b ≡ not (cell (assembly_at u a) METHOD_DEF row 0 == 0)
body_there code u a row None h = sym (ap (λ (n : ℕ). not (n == 0)) h)
body_there code u a row (Some body) h = sym (ap not (differs (cell (assembly_at u a) METHOD_DEF row 0) 0 (λ e. let l : 0 < cell (assembly_at u a) METHOD_DEF row 0 = h.0 in omega (arith, l, e))))

no_body : (code : ℕ → ℕ → Option (List ℕ)) (u : Assemblies) (m : OutsideMember) (b : Option Body) → BodyAt code u (id.Outside m) b → is_some b ≡ false
no_body code u m b h = ap is_some h

module _ (x x' : Assembly) (xs : Assemblies) (grown : IsGrown x x') (access : KeepsAccess x x') (texts : KeepsTexts x x') (kept_bodies : KeepsBodies x x') (orderly : IsOrderly x) (named : IsNamed (x ∷ xs)) (numbered : IsNumbered (x ∷ xs)) (alike : SaysAlike (x ∷ xs) (x' ∷ xs)) (described : IsDescribed (x ∷ xs)) (placed : HasPlaces (x ∷ xs)) where
  abbrev s : Assemblies
  s = x ∷ xs

  abbrev s' : Assemblies
  s' = x' ∷ xs

  zero_same : (a row : ℕ) → row ≤ count_in (assembly_at s a) METHOD_DEF → (cell (assembly_at s' a) METHOD_DEF row 0 == 0) ≡ (cell (assembly_at s a) METHOD_DEF row 0 == 0)
  zero_same zero row h = kept_bodies row h
  zero_same (suc a) row h = refl

  signatures : SameSignatures (program_of s) (program_of s')
  unfolding program_of
  signatures = signatures_same x x' xs grown orderly named numbered alike placed

  count_ids : length (program_of s).methods ≡ length (member_ids s false)
  unfolding program_of
  count_ids = length-map (member_ids s false) (method_desc s)

  module _ (code code' : ℕ → ℕ → Option (List ℕ)) (p q : Program) (is : IsProgramOf code s p) (is' : IsProgramOf code' s' q) where
    abbrev p0 : Program
    p0 = without_bodies p

    abbrev q0 : Program
    q0 = without_bodies q

    kept : KeepsProgram p0 q0
    kept = subst (KeepsProgram p0) (sym is'.program) (subst (λ (r : Program). KeepsProgram r (program_of s')) (sym is.program) (keeps_program x x' xs grown access texts orderly named numbered alike described placed))

    same_signatures : SameSignatures p0 q0
    same_signatures = subst (SameSignatures p0) (sym is'.program) (subst (λ (r : Program). SameSignatures r (program_of s')) (sym is.program) signatures)

    more_methods : length p.methods ≤ length q.methods
    more_methods =
        let n : length p0.methods ≡ length p.methods = count_without p in
        let n' : length q0.methods ≡ length q.methods = count_without q in
        let more : length p0.methods ≤ length q0.methods = kept.more_methods in
        omega (arith, n, n', more)

    has_body : (m : MemberId) → IsMember s false m → (b b' : Option Body) → BodyAt code s m b → BodyAt code' s' m b' → is_some b' ≡ is_some b
    has_body (id.Row a row) old b b' h h' = body_there code' s' a row b' h' ∙ ap not (zero_same a row old.1) ∙ sym (body_there code s a row b h)
    has_body (id.Outside m) out b b' h h' = no_body code' s' m b' h' ∙ sym (no_body code s m b h)

    ids_count : length p.methods ≡ length (member_ids s false)
    ids_count = sym (count_without p) ∙ ap (λ (r : Program). length r.methods) is.program ∙ count_ids

    method_kept : (j : ℕ) → j < length p.methods → KeptMethod (method_of p j) (method_of q j)
    method_kept j h =
        let n : length p0.methods ≡ length p.methods = count_without p in
        let more : length p.methods ≤ length q.methods = more_methods in
        let count : length p.methods ≡ length (member_ids s false) = ids_count in
        let g : (rest : List MemberId) × (member_ids s' false ≡ member_ids s false ++ rest) = member_ids_grow x x' xs grown orderly named numbered alike false in
        let d : At p.methods j = at_place p.methods j h in
        let e : At q.methods j = at_place q.methods j (omega (arith, h, more)) in
        let m : At (member_ids s false) j = at_place (member_ids s false) j (omega (arith, h, count)) in
        let there : slice_get (member_ids s' false) j ≡ Some m.value = ap (λ (l : List MemberId). slice_get l j) g.1 ∙ get_before (member_ids s false) g.0 j m.value m.there in
        let body : is_some e.value.body ≡ is_some d.value.body =
        has_body m.value (placed.ids false j m.value m.there) d.value.body e.value.body (is.bodies j m.value d.value m.there d.there) (is'.bodies j m.value e.value there e.there) in
        let without : KeptMethod (without_body d.value) (without_body e.value) =
        subst (λ (f : MethodDesc). KeptMethod f (without_body e.value)) (method_without p j d.value d.there)
        (subst (KeptMethod (method_of p0 j)) (method_without q j e.value e.there) (kept.methods j (omega (arith, h, n)))) in
        subst (λ (f : MethodDesc). KeptMethod f (method_of q j)) (sym (method_at p j d.value d.there))
        (subst (KeptMethod d.value) (sym (method_at q j e.value e.there)) (with_body d.value e.value without body))

    signature_kept : (i j : ℕ) → i < length p.methods → j < length p.methods → ((method_of q i).sig == (method_of q j).sig) ≡ ((method_of p i).sig == (method_of p j).sig)
    signature_kept i j h k =
        let n : length p0.methods ≡ length p.methods = count_without p in
        let more : length p.methods ≤ length q.methods = more_methods in
        sym (ap (λ (c : ℕ). c == (method_of q0 j).sig) (sig_without q i (omega (arith, h, more))) ∙ ap (λ (c : ℕ). (method_of q i).sig == c) (sig_without q j (omega (arith, k, more))))
        ∙ same_signatures i j (omega (arith, h, n)) (omega (arith, k, n))
        ∙ ap (λ (c : ℕ). c == (method_of p0 j).sig) (sig_without p i h) ∙ ap (λ (c : ℕ). (method_of p i).sig == c) (sig_without p j k)

    pub extends_with_bodies : Ranked p → Ranked q → Extends p q
    unfolding meaning_of
    extends_with_bodies ranked ranked_too = record {
      ranked = ranked;
      ranked_too = ranked_too;
      more_types = kept.more_types;
      more_fields = kept.more_fields;
      more_methods = more_methods;
      types = kept.types;
      fields = kept.fields;
      methods = method_kept;
      signatures = signature_kept;
      tokens = kept.tokens;
    }
