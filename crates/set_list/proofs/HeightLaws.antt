-- The bodies of the program of a set have heights, and are short.
use Rattle.std.proofs.Common.{◌≡◌, ◌∙◌, sym, ap, refl, subst, arith, ℕ, zero, suc, ◌<◌, ◌≤◌, ◌^◌, List, [], ◌∷◌, length, false, Option, Some, None}
use Rattle.std.specs.Prelude.{IsSome, map, slice_get, unwrap_or}
use Rattle.std.proofs.lemmas.List.{length-map}
use Rattle.cil_base.specs.declared.refusal.Place.{Place}
use Rattle.cil_base.specs.declared.refusal.Refusal.{Refusal}
use Rattle.cil_base.specs.Refusals.{Fails, First, NoneBroken, InTurn, Test}
use Rattle.cil_model.specs.declared.body.Body.{Body}
use Rattle.cil_model.specs.declared.body.Instr.{Instr}
use Rattle.cil_model.specs.declared.body.Operand.{Operand}
use Rattle.cil_model.specs.declared.program.Meaning.{Meaning}
use Rattle.cil_model.specs.declared.program.Meaning.TheVariants.{OfType, OfField, OfMethod, OfText, OfLocals}
use Rattle.cil_model.specs.declared.body.Operand.TheVariants.{Nothing, Int, Index, Target, Targets, Tok}
use Rattle.cil_model.specs.declared.program.MethodDesc.{MethodDesc}
use Rattle.cil_model.specs.declared.program.Program.{Program}
use Rattle.cil_semantics.specs.Lookups.{method_of, no_method}
use Rattle.cil_semantics.specs.Tokens.{meaning_of}
use Rattle.cil_semantics.specs.Unwind.{body_of, no_body}
use Rattle.il_opcodes.specs.declared.opcode.Opcode.{Opcode}
use Rattle.il_opcodes.specs.declared.class.Class.{Class}
use Rattle.il_opcodes.specs.declared.class.Class.TheVariants as class
use mathlib.Core.Path.{fun_ext}
use Rattle.cil_semantics.specs.Words.{maybe}
use Rattle.cil_base.specs.declared.token.Token.{Token}
use Rattle.il_flow.specs.Effects.{effect_of, effect_by, effect_in, member, method_meant}
use Rattle.il_flow.specs.declared.effect.Effect.{Effect}
use Rattle.il_flow.specs.Meanings.{BreaksMeaning, meaning_tests}
use Rattle.il_flow.specs.Methods.{BreaksHeights, place_of}
use Rattle.il_opcodes.specs.Opcodes.{opcode_of}
use Rattle.region_tree.specs.Rules.{BreaksControl}
use Rattle.set_rows.specs.Sets.{Assemblies, assembly_at, assembly_of, no_assembly}
use Rattle.row_descriptions.specs.RowDescriptions.{method_row}
use Rattle.member_table.specs.declared.named.MemberId.{MemberId}
use Rattle.member_table.specs.declared.named.MemberId.TheVariants as id
use Rattle.member_table.specs.Numbers.{member_ids}
use Rattle.descriptions.specs.Descriptions.{method_desc}
use Rattle.descriptions.specs.Programs.{program_of}
use Rattle.descriptions.specs.WholePrograms.{without_body, without_bodies, BodyAt}
use Rattle.method_bodies.specs.Rows.{code_in, method_place}
use Rattle.body_rules.specs.Faults.{CodeFault}
use Rattle.body_rules.specs.Sets.{IsSoundAt}
use Rattle.body_rules.proofs.CountLaws.{stands_few}
use Rattle.method_bodies.proofs.FaultLaws.{tail_short}
use Rattle.body_rules.proofs.CodeLaws.{code_of_flow, flow_wrong}
use Rattle.contract_extract.specs.Methods.{LacksHeights}
use Rattle.own_contracts.specs.Own.{AreShort, HaveHeights}
use Rattle.set_check.specs.Sets.{assemblies_of, bytes_at, IsReadBody, IsReadProgram}

-- ---- what a list has at a place

pub record There {X : Type 0} (xs : List X) (k : ℕ) : Type 0 where
  pub value : X
  pub at : slice_get xs k ≡ Some value

pub there : {X : Type 0} (xs : List X) (k : ℕ) → k < length xs → There xs k
there [] k l = absurd (omega (arith, l))
there (x ∷ xs) zero l = record { value = x; at = refl }
there (x ∷ xs) (suc k) l = next (there xs k (omega (arith, l)))
  where
    next : There xs k → There (x ∷ xs) (suc k)
    next t = record { value = t.value; at = t.at }

pub within : {X : Type 0} (xs : List X) (k : ℕ) (x : X) → slice_get xs k ≡ Some x → k < length xs
within [] k x e = absurd cc
within (y ∷ xs) zero x e = omega arith
within (y ∷ xs) (suc k) x e = let l : k < length xs = within xs k x e in omega (arith, l)

mapped : {X Y : Type 0} (f : X → Y) (xs : List X) (k : ℕ) (x : X) → slice_get xs k ≡ Some x → slice_get (map f xs) k ≡ Some (f x)
mapped f [] k x e = absurd cc
mapped f (y ∷ xs) zero x e = let same : y ≡ x = cc in ap (λ (z : _). Some (f z)) same
mapped f (y ∷ xs) (suc k) x e = mapped f xs k x e

-- ---- a program and the same without bodies

effect_class : (own called : MethodDesc) (o : Opcode) (c : Class) → effect_by (without_body own) (without_body called) o c ≡ effect_by own called o c
effect_class own called o class.Call = refl
effect_class own called o class.CallVirtual = refl
effect_class own called o class.NewObject = refl
effect_class own called o class.Return = refl
effect_class own called o class.Leave = refl
effect_class own called o _ = refl

effect_same : (own called : MethodDesc) (o : Option Opcode) → effect_in (without_body own) (without_body called) o ≡ effect_in own called o
effect_same own called None = refl
effect_same own called (Some o) = effect_class own called o o.class

module _ (p : Program) where
  method_at : (m : ℕ) (d : MethodDesc) → slice_get p.methods m ≡ Some d → method_of p m ≡ d
  method_at m d e = ap (λ (o : Option MethodDesc). unwrap_or o no_method) e

  -- a method that isn't there has no body
  past : (ds : List MethodDesc) (m : ℕ) (o : Option MethodDesc) → slice_get ds m ≡ o → unwrap_or (slice_get (map without_body ds) m) no_method ≡ without_body (unwrap_or (slice_get ds m) no_method)
  unfolding no_method
  past [] m o e = refl
  past (d ∷ ds) zero o e = refl
  past (d ∷ ds) (suc m) o e = past ds m o e

  method_without : (m : ℕ) → method_of (without_bodies p) m ≡ without_body (method_of p m)
  method_without m = past p.methods m (slice_get p.methods m) refl

  meant_without : (o : Option Meaning) → method_meant (without_bodies p) o ≡ without_body (method_meant p o)
  unfolding no_method
  meant_without None = refl
  meant_without (Some (OfType t)) = refl
  meant_without (Some (OfField t f)) = refl
  meant_without (Some (OfMethod owner m args)) = method_without m
  meant_without (Some (OfText u)) = refl
  meant_without (Some (OfLocals ts)) = refl

  meaning_without : (a : ℕ) (token : Token) → meaning_of (without_bodies p) a token ≡ meaning_of p a token
  unfolding meaning_of
  meaning_without a token = refl

  member_without : (o : Operand) → member (without_bodies p) o ≡ without_body (member p o)
  unfolding no_method
  member_without Nothing = refl
  member_without (Int z) = refl
  member_without (Index k) = refl
  member_without (Target k) = refl
  member_without (Targets ks) = refl
  member_without (Tok a token) = ap (method_meant (without_bodies p)) (meaning_without a token) ∙ meant_without (meaning_of p a token)

  effect_without : (d : MethodDesc) (i : Instr) → effect_of (without_bodies p) (without_body d) i ≡ effect_of p d i
  effect_without d i =
      ap (λ (c : MethodDesc). effect_in (without_body d) c (opcode_of i.op)) (member_without i.operand) ∙ effect_same d (member p i.operand) (opcode_of i.op)

  effects : (d : MethodDesc) → effect_of (without_bodies p) (without_body d) ≡ effect_of p d
  effects d = fun_ext (effect_without d)

  meanings : (d : MethodDesc) (place : Place) (b : Body) → meaning_tests (without_bodies p) (without_body d) place b ≡ meaning_tests p d place b
  unfolding meaning_of
  meanings d place b = refl

  code_without : (d : MethodDesc) (place : Place) (b : Body) → NoneBroken (CodeFault (without_bodies p) (without_body d) place b) → NoneBroken (CodeFault p d place b)
  code_without d place b none =
      subst (λ (effect : Instr → Effect). NoneBroken (InTurn (BreaksMeaning p d place b) (InTurn (BreaksHeights effect place b) (First (BreaksControl place b))))) (effects d)
      (subst (λ (ts : List Test). NoneBroken (InTurn (Fails ts) (InTurn (BreaksHeights (effect_of (without_bodies p) (without_body d)) place b) (First (BreaksControl place b))))) (meanings d place b) none)

  -- ---- a method's body has heights

  abbrev Lacks : MethodDesc → Body → Refusal → Type 0
  Lacks d b = InTurn (BreaksMeaning p d (place_of d) b) (BreaksHeights (effect_of p d) (place_of d) b)

  lacks_none : (m : ℕ) (d : MethodDesc) (b : Body) → method_of p m ≡ d → d.body ≡ Some b → NoneBroken (CodeFault p d (place_of d) b) → NoneBroken (LacksHeights p m)
  lacks_none m d b e f none r lacks =
      let here : body_of p m ≡ b = ap (λ (o : Option Body). maybe no_body (λ x. x) o) (ap (λ (x : MethodDesc). x.body) e ∙ f) in
      let moved : Lacks d b r = subst (λ (x : Body). Lacks d x r) here (subst (λ (x : MethodDesc). Lacks x (body_of p m) r) e lacks) in
      none r (code_of_flow p d (place_of d) b r (flow_wrong p d (place_of d) b r moved))

-- ---- the program of a set

bytes_in : (set : List (List ℕ)) (a : ℕ) → (assembly_at (assemblies_of set) a).bytes ≡ bytes_at set a
unfolding assembly_of no_assembly
bytes_in [] zero = refl
bytes_in [] (suc a) = refl
bytes_in (x ∷ set) zero = refl
bytes_in (x ∷ set) (suc a) = bytes_in set a

module _ (s : Assemblies) (p : Program) (is : IsReadProgram s p) where
  ids_count : length (member_ids s false) ≡ length p.methods
  unfolding program_of
  ids_count =
      sym (length-map (member_ids s false) (method_desc s)) ∙ sym (ap (λ (q : Program). length q.methods) is.whole.program) ∙ length-map p.methods without_body

  pub id_there : (m : ℕ) (d : MethodDesc) → slice_get p.methods m ≡ Some d → There (member_ids s false) m
  id_there m d e = let l : m < length p.methods = within p.methods m d e in there (member_ids s false) m (omega (arith, l, ids_count))

  some_same : (x y : MethodDesc) (o : Option MethodDesc) → o ≡ Some x → o ≡ Some y → x ≡ y
  some_same x y o e f = let g : let q : Option MethodDesc = Some x in q ≡ Some y = sym e ∙ f in cc

  -- a method's description is that of its member
  described : (m : ℕ) (d : MethodDesc) (i : MemberId) → slice_get p.methods m ≡ Some d → slice_get (member_ids s false) m ≡ Some i → method_desc s i ≡ without_body d
  unfolding program_of
  described m d i e f =
      some_same (method_desc s i) (without_body d) (slice_get (map (method_desc s) (member_ids s false)) m) (mapped (method_desc s) (member_ids s false) m i f)
      (sym (ap (λ (q : Program). slice_get q.methods m) is.whole.program) ∙ mapped without_body p.methods m d e)

  row_place : (a row : ℕ) (d : MethodDesc) → method_desc s (id.Row a row) ≡ without_body d → method_place a row ≡ place_of d
  unfolding method_row
  row_place a row d e = ap place_of e

  sound_row : (a row : ℕ) (d : MethodDesc) (b : Body) → method_desc s (id.Row a row) ≡ without_body d → IsSoundAt s a row (Some b) → NoneBroken (CodeFault p d (place_of d) b)
  sound_row a row d b e sound =
      code_without p d (place_of d) b
      (subst (λ (x : Place). NoneBroken (CodeFault (without_bodies p) (without_body d) x b)) (row_place a row d e)
      (subst (λ (x : MethodDesc). NoneBroken (CodeFault (without_bodies p) x (method_place a row) b)) e
      (subst (λ (x : Program). NoneBroken (CodeFault x (method_desc s (id.Row a row)) (method_place a row) b)) (sym is.whole.program) sound)))

  sound_at : (m : ℕ) (d : MethodDesc) (b : Body) (i : MemberId) → d.body ≡ Some b → method_desc s i ≡ without_body d → BodyAt (code_in s) s i d.body → IsReadBody s i d.body → NoneBroken (CodeFault p d (place_of d) b)
  sound_at m d b (id.Row a row) f e body read = sound_row a row d b e (subst (IsSoundAt s a row) f read.1)
  sound_at m d b (id.Outside o) f e body read = absurd (none_is_some b (sym body ∙ f))
    where
      none_is_some : (x : Body) → (let q : Option Body = None in q ≡ Some x) → ⊥
      none_is_some x g = absurd cc

  heights_at : (m : ℕ) (d : MethodDesc) (o : Option Body) → slice_get p.methods m ≡ Some d → d.body ≡ o → IsSome o → NoneBroken (LacksHeights p m)
  heights_at m d None e f some = absurd cc
  heights_at m d (Some b) e f some =
      let i = id_there m d e in
      lacks_none p m d b (method_at p m d e) f
      (sound_at m d b i.value f (described m d i.value e i.at) (is.whole.bodies m i.value d i.at e) (is.bodies m i.value d i.at e))

  by_method : (m : ℕ) (o : Option MethodDesc) → slice_get p.methods m ≡ o → IsSome (unwrap_or o no_method).body → NoneBroken (LacksHeights p m)
  unfolding no_method
  by_method m None e some = absurd cc
  by_method m (Some d) e some = heights_at m d d.body e refl some

  pub have_heights : HaveHeights p
  have_heights m some = by_method m (slice_get p.methods m) refl some

  -- ---- bodies are short

  module _ (set : List (List ℕ)) (of_set : s ≡ assemblies_of set) (short : (a : ℕ) → length (bytes_at set a) < 2 ^ 31) where
    image_short : (a : ℕ) → length (assembly_at s a).bytes < 2 ^ 31
    image_short a = subst (λ (x : Assemblies). length (assembly_at x a).bytes < 2 ^ 31) (sym of_set) (subst (λ (l : List ℕ). length l < 2 ^ 31) (sym (bytes_in set a)) (short a))

    row_short : (a row : ℕ) (b : Body) → BodyAt (code_in s) s (id.Row a row) (Some b) → length b.instrs < 2 ^ 31
    row_short a row b h =
        let some = h.1 in
        let one : length b.instrs ≤ length some.0 = stands_few a some.0 b some.1 some.3 in
        let two : length some.0 ≤ length (assembly_at s a).bytes = tail_short (assembly_at s a).bytes _ some.0 some.2 in
        let three : length (assembly_at s a).bytes < 2 ^ 31 = image_short a in
        omega (arith, one, two, three)

    member_short : (i : MemberId) (o : Option Body) → BodyAt (code_in s) s i o → length (maybe no_body (λ b. b) o).instrs < 2 ^ 31
    unfolding no_body
    member_short (id.Row a row) None h = omega arith
    member_short (id.Row a row) (Some b) h = row_short a row b h
    member_short (id.Outside m) None h = omega arith
    member_short (id.Outside m) (Some b) h = absurd cc

    short_at : (m : ℕ) (o : Option MethodDesc) → slice_get p.methods m ≡ o → length (maybe no_body (λ b. b) (unwrap_or o no_method).body).instrs < 2 ^ 31
    unfolding no_method no_body
    short_at m None e = omega arith
    short_at m (Some d) e = let i = id_there m d e in member_short i.value d.body (is.whole.bodies m i.value d i.at e)

    pub are_short : AreShort p
    are_short m = short_at m (slice_get p.methods m) refl
