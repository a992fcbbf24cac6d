-- Bodies and plans of the input's methods stay, and the clauses of a plan are those of the input.
use Rattle.std.proofs.Common.{◌≡◌, ℕ, ◌+◌, ◌<◌, List, [], ◌∷◌, ◌++◌, length, Option, Some, None, refl, sym, ap, ◌∙◌, subst}
use Rattle.std.specs.Prelude.{Bool, true, false, ◌==◌, ◌||◌, if◌then◌else◌, map, filter, slice_get, option_map}
use Rattle.cil_base.specs.declared.token.Token.{Token}
use Rattle.cil_model.specs.declared.ty.Ty.{Ty, Opaque}
use Rattle.cil_model.specs.declared.body.Body.{Body}
use Rattle.cil_model.specs.declared.contract.Clause.{Clause}
use Rattle.cil_model.specs.declared.contract.Contracts.{Contracts}
use Rattle.cil_model.specs.declared.contract.Effective.{Effective}
use Rattle.cil_model.specs.declared.contract.Group.{Group}
use Rattle.cil_model.specs.declared.contract.Group.TheVariants as group
use Rattle.cil_model.specs.declared.contract.Old.{Old}
use Rattle.cil_model.specs.declared.contract.TyRef.{TyRef}
use Rattle.cil_model.specs.declared.program.Meaning.{Meaning}
use Rattle.cil_model.specs.declared.program.Program.{Program}
use Rattle.cil_semantics.specs.Words.{maybe}
use Rattle.cil_semantics.specs.Types.{all_under}
use Rattle.cil_semantics.specs.Lookups.{method_of}
use Rattle.cil_semantics.specs.Tokens.{Here, meaning_of, locals_in, local_tys, ref_type}
use Rattle.cil_semantics.specs.Contracted.{Piece, Plan, pieces_from, plan_of, plan_for, pieces, effective_of, is_visible, is_pre, is_ensures, is_throws, captures_from, captures_of, each_captured, locals_of, olds_of}
use Rattle.cil_semantics.specs.Frames.{types_of_refs, clause_tys, captured_tys}
use Rattle.cil_semantics.specs.Unwind.{no_body, body_of, count_locals, plan_at, piece_at}
use Rattle.machine_laws.specs.Answers.{Each}
use Rattle.machine_laws.proofs.AnswerLaws.{map_on, each_on, each_filter}
use Rattle.machine_laws.proofs.FindLaws.{each_map, each_append}
use Rattle.grown_runs.specs.Grown.{GrowsAround, KeepsClause, KeepsRef, KeepsBody, UnmeantIf}
use Rattle.grown_runs.specs.Looks.{LooksAlike}
use Rattle.grown_runs.proofs.AlikeLaws.{each_get}

module _ (p0 p : Program) where
  abbrev pub KeepsPiece : Piece → Type 0
  KeepsPiece x = KeepsClause p0 p x.clause

  abbrev pub KeepsPlan : Plan → Type 0
  KeepsPlan plan = Each KeepsPiece plan.clauses × Each KeepsPiece plan.invariants

  abbrev pub KeepsPlanIf : Option Plan → Type 0
  KeepsPlanIf None = Unit {0}
  KeepsPlanIf (Some plan) = KeepsPlan plan

  from_kept : (keeps : Clause → Bool) (n c : ℕ) (xs : List Clause) → Each (KeepsClause p0 p) xs → Each KeepsPiece (pieces_from keeps n c xs)
  from_kept keeps n c [] h = tt
  from_kept keeps n c (x ∷ xs) h = go (keeps x) (from_kept keeps (n + length x.locals) (c + length x.olds) xs h.1) (from_kept keeps n c xs h.1)
    where
      go : (b : Bool) → Each KeepsPiece (pieces_from keeps (n + length x.locals) (c + length x.olds) xs) → Each KeepsPiece (pieces_from keeps n c xs)
          → Each KeepsPiece (if b then record { clause = x; from = 0; first_local = n; first_captured = c; captures = None } ∷ pieces_from keeps (n + length x.locals) (c + length x.olds) xs else pieces_from keeps n c xs)
      go true more less = (h.0, more)
      go false more less = less

  captured_from : (x : Piece) (c : ℕ) (os : List Old) → KeepsPiece x → Each KeepsPiece (captures_from x c os)
  captured_from x c [] h = tt
  captured_from x c (o ∷ os) h = (h, captured_from x (c + 1) os h)

  captures_kept : (x : Piece) → KeepsPiece x → Each KeepsPiece (captures_of x)
  captures_kept x h = go (is_ensures x) (is_throws x)
    where
      go : (a b : Bool) → Each KeepsPiece (if a || b then captures_from x x.first_captured x.clause.olds else [])
      go true b = captured_from x x.first_captured x.clause.olds h
      go false true = captured_from x x.first_captured x.clause.olds h
      go false false = tt

  all_captured : (xs : List Piece) → Each KeepsPiece xs → Each KeepsPiece (each_captured xs)
  all_captured [] h = tt
  all_captured (x ∷ xs) h = each_append KeepsPiece (captures_of x) (each_captured xs) (captures_kept x h.0) (all_captured xs h.1)

  pub group_kept : (plan : Plan) (gr : Group) → KeepsPlan plan → Each KeepsPiece (pieces plan gr)
  group_kept plan group.Entry h = each_append KeepsPiece (filter is_pre plan.clauses) (each_captured plan.clauses) (each_filter KeepsPiece is_pre plan.clauses h.0) (all_captured plan.clauses h.0)
  group_kept plan group.Exit h = each_filter KeepsPiece is_ensures plan.clauses h.0
  group_kept plan group.Throw h = each_filter KeepsPiece is_throws plan.clauses h.0
  group_kept plan group.Invariant h = h.1
  group_kept plan group.Inline h = tt

  pub piece_kept : (plan : Plan) (gr : Group) (n : ℕ) (x : Piece) → KeepsPlan plan → piece_at (Some plan) gr n ≡ Some x → KeepsPiece x
  piece_kept plan gr n x h found = each_get KeepsPiece (pieces plan gr) n x (group_kept plan gr h) found

  locals_kept : (xs : List Piece) → Each KeepsPiece xs → Each (KeepsRef p0 p) (locals_of xs)
  locals_kept [] h = tt
  locals_kept (x ∷ xs) h = each_append (KeepsRef p0 p) x.clause.locals (locals_of xs) (h.0).locals (locals_kept xs h.1)

  olds_kept : (xs : List Piece) → Each KeepsPiece xs → Each (λ (o : Old). KeepsRef p0 p o.ty) (olds_of xs)
  olds_kept [] h = tt
  olds_kept (x ∷ xs) h = each_append (λ (o : Old). KeepsRef p0 p o.ty) x.clause.olds (olds_of xs) (h.0).olds (olds_kept xs h.1)

  module _ (e : ℕ) (l : LooksAlike p0 p e) where
    refs_same : (here : Here) (rs : List TyRef) → Each (KeepsRef p0 p) rs → types_of_refs p here rs ≡ types_of_refs p0 here rs
    refs_same here rs h =
        map_on (λ r. maybe Opaque (λ t. t) (ref_type p here r)) (λ r. maybe Opaque (λ t. t) (ref_type p0 here r)) rs
        (each_on (KeepsRef p0 p) (λ r. maybe Opaque (λ t. t) (ref_type p here r) ≡ maybe Opaque (λ t. t) (ref_type p0 here r)) rs (λ r q. ap (λ (o : Option Ty). maybe Opaque (λ t. t) o) (l.refs here r q)) h)

    pub clause_tys_same : (here : Here) (plan : Option Plan) → KeepsPlanIf plan → clause_tys p here plan ≡ clause_tys p0 here plan
    clause_tys_same here None h = refl
    clause_tys_same here (Some plan) h =
        refs_same here (locals_of plan.clauses ++ locals_of plan.invariants) (each_append (KeepsRef p0 p) (locals_of plan.clauses) (locals_of plan.invariants) (locals_kept plan.clauses h.0) (locals_kept plan.invariants h.1))

    pub captured_tys_same : (here : Here) (plan : Option Plan) → KeepsPlanIf plan → captured_tys p here plan ≡ captured_tys p0 here plan
    captured_tys_same here None h = refl
    captured_tys_same here (Some plan) h =
        refs_same here (map (λ (o : Old). o.ty) (olds_of plan.clauses)) (each_map (λ (o : Old). KeepsRef p0 p o.ty) (KeepsRef p0 p) (λ (o : Old). o.ty) (olds_of plan.clauses) (λ o q. q) (olds_kept plan.clauses h.0))

module _ (p0 p : Program) (k : Contracts) (e : ℕ) (h : GrowsAround p0 p k e) (l : LooksAlike p0 p e) where
  pub body_same : (m : ℕ) → m < length p0.methods → body_of p m ≡ body_of p0 m
  body_same m own = ap (λ (b : Option Body). maybe no_body (λ b. b) b) (h.code.same m own)

  meant_locals : (m : ℕ) (t : Token) → m < length p0.methods → UnmeantIf p0 p (method_of p0 m).assembly (Some t) → meaning_of p (method_of p m).assembly t ≡ meaning_of p0 (method_of p0 m).assembly t
  meant_locals m t own q = ap (λ a. meaning_of p a t) (h.tables.extends.methods m own).assembly ∙ l.meanings (method_of p0 m).assembly t q

  count_same : (m : ℕ) (t : Option Token) → m < length p0.methods → UnmeantIf p0 p (method_of p0 m).assembly t → count_locals p m t ≡ count_locals p0 m t
  count_same m None own q = refl
  count_same m (Some t) own q = ap (λ (o : Option Meaning). length (locals_in o)) (meant_locals m t own q)

  pub local_tys_same : (here : Here) (t : Option Token) → here.method < length p0.methods → UnmeantIf p0 p (method_of p0 here.method).assembly t → local_tys p here t ≡ local_tys p0 here t
  local_tys_same here None own q = refl
  local_tys_same here (Some t) own q = ap (λ (o : Option Meaning). all_under here.type_args here.method_args (locals_in o)) (meant_locals here.method t own q)

  effective_same : (m : ℕ) → m < length p0.methods → effective_of k p m ≡ effective_of k p0 m
  effective_same m own =
      ap (λ (b : Bool). if b then None else if (method_of p m).assembly == k.target then slice_get k.by_method m else None) (h.tables.extends.methods m own).outside
      ∙ ap (λ (a : ℕ). if (method_of p0 m).outside then None else if a == k.target then slice_get k.by_method m else None) (h.tables.extends.methods m own).assembly

  pub plan_same : (m : ℕ) → m < length p0.methods → plan_at k p m ≡ plan_at k p0 m
  unfolding plan_for
  plan_same m own =
      let n : ℕ = count_locals p0 m (body_of p0 m).locals in
      ap (λ (b : Body). plan_for k p m (count_locals p m b.locals)) (body_same m own)
      ∙ ap (plan_for k p m) (count_same m (body_of p0 m).locals own (h.code.bodies m own).locals)
      ∙ ap (λ (v : Bool). option_map (plan_of k.settings v n) (effective_of k p m)) (l.visible m own)
      ∙ ap (option_map (plan_of k.settings (is_visible p0 m) n)) (effective_same m own)

  plan_is : (m : ℕ) → option_map (plan_of k.settings (is_visible p0 m) (count_locals p0 m (body_of p0 m).locals)) (effective_of k p0 m) ≡ plan_at k p0 m
  unfolding plan_for
  plan_is m = refl

  of_input : (m : ℕ) (o : Option Effective) → effective_of k p0 m ≡ o → KeepsPlanIf p0 p (option_map (plan_of k.settings (is_visible p0 m) (count_locals p0 m (body_of p0 m).locals)) o)
  of_input m None q = tt
  of_input m (Some f) q = (from_kept p0 p _ _ _ f.clauses (h.code.clauses m f q), from_kept p0 p _ _ _ f.invariants (h.code.invariants m f q))

  -- the clauses of a plan are those of the input
  pub plan_kept : (m : ℕ) → m < length p0.methods → KeepsPlanIf p0 p (plan_at k p m)
  plan_kept m own = subst (KeepsPlanIf p0 p) (sym (plan_same m own)) (subst (KeepsPlanIf p0 p) (plan_is m) (of_input m (effective_of k p0 m) refl))
