-- Signatures where coded types lead where they led.
use Rattle.std.proofs.Common.{◌≡◌, ◌∙◌, ap, refl, ℕ, zero, suc, List, [], ◌∷◌, ◌++◌, Bool, true, false}
use Rattle.std.specs.Prelude.{map, ◌==◌, is_none, Option, Some, None, option_and_then, if◌then◌else◌}
use Rattle.cil_model.specs.declared.ty.Ty.{Ty, out-Ty, Prim, Known, Outside, Array', ByRef', Var, MVar, Opaque, Inst'}
use Rattle.cil_model.specs.declared.ty.Ty.TheVariants as ty
use Rattle.cli_sigs.specs.declared.types.SigTy.{SigTy, out-SigTy}
use Rattle.cli_sigs.specs.declared.types.SigTy.TheOpen.{SigTy-F}
use Rattle.cli_sigs.specs.declared.types.MethodSig.{MethodSig, MethodSig-F, out-MethodSig}
use Rattle.cli_sigs.specs.Grammar.{named_byte, modifier_byte}
use Rattle.set_types.specs.CodedIndexes.{tag, row_of}
use Rattle.set_types.specs.SignatureTypes.{Coded, coded_ty, spec_ty, ty_or, layer_ty, ty_within, instance_of}
use Rattle.set_signatures.specs.Spelling.{Spelled, behind, followed, spelled_all, spelled_named, spelled_coded, spelled_layer, spelled_within, spelled, spelled_open, spelled_sizes, spelled_lows, mark}
use Rattle.member_table.specs.Environments.{or_else, in_spec, in_coded, layer_arguments, arguments_within}
use Rattle.set_growth.specs.Kept.{Stays}
use Rattle.program_growth.specs.Kept.{ExtendsCoded, KeepsSignatures}

-- a fact that holds where numbers are there
abbrev pub Read : Spelled → Type 0 → Type 0
Read o R = (l : List ℕ) → o ≡ Some l → R

fact_read : (o : Spelled) (R S : Type 0) → (R → S) → Read o R → Read o S
fact_read o R S f k l e = f (k l e)

behind_read : (front : List ℕ) (o : Spelled) (R : Type 0) → Read o R → Read (behind front o) R
behind_read front None R k l e = absurd cc
behind_read front (Some m) R k l e = k m refl

followed_read : (o u : Spelled) (R S : Type 0) → Read o R → Read u S → Read (followed o u) (R × S)
followed_read None u R S k j l e = absurd cc
followed_read (Some m) None R S k j l e = absurd cc
followed_read (Some m) (Some n) R S k j l e = (k m refl, j n refl)

-- a number that is there stays, and one byte needs none
named_same : (first other : ℕ) (n n' : Option ℕ) (t : Ty) (l : List ℕ) → Stays n n' → spelled_named first n (Some t) ≡ Some l → spelled_named other n' (Some t) ≡ spelled_named other n (Some t)
unfolding out-Ty denote.Hole.Carrier.out
named_same first other (Some k) n' t l h e = ap (λ (m : Option ℕ). spelled_named other m (Some t)) (h k refl)
named_same first other None n' t l h e = none t e
  where
    none : (t : Ty) → spelled_named first None (Some t) ≡ Some l → spelled_named other n' (Some t) ≡ spelled_named other None (Some t)
    none (Prim b) e = refl
    none (Known k) e = absurd cc
    none (Outside name value) e = absurd cc
    none (Array' p parts) e = absurd cc
    none (ByRef' p parts) e = absurd cc
    none (Var k) e = absurd cc
    none (MVar k) e = absurd cc
    none Opaque e = absurd cc
    none (Inst' k shape parts) e = absurd cc

module _ (sp sp' : List (List ℕ) → SigTy → Spelled) (ty_in ty_in' : SigTy → Ty) (args_in args_in' : SigTy → List SigTy) where
  pub record Same (t : SigTy) : Type 0 where
    pub numbers : (args : List (List ℕ)) → sp' args t ≡ sp args t
    pub ty : ty_in' t ≡ ty_in t
    pub arguments : args_in' t ≡ args_in t

  pub record AllSame (ts : List SigTy) : Type 0 where
    pub numbers : (args : List (List ℕ)) → spelled_all (sp' args) ts ≡ spelled_all (sp args) ts
    pub tys : map ty_in' ts ≡ map ty_in ts

  module _ (a0 : List (List ℕ)) (reads : (t : SigTy) → Read (sp a0 t) (Same t)) where
    pub all_read : (ts : List SigTy) → Read (spelled_all (sp a0) ts) (AllSame ts)
    all_read [] = λ l e. record { numbers = λ args. refl; tys = refl }
    all_read (t ∷ ts) = fact_read (followed (sp a0 t) (spelled_all (sp a0) ts)) (Same t × AllSame ts) (AllSame (t ∷ ts))
        (λ h. record {
          numbers = λ args. ap (λ (o : Spelled). followed o (spelled_all (sp' args) ts)) (h.0.numbers args) ∙ ap (followed (sp args t)) (h.1.numbers args);
          tys = ap (λ (u : Ty). u ∷ map ty_in' ts) h.0.ty ∙ ap (λ (us : List Ty). ty_in t ∷ us) h.1.tys;
        })
        (followed_read (sp a0 t) (spelled_all (sp a0) ts) (Same t) (AllSame ts) (reads t) (all_read ts))

    module _ (c c' : Coded) (more : ExtendsCoded c c') where
      record SameCoded (coded : ℕ) : Type 0 where
        pub numbers : (args : List (List ℕ)) (first : ℕ) → spelled_coded c' (sp' args) first coded ≡ spelled_coded c (sp args) first coded
        pub ty : coded_ty c' ty_in' coded ≡ coded_ty c ty_in coded
        pub arguments : in_coded c' args_in' coded ≡ in_coded c args_in coded

      coded_read : (first coded : ℕ) → Read (spelled_coded c (sp a0) first coded) (SameCoded coded)
      coded_read first coded l e =
          let h : ((args : List (List ℕ)) (other : ℕ) → number_by (tag coded == 2) c' (sp' args) other ≡ number_by (tag coded == 2) c (sp args) other) × ((ty_by (tag coded == 2) c' ty_in' ≡ ty_by (tag coded == 2) c ty_in) × (args_by (tag coded == 2) c' args_in' ≡ args_by (tag coded == 2) c args_in)) =
          parts (tag coded == 2) e in
          record { numbers = h.0; ty = h.1.0; arguments = h.1.1 }
        where
          by_spec : (o : Option SigTy) → Stays o (c'.spec (row_of coded)) → option_and_then (sp a0) o ≡ Some l
              → ((args : List (List ℕ)) → option_and_then (sp' args) (c'.spec (row_of coded)) ≡ option_and_then (sp args) o) × ((spec_ty ty_in' (c'.spec (row_of coded)) ≡ spec_ty ty_in o) × (in_spec args_in' (c'.spec (row_of coded)) ≡ in_spec args_in o))
          by_spec None h f = absurd cc
          by_spec (Some t) h f =
              let is : c'.spec (row_of coded) ≡ Some t = h t refl in
              let k : Same t = reads t l f in
              (λ args. ap (option_and_then (sp' args)) is ∙ k.numbers args, (ap (spec_ty ty_in') is ∙ k.ty, ap (in_spec args_in') is ∙ k.arguments))

          by_name : (o : Option Ty) → Stays o (c'.named coded) → spelled_named first (c.number coded) o ≡ Some l
              → ((other : ℕ) → spelled_named other (c'.number coded) (c'.named coded) ≡ spelled_named other (c.number coded) o) × (ty_or Opaque (c'.named coded) ≡ ty_or Opaque o)
          by_name None h f = absurd cc
          by_name (Some t) h f =
              let is : c'.named coded ≡ Some t = h t refl in
              (λ other. ap (spelled_named other (c'.number coded)) is ∙ named_same first other (c.number coded) (c'.number coded) t l (more.number coded) f, ap (ty_or Opaque) is)

          number_by : Bool → Coded → (SigTy → Spelled) → ℕ → Spelled
          number_by b d read other = if b then option_and_then read (d.spec (row_of coded)) else spelled_named other (d.number coded) (d.named coded)

          ty_by : Bool → Coded → (SigTy → Ty) → Ty
          ty_by b d read = if b then spec_ty read (d.spec (row_of coded)) else ty_or Opaque (d.named coded)

          args_by : Bool → Coded → (SigTy → List SigTy) → List SigTy
          args_by b d read = if b then in_spec read (d.spec (row_of coded)) else []

          parts : (b : Bool) → number_by b c (sp a0) first ≡ Some l
              → ((args : List (List ℕ)) (other : ℕ) → number_by b c' (sp' args) other ≡ number_by b c (sp args) other) × ((ty_by b c' ty_in' ≡ ty_by b c ty_in) × (args_by b c' args_in' ≡ args_by b c args_in))
          parts true f =
              let h : ((args : List (List ℕ)) → option_and_then (sp' args) (c'.spec (row_of coded)) ≡ option_and_then (sp args) (c.spec (row_of coded))) × ((spec_ty ty_in' (c'.spec (row_of coded)) ≡ spec_ty ty_in (c.spec (row_of coded))) × (in_spec args_in' (c'.spec (row_of coded)) ≡ in_spec args_in (c.spec (row_of coded)))) =
              by_spec (c.spec (row_of coded)) (more.spec (row_of coded)) f in
              (λ args other. h.0 args, h.1)
          parts false f =
              let h : ((other : ℕ) → spelled_named other (c'.number coded) (c'.named coded) ≡ spelled_named other (c.number coded) (c.named coded)) × (ty_or Opaque (c'.named coded) ≡ ty_or Opaque (c.named coded)) =
              by_name (c.named coded) (more.named coded) f in
              (λ args other. h.0 other, (h.1, refl))

      record SameLayer (y : SigTy-F SigTy MethodSig) : Type 0 where
        pub numbers : (args : List (List ℕ)) → spelled_layer c' args (sp' args) y ≡ spelled_layer c args (sp args) y
        pub ty : layer_ty c' ty_in' y ≡ layer_ty c ty_in y
        pub arguments : layer_arguments c' args_in' y ≡ layer_arguments c args_in y

      record SameOpen (m : MethodSig-F SigTy MethodSig) : Type 0 where
        pub numbers : (args : List (List ℕ)) → spelled_open (sp' args) m ≡ spelled_open (sp args) m
        pub result : ty_in' m.result ≡ ty_in m.result
        pub params : map ty_in' m.params ≡ map ty_in m.params

      open_read : (m : MethodSig-F SigTy MethodSig) → Read (spelled_open (sp a0) m) (SameOpen m)
      open_read m =
          let front : List ℕ = m.flags ∷ m.generics ∷ mark m.sentinel in
          behind_read front (followed (sp a0 m.result) (spelled_all (sp a0) m.params)) (SameOpen m)
          (fact_read (followed (sp a0 m.result) (spelled_all (sp a0) m.params)) (Same m.result × AllSame m.params) (SameOpen m)
          (λ h. record {
            numbers = λ args. ap (λ (o : Spelled). behind front (followed o (spelled_all (sp' args) m.params))) (h.0.numbers args) ∙ ap (λ (o : Spelled). behind front (followed (sp args m.result) o)) (h.1.numbers args);
            result = h.0.ty;
            params = h.1.tys;
          })
          (followed_read (sp a0 m.result) (spelled_all (sp a0) m.params) (Same m.result) (AllSame m.params) (reads m.result) (all_read m.params)))

      layer_read : (y : SigTy-F SigTy MethodSig) → Read (spelled_layer c a0 (sp a0) y) (SameLayer y)
      layer_read (SigTy-F.Prim b) = λ l e. record { numbers = λ args. refl; ty = refl; arguments = refl }
      layer_read (SigTy-F.Ptr t) = fact_read (behind (0x0F ∷ []) (sp a0 t)) (Same t) (SameLayer (SigTy-F.Ptr t))
          (λ h. record { numbers = λ args. ap (behind (0x0F ∷ [])) (h.numbers args); ty = refl; arguments = refl })
          (behind_read (0x0F ∷ []) (sp a0 t) (Same t) (reads t))
      layer_read (SigTy-F.ByRef t) = fact_read (behind (0x10 ∷ []) (sp a0 t)) (Same t) (SameLayer (SigTy-F.ByRef t))
          (λ h. record { numbers = λ args. ap (behind (0x10 ∷ [])) (h.numbers args); ty = ap ty.ByRef h.ty; arguments = refl })
          (behind_read (0x10 ∷ []) (sp a0 t) (Same t) (reads t))
      layer_read (SigTy-F.Named value coded) = fact_read (spelled_coded c (sp a0) (named_byte value) coded) (SameCoded coded) (SameLayer (SigTy-F.Named value coded))
          (λ h. record { numbers = λ args. h.numbers args (named_byte value); ty = h.ty; arguments = h.arguments })
          (coded_read (named_byte value) coded)
      layer_read (SigTy-F.Var n) = λ l e. record { numbers = λ args. refl; ty = refl; arguments = refl }
      layer_read (SigTy-F.MVar n) = λ l e. record { numbers = λ args. refl; ty = refl; arguments = refl }
      layer_read (SigTy-F.Array t rank sizes lows) =
          let front : List ℕ = 0x14 ∷ rank ∷ spelled_sizes sizes ++ spelled_lows lows in
          fact_read (behind front (sp a0 t)) (Same t) (SameLayer (SigTy-F.Array t rank sizes lows))
          (λ h. record { numbers = λ args. ap (behind front) (h.numbers args); ty = refl; arguments = refl })
          (behind_read front (sp a0 t) (Same t) (reads t))
      layer_read (SigTy-F.Inst value coded ts) =
          let first : Spelled = spelled_coded c (sp a0) (named_byte value) coded in
          fact_read (behind (0x15 ∷ []) (followed first (spelled_all (sp a0) ts))) (SameCoded coded × AllSame ts) (SameLayer (SigTy-F.Inst value coded ts))
          (λ h. record {
            numbers = λ args. ap (λ (o : Spelled). behind (0x15 ∷ []) (followed o (spelled_all (sp' args) ts))) (h.0.numbers args (named_byte value)) ∙ ap (λ (o : Spelled). behind (0x15 ∷ []) (followed (spelled_coded c (sp args) (named_byte value) coded) o)) (h.1.numbers args);
            ty = ap (λ (us : List Ty). instance_of us (coded_ty c' ty_in' coded) (out-Ty (coded_ty c' ty_in' coded))) h.1.tys ∙ ap (λ (t : Ty). instance_of (map ty_in ts) t (out-Ty t)) h.0.ty;
            arguments = ap (λ (us : List SigTy). or_else us ts) h.0.arguments;
          })
          (behind_read (0x15 ∷ []) (followed first (spelled_all (sp a0) ts)) (SameCoded coded × AllSame ts)
          (followed_read first (spelled_all (sp a0) ts) (SameCoded coded) (AllSame ts) (coded_read (named_byte value) coded) (all_read ts)))
      layer_read (SigTy-F.Func m) = fact_read (behind (0x1B ∷ []) (spelled_open (sp a0) (out-MethodSig m))) (SameOpen (out-MethodSig m)) (SameLayer (SigTy-F.Func m))
          (λ h. record { numbers = λ args. ap (behind (0x1B ∷ [])) (h.numbers args); ty = refl; arguments = refl })
          (behind_read (0x1B ∷ []) (spelled_open (sp a0) (out-MethodSig m)) (SameOpen (out-MethodSig m)) (open_read (out-MethodSig m)))
      layer_read (SigTy-F.SzArray t) = fact_read (behind (0x1D ∷ []) (sp a0 t)) (Same t) (SameLayer (SigTy-F.SzArray t))
          (λ h. record { numbers = λ args. ap (behind (0x1D ∷ [])) (h.numbers args); ty = ap ty.Array h.ty; arguments = refl })
          (behind_read (0x1D ∷ []) (sp a0 t) (Same t) (reads t))
      layer_read (SigTy-F.Modified required coded t) =
          let front : List ℕ = modifier_byte required ∷ [] in
          let first : Spelled = spelled_coded c (sp a0) 0x12 coded in
          fact_read (behind front (followed first (sp a0 t))) (SameCoded coded × Same t) (SameLayer (SigTy-F.Modified required coded t))
          (λ h. record {
            numbers = λ args. ap (λ (o : Spelled). behind front (followed o (sp' args t))) (h.0.numbers args 0x12) ∙ ap (λ (o : Spelled). behind front (followed (spelled_coded c (sp args) 0x12 coded) o)) (h.1.numbers args);
            ty = h.1.ty;
            arguments = h.1.arguments;
          })
          (behind_read front (followed first (sp a0 t)) (SameCoded coded × Same t)
          (followed_read first (sp a0 t) (SameCoded coded) (Same t) (coded_read 0x12 coded) (reads t)))
      layer_read (SigTy-F.Pinned t) = fact_read (behind (0x45 ∷ []) (sp a0 t)) (Same t) (SameLayer (SigTy-F.Pinned t))
          (λ h. record { numbers = λ args. ap (behind (0x45 ∷ [])) (h.numbers args); ty = h.ty; arguments = h.arguments })
          (behind_read (0x45 ∷ []) (sp a0 t) (Same t) (reads t))

module _ (c c' : Coded) (more : ExtendsCoded c c') where
  abbrev SameTo : ℕ → SigTy → Type 0
  SameTo depth = Same (λ args. spelled_within c args depth) (λ args. spelled_within c' args depth) (ty_within c depth) (ty_within c' depth) (arguments_within c depth) (arguments_within c' depth)

  within_read : (a0 : List (List ℕ)) (depth : ℕ) (t : SigTy) → Read (spelled_within c a0 depth t) (SameTo depth t)
  unfolding spelled_within ty_within arguments_within
  within_read a0 zero t = λ l e. absurd cc
  within_read a0 (suc n) t = λ l e.
      let h : SameLayer (λ args. spelled_within c args n) (λ args. spelled_within c' args n) (ty_within c n) (ty_within c' n) (arguments_within c n) (arguments_within c' n) a0 (within_read a0 n) c c' more (out-SigTy t) = layer_read (λ args. spelled_within c args n) (λ args. spelled_within c' args n) (ty_within c n) (ty_within c' n) (arguments_within c n) (arguments_within c' n) a0 (within_read a0 n) c c' more (out-SigTy t) l e in
      record { numbers = h.numbers; ty = h.ty; arguments = h.arguments }

  there : (o : Spelled) → is_none o ≡ false → (l : List ℕ) × (o ≡ Some l)
  there None h = absurd cc
  there (Some l) h = (l, refl)

  pub keeps_signatures : KeepsSignatures c c'
  keeps_signatures t h =
      let l : (l : List ℕ) × (spelled c [] t ≡ Some l) = there (spelled c [] t) h in
      let k : SameTo 1000 t = within_read [] 1000 t l.0 l.1 in
      record { numbers = k.numbers; ty = k.ty; arguments = k.arguments }

  -- with any arguments for parameters
  pub spelled_stays : (args : List (List ℕ)) (t : SigTy) → Stays (spelled c args t) (spelled c' args t)
  spelled_stays args t l e = (within_read args 1000 t l e).numbers args ∙ e
