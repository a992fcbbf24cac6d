-- No type of the program of a set is above itself: ranks by how far steps lead from a type's row.
use Rattle.std.proofs.Common.{◌≡◌, ◌∙◌, sym, ap, refl, subst, arith, rules, ℕ, zero, suc, ◌+◌, ◌<◌, ◌≤◌, List, [], ◌∷◌, ◌++◌, length, Bool, true, false}
use Rattle.std.specs.Prelude.{Option, Some, None, unwrap_or, is_some, slice_get, map, filter_map, flat_map, option_map, option_and_then, option_to_list, Contains, get_or, ◌==◌, ◌||◌, codes}
use Rattle.std.specs.List.{cons_option}
use Rattle.cil_model.specs.declared.ty.Ty.{Ty, out-Ty, Prim, Known, Outside, Array', ByRef', Var, MVar, Opaque, Inst'}
use Rattle.cil_model.specs.declared.ty.Ty.TheOpen.{Ty-F}
use Rattle.cil_model.specs.declared.ty.Ty as types
use Rattle.cil_model.specs.declared.program.Program.{Program}
use Rattle.cil_model.specs.declared.program.TypeDesc.{TypeDesc}
use Rattle.cil_semantics.specs.Types.{under, all_under}
use Rattle.cil_semantics.specs.Words.{maybe}
use Rattle.cil_semantics.specs.Core.{object_ty, class_named}
use Rattle.cil_semantics.specs.Lookups.{type_of, in_set, base_from, base_of, interfaces_from, interfaces_of, contract_exception, most_bases}
use Rattle.machine_laws.specs.Answers.{Each}
use Rattle.machine_laws.specs.Growth.{Ranked}
use Rattle.set_rows.specs.Sets.{Assembly, Assemblies}
use Rattle.set_program.specs.declared.identity.TypeId.{TypeId}
use Rattle.set_program.specs.declared.identity.TypeId.TheVariants as id
use Rattle.set_program.specs.Numbering.{Cell}
use Rattle.set_program.specs.Environment.{types_of, number_of, number_or, ty_at}
use Rattle.set_program.specs.TypeRules.{defined_at, row_of_number, leads_to, own_number, above}
use Rattle.type_graphs.proofs.StepLaws.{is_among}
use Rattle.descriptions.specs.Descriptions.{type_desc, type_row, outside_type}
use Rattle.descriptions.specs.Programs.{program_of}
use Rattle.growth_premises.specs.Rules.{KeepsRules}
use Rattle.growth_rules.proofs.NestingLaws.{row_at}
use Rattle.growth_rules.proofs.AboveLaws as rows
use Rattle.growth_rules.proofs.HeightLaws as heights
use Rattle.growth_rules.proofs.OutsideRankLaws.{IsLow, layer_rank, built_in_low, layer_few, contract_low, object_low}

pub same_number : (k : ℕ) → (k == k) ≡ true
same_number k = search rules

pub left_among : (xs ys : List ℕ) (j : ℕ) → is_among xs j ≡ true → is_among (xs ++ ys) j ≡ true
left_among [] ys j e = absurd cc
left_among (x ∷ xs) ys j e = go (x == j) e (λ h. left_among xs ys j h)
  where
    go : (b : Bool) → (b || is_among xs j) ≡ true → (is_among xs j ≡ true → is_among (xs ++ ys) j ≡ true) → (b || is_among (xs ++ ys) j) ≡ true
    go true f later = refl
    go false f later = later f

pub right_among : (xs ys : List ℕ) (j : ℕ) → is_among ys j ≡ true → is_among (xs ++ ys) j ≡ true
right_among [] ys j e = e
right_among (x ∷ xs) ys j e = go (x == j) (right_among xs ys j e)
  where
    go : (b : Bool) → is_among (xs ++ ys) j ≡ true → (b || is_among (xs ++ ys) j) ≡ true
    go true h = refl
    go false h = h

mapped : {A B : Type 0} (f : A → B) (xs : List A) (k : ℕ) → slice_get (map f xs) k ≡ option_map f (slice_get xs k)
mapped f [] k = refl
mapped f (x ∷ xs) zero = refl
mapped f (x ∷ xs) (suc k) = mapped f xs k

pub mapped_length : {A B : Type 0} (f : A → B) (xs : List A) → length (map f xs) ≡ length xs
mapped_length f [] = refl
mapped_length f (x ∷ xs) = ap (λ (n : ℕ). suc n) (mapped_length f xs)

each_has : (P : Ty → Type 0) (xs : List Ty) (x : Ty) → Each P xs → Contains xs x → P x
each_has P xs x all c = go xs c.0 all c.1 c.2
  where
    go : (l : List Ty) (k : ℕ) → Each P l → k < length l → get_or l k x ≡ x → P x
    go [] k all h e = absurd (omega (arith, h))
    go (y ∷ l) zero all h e = subst P e all.0
    go (y ∷ l) (suc k) all h e = go l k all.1 (omega (arith, h)) e

module _ (x : Assembly) (xs : Assemblies) (kept : KeepsRules (x ∷ xs)) where
  abbrev s : Assemblies
  s = x ∷ xs

  abbrev p : Program
  p = program_of s

  abbrev n : ℕ
  n = length (types_of s)

  -- the number of a number's row
  abbrev row_number : Option Cell → ℕ → ℕ
  row_number None k = k
  row_number (Some c) k = number_or k (number_of s (id.Row c.0 c.1))

  abbrev own : ℕ → ℕ
  own k = row_number (row_of_number s k) k

  abbrev pub height : ℕ → ℕ
  height k = heights.height (above s) n (own k)

  own_is : (a r k : ℕ) → number_of s (id.Row a r) ≡ Some k → own k ≡ k
  own_is a r k e =
      ap (λ (o : Option Cell). row_number o k) (row_at s a r k e)
      ∙ ap (number_or k) e

  abbrev placed : Option (ℕ × List Ty) → ℕ → ℕ
  placed None r = r
  placed (Some d) r = 7 + height d.0

  abbrev place : Ty → ℕ
  place t = placed (in_set (out-Ty t)) (layer_rank (out-Ty t))

  -- a type that stands low outside the set
  low_place : (t : Ty) (rank : ℕ) → IsLow t rank → place t < rank
  low_place t rank low = subst (λ (o : Option (ℕ × List Ty)). placed o (layer_rank (out-Ty t)) < rank) (sym low.apart) low.low

  -- ---- what a base or an interface leads to stands below

  module _ (h k : ℕ) (same : height k ≡ h) where
    abbrev Falls : List ℕ → Type 0
    Falls l = (j : ℕ) → is_among l j ≡ true → height j < h

    no_itself : Falls (k ∷ []) → ⊥
    no_itself f = let wrong : height k < h = f k (ap (λ (b : Bool). b || false) (same_number k)) in absurd (omega (arith, wrong, same))

    one_falls : (j : ℕ) → Falls (j ∷ []) → height j < h
    one_falls j f = f j (ap (λ (b : Bool). b || false) (same_number j))

    under_falls : (args : List Ty) (t : Ty) → Falls (leads_to (k ∷ []) (Some t)) → place (under args [] t) < 7 + h
    unfolding types.out-Ty denote.Hole.Carrier.out denote.Hole.Carrier.hidden denote.Hole.Carrier.shown
    under_falls args (Prim b) f = let few : layer_rank (Ty-F.Prim b) ≤ 6 = layer_few (Ty-F.Prim b) in omega (arith, few)
    under_falls args (Known j) f = let l : height j < h = one_falls j f in omega (arith, l)
    under_falls args (Outside name value) f = let few : layer_rank (Ty-F.Outside name value) ≤ 6 = layer_few (Ty-F.Outside name value) in omega (arith, few)
    under_falls args (Array' y parts) f = omega arith
    under_falls args (ByRef' y parts) f = omega arith
    under_falls args (Var j) f = absurd (no_itself f)
    under_falls args (MVar j) f = absurd (no_itself f)
    under_falls args Opaque f = omega arith
    under_falls args (Inst' j shape parts) f = let l : height j < h = one_falls j f in omega (arith, l)

    base_falls : (args : List Ty) (o : Option Ty) → Falls (leads_to (k ∷ []) o) → place (maybe object_ty (under args []) o) < 7 + h
    base_falls args None f = low_place object_ty (7 + h) (object_low (7 + h) (omega arith))
    base_falls args (Some t) f = under_falls args t f

    interfaces_fall : (args : List Ty) (g : ℕ → Option Ty) (is : List ℕ) → Falls (flat_map (λ i. leads_to (k ∷ []) (g i)) is) → Each (λ u. place u < 7 + h) (all_under args [] (filter_map g is))
    interfaces_fall args g [] f = tt
    interfaces_fall args g (i ∷ is) f =
        go (g i)
        (λ j e. f j (left_among (leads_to (k ∷ []) (g i)) (flat_map (λ i. leads_to (k ∷ []) (g i)) is) j e))
        (interfaces_fall args g is (λ j e. f j (right_among (leads_to (k ∷ []) (g i)) (flat_map (λ i. leads_to (k ∷ []) (g i)) is) j e)))
      where
        go : (o : Option Ty) → Falls (leads_to (k ∷ []) o) → Each (λ u. place u < 7 + h) (all_under args [] (filter_map g is)) → Each (λ u. place u < 7 + h) (all_under args [] (cons_option o (filter_map g is)))
        go None first rest = rest
        go (Some t) first rest = (under_falls args t first, rest)

  -- ---- a type of the list by its row

  pub desc_at : (k : ℕ) (o : Option TypeId) → slice_get (types_of s) k ≡ o → type_of p k ≡ unwrap_or (option_map (type_desc s) o) contract_exception
  unfolding program_of
  desc_at k o e = ap (λ (d : Option TypeDesc). unwrap_or d contract_exception) (mapped (type_desc s) (types_of s) k ∙ ap (option_map (type_desc s)) e)

  pub types_count : length p.types ≡ n
  unfolding program_of
  types_count = mapped_length (type_desc s) (types_of s)

  -- a row's number, and what it leads to
  pub record HasRow (k a r : ℕ) : Type 0 where
    pub itself : ℕ
    pub number : number_of s (id.Row a r) ≡ Some itself
    pub falls : (j : ℕ) → is_among (rows.row_above x xs a r) j ≡ true → height j < height k
    pub same : height itself ≡ height k

  pub has_row : (k a r : ℕ) → slice_get (types_of s) k ≡ Some (id.Row a r) → HasRow k a r
  has_row k a r e = go (number_of s (id.Row a r)) refl (rows.row_has_number x xs k a r e)
    where
      here : row_of_number s k ≡ Some (a, r)
      here = ap (option_and_then defined_at) e

      go : (o : Option ℕ) → number_of s (id.Row a r) ≡ o → is_some o ≡ true → HasRow k a r
      go None f g = absurd cc
      go (Some i) f g =
          let mine : own k ≡ i = ap (λ (o : Option Cell). row_number o k) here ∙ ap (number_or k) f in
          let its : own i ≡ i = own_is a r i f in
          record {
            itself = i;
            number = f;
            falls = λ j m. falls_from i f mine j m;
            same = ap (heights.height (above s) n) (its ∙ sym mine);
          }
        where
          falls_from : (i : ℕ) → number_of s (id.Row a r) ≡ Some i → own k ≡ i → (j : ℕ) → is_among (rows.row_above x xs a r) j ≡ true → height j < height k
          falls_from i f mine j m =
              let lead : is_among (above s i) j ≡ true = ap (λ (l : List ℕ). is_among l j) (rows.above_row x xs i a r (row_at s a r i f)) ∙ left_among (rows.row_above x xs a r) [] j m in
              let its : rows.IsOwn x xs j = rows.above_own x xs i j lead in
              let low : i < n = rows.own_low x xs i (record { assembly = a; row = r; number = f }) in
              let less : heights.height (above s) n j < heights.height (above s) n i = heights.height_falls (above s) n i j low (rows.above_shallow x xs kept i low) lead in
              let left : height j ≡ heights.height (above s) n j = ap (heights.height (above s) n) (own_is its.assembly its.row j its.number) in
              let right : height k ≡ heights.height (above s) n i = ap (heights.height (above s) n) mine in
              omega (arith, less, left, right)

  pub itself_is : (a r i : ℕ) → number_of s (id.Row a r) ≡ Some i → own_number s a r ≡ i ∷ []
  itself_is a r i f = ap option_to_list f

  -- ---- ranks

  module _ (k : ℕ) (args : List Ty) where
    row_base : (a r : ℕ) → slice_get (types_of s) k ≡ Some (id.Row a r) → place (maybe object_ty (under args []) (type_row s a r).base) < 7 + height k
    unfolding type_row
    row_base a r e =
        let row : HasRow k a r = has_row k a r e in
        base_falls (height k) row.itself row.same args (ty_at s a (rows.base_index x xs a r))
        (λ j m. row.falls j (left_among (leads_to (own_number s a r) (ty_at s a (rows.base_index x xs a r))) (rows.interfaces_lead x xs a r (rows.interface_rows x xs a r)) j
        (ap (λ (l : List ℕ). is_among (leads_to l (ty_at s a (rows.base_index x xs a r))) j) (itself_is a r row.itself row.number) ∙ m)))

    row_interfaces : (a r : ℕ) → slice_get (types_of s) k ≡ Some (id.Row a r) → Each (λ u. place u < 7 + height k) (all_under args [] (type_row s a r).interfaces)
    unfolding type_row
    row_interfaces a r e =
        let row : HasRow k a r = has_row k a r e in
        interfaces_fall (height k) row.itself row.same args (λ i. ty_at s a (rows.interface_index x xs a i)) (rows.interface_rows x xs a r)
        (λ j m. row.falls j (right_among (leads_to (own_number s a r) (ty_at s a (rows.base_index x xs a r))) (rows.interfaces_lead x xs a r (rows.interface_rows x xs a r)) j
        (ap (λ (l : List ℕ). is_among (flat_map (λ i. leads_to l (ty_at s a (rows.interface_index x xs a i))) (rows.interface_rows x xs a r)) j) (itself_is a r row.itself row.number) ∙ m)))

    id_base : (o : Option TypeId) → slice_get (types_of s) k ≡ o → place (maybe object_ty (under args []) (unwrap_or (option_map (type_desc s) o) contract_exception).base) < 7 + height k
    unfolding outside_type contract_exception
    id_base None e = let l : place (class_named (codes "System.Exception")) < 7 = low_place (class_named (codes "System.Exception")) 7 contract_low in omega (arith, l)
    id_base (Some (id.Outside name)) e = low_place object_ty (7 + height k) (object_low (7 + height k) (omega arith))
    id_base (Some (id.Row a r)) e = row_base a r e

    id_interfaces : (o : Option TypeId) → slice_get (types_of s) k ≡ o → Each (λ u. place u < 7 + height k) (all_under args [] (unwrap_or (option_map (type_desc s) o) contract_exception).interfaces)
    unfolding outside_type contract_exception
    id_interfaces None e = tt
    id_interfaces (Some (id.Outside name)) e = tt
    id_interfaces (Some (id.Row a r)) e = row_interfaces a r e

    own_base : place (maybe object_ty (under args []) (type_of p k).base) < 7 + height k
    own_base = subst (λ (d : TypeDesc). place (maybe object_ty (under args []) d.base) < 7 + height k) (sym (desc_at k (slice_get (types_of s) k) refl)) (id_base (slice_get (types_of s) k) refl)

    own_interfaces : Each (λ u. place u < 7 + height k) (all_under args [] (type_of p k).interfaces)
    own_interfaces = subst (λ (d : TypeDesc). Each (λ u. place u < 7 + height k) (all_under args [] d.interfaces)) (sym (desc_at k (slice_get (types_of s) k) refl)) (id_interfaces (slice_get (types_of s) k) refl)

  within : (t : Ty) → place t < most_bases p
  within t = go (in_set (out-Ty t)) (layer_few (out-Ty t))
    where
      go : (o : Option (ℕ × List Ty)) → layer_rank (out-Ty t) ≤ 6 → placed o (layer_rank (out-Ty t)) < most_bases p
      go None few = omega (arith, few)
      go (Some d) few = let high : height d.0 ≤ n = heights.height_few (above s) n (own d.0) in omega (arith, high, types_count)

  same_some : (a b : Ty) → Some a ≡ Some b → a ≡ b
  same_some a b e = ap (λ (o : Option Ty). unwrap_or o a) e

  base : (t u : Ty) → base_of p t ≡ Some u → place u < place t
  unfolding base_of
  base t u e = go (in_set (out-Ty t)) refl e
    where
      go : (o : Option (ℕ × List Ty)) → in_set (out-Ty t) ≡ o → base_from p o (out-Ty t) ≡ Some u → place u < placed o (layer_rank (out-Ty t))
      go None f g = low_place u (layer_rank (out-Ty t)) (built_in_low (out-Ty t) u g)
      go (Some d) f g = subst (λ (v : Ty). place v < 7 + height d.0) (same_some (maybe object_ty (under d.1 []) (type_of p d.0).base) u g) (own_base d.0 d.1)

  no_element : (u : Ty) → Contains [] u → ⊥
  no_element u c = absurd (omega (arith, c.1))

  interfaces : (t u : Ty) → Contains (interfaces_of p t) u → place u < place t
  unfolding interfaces_of
  interfaces t u c = go (in_set (out-Ty t)) c
    where
      go : (o : Option (ℕ × List Ty)) → Contains (interfaces_from p o) u → place u < placed o (layer_rank (out-Ty t))
      go None d = absurd (no_element u d)
      go (Some d) g = each_has (λ (v : Ty). place v < 7 + height d.0) (all_under d.1 [] (type_of p d.0).interfaces) u (own_interfaces d.0 d.1) g

  pub ranked : Ranked p
  ranked = record { rank = place; within = within; base = base; interfaces = interfaces }
