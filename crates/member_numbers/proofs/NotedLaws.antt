-- Outside members, each with the first row that names it.
use Rattle.std.proofs.Common.{◌≡◌, ◌∙◌, sym, ap, subst, refl, rules, arith, ℕ, zero, suc, ◌+◌, ◌-◌, ◌<◌, List, [], ◌∷◌, ◌++◌, map, length, length-append, append_assoc, Bool, true, false}
use Rattle.std.specs.Prelude.{cond, ◌&&◌, bytes_eq, is_some, flat_map, find, Option, Some, None, Result, Ok, Err, IfOk, if◌then◌else◌}
use Rattle.std.specs.List.{range_with_len, position_from}
use Rattle.std.specs.Option.{option_or}
use Rattle.std.proofs.lemmas.List.{map-append, append-nil}
use Rattle.std.proofs.lemmas.Grind.{flat_map-append}
use Rattle.set_rows.specs.Sets.{Assemblies}
use Rattle.set_signatures.specs.Shapes.{is_same, same_bool}
use Rattle.set_program.specs.Numbering.{Cell, walk}
use Rattle.set_program.proofs.PlaceLaws.{AllFail}
use Rattle.set_program.proofs.NumberLaws.{range_split}
use Rattle.members.specs.OutsideMembers.{same_member, member_place}
use Rattle.members.specs.declared.outside_member.OutsideMember.{OutsideMember}
use Rattle.members.specs.declared.assembly_members.AssemblyMembers.{AssemblyMembers}
use Rattle.members.specs.declared.set_type.SetType.{SetType}
use Rattle.member_table.specs.declared.named.Named.{Named}
use Rattle.member_table.specs.declared.named.Named.TheVariants as named
use Rattle.member_table.specs.Environments.{Environment, environment, environment_in, AreOf}
use Rattle.member_table.specs.Members.{member_in}
use Rattle.member_table.specs.Numbers.{outside_of, outside_in, added_if, all_noted, names_member, references_in, reference_rows, outside_members, outside_row}
use Rattle.member_table.proofs.EnvironmentLaws.{environment_same, many}
use Rattle.member_numbers.specs.declared.noting.Noted.{Noted}
use Rattle.member_numbers.specs.Noted.{first_row, AreNoted, row_if}

-- ---- equal members

same_bytes : (a b : List ℕ) → bytes_eq a b ≡ true → a ≡ b
same_bytes a b e = search (rules, e)

bytes_same : (a : List ℕ) → bytes_eq a a ≡ true
bytes_same a = search rules

first_true : (a b : Bool) → (a && b) ≡ true → a ≡ true
first_true true b e = refl
first_true false b e = e

second_true : (a b : Bool) → (a && b) ≡ true → b ≡ true
second_true true b e = e
second_true false b e = absurd cc

both_true : (a b : Bool) → a ≡ true → b ≡ true → (a && b) ≡ true
both_true a b e f = ap (λ (c : Bool). c && b) e ∙ f

kinds_same : (a b : Bool) → same_bool a b ≡ true → a ≡ b
kinds_same true b e = sym e
kinds_same false true e = absurd cc
kinds_same false false e = refl

kind_same : (a : Bool) → same_bool a a ≡ true
kind_same true = refl
kind_same false = refl

equal : (m n : OutsideMember) → same_member m n ≡ true → m ≡ n
equal m n e =
    let owner : m.owner ≡ n.owner = same_bytes m.owner n.owner (first_true (bytes_eq m.owner n.owner) (is_same m.shape n.shape) e) in
    let shape : is_same m.shape n.shape ≡ true = second_true (bytes_eq m.owner n.owner) (is_same m.shape n.shape) e in
    let name : m.shape.name ≡ n.shape.name =
    same_bytes m.shape.name n.shape.name (first_true (bytes_eq m.shape.name n.shape.name) (same_bool m.shape.is_field n.shape.is_field && bytes_eq m.shape.signature n.shape.signature) shape) in
    let rest : (same_bool m.shape.is_field n.shape.is_field && bytes_eq m.shape.signature n.shape.signature) ≡ true =
    second_true (bytes_eq m.shape.name n.shape.name) (same_bool m.shape.is_field n.shape.is_field && bytes_eq m.shape.signature n.shape.signature) shape in
    let kind : m.shape.is_field ≡ n.shape.is_field = kinds_same m.shape.is_field n.shape.is_field (first_true (same_bool m.shape.is_field n.shape.is_field) (bytes_eq m.shape.signature n.shape.signature) rest) in
    let signature : m.shape.signature ≡ n.shape.signature = same_bytes m.shape.signature n.shape.signature (second_true (same_bool m.shape.is_field n.shape.is_field) (bytes_eq m.shape.signature n.shape.signature) rest) in
    λ i. record { owner = owner i; shape = record { name = name i; is_field = kind i; signature = signature i } }

itself : (m : OutsideMember) → same_member m m ≡ true
itself m =
    both_true (bytes_eq m.owner m.owner) (is_same m.shape m.shape) (bytes_same m.owner)
    (both_true (bytes_eq m.shape.name m.shape.name) (same_bool m.shape.is_field m.shape.is_field && bytes_eq m.shape.signature m.shape.signature) (bytes_same m.shape.name)
    (both_true (same_bool m.shape.is_field m.shape.is_field) (bytes_eq m.shape.signature m.shape.signature) (kind_same m.shape.is_field) (bytes_same m.shape.signature)))

-- ---- tests that fail

none_fails : {A : Type 0} (test : A → Bool) (i : ℕ) (xs : List A) → position_from test i xs ≡ None → AllFail test xs
none_fails test i [] e = tt
none_fails {A} test i (x ∷ xs) e = go (test x) refl e (λ h. none_fails test (i + 1) xs h)
  where
    go : (b : Bool) → test x ≡ b → cond b (Some i) (position_from test (i + 1) xs) ≡ None → (position_from test (i + 1) xs ≡ None → AllFail test xs) → (test x ≡ false) × AllFail test xs
    go true f h again = absurd cc
    go false f h again = (f, again h)

fails_front : {A : Type 0} (test : A → Bool) (xs ys : List A) → AllFail test (xs ++ ys) → AllFail test xs
fails_front test [] ys h = tt
fails_front test (x ∷ xs) ys h = (h.0, fails_front test xs ys h.1)

fails_last : {A : Type 0} (test : A → Bool) (xs : List A) (y : A) → AllFail test (xs ++ y ∷ []) → test y ≡ false
fails_last test [] y h = h.0
fails_last test (x ∷ xs) y h = fails_last test xs y h.1

none_of : (o : Option ℕ) → is_some o ≡ false → o ≡ None
none_of None e = refl
none_of (Some k) e = absurd cc

-- ---- rows in order

all_append : (at : Cell → Option OutsideMember) (found : List OutsideMember) (xs ys : List Cell) → all_noted at found (xs ++ ys) ≡ all_noted at (all_noted at found xs) ys
all_append at found [] ys = refl
all_append at found (c ∷ xs) ys = all_append at (added_if found (at c)) xs ys

find_more : (test : Cell → Bool) (xs : List Cell) (c : Cell) → find test (xs ++ c ∷ []) ≡ option_or (find test xs) (if test c then Some c else None)
find_more test [] c = refl
find_more test (x ∷ xs) c = go (test x) (find_more test xs c)
  where
    go : (b : Bool) → find test (xs ++ c ∷ []) ≡ option_or (find test xs) (if test c then Some c else None)
        → cond b (Some x) (find test (xs ++ c ∷ [])) ≡ option_or (cond b (Some x) (find test xs)) (if test c then Some c else None)
    go true h = refl
    go false h = h

module _ (at : Cell → Option OutsideMember) where
  fails_added : (test : OutsideMember → Bool) (found : List OutsideMember) (o : Option OutsideMember) → AllFail test (added_if found o) → AllFail test found
  fails_added test found None h = h
  fails_added test found (Some n) h = go (is_some (member_place found n)) h
    where
      go : (b : Bool) → AllFail test (if b then found else found ++ n ∷ []) → AllFail test found
      go true h = h
      go false h = fails_front test found (n ∷ []) h

  fails_before : (test : OutsideMember → Bool) (found : List OutsideMember) (cells : List Cell) → AllFail test (all_noted at found cells) → AllFail test found
  fails_before test found [] h = h
  fails_before test found (c ∷ cells) h = fails_added test found (at c) (fails_before test (added_if found (at c)) cells h)

  -- a member that fails all that is noted isn't what was noted last
  unlike : (m : OutsideMember) (found : List OutsideMember) (o : Option OutsideMember) → AllFail (same_member m) (added_if found o) → names_member m o ≡ false
  unlike m found None h = refl
  unlike m found (Some n) h = known (is_some (member_place found n)) refl h
    where
      none : (found : List OutsideMember) → AllFail (same_member m) found → (i : ℕ) → position_from (same_member m) i found ≡ None
      none [] g i = refl
      none (x ∷ found) g i = ap (λ (b : Bool). cond b (Some i) (position_from (same_member m) (i + 1) found)) g.0 ∙ none found g.1 (i + 1)

      by_test : (b : Bool) → same_member m n ≡ b → is_some (member_place found n) ≡ true → AllFail (same_member m) found → same_member m n ≡ false
      by_test false e p g = e
      by_test true e p g =
          let wrong : false ≡ true = sym (ap is_some (none found g 0)) ∙ ap (λ (k : OutsideMember). is_some (member_place found k)) (equal m n e) ∙ p in
          absurd cc

      known : (b : Bool) → is_some (member_place found n) ≡ b → AllFail (same_member m) (if b then found else found ++ n ∷ []) → same_member m n ≡ false
      known true e g = by_test (same_member m n) refl e g
      known false e g = fails_last (same_member m) found n g

  not_named : (m : OutsideMember) (found : List OutsideMember) (cells : List Cell) → AllFail (same_member m) (all_noted at found cells) → first_row at cells m ≡ None
  not_named m found [] h = refl
  not_named m found (c ∷ cells) h =
      ap (λ (b : Bool). cond b (Some c) (first_row at cells m)) (unlike m found (at c) (fails_before (same_member m) (added_if found (at c)) cells h))
      ∙ not_named m (added_if found (at c)) cells h

  still : (cells : List Cell) (c : Cell) (rows : List Cell) (outside : List OutsideMember) → map Some rows ≡ map (first_row at cells) outside → map Some rows ≡ map (first_row at (cells ++ c ∷ [])) outside
  still cells c [] [] h = refl
  still cells c [] (m ∷ outside) h = absurd cc
  still cells c (r ∷ rows) [] h = absurd cc
  still cells c (r ∷ rows) (m ∷ outside) h =
      let here : Some r ≡ first_row at cells m = cc in
      let later : map Some rows ≡ map (first_row at cells) outside = cc in
      ap (λ (l : List (Option Cell)). Some r ∷ l) (still cells c rows outside later)
      ∙ ap (λ (o : Option Cell). o ∷ map (first_row at (cells ++ c ∷ [])) outside)
      (ap (λ (o : Option Cell). option_or o (if names_member m (at c) then Some c else None)) here ∙ sym (find_more (λ d. names_member m (at d)) cells c))

  -- with one more row
  pub noted_more : (cells : List Cell) (c : Cell) (outside : List OutsideMember) (rows : List Cell) → AreNoted at cells outside rows → AreNoted at (cells ++ c ∷ []) (added_if outside (at c)) (row_if outside (at c) rows c)
  noted_more cells c outside rows h = record {
    outside_are = ap (λ (l : List OutsideMember). added_if l (at c)) h.outside_are ∙ sym (all_append at [] cells (c ∷ []));
    rows_are = by_name (at c) refl;
  }
    where
      by_place : (m : OutsideMember) (b : Bool) → at c ≡ Some m → is_some (member_place outside m) ≡ b
          → map Some (if b then rows else rows ++ c ∷ []) ≡ map (first_row at (cells ++ c ∷ [])) (if b then outside else outside ++ m ∷ [])
      by_place m true e p = still cells c rows outside h.rows_are
      by_place m false e p =
          let nowhere : member_place outside m ≡ None = none_of (member_place outside m) p in
          let fails : AllFail (same_member m) (all_noted at [] cells) = none_fails (same_member m) 0 (all_noted at [] cells) (sym (ap (λ (l : List OutsideMember). member_place l m) h.outside_are) ∙ nowhere) in
          let first : first_row at (cells ++ c ∷ []) m ≡ Some c =
          find_more (λ d. names_member m (at d)) cells c
          ∙ ap (λ (o : Option Cell). option_or o (if names_member m (at c) then Some c else None)) (not_named m [] cells fails)
          ∙ ap (λ (o : Option OutsideMember). if names_member m o then Some c else None) e
          ∙ ap (λ (t : Bool). if t then Some c else None) (itself m) in
          map-append Some rows (c ∷ [])
          ∙ ap (λ (l : List (Option Cell)). l ++ Some c ∷ []) (still cells c rows outside h.rows_are)
          ∙ ap (λ (o : Option Cell). map (first_row at (cells ++ c ∷ [])) outside ++ o ∷ []) (sym first)
          ∙ sym (map-append (first_row at (cells ++ c ∷ [])) outside (m ∷ []))

      by_name : (o : Option OutsideMember) → at c ≡ o → map Some (row_if outside o rows c) ≡ map (first_row at (cells ++ c ∷ [])) (added_if outside o)
      by_name None e = still cells c rows outside h.rows_are
      by_name (Some m) e = by_place m (is_some (member_place outside m)) e refl

  pub none_noted : AreNoted at [] [] []
  none_noted = record { outside_are = refl; rows_are = refl }

  -- ---- rows of an assembly, and of assemblies

  abbrev cell_of : ℕ → ℕ → Cell
  cell_of a row = (a, row)

  row_next : (a k : ℕ) → map (cell_of a) (range_with_len 1 (k + 1)) ≡ map (cell_of a) (range_with_len 1 k) ++ cell_of a (k + 1) ∷ []
  row_next a k =
      let next : 1 + k ≡ k + 1 = omega arith in
      ap (map (cell_of a)) (range_split 1 k 1)
      ∙ map-append (cell_of a) (range_with_len 1 k) (range_with_len (1 + k) 1)
      ∙ ap (λ (row : ℕ). map (cell_of a) (range_with_len 1 k) ++ cell_of a row ∷ []) next

  pub row_noted : (a k : ℕ) (cells : List Cell) (outside : List OutsideMember) (rows : List Cell) → AreNoted at ((cells ++ map (λ (row : ℕ). (a, row)) (range_with_len 1 k)) ++ (a, k + 1) ∷ []) outside rows
      → AreNoted at (cells ++ map (λ (row : ℕ). (a, row)) (range_with_len 1 (k + 1))) outside rows
  row_noted a k cells outside rows h =
      subst (λ l. AreNoted at l outside rows) (append_assoc cells (map (cell_of a) (range_with_len 1 k)) (cell_of a (k + 1) ∷ []) ∙ ap (λ (l : List Cell). cells ++ l) (sym (row_next a k))) h

  -- what is added to what is noted
  pub named_noted : {E : Type 0} (cells : List Cell) (c : Cell) (outside : List OutsideMember) (rows : List Cell) (o : Option OutsideMember) (r : Result Noted E) → AreNoted at cells outside rows → o ≡ at c
      → IfOk r (λ n. n.outside ≡ added_if outside o) → IfOk r (λ n. n.rows.items ≡ row_if outside o rows c) → IfOk r (λ n. AreNoted at (cells ++ c ∷ []) n.outside n.rows.items)
  named_noted cells c outside rows o (Err e) h is f g = f
  named_noted cells c outside rows o (Ok n) h is f g =
      let more : AreNoted at (cells ++ c ∷ []) (added_if outside (at c)) (row_if outside (at c) rows c) = noted_more cells c outside rows h in
      subst (λ l. AreNoted at (cells ++ c ∷ []) l n.rows.items) (sym (f ∙ ap (added_if outside) is))
      (subst (λ l. AreNoted at (cells ++ c ∷ []) (added_if outside (at c)) l) (sym (g ∙ ap (λ (p : Option OutsideMember). row_if outside p rows c) is)) more)

  module _ (f : ℕ → List Cell) where
    pub assembly_noted : (k : ℕ) (outside : List OutsideMember) (rows : List Cell) → AreNoted at (flat_map f (range_with_len 1 k) ++ f (k + 1)) outside rows → AreNoted at (flat_map f (range_with_len 1 (k + 1))) outside rows
    assembly_noted k outside rows h =
        let next : k + 1 ≡ 1 + k = omega arith in
        subst (λ l. AreNoted at l outside rows)
        (ap (λ (a : ℕ). flat_map f (range_with_len 1 k) ++ f a) next
        ∙ ap (λ (l : List Cell). flat_map f (range_with_len 1 k) ++ l) (sym (append-nil (f (1 + k))))
        ∙ sym (flat_map-append f (range_with_len 1 k) (range_with_len (1 + k) 1))
        ∙ ap (flat_map f) (sym (range_split 1 k 1))) h

    walk_is : (n : ℕ) → (n ≡ 0 → ⊥) → walk (range_with_len 0 n) ≡ range_with_len 1 (n - 1) ++ 0 ∷ []
    walk_is zero h = absurd (h refl)
    walk_is (suc n) h = let e : suc n - 1 ≡ n = omega arith in ap (λ (m : ℕ). range_with_len 1 m ++ 0 ∷ []) (sym e)

    -- the first assembly last
    pub walk_noted : (n : ℕ) (outside : List OutsideMember) (rows : List Cell) → (n ≡ 0 → ⊥) → AreNoted at (flat_map f (range_with_len 1 (n - 1)) ++ f 0) outside rows → AreNoted at (flat_map f (walk (range_with_len 0 n))) outside rows
    walk_noted n outside rows some h =
        subst (λ l. AreNoted at l outside rows)
        (ap (λ (l : List Cell). flat_map f (range_with_len 1 (n - 1)) ++ l) (sym (append-nil (f 0)))
        ∙ sym (flat_map-append f (range_with_len 1 (n - 1)) (0 ∷ []))
        ∙ ap (flat_map f) (sym (walk_is n some))) h

    pub all_walked : {E : Type 0} (n : ℕ) (r : Result Noted E) → (n ≡ 0 → ⊥) → IfOk r (λ k. AreNoted at (flat_map f (range_with_len 1 (n - 1)) ++ f 0) k.outside k.rows.items) → IfOk r (λ k. AreNoted at (flat_map f (walk (range_with_len 0 n))) k.outside k.rows.items)
    all_walked n (Err e) some h = h
    all_walked n (Ok k) some h = walk_noted n k.outside k.rows.items some h

-- ---- of one kind

abbrev pub AreKind : Bool → List OutsideMember → Type 0
AreKind k [] = Unit {0}
AreKind k (m ∷ ms) = (m.shape.is_field ≡ k) × AreKind k ms

kind_last : (k : Bool) (ms : List OutsideMember) (m : OutsideMember) → AreKind k ms → m.shape.is_field ≡ k → AreKind k (ms ++ m ∷ [])
kind_last k [] m h e = (e, tt)
kind_last k (n ∷ ms) m h e = (h.0, kind_last k ms m h.1 e)

kind_of : (k : Bool) (n : Named) (m : OutsideMember) → outside_of k n ≡ Some m → m.shape.is_field ≡ k
kind_of k (named.InSet f) m e = absurd cc
kind_of k named.Missing m e = absurd cc
kind_of k (named.Outside n) m e = by_test (same_bool k n.shape.is_field) refl e
  where
    by_test : (b : Bool) → same_bool k n.shape.is_field ≡ b → (if b then Some n else None) ≡ Some m → m.shape.is_field ≡ k
    by_test true f g =
        let same : n ≡ m = cc in
        sym (ap (λ (o : OutsideMember). o.shape.is_field) same) ∙ sym (kinds_same k n.shape.is_field f)
    by_test false f g = absurd cc

module _ (e : Environment) (k : Bool) where
  kind_added : (found : List OutsideMember) (o : Option OutsideMember) → AreKind k found → ((m : OutsideMember) → o ≡ Some m → m.shape.is_field ≡ k) → AreKind k (added_if found o)
  kind_added found None h is = h
  kind_added found (Some m) h is = go (is_some (member_place found m))
    where
      go : (b : Bool) → AreKind k (if b then found else found ++ m ∷ [])
      go true = h
      go false = kind_last k found m h (is m refl)

  all_kind : (found : List OutsideMember) (cells : List Cell) → AreKind k found → AreKind k (all_noted (outside_in e k) found cells)
  all_kind found [] h = h
  all_kind found (c ∷ cells) h = all_kind (added_if found (outside_in e k c)) cells (kind_added found (outside_in e k c) h (kind_of k (member_in e c.0 c.1)))

  rows_by_kind : (cells : List Cell) (ms : List OutsideMember) → AreKind k ms → map (first_row (outside_in e k) cells) ms ≡ map (λ m. first_row (outside_in e m.shape.is_field) cells m) ms
  rows_by_kind cells [] h = refl
  rows_by_kind cells (m ∷ ms) h =
      ap (λ (b : Bool). first_row (outside_in e b) cells m ∷ map (first_row (outside_in e k) cells) ms) (sym h.0)
      ∙ ap (λ (l : List (Option Cell)). first_row (outside_in e m.shape.is_field) cells m ∷ l) (rows_by_kind cells ms h.1)

-- ---- of a set

-- the rows that are walked, in an environment of so many assemblies
abbrev pub walked : Environment → ℕ → List Cell
walked e n = flat_map (references_in e) (walk (range_with_len 0 n))

module _ (s : Assemblies) (assemblies : List AssemblyMembers) (types : List SetType) (is_field : Bool) (h : AreOf s assemblies types) (outside : List OutsideMember) (rows : List Cell)
    (noted : AreNoted (outside_in (environment_in assemblies types) is_field) (walked (environment_in assemblies types) (length assemblies)) outside rows) where
  in_set : AreNoted (outside_in (environment s) is_field) (reference_rows s) outside rows
  unfolding reference_rows
  in_set =
      subst (λ n. AreNoted (outside_in (environment s) is_field) (walked (environment s) n) outside rows) (many s assemblies types h)
      (subst (λ e. AreNoted (outside_in e is_field) (walked e (length assemblies)) outside rows) (environment_same s assemblies types h) noted)

  pub outside_noted : outside ≡ outside_members s is_field
  unfolding outside_members
  outside_noted = in_set.outside_are

  pub rows_noted : map Some rows ≡ map (outside_row s) (outside_members s is_field)
  unfolding outside_row outside_members
  rows_noted =
      in_set.rows_are
      ∙ ap (map (first_row (outside_in (environment s) is_field) (reference_rows s))) in_set.outside_are
      ∙ rows_by_kind (environment s) is_field (reference_rows s) (all_noted (outside_in (environment s) is_field) [] (reference_rows s)) (all_kind (environment s) is_field [] (reference_rows s) tt)

module _ (s : Assemblies) (assemblies l : List AssemblyMembers) (types ts : List SetType) (is_field : Bool) (same : l ≡ assemblies) (also : ts ≡ types) (h : AreOf s assemblies types) where
  of_both : AreOf s l ts
  of_both = subst (λ m. AreOf s m ts) (sym same) (subst (λ m. AreOf s assemblies m) (sym also) h)

  pub outside_of_set : {E : Type 0} (r : Result Noted E) → IfOk r (λ n. AreNoted (outside_in (environment_in l ts) is_field) (walked (environment_in l ts) (length l)) n.outside n.rows.items) → IfOk r (λ n. n.outside ≡ outside_members s is_field)
  outside_of_set (Err e) f = f
  outside_of_set (Ok n) f = outside_noted s l ts is_field of_both n.outside n.rows.items f

  pub rows_of_set : {E : Type 0} (r : Result Noted E) → IfOk r (λ n. AreNoted (outside_in (environment_in l ts) is_field) (walked (environment_in l ts) (length l)) n.outside n.rows.items) → IfOk r (λ n. map Some n.rows.items ≡ map (outside_row s) (outside_members s is_field))
  rows_of_set (Err e) f = f
  rows_of_set (Ok n) f = rows_noted s l ts is_field of_both n.outside n.rows.items f

-- ---- rows beside members

module _ (m : OutsideMember) (ms : List OutsideMember) (rows : List Cell) (c : Cell) (n k : ℕ) (few : n ≡ length ms) where
  pub row_pushed : (b : Bool) → k ≡ length (if b then ms else ms ++ m ∷ []) → n < k → rows ++ c ∷ [] ≡ (if b then rows else rows ++ c ∷ [])
  row_pushed true e h = absurd (omega (arith, few, e, h))
  row_pushed false e h = refl

  pub row_kept : (b : Bool) → k ≡ length (if b then ms else ms ++ m ∷ []) → (n < k → ⊥) → rows ≡ (if b then rows else rows ++ c ∷ [])
  row_kept true e h = refl
  row_kept false e h = absurd (omega (arith, few, e ∙ length-append ms (m ∷ []), h))
