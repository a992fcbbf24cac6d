-- What bytes stand for a method body (ECMA-335, II.25.4 and III.1.7), and which rule breaks where none do.
use Rattle.std.specs.Prelude.{◌≡◌, ◌≢◌, ◌⊎◌, MatchOption, ℕ, ◌+◌, ◌==◌, if◌then◌else◌, List, [], ◌∷◌, ◌++◌, Option, Some, None, Err, is_none, position, get_or}
use Rattle.std.specs.Option.{option_map, option_and_then}
use Rattle.cil_base.specs.declared.rule.Rule.{Rule}
use Rattle.cil_base.specs.declared.rule.Rule.TheVariants.{I3, I5}
use Rattle.cil_base.specs.declared.refusal.Place.{Place}
use Rattle.cil_base.specs.declared.refusal.Refusal.{Refusal}
use Rattle.cil_base.specs.Refusals.{refusal}
use Rattle.cil_base.specs.Tokens.{token_of}
use Rattle.cil_model.specs.declared.body.Operand.{Operand}
use Rattle.cil_model.specs.declared.body.Operand.TheVariants.{Nothing, Int, Index, Target, Targets, Tok}
use Rattle.cil_model.specs.declared.body.Instr.{Instr}
use Rattle.cil_model.specs.declared.body.Region.{Region}
use Rattle.cil_model.specs.declared.body.RegionKind.{RegionKind}
use Rattle.cil_model.specs.declared.body.RegionKind.TheVariants.{Catch, Filter, Finally, Fault}
use Rattle.cil_model.specs.declared.body.Body.{Body}
use Rattle.cil_model.specs.declared.layout.RawClause.{RawClause}
use Rattle.cil_model.specs.BodyCode.{instr_at, Reader, Reads}
use Rattle.cil_model.specs.declared.layout.Layout.{Layout}
use Rattle.cil_model.specs.BodyLayout.{layout_of, code_of, locals_number}

-- ---- offsets and offsets

-- the place of the instruction at an offset
abbrev pub index_of : List ℕ → ℕ → Option ℕ
index_of offsets at = position (λ o. o == at) offsets

-- what f gives of each element, if it gives something of each
abbrev pub and_all : {Y : Type 0} → Option Y → Option (List Y) → Option (List Y)
and_all None ys = None
and_all (Some y) None = None
and_all (Some y) (Some ys) = Some (y ∷ ys)

abbrev pub map_all : {X Y : Type 0} → (X → Option Y) → List X → Option (List Y)
map_all f [] = Some []
map_all f (x ∷ xs) = and_all (f x) (map_all f xs)

-- an operand with offsets for its targets; none where one is no instruction's offset
abbrev pub operand_with_indexes : List ℕ → Operand → Option Operand
operand_with_indexes offsets Nothing = Some Nothing
operand_with_indexes offsets (Int z) = Some (Int z)
operand_with_indexes offsets (Index k) = Some (Index k)
operand_with_indexes offsets (Target at) = option_map Target (index_of offsets at)
operand_with_indexes offsets (Targets ats) = option_map Targets (map_all (index_of offsets) ats)
operand_with_indexes offsets (Tok a token) = Some (Tok a token)

abbrev pub with_indexes : List ℕ → Instr → Option Instr
with_indexes offsets i = option_map (λ o. record i { operand = o }) (operand_with_indexes offsets i.operand)

-- ---- regions

abbrev pub kind_of : List ℕ → RawClause → Option RegionKind
kind_of offsets c =
    if c.flags == 0 then Some (Catch (token_of c.last))
    else if c.flags == 1 then option_map Filter (index_of offsets c.last)
    else if c.flags == 2 then Some Finally
    else if c.flags == 4 then Some Fault
    else None

abbrev pub region_with : Option RegionKind → Option ℕ → Option ℕ → Option ℕ → Option ℕ → Option Region
region_with kind try_from try_to handler_from handler_to =
    option_and_then (λ k. option_and_then (λ a. option_and_then (λ b. option_and_then (λ c. option_map (λ d.
    record { kind = k; try_from = a; try_to = b; handler_from = c; handler_to = d }) handler_to) handler_from) try_to) try_from) kind

-- a clause by offsets: each part begins at an instruction, and ends at one or with the code
abbrev pub region_of : List ℕ → ℕ → RawClause → Option Region
region_of offsets size c =
    region_with (kind_of offsets c) (index_of offsets c.try_from) (index_of (offsets ++ size ∷ []) (c.try_from + c.try_size))
    (index_of offsets c.handler_from) (index_of (offsets ++ size ∷ []) (c.handler_from + c.handler_size))

-- ---- the body

-- The code and what is said of it stand for a body of the assembly a.
pub record IsBody (a : ℕ) (layout : Layout) (code : List ℕ) (body : Body) : Type 0 where
  pub raw : List Instr
  pub reads : Reads (instr_at a) 0 code raw body.offsets layout.header.code_size []
  pub instrs : map_all (with_indexes body.offsets) raw ≡ Some body.instrs
  pub regions : map_all (region_of body.offsets layout.header.code_size) layout.clauses ≡ Some body.regions
  pub locals : locals_number body.locals ≡ locals_number layout.header.locals
  pub max_stack : body.max_stack ≡ layout.header.max_stack
  pub init : body.init ≡ layout.header.init

-- The bytes begin with a body of the assembly a that takes so many of them.
pub record StandsFor (a : ℕ) (bytes : List ℕ) (body : Body) (len : ℕ) : Type 0 where
  pub layout : Layout
  pub is_laid : layout_of bytes ≡ Some layout
  pub stands : IsBody a layout (code_of bytes layout.header) body
  pub size : len ≡ layout.len

-- Bodies that say the same. A locals token of 0 says that there are none.
pub record IsSame (x y : Body) : Type 0 where
  pub offsets : x.offsets ≡ y.offsets
  pub instrs : x.instrs ≡ y.instrs
  pub regions : x.regions ≡ y.regions
  pub locals : locals_number x.locals ≡ locals_number y.locals
  pub max_stack : x.max_stack ≡ y.max_stack
  pub init : x.init ≡ y.init

-- ---- refusals

-- the code's first fault from the left: the instructions before it, and the rule that the next one breaks
pub record FaultIn (read : Reader) (place : Place) (code : List ℕ) (r : Refusal) : Type 0 where
  pub before : List Instr
  pub offsets : List ℕ
  pub at : ℕ
  pub rest : List ℕ
  pub rule : Rule
  pub reads : Reads read 0 code before offsets at rest
  pub more : rest ≢ []
  pub broken : read at rest ≡ Err rule
  pub is : r ≡ refusal rule place at

abbrev pub CodeFault : Place → List ℕ → Refusal → Type 0
CodeFault place code = FaultIn (instr_at place.assembly) place code

-- A region is named by the code's beginning, and so comes before each branch.
abbrev pub target_fault : Place → List ℕ → ℕ → List RawClause → List Instr → Option Refusal
target_fault place offsets size clauses raw =
    if is_none (map_all (region_of offsets size) clauses) then Some (refusal I3 place 0)
    else option_map (λ k. refusal I3 place (get_or offsets k 0)) (position (λ i. is_none (with_indexes offsets i)) raw)

-- a region or a branch that leads to no instruction, where all of the code is read
pub record TargetFault (place : Place) (layout : Layout) (code : List ℕ) (r : Refusal) : Type 0 where
  pub raw : List Instr
  pub offsets : List ℕ
  pub reads : Reads (instr_at place.assembly) 0 code raw offsets layout.header.code_size []
  pub first : target_fault place offsets layout.header.code_size layout.clauses raw ≡ Some r

-- why code stands for no body
abbrev pub IsFault : Place → Layout → List ℕ → Refusal → Type 0
IsFault place layout code r = CodeFault place code r ⊎ TargetFault place layout code r

-- why bytes begin with no body
abbrev pub BodyFault : Place → List ℕ → Refusal → Type 0
BodyFault place bytes r =
    MatchOption (layout_of bytes) (r ≡ refusal I5 place 0) (λ layout. IsFault place layout (code_of bytes layout.header) r)
