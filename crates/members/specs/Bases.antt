-- A member in the nearest of a type and its bases (ECMA-335, II.22.25), that of a base with the arguments of the base (II.9.8).
use Rattle.std.specs.Prelude.{ℕ, zero, suc, List, [], ◌∷◌, Option, Some, None, slice_get, option_map}
use Rattle.cli_sigs.specs.declared.types.SigTy.{SigTy}
use Rattle.set_types.specs.CodedTypes.{coded_of}
use Rattle.set_types.specs.SignatureTypes.{Coded}
use Rattle.set_signatures.specs.Shapes.{is_same}
use Rattle.set_signatures.specs.Spelling.{spelled}
use Rattle.set_signatures.specs.declared.shape.Shape.{Shape}
use Rattle.members.specs.declared.assembly_members.AssemblyMembers.{AssemblyMembers}
use Rattle.members.specs.declared.set_type.SetType.{SetType}
use Rattle.members.specs.MemberRows.{declared}

-- ---- the arguments of a base, as numbers

abbrev pub in_front : Option (List ℕ) → Option (List (List ℕ)) → Option (List (List ℕ))
in_front None more = None
in_front (Some numbers) more = option_map (λ l. numbers ∷ l) more

-- with those of the type above for its parameters; none where one names no row
abbrev pub arguments : Coded → List (List ℕ) → List SigTy → Option (List (List ℕ))
arguments c args [] = Some []
arguments c args (t ∷ ts) = in_front (spelled c args t) (arguments c args ts)

abbrev pub arguments_in : List (List ℕ) → List SigTy → Option AssemblyMembers → Option (List (List ℕ))
arguments_in args ts None = None
arguments_in args ts (Some a) = arguments (coded_of a.coded) args ts

-- those of the base of a type
abbrev pub base_arguments : List AssemblyMembers → List (List ℕ) → SetType → Option (List (List ℕ))
base_arguments assemblies args t = arguments_in args t.args (slice_get assemblies t.assembly)

-- ---- the walk to the bases

abbrev pub declared_in : List (List ℕ) → Shape → ℕ → Option AssemblyMembers → Option ℕ
declared_in args x row None = None
declared_in args x row (Some a) = declared a.rows (coded_of a.coded) args (is_same x) x.is_field row

abbrev pub declares : List AssemblyMembers → List (List ℕ) → Shape → SetType → Option ℕ
declares assemblies args x t = declared_in args x t.row (slice_get assemblies t.assembly)

abbrev pub with_arguments : (List (List ℕ) → ℕ → Option (ℕ × ℕ)) → ℕ → Option (List (List ℕ)) → Option (ℕ × ℕ)
with_arguments go base None = None
with_arguments go base (Some args) = go args base

abbrev pub onwards : (List (List ℕ) → ℕ → Option (ℕ × ℕ)) → Option (List (List ℕ)) → Option ℕ → Option (ℕ × ℕ)
onwards go args None = None
onwards go args (Some base) = with_arguments go base args

abbrev pub here_or : ℕ → Option (ℕ × ℕ) → Option ℕ → Option (ℕ × ℕ)
here_or k rest (Some row) = Some (k, row)
here_or k rest None = rest

abbrev pub by_type : (List (List ℕ) → ℕ → Option (ℕ × ℕ)) → List AssemblyMembers → List (List ℕ) → Shape → ℕ → Option SetType → Option (ℕ × ℕ)
by_type go assemblies args x k None = None
by_type go assemblies args x k (Some t) = here_or k (onwards go (base_arguments assemblies args t) t.base) (declares assemblies args x t)

-- the number of the type, and the row: in the nearest of a type and its bases, at most so many
unfoldable pub in_bases : List AssemblyMembers → List SetType → Shape → ℕ → List (List ℕ) → ℕ → Option (ℕ × ℕ)
in_bases assemblies types x zero args k = None
in_bases assemblies types x (suc n) args k = by_type (in_bases assemblies types x n) assemblies args x k (slice_get types k)
