-- What two members of a type are compared by: name, kind and signature (ECMA-335, II.22.15, II.22.26).
use Rattle.std.specs.Prelude.{ℕ, ◌&&◌, bytes_eq, Bool, not, if◌then◌else◌, List, Option, option_map, option_and_then}
use Rattle.set_signatures.specs.Blobs.{field_sig, method_sig, is_field_blob}
use Rattle.set_types.specs.SignatureTypes.{Coded}
use Rattle.set_signatures.specs.Spelling.{Spelled, spelled, spelled_method}
use Rattle.set_signatures.specs.declared.shape.Shape.{Shape}

-- the numbers of the signature in a blob; none where it is in no grammar
abbrev pub signature_numbers : Coded → List (List ℕ) → List ℕ → Spelled
signature_numbers c args bytes = if is_field_blob bytes then option_and_then (spelled c args) (field_sig bytes) else option_and_then (spelled_method c args) (method_sig bytes)

-- the member of this name and blob, with arguments for the parameters of its type
abbrev pub shape_of : Coded → List (List ℕ) → List ℕ → List ℕ → Option Shape
shape_of c args name bytes = option_map (λ numbers. record { name = name; is_field = is_field_blob bytes; signature = numbers }) (signature_numbers c args bytes)

abbrev pub same_bool : Bool → Bool → Bool
same_bool a b = if a then b else not b

-- the same name, kind and signature
abbrev pub is_same : Shape → Shape → Bool
is_same x y = bytes_eq x.name y.name && (same_bool x.is_field y.is_field && bytes_eq x.signature y.signature)
