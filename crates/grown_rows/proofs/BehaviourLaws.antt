-- So the written program does what the program does with its precondition.
use Rattle.std.proofs.Common.{◌≡◌, refl, arith, ℕ, zero, suc, ◌<◌, ◌≤◌, List, [], ◌∷◌, length}
use Rattle.std.specs.Prelude.{IsTrue, IsFalse}
use Rattle.cil_semantics.specs.Core.{Name}
use Rattle.cil_semantics.specs.Lookups.{type_of, field_of, method_of}
use Rattle.machine_laws.specs.Same.{KeepsIdentities, NamesAdded, Same, SameType, SameMember, IsHelper, IsFailureClass}
use Rattle.machine_rows.specs.Everything.{everything}
use Rattle.same_behaviour.specs.Behaviour.{OfInput}
use Rattle.same_behaviour.proofs.WholeLaws.{same_whole}
use Rattle.splice_rows.specs.OneRequires.{contracts, input, output, numbers, written_methods}
use Rattle.splice_rows.proofs.WholeLaws.{whole, whole_types, whole_methods}
use Rattle.grown_rows.specs.Original.{original}
use Rattle.grown_rows.proofs.OriginalLaws.{grows}

same_type : (k : ℕ) → k < 2 → SameType (type_of original k) (type_of output k)
unfolding everything
same_type zero l = record { assembly = refl; row = refl; name = refl; outside = refl }
same_type (suc zero) l = record { assembly = refl; row = refl; name = refl; outside = refl }
same_type (suc (suc k)) l = absurd (omega (arith, l))

same_member : (k : ℕ) → k < 2 → SameMember (method_of original k) (method_of output k)
unfolding everything
same_member zero l = record { assembly = refl; row = refl; owner = refl; name = refl; params = refl; result = refl; is_static = refl; outside = refl }
same_member (suc zero) l = record { assembly = refl; row = refl; owner = refl; name = refl; params = refl; result = refl; is_static = refl; outside = refl }
same_member (suc (suc k)) l = absurd (omega (arith, l))

identities : KeepsIdentities original output
unfolding everything
identities = record { types = same_type; fields = λ k l. absurd (omega (arith, l)); methods = same_member; signatures = by_numbers }
  where
    by_numbers : (j k : ℕ) → j < 2 → k < 2 → Rattle.std.specs.Prelude.nat_eq (method_of output j).sig (method_of output k).sig ≡ Rattle.std.specs.Prelude.nat_eq (method_of original j).sig (method_of original k).sig
    by_numbers zero zero l m = refl
    by_numbers zero (suc zero) l m = refl
    by_numbers (suc zero) zero l m = refl
    by_numbers (suc zero) (suc zero) l m = refl
    by_numbers zero (suc (suc k)) l m = absurd (omega (arith, m))
    by_numbers (suc zero) (suc (suc k)) l m = absurd (omega (arith, m))
    by_numbers (suc (suc j)) k l m = absurd (omega (arith, l))

added : NamesAdded original output contracts.target numbers
unfolding everything
added =
    record {
      unused = let l : 2 ≤ 3 = omega arith in l;
      exception = λ l. record { name = refl; assembly = refl; inside = refl; base = refl };
      constructor = λ name l. absurd (let m : 10 < 9 = l in omega (arith, m));
      event = λ l. record { outside = refl; static = refl; owner = refl; name = refl; params = refl; result = refl };
      trigger = λ l. absurd (let m : 9 < 9 = l in omega (arith, m));
    }

of_input : OfInput original input contracts written_methods numbers whole
unfolding everything
of_input = record { types = whole_types; methods = whole_methods; identities = identities; added = added; grows = grows }

pub same : Same original contracts output
same = same_whole original input contracts written_methods numbers whole of_input
