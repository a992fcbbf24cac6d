-- What a run goes by, and what is made ready of it once (own).
use Rattle.std.specs.Prelude.{◌≡◌, ℕ, Bool, List, ◌++◌, filter, slice_get, Option, option_and_then}
use Rattle.cil_model.specs.declared.contract.Clause.{Clause}
use Rattle.cil_model.specs.declared.contract.Contracts.{Contracts}
use Rattle.cil_model.specs.declared.contract.Settings.{Settings}
use Rattle.cil_model.specs.declared.program.Program.{Program}
use Rattle.cil_semantics.specs.Contracted.{Piece, Plan, is_kept, is_pre, is_ensures, is_throws, each_captured}
use Rattle.cil_semantics.specs.Unwind.{plan_at}

-- a program with contracts
pub record Going : Type 0 where
  pub program : Program
  pub contracts : Contracts

-- which clauses a method keeps that is visible or not
abbrev pub keeps : Settings → Bool → Clause → Bool
keeps s visible x = is_kept s visible x.kind

-- the pieces of each group, by those of all clauses
pub record AreGroups (clauses entry exit throw : List Piece) : Type 0 where
  pub entering : entry ≡ filter is_pre clauses ++ each_captured clauses
  pub exiting : exit ≡ filter is_ensures clauses
  pub throwing : throw ≡ filter is_throws clauses

-- the plan of each method by its number, and none past the last
abbrev pub ArePlans : Program → Contracts → List (Option Plan) → Type 0
ArePlans p k plans = (m : ℕ) → option_and_then (λ x. x) (slice_get plans m) ≡ plan_at k p m
