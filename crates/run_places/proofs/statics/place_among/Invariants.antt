use Rattle.std.proofs.Common.{◌≡◌, ◌+◌, ◌≤◌, ℕ, drop}
use Rattle.std.specs.Prelude.{filter, map, option_map}
use Rattle.cil_model.specs.declared.ty.Ty.{Ty}
use Rattle.run_places.specs.Fields.{is_static_field}
use Rattle.cil_semantics.specs.Places.{place_of}
use Rattle.run_places.proofs.statics.place_among.Given as goal

abbrev pub invariant-loop-f : goal.invariant-loop-f
invariant-loop-f l =
    (l.count ≤ l.f-index)
    × ((typed : ℕ → Ty) →
    option_map (λ i. l.count + i) (place_of l.field (map (λ f. (f, typed f)) (filter (is_static_field l.program) (drop l.f-index l.fields))))
    ≡ place_of l.field (map (λ f. (f, typed f)) (filter (is_static_field l.program) l.fields)))
