-- The search gives a height to just those places that a path leads to.
use Rattle.std.proofs.Common.{◌≡◌, ◌≢◌, ◌⊎◌, inl, inr, ◌<◌, ℕ, zero, suc, Bool, true, false, List, [], ◌∷◌, length, get_or, Option, Some, None, Result, Ok, Err, refl, sym, ap, ◌∙◌, arith, subst}
use Rattle.std.specs.Prelude.{map, replicate, slice_get, slice_set, MatchOption, option_and_then}
use Rattle.std.proofs.lemmas.Bool.{cases_eq}
use Rattle.std.proofs.lemmas.Option.{slice_get_within}
use Rattle.std.proofs.lemmas.List.{length-set, length-replicate, length-map}
use Rattle.cil_model.specs.declared.body.Body.{Body}
use Rattle.cil_model.specs.declared.body.Instr.{Instr}
use Rattle.il_flow.specs.declared.effect.Effect.{Effect}
use Rattle.il_flow.specs.declared.answer.Heights.{Heights}
use Rattle.il_flow.specs.declared.mark.Mark.{Mark}
use Rattle.il_flow.specs.declared.mark.Mark.TheVariants.{Unseen, Waits, Passed}
use Rattle.il_flow.specs.Effects.{height_after}
use Rattle.il_flow.specs.Successors.{successors}
use Rattle.il_flow.specs.Heights.{Agrees, Finds, ends, stops, goes, IsTold, Leads, comes_in, goes_to, SearchFinds, begun, beginnings, begin_fault, has_height, height_at, height_in, height_told, passed_by}
use Rattle.il_flow.proofs.QueueLaws.{get_set_other}
use Rattle.il_flow.proofs.NoMapLaws.{In, contains}
use Rattle.il_flow.proofs.MapLaws.{begin_origin, begin_size, blank_height, each_origin, each_size, found_map}

neither : (o : Option ℕ) (h : ℕ) → o ≡ None → o ≡ Some h → ⊥
neither o h e f = cc

-- a place with a height has a mark
within : (ms : List Mark) (q h : ℕ) → height_at ms q ≡ Some h → q < length ms
within ms q h e = go (slice_get ms q) refl
  where
    go : (o : Option Mark) → slice_get ms q ≡ o → q < length ms
    go None s = absurd (neither (height_at ms q) h (ap (λ (x : Option Mark). option_and_then height_in x) s) e)
    go (Some m) s = slice_get_within ms q m s

record Led (b : Body) (ms : List Mark) : Type 0 where
  size : length ms ≡ length b.instrs
  each : (q h : ℕ) → height_at ms q ≡ Some h → Leads b q

begun_led : (b : Body) → Led b (begun b)
begun_led b = record { size = size; each = λ q h e. from q h e (begin_origin (replicate (length b.instrs) Unseen) (beginnings b) q h e) }
  where
    size : length (begun b) ≡ length b.instrs
    size = begin_size (replicate (length b.instrs) Unseen) (beginnings b) ∙ length-replicate (length b.instrs) Unseen

    from : (q h : ℕ) → height_at (begun b) q ≡ Some h → (height_at (replicate (length b.instrs) Unseen) q ≡ Some h) ⊎ ((e : ℕ × ℕ) × In e (beginnings b) × (e.0 ≡ q) × (e.1 ≡ h)) → Leads b q
    from q h e (inl k) = absurd (blank_height (length b.instrs) q h k)
    from q h e (inr k) = subst (Leads b) k.2 (comes_in k.0.0 k.0.1 (contains k.0 (beginnings b) k.1) (omega (arith, within (begun b) q h e, size, k.2)))

passed_led : (b : Body) (e : Effect) (ms : List Mark) (k h : ℕ) (i : Instr) → Led b ms → slice_get ms k ≡ Some (Waits h) → slice_get b.instrs k ≡ Some i → Led b (passed_by e ms k h i)
passed_led b e ms k h i old there at =
    record { size = size; each = λ q j f. from q j f (each_origin (slice_set ms k (Passed h)) (height_after e h) (successors k i) q j f) }
  where
    size : length (passed_by e ms k h i) ≡ length b.instrs
    size = each_size (slice_set ms k (Passed h)) (height_after e h) (successors k i) ∙ (length-set ms k (Passed h) ∙ old.size)

    here : Leads b k
    here = old.each k h (ap (λ (o : Option Mark). option_and_then height_in o) there)

    older : (q j : ℕ) → height_at (slice_set ms k (Passed h)) q ≡ Some j → (q ≡ k) ⊎ (q ≢ k) → Leads b q
    older q j f (inl s) = subst (Leads b) (sym s) here
    older q j f (inr ne) = old.each q j (sym (ap (λ (o : Option Mark). option_and_then height_in o) (get_set_other ms q k (Passed h) ne)) ∙ f)

    from : (q j : ℕ) → height_at (passed_by e ms k h i) q ≡ Some j → (height_at (slice_set ms k (Passed h)) q ≡ Some j) ⊎ (In q (successors k i) × (j ≡ height_after e h)) → Leads b q
    from q j f (inl g) = older q j g (cases_eq q k)
    from q j f (inr m) = goes_to k q i here at (contains q (successors k i) m.0) (omega (arith, within (passed_by e ms k h i) q j f, size))

abbrev found : List Mark → Result (List Mark) ℕ
found ms = Ok ms

found_led : (effect : Instr → Effect) (b : Body) (ms new : List Mark) (r : Result (List Mark) ℕ) → Finds effect b ms r → r ≡ found new → Led b ms → Led b new
found_led effect b ms new r (ends {ms = last} none) is led = subst (Led b) (ok_same is) led
  where
    ok_same : {x y : List Mark} → found x ≡ found y → x ≡ y
    ok_same e = cc
found_led effect b ms new r (stops k h q i first there at fault) is led = absurd cc
found_led effect b ms new r (goes k h i first there at right rest) is led =
    found_led effect b (passed_by (effect i) ms k h i) new r rest is (passed_led b (effect i) ms k h i led there at)

all_led : (effect : Instr → Effect) (b : Body) (ms : List Mark) → SearchFinds effect b (Ok ms) → Led b ms
all_led effect b ms h = go (begin_fault b) h
  where
    never : (x : List Mark) (p : ℕ) → found x ≡ Err p → ⊥
    never x p e = cc

    go : (o : Option ℕ) → MatchOption o (Finds effect b (begun b) (found ms)) (λ p. found ms ≡ Err p) → Led b ms
    go None f = found_led effect b (begun b) ms (found ms) f refl (begun_led b)
    go (Some p) f = absurd (never ms p f)

led_has : (effect : Instr → Effect) (b : Body) (ms : List Mark) → Agrees effect b (height_at ms) → (q : ℕ) → Leads b q → (h : ℕ) × (height_at ms q ≡ Some h)
led_has effect b ms agrees q (comes_in p h m below) = (h, agrees.begins p h m below)
led_has effect b ms agrees q (goes_to k t i l at m below) =
    let r = led_has effect b ms agrees k l in (height_after (effect i) r.0, agrees.goes k r.0 t i r.1 at m below)

reached_has : (ms : List Mark) (q : ℕ) → get_or (map has_height ms) q false ≡ true → (h : ℕ) × (height_at ms q ≡ Some h)
reached_has [] q e = absurd cc
reached_has (Unseen ∷ ms) zero e = absurd cc
reached_has (Waits h ∷ ms) zero e = (h, refl)
reached_has (Passed h ∷ ms) zero e = (h, refl)
reached_has (m ∷ ms) (suc q) e = reached_has ms q e

has_reached : (ms : List Mark) (q h : ℕ) → height_at ms q ≡ Some h → get_or (map has_height ms) q false ≡ true
has_reached [] q h e = absurd cc
has_reached (Unseen ∷ ms) zero h e = absurd cc
has_reached (Waits j ∷ ms) zero h e = refl
has_reached (Passed j ∷ ms) zero h e = refl
has_reached (m ∷ ms) (suc q) h e = has_reached ms q h e

-- What the search leaves tells of each instruction, and has a height just where a path leads.
pub is_told : (effect : Instr → Effect) (b : Body) (ms : List Mark) (told : Heights) → SearchFinds effect b (Ok ms) → told.heights ≡ map height_told ms → told.reached ≡ map has_height ms → IsTold b told
is_told effect b ms told h heights reached =
    let led = all_led effect b ms h in
    record {
      heights = ap length heights ∙ length-map ms height_told ∙ led.size;
      reached = ap length reached ∙ length-map ms has_height ∙ led.size;
      leads = λ q e. let r = reached_has ms q (sym (ap (λ (l : List Bool). get_or l q false) reached) ∙ e) in led.each q r.0 r.1;
      each = λ q l. let r = led_has effect b ms (found_map effect b ms h) q l in ap (λ (l : List Bool). get_or l q false) reached ∙ has_reached ms q r.0 r.1;
    }
