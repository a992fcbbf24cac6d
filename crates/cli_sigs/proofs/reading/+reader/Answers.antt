use Rattle.std.proofs.Common.{◌-◌, rules}
use Rattle.cli_sigs.specs.Read.{many, with_front}
use Rattle.cli_sigs.specs.declared.elements.Slot.TheVariants.{Param}
use Rattle.cli_sigs.specs.Reading.{type_at, open_params, Stops}
use Rattle.cli_sigs.proofs.Loops.{goes_on, ends, extra_ok, extra_stop, one_more, one_stops, none_left, stops_along}
use Rattle.cli_sigs.proofs.reading.+reader.Goals as goal

pub more_types-loop-preserved : goal.more_types-loop-preserved
more_types-loop-preserved t c =
    rw c.in_ok-push.ensures.ok (goes_on (type_at c.args.depth c.args.slot) c.loop.types c.args.count c.loop.counter c.loop.rest.now (with_front c.args.types (many c.args.count (type_at c.args.depth c.args.slot) c.args.bytes.now)) c.in_ok-one.one c.in_ok-one.after.now c.loop-test.true c.in_ok-one.ensures c.loop.invariant)

pub more_types-returns : goal.more_types-returns
more_types-returns t c = ends (type_at c.args.depth c.args.slot) c.loop.types c.args.count c.loop.counter c.loop.rest.now (with_front c.args.types (many c.args.count (type_at c.args.depth c.args.slot) c.args.bytes.now)) c.loop-test.false c.loop.invariant

pub open_params-returns-in_err-types : goal.open_params-returns-in_err-types
open_params-returns-in_err-types t c =
    let r = type_at c.args.depth Param in
    let whole = open_params r 0 c.args.count c.args.bytes.now in
    let s : Stops c.in_err-types.field-0.0 whole = stops_along c.in_err-types.field-0.0 (with_front c.loop-k.types (many (c.args.count - c.loop-k.k) r c.in-Some.after.now)) whole c.in_err-types.ensures
    (λ n e. extra_stop r c.loop-k.types c.args.count c.loop-k.k c.loop-k.rest.now whole c.in-Some.after.now n c.loop-k-test.true c.in-Some.ensures e c.loop-k.invariant) in
    search rules

pub open_params-returns-in-Some : goal.open_params-returns-in-Some
open_params-returns-in-Some t c =
    let r = type_at c.args.depth Param in
    extra_ok r c.loop-k.types c.args.count c.loop-k.k c.loop-k.rest.now (open_params r 0 c.args.count c.args.bytes.now) c.in-Some.after.now c.in_ok-types.rest.now c.in_ok-types.types c.loop-k-test.true c.in-Some.ensures c.in_ok-types.ensures c.loop-k.invariant

pub open_params-returns-in_err-one : goal.open_params-returns-in_err-one
open_params-returns-in_err-one t c =
    let r = type_at c.args.depth Param in
    let whole = open_params r 0 c.args.count c.args.bytes.now in
    let s : Stops c.in_err-one.field-0.0 whole = stops_along c.in_err-one.field-0.0 (r c.loop-k.rest.now) whole c.in_err-one.ensures
    (λ n e. one_stops r c.loop-k.types c.args.count c.loop-k.k c.loop-k.rest.now whole n c.loop-k-test.true c.in_default.ensures e c.loop-k.invariant) in
    search rules

pub open_params-loop-k-preserved : goal.open_params-loop-k-preserved
open_params-loop-k-preserved t c =
    let r = type_at c.args.depth Param in
    rw c.in_ok-push.ensures.ok (one_more r c.loop-k.types c.args.count c.loop-k.k c.loop-k.rest.now (open_params r 0 c.args.count c.args.bytes.now) c.in_ok-one.one c.in_ok-one.after.now c.loop-k-test.true c.in_default.ensures c.in_ok-one.ensures c.loop-k.invariant)

pub open_params-returns : goal.open_params-returns
open_params-returns t c =
    let r = type_at c.args.depth Param in
    none_left r c.loop-k.types c.args.count c.loop-k.k c.loop-k.rest.now (open_params r 0 c.args.count c.args.bytes.now) c.loop-k-test.false c.loop-k.invariant
