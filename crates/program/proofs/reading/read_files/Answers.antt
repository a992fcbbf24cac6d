use Rattle.std.proofs.Common.{◌≡◌, sym, ap, ◌∙◌, subst, length, arith, Some, string_bytes, List, ℕ, ◌+◌}
use Rattle.std.proofs.lemmas.List.{length-map}
use Rattle.command_line.specs.Options.{texts}
use Rattle.program.proofs.ReadingLaws.{AreSoFar, more, fault_read, all_read, named_at}
use Rattle.program.proofs.reading.read_files.Goals as goal

pub returns-in-Err-clause-read : goal.returns-in-Err-clause-read
returns-in-Err-clause-read g c =
    let store = g.S.Store in
    let old = c.args.store.now in
    let mid = c.loop-k.store in
    let here = named_at c.args.names.now c.loop-k.k c.index-names-k.result c.loop-k-test.true c.index-names-k.is ∙ ap (λ (n : List ℕ). Some n) (sym c.as_str.ensures.value) in
    fault_read (store.tells old) (store.tells mid) (store.file old) (store.file mid) (texts c.args.names.now) (store.faults old) (store.faults mid) (store.faults c.read_file.new.store) c.loop-k.k c.loop-k.sum c.loop-k.files.items c.as_str.result.now c.in-Err.fault c.loop-k.invariant.so_far here c.in-Err.ensures.read

pub loop-k-preserved : goal.loop-k-preserved
loop-k-preserved g c =
    let store = g.S.Store in
    let old = c.args.store.now in
    let mid = c.loop-k.store in
    let new = c.read_file.new.store in
    let names = texts c.args.names.now in
    let here = named_at c.args.names.now c.loop-k.k c.index-names-k.result c.loop-k-test.true c.index-names-k.is ∙ ap (λ (n : List ℕ). Some n) (sym c.as_str.ensures.value) in
    let e = c.in-Ok.ensures in
    let next = more (store.tells old) (store.tells mid) (store.tells new) (store.file old) (store.file mid) (store.file new) names (store.faults old) (store.faults mid) (store.faults new) c.loop-k.k c.loop-k.sum c.loop-k.files.items c.as_str.result.now c.in-Ok.bytes c.loop-k.invariant.so_far here e.read e.kept e.tells in
    record {
      so_far =
          subst (λ (l : List ℕ). AreSoFar (store.tells old) (store.tells new) (store.file old) (store.file new) names (store.faults old) (store.faults new) (c.loop-k.k + 1) (c.loop-k.sum + length l) c.append.new.files.items) (sym c.as_slice.ensures)
          (subst (λ (all : List (List ℕ)). AreSoFar (store.tells old) (store.tells new) (store.file old) (store.file new) names (store.faults old) (store.faults new) (c.loop-k.k + 1) (c.loop-k.sum + length c.in-Ok.bytes) all) (sym c.in_default.ensures.ok) next);
      steady = λ s. e.steady.0 ∙ c.loop-k.invariant.steady s;
    }

pub returns-clause-read : goal.returns-clause-read
returns-clause-read g c =
    let store = g.S.Store in
    let old = c.args.store.now in
    let mid = c.loop-k.store in
    let end : c.loop-k.k ≡ length (texts c.args.names.now) = omega (arith, c.loop-k-test.false, c.loop-k.auto.k-end, length-map c.args.names.now string_bytes) in
    all_read (store.tells old) (store.tells mid) (store.file old) (store.file mid) (texts c.args.names.now) (store.faults old) (store.faults mid) c.loop-k.k c.loop-k.sum c.loop-k.files.items end c.loop-k.invariant.so_far
