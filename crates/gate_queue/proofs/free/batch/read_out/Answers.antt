use Rattle.std.proofs.Common.{arith, ◌++◌, length, ap, sym, subst, ◌∙◌, append-nil}
use Rattle.crossbeam_queue.specs.SegBatches.{Holds}
use Rattle.gate_queue.proofs.FreeKeeps.{admits}
use Rattle.gate_queue.proofs.FreeHeads.{some_first, none_left, one_moved}
use Rattle.gate_queue.proofs.free.batch.read_out.Goals as goal

pub next_of-item-requires : goal.next_of-item-requires
next_of-item-requires g c =
    let held = c.values.invariant.4 c.requires.batch.0 c.requires.batch.1 in
    let first = some_first held.0 (let more = c.values-test.true in let long = held.2.8 in omega arith) in
    (c.values.invariant.0, admits, (first.0, first.1, subst (Holds c.args.blocks.now c.values.right c.values.batch) first.2 held.2))

pub values-smaller : goal.values-smaller
values-smaller g c =
    let held = c.values.invariant.4 c.requires.batch.0 c.requires.batch.1 in
    let first = some_first held.0 (let more = c.values-test.true in let long = held.2.8 in omega arith) in
    let got = c.next_of-item.ensures.item first.0 first.1 (subst (Holds c.args.blocks.now c.values.right c.values.batch) first.2 held.2) in
    omega (arith, held.2.8, got.1.8, ap length first.2)

pub values-preserved : goal.values-preserved
values-preserved g c =
    let held = c.values.invariant.4 c.requires.batch.0 c.requires.batch.1 in
    let first = some_first held.0 (let more = c.values-test.true in let long = held.2.8 in omega arith) in
    let got = c.next_of-item.ensures.item first.0 first.1 (subst (Holds c.args.blocks.now c.values.right c.values.batch) first.2 held.2) in (
      c.next_of-item.ensures.queue.0,
      c.next_of-item.ensures.queue.2 ∙ c.values.invariant.1,
      c.push_back_reserved.ensures.capacity ∙ c.values.invariant.2,
      omega (arith, held.2.8, got.1.8, ap length first.2, c.values.invariant.3, c.push_back_reserved.ensures.len, c.push_back_reserved.ensures.capacity),
      λ xs h.
          let held = c.values.invariant.4 xs h in
          let first = some_first held.0 (let more = c.values-test.true in let long = held.2.8 in omega arith) in
          let got = c.next_of-item.ensures.item first.0 first.1 (subst (Holds c.args.blocks.now c.values.right c.values.batch) first.2 held.2) in
          (first.1, one_moved _ _ _ _ _ _ _ held.1 first.2 got.0 c.push_back_reserved.ensures.items, got.1),
    )

pub returns-clause-ready : goal.returns-clause-ready
returns-clause-ready g c xs h =
    let held = c.values.invariant.4 xs h in
    let none = none_left held.0 (let done = c.values-test.false in let long = held.2.8 in omega arith) in
    sym (append-nil _) ∙ ap (λ l. c.values.ready.items ++ l) (sym none) ∙ held.1
