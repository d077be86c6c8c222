use Rattle.std.proofs.Common.{◌≡◌, ◌∙◌, ◌+◌, ◌-◌, ◌++◌, ◌∷◌, [], suc, ap, append_assoc, arith}
use Rattle.std.specs.List.{range_with_len}
use Rattle.gate_journal.proofs.queue.put_new.Goals as goal

pub loop-set-preserved : goal.loop-set-preserved
loop-set-preserved c =
    let so_far = c.loop-set.sets.items in
    let set = c.loop-set.set in
    let left = range_with_len (set + 1) (c.args.next - (set + 1)) in
    let more : suc (c.args.next - (set + 1)) ≡ c.args.next - set = omega (arith, c.loop-set-test.true) in
    ap (λ xs. xs ++ left) c.in_ok-push_back.ensures.items ∙ append_assoc so_far (set ∷ []) left ∙ ap (λ n. so_far ++ range_with_len set n) more ∙ c.loop-set.invariant
