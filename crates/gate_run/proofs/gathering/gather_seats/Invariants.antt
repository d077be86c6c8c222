use Rattle.std.specs.Prelude.{◌≡◌, ◌++◌, map, vec_items}
use Rattle.std.specs.Vec.Iter.{into_iter_items}
use Rattle.gate_run.proofs.gathering.gather_seats.Given as goal

abbrev pub invariant-loop-end : goal.invariant-loop-end
invariant-loop-end g l =
    let rest = into_iter_items l.end-iterator in
    let all = l.fn.ends.items in
    (vec_items l.heads ++ map (λ end. end.head) rest ≡ map (λ end. end.head) all)
    × (map (λ row. row.items) (vec_items l.tails) ++ map (λ end. end.tails.items) rest ≡ map (λ end. end.tails.items) all)
