use Rattle.std.specs.Prelude.{◌≡◌, ◌++◌, vec_items}
use Rattle.std.specs.Vec.Iter.{into_iter_items}
use Rattle.gate_run_reader.specs.Readers.{counts_of, notes_of}
use Rattle.gate_run.proofs.gathering.parted.Given as goal

-- what was parted, with what is left, is all
abbrev pub invariant-loop-renewal : goal.invariant-loop-renewal
invariant-loop-renewal l =
    let rest = into_iter_items l.renewal-iterator in
    (vec_items l.notes ++ notes_of rest ≡ notes_of l.fn.renewals.items)
    × (l.counts ++ counts_of rest ≡ counts_of l.fn.renewals.items)
