use Rattle.std.specs.Prelude.{◌≡◌, map}
use Rattle.gate_run_stages.specs.Inner.Stages.{IsRunning}
use Rattle.gate_run_threads.specs.Seats.{seat_of}
use Rattle.gate_run_stages.proofs.stage.run.Given as goal

abbrev pub invariant-loop : goal.invariant-loop
invariant-loop g l =
    ((goal.iterator-loop g).can_next l.iterator' × (goal.iterator-loop g).is_finite l.iterator')
    × g.S.Stage.ready l.running.stage
    × IsRunning g.S.Stage.has_sent l.fn.running.stage l.running.stage l.running.tails.items
    × (map seat_of l.running.tails.items ≡ map seat_of l.fn.running.tails.items)
