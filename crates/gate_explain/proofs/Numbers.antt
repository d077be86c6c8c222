-- A connection that has accepted fewer records than there are numbers has one left for a step.
use Rattle.std.proofs.Common.{ℕ, ◌+◌, ◌≤◌, ◌<◌, ◌^◌, arith}
use Rattle.gate_core.specs.declared.step.Step.{Step}
use Rattle.gate_core.specs.States.{State}
use Rattle.gate_core.specs.Worlds.{AcceptedAtMost, HasNumber}

pub has_number : (n : ℕ) (state : State) (s : Step) → AcceptedAtMost n state → n + 1 < 2 ^ 64 → HasNumber state s
has_number n state s few room c line conn offered at =
    let some : conn.accepted ≤ n = few c conn at in
    omega (arith, some, room)
