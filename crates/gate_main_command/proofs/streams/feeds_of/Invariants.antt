use Rattle.std.specs.Prelude.{◌≡◌, ◌-◌, ◌<◌, ◌^◌, All, length, vec_items}
use Rattle.gate_main_command.proofs.streams.feeds_of.Given as goal

abbrev pub invariant-loop-number : goal.invariant-loop-number
invariant-loop-number l = (length (vec_items l.feeds) ≡ l.number) × All (λ feed. feed.faults < 2 ^ 64 - 1) (vec_items l.feeds)
