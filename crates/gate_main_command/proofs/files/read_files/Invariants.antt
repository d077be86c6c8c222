use Rattle.std.specs.Prelude.{◌≡◌, ◌+◌, length}
use Rattle.std.specs.Vec.Iter.{into_iter_items}
use Rattle.gate_main_command.proofs.files.read_files.Given as goal

-- each path that is left becomes a file
abbrev pub invariant-loop-path : goal.invariant-loop-path
invariant-loop-path g l = length l.files.items + length (into_iter_items l.path-iterator) ≡ length l.fn.paths.items
