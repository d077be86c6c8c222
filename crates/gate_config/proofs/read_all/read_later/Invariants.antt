use Rattle.std.proofs.Common.{Some}
use Rattle.gate_config.proofs.Documents.{DocumentsSoFar}
use Rattle.gate_config.specs.Inner.Structures.{structure_in}
use Rattle.gate_config.proofs.read_all.read_later.Given as goal

abbrev pub invariant-loop-place : goal.invariant-loop-place
invariant-loop-place l = DocumentsSoFar (Some (structure_in l.first)) l.documents l.place l.later.items
