use Rattle.std.proofs.Common.{◌≡◌, take, true}
use Rattle.gate_match.specs.Inner.Batches.{keys_in, rows_in}
use Rattle.gate_match.specs.Inner.Choosing.{AreActive, has_all}
use Rattle.gate_match.proofs.program.Program.actives.Given as goal

-- each has its rows, and the keys so far are there
abbrev pub invariant-loop-row : goal.invariant-loop-row
invariant-loop-row l = record {
  active : AreActive l.self.gens.now l.self.tenant.0 (rows_in l.batch) l.actives.items;
  all : has_all l.actives.items (take l.row (keys_in l.batch)) ≡ true;
}
