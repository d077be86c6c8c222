use Rattle.std.proofs.Common.{◌≡◌, ◌-◌, length}
use Rattle.std.specs.List.{list_all, range_with_len}
use Rattle.gate_config.specs.Lookups.{connections_of}
use Rattle.gate_tenant.specs.Dispatching.{all_marked, is_marked}
use Rattle.gate_tenant.proofs.matching.all_marked.Given as goal

-- the connections from this one on decide
abbrev pub invariant-loop-conn : goal.invariant-loop-conn
invariant-loop-conn l =
    list_all (is_marked l.config l.tenant.0 l.marks) (range_with_len l.conn (length (connections_of l.config) - l.conn)) ≡ all_marked l.config l.tenant.0 l.marks
