use Rattle.std.proofs.Common.{◌≡◌, ◌+◌, ◌*◌, ◌<◌, ◌≤◌, ◌^◌, ℕ, List, length}
use Rattle.std.specs.Prelude.{fold}
use Rattle.std.specs.List.{enumerate_from}
use Rattle.gate_config.specs.CheckText.{rules_count}
use Rattle.gate_config.specs.Lookups.{rules_of}
use Rattle.gate_config.proofs.text.rules_count.Given as goal

-- what is counted and the rules for the connections that are left make the whole
abbrev pub invariant-loop-name : goal.invariant-loop-name
invariant-loop-name l = record {
  counted : fold (λ (n : ℕ) (connection : ℕ × List ℕ). n + length (rules_of l.config l.tenant.0 l.pipeline.0 connection.0)) l.count (enumerate_from l.conn l.names) ≡ rules_count l.config l.tenant.0 l.pipeline.0;
  few : l.conn + length l.names < 2 ^ 32;
  fits : l.count ≤ l.conn * 2 ^ 64;
}

abbrev pub decreases-loop-name : goal.decreases-loop-name
decreases-loop-name l = length l.names
