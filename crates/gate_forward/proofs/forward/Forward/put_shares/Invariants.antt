use Rattle.std.proofs.Common.{◌≡◌, ◌-◌, ◌≤◌, length, None}
use Rattle.gate_config.specs.Lookups.{tenants_of}
use Rattle.gate_record.specs.declared.reading.Reading.TheVariants as reading
use Rattle.gate_forward.specs.Forwarding.{forwarded_reading}
use Rattle.gate_forward.specs.States.{conn_of, gens_of, state_of}
use Rattle.gate_forward.specs.Inner.Forwarding.{KeepsAllElse}
use Rattle.gate_forward.proofs.Addressed.{from}
use Rattle.gate_forward.proofs.forward.Forward.put_shares.Given as goal

abbrev pub invariant-loop-tenant : goal.invariant-loop-tenant
invariant-loop-tenant l = record {
  within : l.tenant ≤ length (tenants_of (gens_of l.fn.self).first);
  items : l.self.outbox.items ≡ from (λ t. forwarded_reading (gens_of l.fn.self) t (conn_of l.fn.self) (state_of l.fn.self).generation l.number (reading.Event l.event)) l.tenant (length (tenants_of (gens_of l.fn.self).first) - l.tenant);
  out : l.self.outbox.out ≡ None;
  same : KeepsAllElse l.fn.self l.self;
}

abbrev pub decreases-loop-tenant : goal.decreases-loop-tenant
decreases-loop-tenant l = l.tenant
