use Rattle.std.proofs.Common.{arith, ◌-◌, ap, length}
use Rattle.gate_config.specs.Lookups.{tenants_of}
use Rattle.gate_record.specs.declared.reading.Reading.TheVariants as reading
use Rattle.gate_forward.specs.Forwarding.{forwarded_reading}
use Rattle.gate_forward.specs.States.{conn_of, gens_of, state_of}
use Rattle.gate_forward.proofs.Addressed.{few}
use Rattle.gate_forward.proofs.forward.Forward.put_shares.Goals as goal

pub put_first-requires-clause-room : goal.put_first-requires-clause-room
put_first-requires-clause-room c =
    let gens = gens_of c.args.self.now in
    let tenant = c.loop-tenant.tenant in
    let left = length (tenants_of gens.first) - tenant in
    omega (arith, ap length c.loop-tenant.invariant.items, few (λ t. forwarded_reading gens t (conn_of c.args.self.now) (state_of c.args.self.now).generation c.args.number (reading.Event c.args.event.now)) tenant left, c.loop-tenant-test.true, c.loop-tenant.invariant.within, gens.first.few_tenants)
