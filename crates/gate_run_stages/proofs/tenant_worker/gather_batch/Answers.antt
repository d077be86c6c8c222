use Rattle.std.proofs.Common.{◌∙◌, sym, ap, subst, ◌≤◌, arith}
use Rattle.gate_queue.specs.Batches.{batch_head, batch_left}
use Rattle.gate_tenant.specs.States.{has_ended, room_of, state_of}
use Rattle.gate_run_stages.proofs.TenantWorkers.{gathered_one, room_left}
use Rattle.gate_run_stages.proofs.tenant_worker.gather_batch.Goals as goal

pub loop-taken-preserved : goal.loop-taken-preserved
loop-taken-preserved g c =
    let (iterator, of, lender, out, goes_on, room, reserved, conf, tenant, gathers) = c.loop-taken.invariant in
    let steps = c.in-Some.ensures.steps in
    let left = steps.1.2 in
    let did = c.gather.ensures in (
      (tt, tt),
      ap (λ head. head.queue) steps.1.0 ∙ of,
      steps.0 ∙ lender,
      ap (λ state. state.outbox.out) did.gathers ∙ out,
      (λ i. has_ended (did.gens i).first (did.tenant i) (did.gathers i)) ∙ goes_on,
      subst (λ state. batch_left c.next.new.self ≤ room_of state) (sym did.gathers) (room_left (state_of c.loop-taken.dispatch) c.in-Some.taken.value _ _ left room),
      omega (arith, did.reserved, left, reserved),
      did.gens ∙ conf,
      did.tenant ∙ tenant,
      (λ gens t given was. gathered_one (gathers gens t given was) c.gather.new.dispatch (batch_head c.next.new.self) did.gens did.tenant c.in-Some.taken (ap (λ head. head.taken) steps.1.0) (omega (arith, left, room)) goes_on did.gathers),
    )
