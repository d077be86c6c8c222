use Rattle.std.specs.Prelude.{◌≡◌, ◌≤◌, false, None}
use Rattle.gate_queue.specs.Batches.{batch_head, batch_lender, batch_left}
use Rattle.gate_queue.specs.Seats.{IsHeadOf}
use Rattle.gate_tenant.specs.States.{gens_of, has_ended, reserved_of, room_of, state_of, tenant_of}
use Rattle.gate_run_stages.specs.Inner.TenantWorkers.{Gathers}
use Rattle.gate_run_stages.proofs.tenant_worker.gather_batch.Given as goal

abbrev pub invariant-loop-taken : goal.invariant-loop-taken
invariant-loop-taken g l =
    ((goal.iterator-loop-taken g).can_next l.taken-iterator × (goal.iterator-loop-taken g).is_finite l.taken-iterator)
    × IsHeadOf l.source (batch_head l.taken-iterator)
    × (batch_lender l.taken-iterator ≡ batch_lender l.initial.taken-iterator)
    × ((state_of l.dispatch).outbox.out ≡ None)
    × (has_ended (gens_of l.dispatch).first (tenant_of l.dispatch) (state_of l.dispatch) ≡ false)
    × (batch_left l.taken-iterator ≤ room_of (state_of l.dispatch))
    × (batch_left l.taken-iterator ≤ reserved_of l.dispatch)
    × (gens_of l.dispatch ≡ gens_of l.initial.dispatch)
    × (tenant_of l.dispatch ≡ tenant_of l.initial.dispatch)
    × Gathers l.initial.dispatch (batch_head l.initial.taken-iterator) l.dispatch (batch_head l.taken-iterator)
