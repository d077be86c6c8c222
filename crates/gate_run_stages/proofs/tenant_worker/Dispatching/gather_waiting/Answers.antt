use Rattle.std.proofs.Common.{◌∙◌, ◌<◌, refl, sym, ap, subst}
use Rattle.gate_tenant.specs.States.{has_ended, room_of}
use Rattle.gate_run_stages.proofs.TenantWorkers.{gathered_one, still}
use Rattle.gate_run_stages.proofs.tenant_worker.Dispatching.gather_waiting.Goals as goal

pub returns-clause-keeps : goal.returns-clause-keeps
returns-clause-keeps g c first sent was =
    let made = c.in-Ok.ensures in
    let did = c.gather.ensures in
    let roomy = still was.0 c.make_room.new.self c.args.self.now.head made.gens made.tenant made.state refl in (
      c.gather_batch.ensures.gathers _ _ _
          (gathered_one roomy c.gather.new.dispatch c.take.new.head did.gens did.tenant c.in-Some.first (ap (λ head. head.taken) c.in-Some.ensures.some)
          (subst (λ state. 0 < room_of state) (sym made.state) c.requires.room) ((λ i. has_ended (made.gens i).first (made.tenant i) (made.state i)) ∙ c.requires.goes_on) did.gathers),
      c.gather_batch.ensures.head ∙ ap (λ head. head.queue) c.in-Some.ensures.some ∙ was.1,
    )
