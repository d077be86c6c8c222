use Rattle.std.proofs.Common.{◌∙◌, ap, arith}
use Rattle.gate_core.specs.States.{with_gathered}
use Rattle.gate_core.specs.Views.{tenant_view}
use Rattle.gate_core.proofs.Tenants.{one_more}
use Rattle.gate_core.proofs.tenant.Tenant.fetch.Goals as goal

pub loop-fetched-preserved : goal.loop-fetched-preserved
loop-fetched-preserved c =
    let so_far = c.loop-fetched.invariant in
    let room = so_far.3 in
    let used = c.gather_next.ensures.uses in (
      c.gather_next.ensures.gens ∙ so_far.0,
      c.gather_next.ensures.number ∙ so_far.1,
      c.gather_next.ensures.gathers ∙ ap (with_gathered 1) so_far.2 ∙ one_more c.loop-fetched._fetched (tenant_view c.args.self.now),
      omega (arith, room, used),
    )
