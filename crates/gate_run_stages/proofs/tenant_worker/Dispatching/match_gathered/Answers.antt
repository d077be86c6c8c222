use Rattle.std.proofs.Common.{rules, refl}
use Rattle.gate_run_stages.proofs.TenantWorkers.{matched_all}
use Rattle.gate_run_stages.proofs.tenant_worker.Dispatching.match_gathered.Goals as goal

pub returns-in-Ok-clause-keeps : goal.returns-in-Ok-clause-keeps
returns-in-Ok-clause-keeps c first sent was = (matched_all was.0 c.match_batch.new.self c.args.self.now.head c.in-Ok.ensures.gens c.in-Ok.ensures.tenant refl (search rules) c.in-Ok.ensures.matches, was.1)
