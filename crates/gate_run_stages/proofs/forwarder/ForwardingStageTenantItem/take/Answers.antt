use Rattle.std.proofs.Common.{◌≡◌, ◌∙◌, ◌++◌, ◌∷◌, [], ap, refl}
use Rattle.gate_run_stages.proofs.Forwarders.{kept_one, loaded_one}
use Rattle.gate_run_stages.proofs.forwarder.ForwardingStageTenantItem.take.Goals as goal

pub returns-in-Ok-clause-keeps : goal.returns-in-Ok-clause-keeps
returns-in-Ok-clause-keeps g c first sent was =
    let more : c.take.new.head.taken ≡ c.args.self.now.head.taken ++ c.in-Some.taken ∷ [] = ap (λ head. head.taken) c.in-Some.ensures.some in
    let (none_out, free, of) = c.requires.ready in
    let did = c.load.ensures in
    (loaded_one was.0 c.load.new.forward did.gens did.conn c.take.new.head c.in-Some.taken free more c.requires.empty c.in-Some.taken.value refl c.in-Ok.ensures.loads c.in-Ok.ensures.later, ap (λ head. head.queue) c.in-Some.ensures.some ∙ was.1)
