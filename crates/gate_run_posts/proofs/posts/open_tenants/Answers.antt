use Rattle.std.proofs.Common.{◌∙◌, ap, length, map}
use Rattle.gate_config.specs.Lookups.{pipelines_of}
use Rattle.gate_run_threads.specs.Lists.{Pairwise}
use Rattle.gate_run_posts.specs.PipelineEnds.{ends_of, inbox_of}
use Rattle.gate_run_posts.specs.Ports.{AreOpened}
use Rattle.gate_run_threads.proofs.Paired.{made_more, map_length, seen_more}
use Rattle.gate_run_posts.proofs.posts.open_tenants.Goals as goal

pub loop-number-preserved : goal.loop-number-preserved
loop-number-preserved c = (
  made_more (λ tenant. length (map ends_of tenant.items)) (λ t. length (pipelines_of c.args.config.now t)) c.loop-number.posts.items c.push.new.self.items c.in_ok-own.own c.loop-number.number c.loop-number.invariant.0
      (map_length ends_of c.in_ok-own.own.items ∙ c.in_ok-own.ensures.count ∙ ap length c.pipelines-count.ensures) c.in_ok-push.ensures.items,
  seen_more (Pairwise (AreOpened c.args.places)) (λ tenant. map ends_of tenant.items) (λ tenant. map inbox_of tenant.items) c.loop-number.posts.items c.push.new.self.items c.loop-number.inbox.items c.push-in-loop-number.new.self.items c.in_ok-own.own c.in_ok-own.other
      c.loop-number.invariant.1 c.in_ok-own.ensures.opened c.in_ok-push.ensures.items c.in_ok-push-2.ensures.items,
)
