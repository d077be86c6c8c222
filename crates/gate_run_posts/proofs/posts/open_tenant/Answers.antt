use Rattle.std.proofs.Common.{rules}
use Rattle.gate_run_posts.specs.PipelineEnds.{ends_of, inbox_of}
use Rattle.gate_run_posts.specs.Ports.{AreOpened}
use Rattle.gate_run_threads.proofs.Paired.{seen_more}
use Rattle.gate_run_posts.proofs.posts.open_tenant.Goals as goal

pub loop-pipeline-preserved : goal.loop-pipeline-preserved
loop-pipeline-preserved c = (
  search rules,
  seen_more (AreOpened c.args.places) ends_of inbox_of c.loop-pipeline.posts.items c.push.new.self.items c.loop-pipeline.inbox.items c.push-in-loop-pipeline.new.self.items c.in_ok-own.own c.in_ok-own.other
      c.loop-pipeline.invariant.1 c.in_ok-own.ensures c.in_ok-push.ensures.items c.in_ok-push-2.ensures.items,
)
