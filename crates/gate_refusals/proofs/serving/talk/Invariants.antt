use Rattle.gate_status.specs.Replies.{ArePostsFor}
use Rattle.gate_refusals.proofs.serving.talk.Given as goal

abbrev pub invariant-loop : goal.invariant-loop
invariant-loop g l = ArePostsFor l.config l.posts
