use Rattle.std.proofs.Common.{◌≡◌}
use Rattle.gate_status.specs.Replies.{ArePostsFor}
use Rattle.gate_status.proofs.Sessions.{SoFar}
use Rattle.gate_status.proofs.port.session.Given as goal

abbrev pub invariant-loop-session : goal.invariant-loop-session
invariant-loop-session g l = record {
  so_far : SoFar l.fn.config l.listening.split l.listening.room (g.R.Read.remaining l.fn.input.device) (g.R.Read.remaining l.input.device) (g.W.Write.contents l.fn.output.device) (g.W.Write.contents l.output.device) l.fn.posts l.posts;
  for_config : ArePostsFor l.fn.config l.posts;
  reads : l.input.faults ≡ l.fn.input.faults;
  writes : l.output.faults ≡ l.fn.output.faults;
}

abbrev pub decreases-loop-session : goal.decreases-loop-session
decreases-loop-session g l = l.listening.room
