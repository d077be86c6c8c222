use Rattle.std.proofs.Common.{◌≡◌, ◌++◌, List, length, None}
use Rattle.gate_record.specs.declared.record.Record.{Record}
use Rattle.gate_status.specs.Replies.{ArePostsFor}
use Rattle.gate_status.specs.Inner.Talks.{Talks}
use Rattle.gate_status.proofs.answering.Session.answer_all.Given as goal

-- some lines have their answers, and the session goes on
abbrev pub invariant-loop-line : goal.invariant-loop-line
invariant-loop-line g l = record {
  answered : (done : List Record) × (done ++ l.rest ≡ l.fn.lines) × Talks l.fn.self.config.now done None (g.W.Write.contents l.fn.output.device) (g.W.Write.contents l.output.device) l.fn.posts l.posts;
  for_config : ArePostsFor l.fn.self.config.now l.posts;
  faults : l.output.faults ≡ l.fn.output.faults;
}

abbrev pub decreases-loop-line : goal.decreases-loop-line
decreases-loop-line g l = length l.rest
