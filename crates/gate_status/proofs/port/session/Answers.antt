use Rattle.std.proofs.Common.{rules, ◌≡◌, ◌∙◌, ◌<◌, List, Option, Some, None, refl, subst}
use Rattle.gate_record.specs.declared.record.Record.{Record}
use Rattle.gate_status.specs.declared.fault.SessionEnd.{SessionEnd}
use Rattle.gate_status.specs.Inner.Listened.{Hears}
use Rattle.gate_status.specs.Inner.Talks.{Talks}
use Rattle.gate_status.proofs.Sessions.{closes_so, ends_by_reply, so_far_none, so_far_on}
use Rattle.gate_status.proofs.port.session.Goals as goal

pub loop-session-init : goal.loop-session-init
loop-session-init g c = record {
  so_far = so_far_none (g.R.Read.remaining c.args.input.now.device) (g.W.Write.contents c.args.output.now.device) c.args.posts.now c.in-Ok.ensures.fed c.in-Ok.ensures.room;
  for_config = c.requires.for_config;
  reads = refl;
  writes = refl;
}

-- the reader has ended
pub returns-in_default-clause-answers : goal.returns-in_default-clause-answers
returns-in_default-clause-answers g c =
    let none : c.in_ok-lines.field-0 ≡ None = search in
    let some : 0 < c.loop-session.listening.room = search rules in
    let h = subst (λ (o : Option (List Record)). Hears (c.loop-session.listening.split, c.loop-session.listening.room) (g.R.Read.remaining c.loop-session.input.device) o (g.R.Read.remaining c.read.new.input.device) (c.read.new.self.split, c.read.new.self.room)) none c.in_ok-lines.ensures.hears in
    closes_so c.read.new.self.room (g.R.Read.remaining c.read.new.input.device) (g.W.Write.contents c.answer_last.new.output.device) c.answer_last.new.posts c.finish.result c.answer_last.result c.answer_last.ensures.closes some c.loop-session.invariant.so_far h c.finish.ensures c.answer_last.ensures.talks

-- a reply ends the session
pub returns-in-Some-2-clause-answers : goal.returns-in-Some-2-clause-answers
returns-in-Some-2-clause-answers g c =
    let h = subst (λ (o : Option (List Record)). Hears (c.loop-session.listening.split, c.loop-session.listening.room) (g.R.Read.remaining c.loop-session.input.device) o (g.R.Read.remaining c.read.new.input.device) (c.read.new.self.split, c.read.new.self.room)) c.in-Some.is c.in_ok-lines.ensures.hears in
    let told = subst (λ (how : Option SessionEnd). Talks c.args.config.now c.as_slice.result.now how (g.W.Write.contents c.loop-session.output.device) (g.W.Write.contents c.answer_all.new.output.device) c.loop-session.posts c.answer_all.new.posts) c.in-Some-2.is c.in_ok-how.ensures.talks in
    let t = subst (λ (lines : List Record). Talks c.args.config.now lines (Some c.in-Some-2.how) (g.W.Write.contents c.loop-session.output.device) (g.W.Write.contents c.answer_all.new.output.device) c.loop-session.posts c.answer_all.new.posts) c.as_slice.ensures told in
    ends_by_reply c.read.new.self.room c.loop-session.invariant.so_far h t

pub loop-session-preserved : goal.loop-session-preserved
loop-session-preserved g c =
    let none : c.in_ok-how.field-0 ≡ None = search in
    let h = subst (λ (o : Option (List Record)). Hears (c.loop-session.listening.split, c.loop-session.listening.room) (g.R.Read.remaining c.loop-session.input.device) o (g.R.Read.remaining c.read.new.input.device) (c.read.new.self.split, c.read.new.self.room)) c.in-Some.is c.in_ok-lines.ensures.hears in
    let told = subst (λ (how : Option SessionEnd). Talks c.args.config.now c.as_slice.result.now how (g.W.Write.contents c.loop-session.output.device) (g.W.Write.contents c.answer_all.new.output.device) c.loop-session.posts c.answer_all.new.posts) none c.in_ok-how.ensures.talks in
    let t = subst (λ (lines : List Record). Talks c.args.config.now lines None (g.W.Write.contents c.loop-session.output.device) (g.W.Write.contents c.answer_all.new.output.device) c.loop-session.posts c.answer_all.new.posts) c.as_slice.ensures told in
    record {
      so_far = so_far_on c.read.new.self.room c.loop-session.invariant.so_far h t;
      for_config = c.in_ok-how.ensures.for_config;
      reads = c.in_ok-lines.ensures.faults ∙ c.loop-session.invariant.reads;
      writes = c.in_ok-how.ensures.faults ∙ c.loop-session.invariant.writes;
    }
