use Rattle.std.proofs.Common.{◌∙◌, sym, subst, take}
use Rattle.gate_source.specs.Splitting.{Feeds}
use Rattle.gate_source.proofs.Reading.{fed_of_line, got_over, none_over}
use Rattle.gate_source.proofs.reader_feed.ReaderFeed.feed.Goals as goal

pub invariant_of-self-clause-of_line : goal.invariant_of-self-clause-of_line
invariant_of-self-clause-of_line g c = fed_of_line c.args.self.now.split c.feed.new.self (take c.args.count c.deref.result.now) c.in-Ok.records c.args.self.now.of_line c.in-Ok.ensures.ok

pub returns-in-Some-clause-steps : goal.returns-in-Some-clause-steps
returns-in-Some-clause-steps g c = got_over c.args.self.now.split c.feed.new.self (take c.args.count c.args.self.now.buffer.items) c.in-Ok.records c.in-Some.record c.first_of.new.waiting.items c.args.self.now.of_line
    (subst (λ bytes. Feeds c.args.self.now.split (take c.args.count bytes) c.in-Ok.records c.feed.new.self) c.deref.ensures.value c.in-Ok.ensures.ok)
    (sym (c.from.ensures.0 ∙ c.into_vec.ensures) ∙ c.in-Some.ensures)

pub returns-in-None-clause-steps : goal.returns-in-None-clause-steps
returns-in-None-clause-steps g c = none_over c.args.self.now.split c.feed.new.self (take c.args.count c.args.self.now.buffer.items) c.in-Ok.records c.first_of.new.waiting.items c.args.self.now.of_line
    (subst (λ bytes. Feeds c.args.self.now.split (take c.args.count bytes) c.in-Ok.records c.feed.new.self) c.deref.ensures.value c.in-Ok.ensures.ok)
    (sym (c.from.ensures.0 ∙ c.into_vec.ensures) ∙ c.in-None.ensures.0) c.in-None.ensures.1
