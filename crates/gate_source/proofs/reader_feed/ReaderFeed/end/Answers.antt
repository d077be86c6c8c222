use Rattle.std.proofs.Common.{◌∙◌, ap, sym}
use Rattle.gate_source.specs.Inner.Streams.{is_empty}
use Rattle.gate_source.proofs.Reading.{last_got, last_none}
use Rattle.gate_source.proofs.reader_feed.ReaderFeed.end.Goals as goal

pub returns-in-Some-clause-steps : goal.returns-in-Some-clause-steps
returns-in-Some-clause-steps g c = last_got c.args.self.now.split c.in-Some.record c.args.self.now.of_line
    (λ bytes fed. c.in-Some.ensures bytes (c.replace-split.ensures.value ∙ fed))

pub returns-in-None-clause-steps : goal.returns-in-None-clause-steps
returns-in-None-clause-steps g c = last_none c.args.self.now.split c.args.self.now.of_line
    (λ bytes fed. c.in-None.ensures bytes (c.replace-split.ensures.value ∙ fed))

pub returns-in-Some-clause-none_left : goal.returns-in-Some-clause-none_left
returns-in-Some-clause-none_left g c = sym (ap is_empty (last_got c.args.self.now.split c.in-Some.record c.args.self.now.of_line
    (λ bytes fed. c.in-Some.ensures bytes (c.replace-split.ensures.value ∙ fed))).1)

pub returns-in-None-clause-none_left : goal.returns-in-None-clause-none_left
returns-in-None-clause-none_left g c = sym (ap is_empty (last_none c.args.self.now.split c.args.self.now.of_line
    (λ bytes fed. c.in-None.ensures bytes (c.replace-split.ensures.value ∙ fed))).0)
