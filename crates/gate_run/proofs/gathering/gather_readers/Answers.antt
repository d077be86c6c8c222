use Rattle.std.proofs.Common.{rules, ◌∙◌, sym, ap, subst, is_some}
use Rattle.gate_run_posts.specs.Asked.{knows_as_much}
use Rattle.gate_run.specs.Inner.Gatherings.{report_of_reader}
use Rattle.gate_run_threads.specs.Lists.{Each}
use Rattle.gate_run_threads.proofs.Paired.{moved_on}
use Rattle.gate_run.proofs.gathering.gather_readers.Goals as goal

pub loop-end-preserved : goal.loop-end-preserved
loop-end-preserved g c =
    let before = c.loop-end.invariant in
    let next = c.in-Some.ensures.steps.0 in (
      moved_on (λ end. end.feed) _ _ c.in-Some.end _ _ _ before.0 next c.in_ok-add_reader.ensures.feeds,
      moved_on (λ end. end.tail) _ _ c.in-Some.end _ _ _ before.1 next c.in_ok-add_reader.ensures.tails,
      moved_on report_of_reader _ _ c.in-Some.end _ _ _ before.2 next c.in_ok-add_reader.ensures.connections,
      search rules,
      search rules,
      (λ note more rest. before.5 note (λ known. more (c.in_ok-add_reader.ensures.knew known)) (subst (Each (λ end. knows_as_much end.note note)) (sym next) ((λ known. more (c.in_ok-add_reader.ensures.knows known)), rest))),
      search rules,
      search rules,
      search rules,
      (λ known. c.in_ok-add_reader.ensures.still (ap is_some (before.9 known) ∙ known) ∙ before.9 known),
    )
