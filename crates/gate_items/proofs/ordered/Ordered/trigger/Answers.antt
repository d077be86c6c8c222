use Rattle.std.proofs.Common.{◌∙◌, ap, of_z, sym, to_z, w64}
use Rattle.std.specs.Prelude.{Err, Ok}
use Rattle.std.proofs.lemmas.Int.{to_z-of_z}
use Rattle.gate_items.specs.Machine.{Refuses, triggered}
use Rattle.gate_items.specs.Inner.Steps.{changed, placed_last, replaced_at}
use Rattle.gate_items.proofs.Plans.{does_by, judged_as, refused_by_plan, triggers_at, triggers_by, triggers_last}
use Rattle.gate_items.proofs.ordered.Ordered.trigger.Goals as goal

pub returns-in-Err-clause-does : goal.returns-in-Err-clause-does
returns-in-Err-clause-does c =
    ap (changed c.args.self.now) (sym (triggers_by c.args.self.now c.args.key.now c.in-Some.key c.args.patchset c.args.jobs.now (Refuses c.in-Err.why) c.in-Some.is (λ h. c.if-len-eq0.false (c.len.ensures ∙ h))
    (judged_as c.args.self.now c.in-Some.key _ c.args.patchset c.args.jobs.now _ (Err c.in-Err.why) (to_z-of_z w64 c.args.patchset c.ranges.patchset) c.in-Err.is (c.older_place.ensures.judges c.args.jobs.now))))

pub returns-in-Ok-None-clause-does : goal.returns-in-Ok-None-clause-does
returns-in-Ok-None-clause-does c =
    does_by c.args.self.now c.place_last.new.self (placed_last c.args.self.now c.in-Some.key (to_z w64 (of_z w64 c.args.patchset)) c.args.jobs.now) (triggered c.args.self.now c.args.key.now c.args.patchset c.args.jobs.now) c.place_last.result
    (triggers_last c.args.self.now c.args.key.now c.in-Some.key _ c.args.patchset c.args.jobs.now _ (to_z-of_z w64 c.args.patchset c.ranges.patchset) c.in-Some.is (λ h. c.if-len-eq0.false (c.len.ensures ∙ h)) (c.in-Ok-None.is ∙ ap (λ o. Ok o) c.in-Ok-None.field-0-is) (c.older_place.ensures.judges c.args.jobs.now))
    c.place_last.ensures.does

pub returns-in-Ok-Some-clause-does : goal.returns-in-Ok-Some-clause-does
returns-in-Ok-Some-clause-does c =
    does_by c.args.self.now c.replace_at.new.self (replaced_at c.args.self.now c.in-Ok-Some.place c.in-Some.key (to_z w64 (of_z w64 c.args.patchset)) c.args.jobs.now) (triggered c.args.self.now c.args.key.now c.args.patchset c.args.jobs.now) c.replace_at.result
    (triggers_at c.args.self.now c.args.key.now c.in-Some.key _ c.args.patchset c.args.jobs.now _ c.in-Ok-Some.place (to_z-of_z w64 c.args.patchset c.ranges.patchset) c.in-Some.is (λ h. c.if-len-eq0.false (c.len.ensures ∙ h)) (c.in-Ok-Some.is ∙ ap (λ o. Ok o) c.in-Ok-Some.field-0-is) (c.older_place.ensures.judges c.args.jobs.now))
    c.replace_at.ensures.does

pub returns-in-Ok-None-clause-memory : goal.returns-in-Ok-None-clause-memory
returns-in-Ok-None-clause-memory c =
    refused_by_plan c.args.self.now (placed_last c.args.self.now c.in-Some.key (to_z w64 (of_z w64 c.args.patchset)) c.args.jobs.now) (triggered c.args.self.now c.args.key.now c.args.patchset c.args.jobs.now) c.place_last.result
    (triggers_last c.args.self.now c.args.key.now c.in-Some.key _ c.args.patchset c.args.jobs.now _ (to_z-of_z w64 c.args.patchset c.ranges.patchset) c.in-Some.is (λ h. c.if-len-eq0.false (c.len.ensures ∙ h)) (c.in-Ok-None.is ∙ ap (λ o. Ok o) c.in-Ok-None.field-0-is) (c.older_place.ensures.judges c.args.jobs.now))
    c.place_last.ensures.memory

pub returns-in-Ok-Some-clause-memory : goal.returns-in-Ok-Some-clause-memory
returns-in-Ok-Some-clause-memory c =
    refused_by_plan c.args.self.now (replaced_at c.args.self.now c.in-Ok-Some.place c.in-Some.key (to_z w64 (of_z w64 c.args.patchset)) c.args.jobs.now) (triggered c.args.self.now c.args.key.now c.args.patchset c.args.jobs.now) c.replace_at.result
    (triggers_at c.args.self.now c.args.key.now c.in-Some.key _ c.args.patchset c.args.jobs.now _ c.in-Ok-Some.place (to_z-of_z w64 c.args.patchset c.ranges.patchset) c.in-Some.is (λ h. c.if-len-eq0.false (c.len.ensures ∙ h)) (c.in-Ok-Some.is ∙ ap (λ o. Ok o) c.in-Ok-Some.field-0-is) (c.older_place.ensures.judges c.args.jobs.now))
    c.replace_at.ensures.memory
