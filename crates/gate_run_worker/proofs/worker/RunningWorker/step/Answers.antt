use Rattle.std.proofs.Common.{◌∙◌, refl, sym, ap}
use Rattle.gate_pipeline.specs.declared.which.Taken.TheVariants.{Manage, Result, Trigger, Again}
use Rattle.gate_pipeline.specs.States.{is_taking}
use Rattle.gate_run_worker.specs.declared.worker.RunningWorker.{RunningWorker}
use Rattle.gate_run_worker.proofs.Workings.{found_nothing, handed_in, took_given, took_none, took_one}
use Rattle.gate_run_worker.proofs.worker.RunningWorker.step.Goals as goal

pub returns-in-Held-clause-continues : goal.returns-in-Held-clause-continues
returns-in-Held-clause-continues g c t p trigger manage result was =
    let mid : RunningWorker = record { tenant = c.args.self.now.tenant; pipeline = c.args.self.now.pipeline; state = c.args.self.now.state; head = c.args.self.now.head; management = c.args.self.now.management; results = c.args.self.now.results; empty = c.args.self.now.empty } in
    let taken = took_given mid Again refl (took_none _ _ refl) (took_none _ _ refl) (took_none _ _ refl) was in
    handed_in c.process.new.self Again taken c.process.ensures.head c.process.ensures.management c.process.ensures.results (sym c.wants.ensures ∙ c.in-Held.is) c.process.ensures.processes

pub returns-in-Some-clause-continues : goal.returns-in-Some-clause-continues
returns-in-Some-clause-continues g c t p trigger manage result was =
    let mid : RunningWorker = record { tenant = c.args.self.now.tenant; pipeline = c.args.self.now.pipeline; state = c.args.self.now.state; head = c.args.self.now.head; management = c.take.new.self; results = c.args.self.now.results; empty = c.args.self.now.empty } in
    let taken = took_given mid (Manage c.in-Some.taken.value) refl (took_none _ _ refl) (took_one _ _ c.in-Some.taken c.in-Some.ensures.some) (took_none _ _ refl) was in
    handed_in c.process-in-Some.new.self (Manage c.in-Some.taken.value) taken c.process-in-Some.ensures.head c.process-in-Some.ensures.management c.process-in-Some.ensures.results (sym c.wants.ensures ∙ c.in-Management.is) c.process-in-Some.ensures.processes

pub returns-in-Some-take-clause-continues : goal.returns-in-Some-take-clause-continues
returns-in-Some-take-clause-continues g c t p trigger manage result was =
    let mid : RunningWorker = record { tenant = c.args.self.now.tenant; pipeline = c.args.self.now.pipeline; state = c.args.self.now.state; head = c.args.self.now.head; management = c.args.self.now.management; results = c.take-in-Result.new.self; empty = c.args.self.now.empty } in
    let taken = took_given mid (Result c.in-Some-take.taken.value) refl (took_none _ _ refl) (took_none _ _ refl) (took_one _ _ c.in-Some-take.taken c.in-Some-take.ensures.some) was in
    handed_in c.process-in-Some-take.new.self (Result c.in-Some-take.taken.value) taken c.process-in-Some-take.ensures.head c.process-in-Some-take.ensures.management c.process-in-Some-take.ensures.results (sym c.wants.ensures ∙ c.in-Result.is) c.process-in-Some-take.ensures.processes

pub returns-in-Some-take-2-clause-continues : goal.returns-in-Some-take-2-clause-continues
returns-in-Some-take-2-clause-continues g c t p trigger manage result was =
    let mid : RunningWorker = record { tenant = c.args.self.now.tenant; pipeline = c.args.self.now.pipeline; state = c.args.self.now.state; head = c.take-in-Trigger.new.head; management = c.args.self.now.management; results = c.args.self.now.results; empty = c.args.self.now.empty } in
    let taken = took_given mid (Trigger c.in-Some-take-2.taken.value) refl (took_one _ _ c.in-Some-take-2.taken c.in-Some-take-2.ensures.some) (took_none _ _ refl) (took_none _ _ refl) was in
    handed_in c.process-in-Some-take-2.new.self (Trigger c.in-Some-take-2.taken.value) taken c.process-in-Some-take-2.ensures.head c.process-in-Some-take-2.ensures.management c.process-in-Some-take-2.ensures.results (sym c.wants.ensures ∙ c.in-Trigger.is) c.process-in-Some-take-2.ensures.processes

pub returns-in-None-clause-continues : goal.returns-in-None-clause-continues
returns-in-None-clause-continues g c t p trigger manage result was =
    found_nothing c.found_empty.new.self was (ap is_taking (sym c.wants.ensures ∙ c.in-Management.is)) c.found_empty.ensures.finds c.found_empty.ensures.head (c.found_empty.ensures.management ∙ c.in-None.ensures.none) c.found_empty.ensures.results

pub returns-in-None-take-clause-continues : goal.returns-in-None-take-clause-continues
returns-in-None-take-clause-continues g c t p trigger manage result was =
    found_nothing c.found_empty-in-None-take.new.self was (ap is_taking (sym c.wants.ensures ∙ c.in-Result.is)) c.found_empty-in-None-take.ensures.finds c.found_empty-in-None-take.ensures.head c.found_empty-in-None-take.ensures.management (c.found_empty-in-None-take.ensures.results ∙ c.in-None-take.ensures.none)

pub returns-in-None-take-2-clause-continues : goal.returns-in-None-take-2-clause-continues
returns-in-None-take-2-clause-continues g c t p trigger manage result was =
    found_nothing c.found_empty-in-None-take-2.new.self was (ap is_taking (sym c.wants.ensures ∙ c.in-Trigger.is)) c.found_empty-in-None-take-2.ensures.finds (c.found_empty-in-None-take-2.ensures.head ∙ c.in-None-take-2.ensures.none) c.found_empty-in-None-take-2.ensures.management c.found_empty-in-None-take-2.ensures.results
