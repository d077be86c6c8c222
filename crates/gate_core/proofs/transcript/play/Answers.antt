use Rattle.std.proofs.Common.{◌≡◌, ◌∙◌, sym, subst, ◌<◌, ◌≤◌, List, [], length, arith}
use Rattle.gate_config.specs.declared.generations.Generations.{Generations}
use Rattle.gate_core.specs.declared.answer.Answer.{Answer}
use Rattle.gate_core.specs.States.{State}
use Rattle.gate_core.specs.Steps.{answers_to, first, left_by, step_of}
use Rattle.gate_core.specs.Worlds.{state_of}
use Rattle.gate_core.proofs.Runs.{Runs, begins, finds_number, has_number, one_more, all_answered, all_counted, all_reached, run_delivers, run_keeps, run_processes, run_rightly, run_told}
use Rattle.gate_core.proofs.transcript.play.Goals as goal

pub loop-step-init : goal.loop-step-init
loop-step-init c = record {
  runs =
      let gens = c.args.gens.now in
      let count : c.len-total.result ≡ length c.args.steps = c.len-total.ensures in
      let few : length c.args.steps ≤ c.len-total.result = omega (arith, count) in
      subst (λ (answers : List Answer). Runs gens answers (state_of c.in_ok-world.world) c.args.steps c.args.steps c.len-total.result) (sym c.empty-answers.ensures)
      (subst (λ (state : State). Runs gens [] state c.args.steps c.args.steps c.len-total.result) (sym c.in_ok-world.ensures.first)
      (begins (record { gets = c.each_tenant_gets_its_own.ensures; entries = c.entries_have_generations.ensures; records = c.records_have_generations.ensures }) gens c.args.steps c.len-total.result few));
  same = c.in_ok-world.ensures.gens;
}

pub step-requires : goal.step-requires
step-requires c =
    let below : c.len-total.result < 18446744073709551616 = omega (arith, c.len-total.type_inv) in
    finds_number (state_of c.loop-step.world) c.in-Some.step
    (has_number c.args.gens.now c.loop-step.answers (state_of c.loop-step.world) c.loop-step.steps c.pop.new.self c.args.steps c.in-Some.step c.len-total.result 18446744073709551616
    c.in-Some.ensures below c.loop-step.invariant.runs)

pub loop-step-preserved : goal.loop-step-preserved
loop-step-preserved c = record {
  runs =
      let gens = c.args.gens.now in
      let s = state_of c.loop-step.world in
      let s' = state_of c.step.new.self in
      let moved : (s', c.in_ok-answer.answer) ≡ step_of gens s c.in-Some.step =
      subst (λ (k : Generations). (s', c.in_ok-answer.answer) ≡ step_of k s c.in-Some.step) c.loop-step.invariant.same c.in_ok-answer.ensures.moves in
      rw c.in_ok-push.ensures (one_more gens c.loop-step.answers s s' c.in-Some.step c.in_ok-answer.answer c.loop-step.steps c.pop.new.self c.args.steps c.len-total.result c.in-Some.ensures moved c.loop-step.invariant.runs);
  same = c.in_ok-answer.ensures.gens ∙ c.loop-step.invariant.same;
}

answered : (c : goal.After-drop-steps-inside-2) → c.loop-step.answers ≡ answers_to c.args.gens.now (first c.args.gens.now) c.args.steps
answered c = all_answered c.args.gens.now c.loop-step.answers (state_of c.loop-step.world) c.loop-step.steps c.args.steps c.len-total.result c.in_default.ensures.0 c.loop-step.invariant.runs

reached : (c : goal.After-drop-steps-inside-2) → state_of c.loop-step.world ≡ left_by c.args.gens.now (first c.args.gens.now) c.args.steps
reached c = all_reached c.args.gens.now c.loop-step.answers (state_of c.loop-step.world) c.loop-step.steps c.args.steps c.len-total.result c.in_default.ensures.0 c.loop-step.invariant.runs

pub returns-clause-answers : goal.returns-clause-answers
returns-clause-answers c = answered c

pub returns-clause-left : goal.returns-clause-left
returns-clause-left c = reached c

pub returns-clause-delivers : goal.returns-clause-delivers
returns-clause-delivers c = run_delivers c.every_run_delivers.ensures c.args.gens.now c.args.steps c.loop-step.answers (answered c)

pub returns-clause-rightly : goal.returns-clause-rightly
returns-clause-rightly c = run_rightly c.every_run_delivers.ensures c.args.gens.now c.args.steps c.loop-step.answers (answered c)

pub returns-clause-report : goal.returns-clause-report
returns-clause-report c = run_told c.every_run_delivers.ensures c.args.gens.now c.args.steps c.loop-step.answers (state_of c.loop-step.world) (answered c) (reached c)

pub returns-clause-processes : goal.returns-clause-processes
returns-clause-processes c = run_processes c.every_run_delivers.ensures c.args.gens.now c.args.steps c.loop-step.answers (answered c)

pub returns-clause-keeps : goal.returns-clause-keeps
returns-clause-keeps c = run_keeps c.every_run_delivers.ensures c.args.gens.now c.args.steps c.loop-step.answers (state_of c.loop-step.world) (answered c) (reached c)

pub returns-clause-each : goal.returns-clause-each
returns-clause-each c = all_counted c.args.gens.now c.loop-step.answers (state_of c.loop-step.world) c.loop-step.steps c.args.steps c.len-total.result c.in_default.ensures.0 c.loop-step.invariant.runs
