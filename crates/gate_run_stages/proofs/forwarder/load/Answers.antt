use Rattle.std.proofs.Common.{◌≡◌, ◌∙◌, sym, ap, subst, ℕ}
use Rattle.gate_record.specs.declared.transit.ConnEntry.{ConnEntry}
use Rattle.gate_config.specs.declared.generations.Generations.{Generations}
use Rattle.gate_forward.specs.States.{State, conn_of, gens_of, state_of}
use Rattle.gate_run_stages.specs.Inner.Forwarders.{HasGeneration, after}
use Rattle.gate_run_stages.proofs.forwarder.load.Goals as goal

loaded : (gens : Generations) (conn : ℕ) (state : State) {e e' : ConnEntry} {now : State} → e ≡ e' → now ≡ after gens conn e' state → now ≡ after gens conn e state
loaded gens conn state is loads = loads ∙ ap (λ (x : ConnEntry). after gens conn x state) (sym is)

has_one : (gens : Generations) (state : State) {e e' : ConnEntry} → e ≡ e' → HasGeneration gens e' state → HasGeneration gens e state
has_one gens state is there = subst (λ (x : ConnEntry). HasGeneration gens x state) (sym is) there

pub returns-in-Ok-clause-loads : goal.returns-in-Ok-clause-loads
returns-in-Ok-clause-loads c = loaded (gens_of c.args.forward.now) (conn_of c.args.forward.now) (state_of c.args.forward.now) c.in-Numbered.is c.in-Ok.ensures.loads

pub returns-in-Ok-clause-later : goal.returns-in-Ok-clause-later
returns-in-Ok-clause-later c = has_one (gens_of c.args.forward.now) (state_of c.args.forward.now) c.in-Numbered.is tt

pub returns-in-Ok-load_renew-clause-loads : goal.returns-in-Ok-load_renew-clause-loads
returns-in-Ok-load_renew-clause-loads c = loaded (gens_of c.args.forward.now) (conn_of c.args.forward.now) (state_of c.args.forward.now) c.in-Renew.is c.in-Ok-load_renew.ensures.renews

pub returns-in-Ok-load_renew-clause-later : goal.returns-in-Ok-load_renew-clause-later
returns-in-Ok-load_renew-clause-later c = has_one (gens_of c.args.forward.now) (state_of c.args.forward.now) c.in-Renew.is c.in-Ok-load_renew.ensures.later

pub returns-in-End-clause-loads : goal.returns-in-End-clause-loads
returns-in-End-clause-loads c = loaded (gens_of c.args.forward.now) (conn_of c.args.forward.now) (state_of c.args.forward.now) c.in-End.is c.load_end.ensures.loads

pub returns-in-End-clause-later : goal.returns-in-End-clause-later
returns-in-End-clause-later c = has_one (gens_of c.args.forward.now) (state_of c.args.forward.now) c.in-End.is tt
