use Rattle.std.proofs.Common.{sym, subst}
use Rattle.gate_run_stages.specs.Inner.Stages.{with_sent}
use Rattle.gate_run_stages.proofs.Stages.{put_one, put_same}
use Rattle.gate_run_stages.proofs.stage.Running.hand_on.Goals as goal

pub returns-in-Ok-clause-runs : goal.returns-in-Ok-clause-runs
returns-in-Ok-clause-runs g c first out = record {
  sent = with_sent c.args.number c.args.item out.sent;
  stage = c.sent.ensures.sends first out.sent c.args.item out.stage;
  put = put_one _ _ c.args.number c.args.item out.put c.in-Ok.ensures.puts;
}

pub returns-in-Err-clause-runs : goal.returns-in-Err-clause-runs
returns-in-Err-clause-runs g c first out =
    let refused = c.in-Err.ensures.refused in
    record {
      sent = out.sent;
      stage = c.unsent.ensures first out.sent c.args.number (subst (λ item. g.S.Stage.has_out first c.args.self.now.stage out.sent c.args.number item) (sym refused.0) out.stage);
      put = put_same _ _ refused.1 out.put;
    }
