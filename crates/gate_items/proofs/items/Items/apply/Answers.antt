use Rattle.gate_items.proofs.Histories.{gone_by, late_by, rises_by}
use Rattle.gate_items.proofs.items.Items.apply.Goals as goal

pub returns-clause-rises : goal.returns-clause-rises
returns-clause-rises c = rises_by c.args.self.now c.carry_out.new.self c.args.action.now c.carry_out.result c.carry_out.ensures.does

pub returns-clause-gone : goal.returns-clause-gone
returns-clause-gone c = gone_by c.args.self.now c.carry_out.new.self c.args.action.now c.carry_out.result c.carry_out.ensures.does

pub returns-clause-late : goal.returns-clause-late
returns-clause-late c = late_by c.args.self.now c.carry_out.new.self c.args.action.now c.carry_out.result c.carry_out.ensures.does
