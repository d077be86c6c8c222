use Rattle.gate_config.proofs.Keyed.{if_found}
use Rattle.gate_config.proofs.pattern_table.PatternTable.find.Goals as goal

pub returns : goal.returns
returns c = if_found c.get.result c.args.self.now.patterns.entries c.args.text.now c.args.self.now.keyed c.get.ensures.value
