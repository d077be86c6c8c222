use Rattle.std.proofs.Common.{◌∙◌, ap}
use Rattle.gate_source.specs.Inner.Splitting.{record_left}
use Rattle.gate_source.proofs.Kept.{finishes}
use Rattle.gate_source.proofs.split.LineSplit.finish.Goals as goal

pub returns : goal.returns
returns c = finishes c.args.self c.left.result (c.left.ensures ∙ ap record_left c.self.view_is)
