use Rattle.std.proofs.Common.{◌∙◌, sym}
use Rattle.gate_lanes.proofs.Chosen.{of_the_second}
use Rattle.gate_lanes.specs.Masks.{is_among, mark_if}
use Rattle.gate_lanes.proofs.ids.mark_any.Goals as goal

pub returns : goal.returns
returns c = c.join_all.ensures ∙ sym (of_the_second (λ word. mark_if (is_among c.args.ids.now word)) _ _ c.requires)
