use Rattle.std.proofs.Common.{◌∙◌, sym}
use Rattle.gate_lanes.proofs.Chosen.{of_the_second}
use Rattle.gate_lanes.specs.Masks.{is_among, mark_if}
use Rattle.gate_lanes.proofs.ids.AmongJoin.group.Goals as goal

pub returns : goal.returns
returns c = c.group_among.ensures ∙ of_the_second (λ word. mark_if (is_among c.args.self.now.ids.now word)) _ _ (c.fits-_words.0 ∙ sym c.fits-column.0)
