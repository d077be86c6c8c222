use Rattle.std.proofs.Common.{◌∙◌, map, string_bytes}
use Rattle.serde_json.specs.View.{view}
use Rattle.gate_config.proofs.Listed.{named_more}
use Rattle.gate_config.specs.Document.{name_in}
use Rattle.gate_config.proofs.projects.push_group.Goals as goal

pub loop-item-preserved : goal.loop-item-preserved
loop-item-preserved c =
    c.in_ok-push_named.ensures
    ∙ named_more name_in view (map string_bytes c.args.names.now.items) (map string_bytes c.loop-item.names.items) c.args.items.now c.loop-item.item-index c.item-item.result
    c.loop-item-test.true c.item-item.is c.loop-item.invariant
