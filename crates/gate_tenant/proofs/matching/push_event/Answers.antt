use Rattle.std.proofs.Common.{◌∙◌, ◌++◌, ap, map}
use Rattle.std.specs.Option.{option_to_list}
use Rattle.gate_tenant.specs.Inner.Batches.{marked_item}
use Rattle.gate_tenant.proofs.Ranges.{one_more_behind}
use Rattle.gate_tenant.proofs.matching.push_event.Goals as goal

pub loop-pipeline-preserved : goal.loop-pipeline-preserved
loop-pipeline-preserved c =
    let gets = marked_item (map (λ mask. mask.items) c.args.masks.now) c.args.row c.args.stamped.now in
    c.in_ok-push_marked.ensures ∙ ap (λ items. items ++ option_to_list (gets c.loop-pipeline.pipeline)) c.loop-pipeline.invariant
    ∙ one_more_behind gets c.args.items.now.items c.loop-pipeline.pipeline
