use Rattle.std.proofs.Common.{◌≡◌, ap, subst, sym, arith, [], ◌∷◌, ◌++◌, length}
use Rattle.std.specs.Prelude.{vec_items}
use Rattle.gate_core.specs.Views.{EachAt}
use Rattle.gate_core.proofs.Elements.{lent}
use Rattle.gate_main_command.specs.Inner.Rows.{KnowsAt}
use Rattle.gate_main_command.proofs.Told.{count_more, row_more}
use Rattle.gate_main_command.proofs.pipeline_journals.journals_of.Goals as goal

pub loop-pipeline-preserved : goal.loop-pipeline-preserved
loop-pipeline-preserved c =
    let grown : vec_items c.push.new.self ≡ c.loop-pipeline.journals.items ++ c.new.result ∷ [] = c.in_ok-push.ensures.items in
    let at = lent c.args.pipelines.now c.loop-pipeline.pipeline-index c.pipeline-item.result c.loop-pipeline-test.true c.pipeline-item.is in (
      count_more c.loop-pipeline.journals.items (vec_items c.push.new.self) c.new.result c.loop-pipeline.pipeline-index grown c.loop-pipeline.invariant.0,
      λ config t own. subst (EachAt (KnowsAt config [] t)) (sym grown)
          (row_more config t c.loop-pipeline.pipeline-index c.args.pipelines.now c.pipeline-item.result c.loop-pipeline.journals.items c.new.result own c.loop-pipeline.invariant.0 at c.new.ensures (c.loop-pipeline.invariant.1 config t own)),
    )

pub returns : goal.returns
returns c config t own =
    let all = ap length own in
    (omega (arith, c.loop-pipeline.invariant.0, c.loop-pipeline-test.false, c.loop-pipeline.auto.pipeline-index-end, all), c.loop-pipeline.invariant.1 config t own)
