use Rattle.std.proofs.Common.{◌∙◌, arith, ap, length, set}
use Rattle.std.proofs.lemmas.List.Edits.{map_over_more}
use Rattle.gate_items.specs.Machine.{record_at}
use Rattle.gate_items.proofs.outcome.recorded.Goals as goal

pub loop-place-preserved : goal.loop-place-preserved
loop-place-preserved c = record {
  items =
      ap (set c.loop-place.jobs.items c.loop-place.place) c.outcome_after-job.ensures
      ∙ map_over_more (record_at c.args.name.now c.args.success) c.args.jobs c.loop-place.jobs.items c.loop-place.place c.index_mut-job.result.now (omega (arith, ap length c.into_vec-jobs.ensures)) c.loop-place.invariant.items c.index_mut-job.ensures.value;
  len = c.loop-place.invariant.len;
}
