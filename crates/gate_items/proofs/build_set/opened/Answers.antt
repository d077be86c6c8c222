use Rattle.std.proofs.Common.{arith, ap, length}
use Rattle.std.proofs.lemmas.List.Edits.{map_over_more}
use Rattle.gate_items.specs.Machine.{open_job}
use Rattle.gate_items.proofs.build_set.opened.Goals as goal

pub loop-place-preserved : goal.loop-place-preserved
loop-place-preserved c = record {
  items = map_over_more open_job c.args.jobs c.loop-place.jobs.items c.loop-place.place c.index_mut-job.result.now (omega (arith, ap length c.into_vec-jobs.ensures)) c.loop-place.invariant.items c.index_mut-job.ensures.value;
  len = c.loop-place.invariant.len;
}
