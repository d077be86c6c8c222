use Rattle.std.proofs.Common.{arith}
use Rattle.gate_items.proofs.Renewal.{renew_step}
use Rattle.gate_items.proofs.build_set.renew_from.Goals as goal

pub loop-place-preserved : goal.loop-place-preserved
loop-place-preserved c = record {
  items = renew_step c.args.items.now.items c.args.from c.loop-place.place c.args.next c.loop-place.set (omega arith) (omega arith) c.loop-place.invariant.set c.loop-place.items.items c.renew_at.new.items.items c.loop-place.invariant.items c.renew_at.ensures.items;
  set = omega (arith, c.loop-place.invariant.set);
  len = omega (arith, c.loop-place.invariant.len, c.renew_at.ensures.len);
}
