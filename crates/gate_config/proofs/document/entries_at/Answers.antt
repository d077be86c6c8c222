use Rattle.std.proofs.Common.{refl}
use Rattle.gate_config.proofs.Picked.{picked_some, picked_none, nothing}
use Rattle.gate_config.proofs.document.entries_at.Goals.{in-Some+in_ok-push, in_default}
use Rattle.gate_config.specs.Parts.{optional}
use Rattle.gate_config.proofs.document.entries_at.Goals as goal

pub loop-position-preserved : goal.loop-position-preserved
loop-position-preserved c =
    elim c.match-member.branch [
      | in-Some+in_ok-push w ↦
          rw (w.entries-is, w.in_ok-push.ensures.items)
          (picked_some (optional c.args.key.now) c.args.items.now c.loop-position.position c.index-items-position.result c.loop-position.entries.items _
          c.loop-position-test.true c.index-items-position.is c.loop-position.invariant refl w.in-Some.ensures)
      | in_default w ↦
          rw w.entries-is
          (picked_none (optional c.args.key.now) c.args.items.now c.loop-position.position c.index-items-position.result c.loop-position.entries.items
          c.loop-position-test.true c.index-items-position.is c.loop-position.invariant (nothing _ _ _ c.member.ensures w.in_default.not-Some))
    ]
