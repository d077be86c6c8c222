use Rattle.std.proofs.Common.{◌≡◌, drop}
use Rattle.gate_tenant.specs.Dispatching.{marks_after}
use Rattle.gate_tenant.proofs.marks.Marks.after.Given as goal

-- the marks so far, and those of the items that are left
abbrev pub invariant-loop-item : goal.invariant-loop-item
invariant-loop-item l = marks_after (drop l.item-index l.items) l.marks.seen ≡ marks_after l.items l.self.seen
