use Rattle.std.proofs.Common.{rules, ◌≡◌, length, true, is_some, Some}
use Rattle.std.specs.Prelude.{slice_get}
use Rattle.gate_run_posts.proofs.Asking.{known_pushed}
use Rattle.gate_run_posts.proofs.asked.Asked.renew.Goals as goal

pub invariant_of-self-2 : goal.invariant_of-self-2
invariant_of-self-2 c =
    let next : slice_get c.self.inside.cells (length c.self.inside.known.items) ≡ Some c.request.new.note.cell = search rules in
    let knows : is_some c.request.new.note.cause ≡ true = search rules in
    (c.self.invariant.0, c.self.invariant.1, c.self.invariant.2, known_pushed c.self.inside.cells c.self.inside.known.items c.push_reserved.new.self.items c.request.new.note c.self.invariant.3 next knows (search rules))
