use Rattle.std.proofs.Common.{◌∙◌, sym}
use Rattle.gate_intern.proofs.Pushed.{pushed_none, pushed_some}
use Rattle.gate_intern.proofs.column.Column.push.Goals as goal

pub returns-in_default : goal.returns-in_default
returns-in_default c events is =
    pushed_none c.args.field events c.args.event.now c.self.inside.texts.keys c.self.inside.numbers.items (c.self.view_is ∙ is)
    c.push.new.self.items (sym c.in_default.ensures) c.in_ok-push.ensures.items

pub returns : goal.returns
returns c events is =
    pushed_some c.args.field events c.args.event.now c.self.inside.texts.keys c.self.inside.numbers.items (c.self.view_is ∙ is)
    c.in-Some.text c.number.new.keys.keys c.in_ok-number.number c.push-2.new.self.items
    (sym c.in-Some.ensures) c.in_ok-number.ensures.keys c.in_ok-number.ensures.number c.in_ok-push-2.ensures.items
