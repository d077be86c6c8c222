use Rattle.std.proofs.Common.{◌≡◌, ◌∙◌, ◌∷◌, [], ap, arith, sym}
use Rattle.gate_config.specs.Generations.{count_of}
use Rattle.gate_record.specs.declared.transit.ConnEntry.{ConnEntry}
use Rattle.gate_record.specs.declared.transit.ConnEntry.TheVariants as entry
use Rattle.gate_forward.specs.States.{State as ForwardState}
use Rattle.gate_core.specs.Inner.Views.{gens_of_connection, number_of_connection}
use Rattle.gate_core.specs.Views.{connection_view}
use Rattle.gate_core.proofs.Takes.{mark_within, none_left, renewal_taken, when_err, when_ok}
use Rattle.gate_core.proofs.connection.Connection.take.Goals as goal

pub prove-unreachable-requires : goal.prove-unreachable-requires
prove-unreachable-requires c =
    let conn = connection_view c.args.self.now in
    let rest = c.pop_front.new.self.items in
    let front : conn.queue ≡ entry.Renew ∷ rest = c.in-Some-Renew.ensures.items ∙ ap (λ (e : ConnEntry). e ∷ rest) c.in-Some-Renew.field-0-is in
    let later = mark_within conn.generation (count_of (gens_of_connection c.args.self.now)) _ conn.queue rest front c.args.self.now.renewed c.args.self.now.within in
    let last = when_err c.load_renew-loaded.result (sym c.is_ok.ensures.value ∙ c.if-prove.true) c.load_renew-loaded.ensures.last in
    absurd (omega (arith, later, last))

pub returns-in-Some-Renew-clause-does : goal.returns-in-Some-Renew-clause-does
returns-in-Some-Renew-clause-does c =
    let conn = connection_view c.args.self.now in
    let rest = c.pop_front.new.self.items in
    let empty : conn.unsent ≡ [] = none_left conn.unsent (sym c.is_empty.ensures ∙ c.if-not-is_empty.false) in
    let front : conn.queue ≡ entry.Renew ∷ rest = c.in-Some-Renew.ensures.items ∙ ap (λ (e : ConnEntry). e ∷ rest) c.in-Some-Renew.field-0-is in
    let renews = when_ok c.load_renew-loaded.result (sym c.is_ok.ensures.value ∙ c.if-prove.false) c.load_renew-loaded.ensures.renews in
    renewal_taken (gens_of_connection c.args.self.now) (number_of_connection c.args.self.now) conn _ rest empty front
    (ap (λ (state : ForwardState). record conn { queue = rest; generation = state.generation; unsent = state.outbox.items }) renews)
