use Rattle.std.proofs.Common.{◌∙◌, ap, ◌++◌, ◌∷◌, []}
use Rattle.std.specs.Global.{Vec}
use Rattle.gate_run_reader.specs.declared.running.Renewal.{Renewal}
use Rattle.gate_run_reader.proofs.Readings.{reading_renews}
use Rattle.gate_run_reader.proofs.running.RunningReader.renew.Goals as goal

pub returns-in-Put-clause-continues : goal.returns-in-Put-clause-continues
returns-in-Put-clause-continues g c = λ cells next told told' tail was.
    reading_renews (record { note = c.args.note; accepted = c.count-accepted.result }) was next c.in-Put.ensures.marks.0 c.in-Put.ensures.marks.1 c.count-accepted.ensures
    (c.push_reserved.ensures.items ∙ ap (λ xs. xs ++ record { note = c.args.note; accepted = c.count-accepted.result } ∷ []) (ap (λ (v : Vec Renewal). v.items) c.in-Put.ensures.renewals ∙ c.in-Ok.ensures.items))
