use Rattle.std.proofs.Common.{◌∙◌, ap, ap₂}
use Rattle.gate_match.specs.Inner.Batches.{events_in}
use Rattle.gate_match.specs.Inner.Choosing.{listed_in}
use Rattle.gate_match_rules.specs.Marks.{both}
use Rattle.gate_match.proofs.Chosen.{active_is}
use Rattle.gate_match.proofs.program.Program.active.Goals as goal

pub returns-clause-rows : goal.returns-clause-rows
returns-clause-rows c =
    let t = c.args.self.now.tenant.0 in
    let key = c.args.key in
    let batch = c.args.batch.now in
    c.and-2.ensures.value
    ∙ ap₂ both (c.and.ensures.value ∙ ap₂ both c.in_ok-rows.ensures c.in_ok-of_ids.ensures) (c.in_ok-listed.ensures ∙ ap (λ config. listed_in config t key.conn (events_in batch)) c.generation-config.ensures)
    ∙ active_is c.args.self.now.gens.now t key.generation key.conn batch.gens.now batch.conns.now (events_in batch)
