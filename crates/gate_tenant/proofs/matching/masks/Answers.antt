use Rattle.std.proofs.Common.{◌≡◌, ◌∙◌, sym, ap, arith, length}
use Rattle.std.specs.List.{zip}
use Rattle.gate_tenant.specs.Inner.Batches.{rows_of}
use Rattle.gate_tenant.proofs.Batches.{as_many, as_many_gens, few_rows, rows_zip}
use Rattle.gate_tenant.proofs.matching.masks.Goals as goal

pub select-requires-clause-few : goal.select-requires-clause-few
select-requires-clause-few c =
    let few = c.requires in
    let rows = few_rows c.args.gathered.now in
    let events = ap length c.in_ok-batch.ensures.events in
    omega (arith, few, rows, events)

pub select-requires-clause-gens : goal.select-requires-clause-gens
select-requires-clause-gens c =
    ap length c.in_ok-batch.ensures.gens ∙ as_many_gens c.args.gathered.now ∙ sym (ap length c.in_ok-batch.ensures.events)

pub select-requires-clause-conns : goal.select-requires-clause-conns
select-requires-clause-conns c =
    ap length c.in_ok-batch.ensures.conns ∙ as_many c.args.gathered.now ∙ sym (ap length c.in_ok-batch.ensures.events)

pub returns : goal.returns
returns c =
    let rows : _ ≡ rows_of c.args.gathered.now = (λ j. zip (zip (c.in_ok-batch.ensures.gens j) (c.in_ok-batch.ensures.conns j)) (c.in_ok-batch.ensures.events j)) ∙ rows_zip c.args.gathered.now in
    rw rows at c.select.ensures
