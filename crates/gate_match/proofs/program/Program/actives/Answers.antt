use Rattle.std.proofs.Common.{◌≡◌, ◌<◌, ◌≤◌, sym, subst, true, length, arith}
use Rattle.std.proofs.lemmas.List.{take_all}
use Rattle.std.proofs.lemmas.Slice.Zip.{get_or-zip}
use Rattle.gate_match.specs.Inner.Batches.{events_in, keys_in}
use Rattle.gate_match.specs.Inner.Choosing.{has_all, is_key_of}
use Rattle.gate_match.proofs.Chosen.{all_more, keys_length}
use Rattle.gate_match.proofs.program.Program.actives.Goals as goal

pub loop-row-preserved : goal.loop-row-preserved
loop-row-preserved c =
    let batch = c.args.batch.now in
    let gens = batch.gens.now in
    let conns = batch.conns.now in
    let row = c.loop-row.row in
    let all = keys_length gens conns (length (events_in batch)) batch.each_gen batch.each_conn in
    let few : row < length conns = c.loop-row-test.true in
    let of_gens : row < length gens = omega (arith, few, batch.each_gen, batch.each_conn) in
    let of_keys : row < length (keys_in batch) = omega (arith, few, all, batch.each_conn) in
    record {
      active = c.in_ok-add_active.ensures.active;
      all = all_more c.loop-row.actives.items c.add_active.new.actives.items (keys_in batch) row of_keys c.loop-row.invariant.all c.in_ok-add_active.ensures.keeps
          (subst (λ key. is_key_of c.add_active.new.actives.items key ≡ true) (sym (get_or-zip gens conns row (0, 0) of_gens few)) c.in_ok-add_active.ensures.has);
    }

pub returns-clause-all : goal.returns-clause-all
returns-clause-all c =
    let batch = c.args.batch.now in
    let keys = keys_in batch in
    let all = keys_length batch.gens.now batch.conns.now (length (events_in batch)) batch.each_gen batch.each_conn in
    let past : length keys ≤ c.loop-row.row = omega (arith, c.loop-row-test.false, all, batch.each_conn) in
    subst (λ some. has_all c.loop-row.actives.items some ≡ true) (take_all c.loop-row.row keys past) c.loop-row.invariant.all
