use Rattle.std.proofs.Common.{◌≡◌, ◌+◌, subst}
use Rattle.std.specs.Prelude.{IfOk}
use Rattle.std.specs.List.{position_or_len}
use Rattle.gate_intern.proofs.Seen.{place_by}
use Rattle.gate_intern.proofs.numbers.number_of.Goals as goal

pub returns : goal.returns
returns g c =
    let keys = c.args.keys.now.keys in
    let test = g.K.PartialEq.eq c.args.key.now in
    let e : c.unwrap_or.result ≡ position_or_len test keys =
    place_by test keys c.get_index_of.result c.len.result c.unwrap_or.result c.unwrap_or.ensures c.get_index_of.ensures.index c.len.ensures.len in
    subst (λ p. IfOk c.number_at.result (λ n. n ≡ p + 1)) e c.number_at.ensures
