use Rattle.std.proofs.Common.{subst, sym, true, string_bytes}
use Rattle.std.proofs.lemmas.Map.Text.{btree_set_updates_text}
use Rattle.gate_config.specs.Inner.Jobs.{AreSeen, HasAll}
use Rattle.gate_config.proofs.JobLists.{has_one_more}
use Rattle.gate_config.proofs.job_list.seen_behind.Goals as goal

pub returns-in_ok-insert-in-Some : goal.returns-in_ok-insert-in-Some
returns-in_ok-insert-in-Some c before was all =
    let key = c.in_ok-from_str-in-Some.field-0 in
    subst (λ names. HasAll names c.insert.new.self) (sym all)
    (has_one_more before c.in-Some.seen c.insert.new.self (string_bytes key) c.args.name.now
    (btree_set_updates_text (string_bytes key) c.in-Some.seen c.insert.new.self true c.in_ok-insert-in-Some.ensures.updates)
    c.in_ok-from_str-in-Some.ensures.ok (subst (AreSeen before) c.in-Some.is was))
