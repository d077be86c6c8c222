use Rattle.std.proofs.Common.{◌∙◌, ◌++◌, ◌∷◌, [], ap, subst, sym, take, true, string_bytes}
use Rattle.std.specs.BTreeSet.{contains_text}
use Rattle.std.proofs.lemmas.List.{take_more}
use Rattle.std.proofs.lemmas.Map.Text.{btree_set_updates_text}
use Rattle.gate_config.specs.Inner.Jobs.{HasAll}
use Rattle.gate_config.proofs.JobLists.{has_one_more}
use Rattle.gate_config.proofs.job_list.set_of.Goals as goal

pub loop-name-init : goal.loop-name-init
loop-name-init c = λ name. ap (λ keys. contains_text (record c.new-set.result { keys = keys }) name) c.new-set.ensures.empty

pub loop-name-preserved : goal.loop-name-preserved
loop-name-preserved c =
    let i = c.loop-name.name-index in
    let names = c.args.names.now in
    subst (λ so_far. HasAll so_far c.insert.new.self) (ap (λ name. take i names ++ name ∷ []) c.name-item.is ∙ sym (take_more names i c.name-item.result c.loop-name-test.true))
    (has_one_more (take i names) c.loop-name.set c.insert.new.self (string_bytes c.in_ok-from_str.field-0) c.name-item.result
    (btree_set_updates_text (string_bytes c.in_ok-from_str.field-0) c.loop-name.set c.insert.new.self true c.in_ok-insert.ensures.updates)
    (c.in_ok-from_str.ensures.ok ∙ c.as_str.ensures) c.loop-name.invariant)
