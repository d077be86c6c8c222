use Rattle.std.proofs.Common.{◌≡◌, ◌∙◌, ◌++◌, ◌∷◌, [], ap, subst, sym, take, true, string_bytes}
use Rattle.std.proofs.lemmas.List.{take_all, take_more}
use Rattle.gate_config.specs.Inner.Filters.{passes}
use Rattle.gate_config.proofs.Filters.{HavePassed, none_passed, one_passed}
use Rattle.gate_config.proofs.project_set.filter_of.Goals as goal

pub loop-name-init : goal.loop-name-init
loop-name-init c = none_passed c.none-filter.result

pub loop-name-preserved : goal.loop-name-preserved
loop-name-preserved c =
    let i = c.loop-name.name-index in
    let names = c.args.names.now in
    let added : passes c.add.new.self (string_bytes c.name-item.result) ≡ true = ap (passes c.add.new.self) (sym c.as_str.ensures.value) ∙ c.add.ensures.added in
    subst (λ so_far. HavePassed so_far c.add.new.self) (ap (λ name. take i names ++ name ∷ []) c.name-item.is ∙ sym (take_more names i c.name-item.result c.loop-name-test.true))
    (one_passed (take i names) c.name-item.result c.loop-name.filter c.add.new.self added c.add.ensures.kept c.loop-name.invariant)

pub returns : goal.returns
returns c = (subst (λ so_far. HavePassed so_far c.loop-name.filter) (take_all c.loop-name.name-index c.args.names.now c.loop-name-test.false) c.loop-name.invariant).each
