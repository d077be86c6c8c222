use Rattle.std.proofs.Common.{◌≡◌, ◌∙◌, ◌-◌, ap, append-nil, append_assoc, arith, sym, ℕ, suc, ◌+◌, List, ◌++◌, string_bytes}
use Rattle.std.specs.List.{flat_map, range_with_len}
use Rattle.gate_config.specs.CheckText.{check_text}
use Rattle.gate_config.specs.Generations.{config_at, count_of}
use Rattle.gate_main_command.proofs.checking.text_of.Goals as goal

pub loop-g-preserved : goal.loop-g-preserved
loop-g-preserved c =
    let text : ℕ → List ℕ = λ g. check_text (config_at c.args.gens.now g) in
    let rest = flat_map text (range_with_len (c.loop-g.g + 1) (count_of c.args.gens.now - (c.loop-g.g + 1))) in
    let said : c.as_str.result.now ≡ text c.loop-g.g = c.as_str.ensures.value ∙ c.in_ok-said.ensures ∙ ap check_text c.generation.ensures in
    let left : count_of c.args.gens.now - c.loop-g.g ≡ suc (count_of c.args.gens.now - (c.loop-g.g + 1)) = omega (arith, c.loop-g-test.true, c.count-g-end.ensures) in
    ap (λ bytes. bytes ++ rest) (c.in_ok-push_str.ensures.bytes ∙ ap (λ bytes. string_bytes c.loop-g.text ++ bytes) said)
    ∙ append_assoc (string_bytes c.loop-g.text) (text c.loop-g.g) rest
    ∙ ap (λ n. string_bytes c.loop-g.text ++ flat_map text (range_with_len c.loop-g.g n)) (sym left)
    ∙ c.loop-g.invariant

pub returns : goal.returns
returns c =
    let none : count_of c.args.gens.now - c.loop-g.g ≡ 0 = omega (arith, c.loop-g-test.false, c.count-g-end.ensures) in
    sym (append-nil (string_bytes c.loop-g.text))
    ∙ ap (λ n. string_bytes c.loop-g.text ++ flat_map (λ g. check_text (config_at c.args.gens.now g)) (range_with_len c.loop-g.g n)) (sym none)
    ∙ c.loop-g.invariant
