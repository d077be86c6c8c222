use Rattle.std.proofs.Common.{◌≡◌, true, false, None, arith}
use Rattle.std.specs.Str.{bytes_eq}
use Rattle.gate_record.proofs.Found.{finds}
use Rattle.gate_record.proofs.Several.{all_seen, first_seen, none_found, none_seen, second_seen, start_seen, third_seen}
use Rattle.gate_record.proofs.members.three_members.Goals as goal

pub returns-in_default-clause-first : goal.returns-in_default-clause-first
returns-in_default-clause-first c value begins = finds c.args.first.now c.args.outer.now value None (λ j b. none_found c.args.first.now j (c.in_default.ensures j b)) begins

pub returns-in_default-clause-second : goal.returns-in_default-clause-second
returns-in_default-clause-second c value begins = finds c.args.second.now c.args.outer.now value None (λ j b. none_found c.args.second.now j (c.in_default.ensures j b)) begins

pub returns-in_default-clause-third : goal.returns-in_default-clause-third
returns-in_default-clause-third c value begins = finds c.args.third.now c.args.outer.now value None (λ j b. none_found c.args.third.now j (c.in_default.ensures j b)) begins

pub loop-key-init : goal.loop-key-init
loop-key-init c = start_seen c.in-Some.ensures

pub loop-key-preserved-then-eq : goal.loop-key-preserved-then-eq
loop-key-preserved-then-eq c =
    let same : bytes_eq c.in-Some-next.key.now c.args.first.now ≡ true = grind arith in
    first_seen _ _ _ c.in-Some-next.ensures.value c.loop-key.invariant same c.requires.0 c.requires.2

pub loop-key-preserved-then-eq-2 : goal.loop-key-preserved-then-eq-2
loop-key-preserved-then-eq-2 c =
    let not_first : bytes_eq c.in-Some-next.key.now c.args.first.now ≡ false = grind arith in
    let same : bytes_eq c.in-Some-next.key.now c.args.second.now ≡ true = grind arith in
    second_seen _ _ _ c.in-Some-next.ensures.value c.loop-key.invariant not_first same c.requires.1

pub loop-key-preserved-then-eq-3 : goal.loop-key-preserved-then-eq-3
loop-key-preserved-then-eq-3 c =
    let not_first : bytes_eq c.in-Some-next.key.now c.args.first.now ≡ false = grind arith in
    let not_second : bytes_eq c.in-Some-next.key.now c.args.second.now ≡ false = grind arith in
    let same : bytes_eq c.in-Some-next.key.now c.args.third.now ≡ true = grind arith in
    third_seen _ _ _ c.in-Some-next.ensures.value c.loop-key.invariant not_first not_second same

pub loop-key-preserved : goal.loop-key-preserved
loop-key-preserved c =
    let not_first : bytes_eq c.in-Some-next.key.now c.args.first.now ≡ false = grind arith in
    let not_second : bytes_eq c.in-Some-next.key.now c.args.second.now ≡ false = grind arith in
    let not_third : bytes_eq c.in-Some-next.key.now c.args.third.now ≡ false = grind arith in
    none_seen _ _ _ c.in-Some-next.ensures.value c.loop-key.invariant not_first not_second not_third

pub returns-clause-first : goal.returns-clause-first
returns-clause-first c value begins =
    finds c.args.first.now c.args.outer.now value c.loop-key.at_first (λ j b. (all_seen c.next.new.self c.in_default-next.ensures.value c.loop-key.invariant j b).0) begins

pub returns-clause-second : goal.returns-clause-second
returns-clause-second c value begins =
    finds c.args.second.now c.args.outer.now value c.loop-key.at_second (λ j b. (all_seen c.next.new.self c.in_default-next.ensures.value c.loop-key.invariant j b).1) begins

pub returns-clause-third : goal.returns-clause-third
returns-clause-third c value begins =
    finds c.args.third.now c.args.outer.now value c.loop-key.at_third (λ j b. (all_seen c.next.new.self c.in_default-next.ensures.value c.loop-key.invariant j b).2) begins
