use Rattle.std.proofs.Common.{◌∙◌, ◌<◌, ◌+◌, ◌++◌, ap, append_assoc, arith, string_bytes}
use Rattle.std.specs.List.{find}
use Rattle.std.specs.Option.{option_to_list}
use Rattle.gate_items.specs.Machine.{has_set}
use Rattle.gate_journal.specs.Inner.Lines.{begin_lines}
use Rattle.gate_journal.proofs.Numbered.{lines_from, one_number}
use Rattle.gate_journal.proofs.begun.push_begun.Goals as goal

pub loop-set-preserved : goal.loop-set-preserved
loop-set-preserved c =
    let items = c.args.items.now in
    let written = string_bytes c.loop-set.out in
    let one = begin_lines c.args.place.now.config.now c.args.place.now.tenant.0 c.args.place.now.pipeline.0 c.args.stamp items.next (option_to_list (find (has_set c.loop-set.set) items.items)) in
    let left = lines_from c.args.place.now.config.now c.args.place.now.tenant.0 c.args.place.now.pipeline.0 c.args.stamp items.next items.items (c.loop-set.set + 1) in
    let below : c.loop-set.set < items.next = omega (arith, c.loop-set-test.true, c.next_set-next.ensures) in
    ap (λ xs. xs ++ left) c.in_ok-push_item.ensures ∙ append_assoc written one left
    ∙ ap (λ xs. written ++ xs) (one_number c.args.place.now.config.now c.args.place.now.tenant.0 c.args.place.now.pipeline.0 c.args.stamp items.next items.items c.loop-set.set below)
    ∙ c.loop-set.invariant
