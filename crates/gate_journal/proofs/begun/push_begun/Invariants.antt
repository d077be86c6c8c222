use Rattle.std.proofs.Common.{◌≡◌, ◌-◌, ◌++◌, string_bytes}
use Rattle.std.specs.List.{filter_map, find, range_with_len}
use Rattle.gate_items.specs.Machine.{has_set}
use Rattle.gate_journal.specs.Inner.Lines.{begin_lines}
use Rattle.gate_journal.proofs.begun.push_begun.Given as goal

-- what is written and the lines of the numbers that are left make the whole
abbrev pub invariant-loop-set : goal.invariant-loop-set
invariant-loop-set l =
    string_bytes l.out ++ begin_lines l.place.config.now l.place.tenant.0 l.place.pipeline.0 l.stamp l.items.next (filter_map (λ set. find (has_set set) l.items.items) (range_with_len l.set (l.items.next - l.set)))
    ≡ string_bytes l.fn.out ++ begin_lines l.place.config.now l.place.tenant.0 l.place.pipeline.0 l.stamp l.items.next (filter_map (λ set. find (has_set set) l.items.items) (range_with_len l.fn.from (l.items.next - l.fn.from)))

abbrev pub decreases-loop-set : goal.decreases-loop-set
decreases-loop-set l = l.items.next - l.set
