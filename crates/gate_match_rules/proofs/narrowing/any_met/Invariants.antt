use Rattle.std.proofs.Common.{◌≡◌, map, take}
use Rattle.std.specs.List.{list_any}
use Rattle.gate_intern.specs.Columns.{field_of}
use Rattle.gate_intern.specs.Marks.{passes}
use Rattle.gate_match_rules.specs.Finding.{entry_meets, reach_of}
use Rattle.gate_match_rules.specs.Knowing.{AreRight}
use Rattle.gate_match_rules.proofs.narrowing.any_met.Given as goal

-- what is known stays right, and the rows are those of the patterns so far
abbrev pub invariant-loop-one : goal.invariant-loop-one
invariant-loop-one l = record {
  right : AreRight l.search.columns.now l.answers;
  met : l.met ≡ map (λ event. list_any (λ one. passes (entry_meets (reach_of l.field) one.entry.now) (field_of l.field event)) (take l.one-index l.asked)) l.search.columns.now;
}
