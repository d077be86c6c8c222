use Rattle.std.proofs.Common.{◌≡◌, ◌++◌, ◌+◌, map, drop}
use Rattle.gate_match_rules.specs.Finding.{texts_of}
use Rattle.gate_intern.specs.Marks.{numbers_from, numbers_where}
use Rattle.gate_match_rules.specs.Finding.{HoldsOfEntry, entry_meets}
use Rattle.gate_match_rules.proofs.kept.Kept.ids.Given as goal

-- what was found, and what will be found of the texts that are left, is all that is to be found
abbrev pub invariant-loop-text : goal.invariant-loop-text
invariant-loop-text l = record {
  same : l.self.pattern ≡ l.fn.self.pattern;
  met : HoldsOfEntry (texts_of l.entry) (λ one.
      l.ids.items ++ numbers_from (l.id + 1) (entry_meets l.reach one) (map (λ text. text.now) (drop l.text-index l.texts))
      ≡ numbers_where (entry_meets l.reach one) (map (λ text. text.now) l.texts));
}
