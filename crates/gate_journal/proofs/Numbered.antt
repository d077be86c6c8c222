-- The lines of what begins, by one number after another.
use Rattle.std.proofs.Common.{◌≡◌, ◌∙◌, ◌+◌, ◌-◌, ◌<◌, ℕ, suc, List, [], ◌++◌, Option, Some, None, ap, refl, arith, append_assoc}
use Rattle.std.specs.Prelude.{◌==◌, if◌then◌else◌}
use Rattle.std.specs.List.{cons_option, filter_map, find, range_with_len}
use Rattle.std.specs.Option.{option_to_list}
use Rattle.gate_config.specs.declared.config.Config.{Config}
use Rattle.gate_record.specs.declared.ids.Stamp.{Stamp}
use Rattle.gate_items.specs.declared.item.QueueItem.{QueueItem}
use Rattle.gate_items.specs.Machine.{has_set}
use Rattle.gate_journal.specs.Inner.Lines.{begin_lines}
use Rattle.gate_journal.specs.Lines.{begin_line}

module _ (config : Config) (t p : ℕ) (stamp : Option Stamp) (next : ℕ) (items : List QueueItem) where
  abbrev pub lines_from : ℕ → List ℕ
  lines_from set = begin_lines config t p stamp next (filter_map (λ n. find (has_set n) items) (range_with_len set (next - set)))

  abbrev own : QueueItem → List ℕ
  own item = begin_line config t p (if item.set + 1 == next then stamp else None) item

  by_item : (o : Option QueueItem) (rest : List QueueItem) → begin_lines config t p stamp next (option_to_list o) ++ begin_lines config t p stamp next rest ≡ begin_lines config t p stamp next (cons_option o rest)
  by_item None rest = refl
  by_item (Some item) rest = append_assoc (own item) [] (begin_lines config t p stamp next rest)

  pub one_number : (set : ℕ) → set < next → begin_lines config t p stamp next (option_to_list (find (has_set set) items)) ++ lines_from (set + 1) ≡ lines_from set
  one_number set h =
      let more : suc (next - (set + 1)) ≡ next - set = omega (arith, h) in
      by_item (find (has_set set) items) (filter_map (λ n. find (has_set n) items) (range_with_len (set + 1) (next - (set + 1))))
      ∙ ap (λ m. begin_lines config t p stamp next (filter_map (λ n. find (has_set n) items) (range_with_len set m))) more
