-- The rows to which an approval is given, by its number in the cells.
use Rattle.std.proofs.Common.{◌≡◌, ◌∙◌, refl, sym, ap₂, ℕ, ℤ, ◌&&◌, ◌||◌, List, [], ◌∷◌, Some, map, length}
use Rattle.std.specs.List.{list_any, range_with_len}
use Rattle.std.specs.Ordering.{int_eq}
use Rattle.std.specs.Str.{bytes_eq}
use Rattle.std.proofs.lemmas.Bool.Decides.{Decides-int_eq, Decides-like, same_from_decides}
use Rattle.std.proofs.lemmas.Slice.Eq.{bytes_eq-Decides}
use Rattle.gate_record.specs.declared.event.Event.{Event}
use Rattle.gate_rule.specs.Rule.{is_given}
use Rattle.gate_lanes.specs.Masks.{is_in_row}
use Rattle.gate_intern.specs.Columns.{approval_cells_of, approvals_of, is_same_vote, number_among}
use Rattle.gate_intern.specs.Marks.{ApprovalsMarkTheirEvents}
use Rattle.gate_match_rules.specs.Narrowing.{given_to}
use Rattle.gate_match_rules.proofs.Masks.{marked_alike}
use Rattle.gate_match_rules.proofs.Rows.{map_alike}

same_bytes : (xs ys : List ℕ) → bytes_eq xs ys ≡ bytes_eq ys xs
same_bytes xs ys = same_from_decides (bytes_eq xs ys) (bytes_eq ys xs) (bytes_eq-Decides xs ys) (Decides-like (bytes_eq ys xs) (λ e. sym e) (λ e. sym e) (bytes_eq-Decides ys xs))

same_numbers : (x y : ℤ) → int_eq x y ≡ int_eq y x
same_numbers x y = same_from_decides (int_eq x y) (int_eq y x) (Decides-int_eq x y) (Decides-like (int_eq y x) (λ e. sym e) (λ e. sym e) (Decides-int_eq y x))

given_alike : (wanted : List ℕ × ℤ) (approvals : List (List ℕ × ℤ)) → list_any (is_same_vote wanted) approvals ≡ is_given wanted approvals
given_alike wanted [] = refl
given_alike wanted (vote ∷ votes) = ap₂ ◌||◌ (ap₂ ◌&&◌ (same_bytes wanted.0 vote.0) (same_numbers wanted.1 vote.1)) (given_alike wanted votes)

-- the rows that have the number of an approval in a cell are the events to which it is given
pub given_is : ApprovalsMarkTheirEvents → (events : List Event) (wanted : List ℕ × ℤ) →
    map (is_in_row (approval_cells_of events) (length events) (number_among is_same_vote (approvals_of events) (Some wanted))) (range_with_len 0 (length events)) ≡ given_to wanted events
given_is law events wanted =
    let number = number_among is_same_vote (approvals_of events) (Some wanted) in
    let has = λ (event : Event). list_any (is_same_vote wanted) event.approvals in
    marked_alike (is_in_row (approval_cells_of events) (length events) number) has (range_with_len 0 (length events)) events (law events wanted)
    ∙ map_alike has (λ event. is_given wanted event.approvals) events (λ event. given_alike wanted event.approvals)
