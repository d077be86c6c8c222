-- The records of a connection beside the generations in force at them: counted as they come, and by the places of the renewals.
use Rattle.std.proofs.Common.{◌≡◌, ◌∙◌, ap, refl, sym, ℕ, suc, ◌+◌, ◌<◌, ◌≤◌, List, [], ◌∷◌, ◌++◌, Bool, true, false, cond, Option, Some, None, map, length, add-zero, arith}
use Rattle.std.specs.Prelude.{◌&&◌, nat_le, option_map, if◌then◌else◌}
use Rattle.std.specs.List.{cons_option, enumerate_from}
use Rattle.std.specs.Option.{option_to_list}
use Rattle.std.proofs.lemmas.Bool.{le-leb, lt-leb}
use Rattle.std.proofs.lemmas.List.Sums.{sum_by-cons}
use Rattle.gate_record.specs.declared.record.Record.{Record}
use Rattle.gate_record.specs.Entries.{generation_at}
use Rattle.gate_core.specs.declared.answer.Answer.{Answer}
use Rattle.gate_core.specs.declared.answer.Answer.TheVariants.{Accepted, Closed, Full, Moved, Idle, Turned, Passed}
use Rattle.gate_core.specs.History.{EachHasItsGeneration, History, accepted_behind, accepted_in, accepted_records, is_accepted, is_moved, is_renew, offered_to, renewals_from, renewed_in}

-- a record with its number, in place of which it gets the generation behind g, where these renewals come behind those of g
abbrev beside_of : ℕ → List ℕ → ℕ × Record → ℕ × Record
beside_of g renewals record' = (g + generation_at renewals record'.0, record'.1)

-- a renewal at a place is counted from that place on
counted : (g n start : ℕ) (renewals : List ℕ) (records : List Record) → n ≤ start →
    map (beside_of g (n ∷ renewals)) (enumerate_from start records) ≡ map (beside_of (suc g) renewals) (enumerate_from start records)
counted g n start renewals [] low = refl
counted g n start renewals (line ∷ records) low =
    let more : generation_at (n ∷ renewals) start ≡ 1 + generation_at renewals start = sum_by-cons (λ r. cond (nat_le r start) 1 0) n renewals ∙ ap (λ b. cond b 1 0 + generation_at renewals start) (le-leb n start low) in
    let one : g + generation_at (n ∷ renewals) start ≡ suc g + generation_at renewals start = omega (arith, more) in
    λ i. (one i, line) ∷ counted g n (start + 1) renewals records (omega (arith, low)) i

-- and no renewal is before its place
not_yet : (b : Bool) (n k : ℕ) (renewals : List ℕ) → n < k → generation_at renewals n ≡ 0 → generation_at ((if b then k ∷ [] else []) ++ renewals) n ≡ 0
not_yet false n k renewals low none = none
not_yet true n k renewals low none =
    let more : generation_at (k ∷ renewals) n ≡ 0 + generation_at renewals n = sum_by-cons (λ r. cond (nat_le r n) 1 0) k renewals ∙ ap (λ b. cond b 1 0 + generation_at renewals n) (lt-leb k n low) in
    omega (arith, more, none)

-- an event renews nothing where it accepts a record
abbrev AreApart : Bool → Option Record → Type 0
AreApart false o = Unit {0}
AreApart true None = Unit {0}
AreApart true (Some line) = ⊥

nothing_accepted : (b : Bool) → AreApart b None
nothing_accepted false = tt {0}
nothing_accepted true = tt {0}

not_moved : (b : Bool) (o : Option Record) → AreApart (b && false) o
not_moved false o = tt {0}
not_moved true o = tt {0}

apart : (b : Bool) (o : Option Record) (answer : Answer) → AreApart (b && is_moved answer) (if is_accepted answer then o else None)
apart b o (Accepted n) = not_moved b o
apart b o Closed = nothing_accepted (b && false)
apart b o Full = nothing_accepted (b && false)
apart b o Moved = nothing_accepted (b && true)
apart b o Idle = nothing_accepted (b && false)
apart b o (Turned stamp action outcome) = nothing_accepted (b && false)
apart b o Passed = nothing_accepted (b && false)

module _ (c : ℕ) where
  none_before : (n k : ℕ) (history : History) → n < k → generation_at (renewals_from c k history) n ≡ 0
  none_before n k [] low = refl
  none_before n k (event ∷ history) low =
      not_yet (renewed_in c event) n k (renewals_from c (k + length (option_to_list (accepted_in c event))) history) low
      (none_before n (k + length (option_to_list (accepted_in c event))) history (omega (arith, low)))

  -- what is true behind an event is true with it
  one_more : (g n : ℕ) (b : Bool) (o : Option Record) (history : History) → AreApart b o →
      ((h m : ℕ) → map (beside_of h (renewals_from c m history)) (enumerate_from m (accepted_records c history)) ≡ accepted_behind c h history) →
      map (beside_of g ((if b then n ∷ [] else []) ++ renewals_from c (n + length (option_to_list o)) history)) (enumerate_from n (cons_option o (accepted_records c history)))
      ≡ cons_option (option_map (λ line. (g, line)) o) (accepted_behind c (if b then suc g else g) history)
  one_more g n false None history one rest = ap (λ m. map (beside_of g (renewals_from c m history)) (enumerate_from n (accepted_records c history))) (add-zero n) ∙ rest g n
  one_more g n false (Some line) history one rest =
      let first : g + generation_at (renewals_from c (n + 1) history) n ≡ g = omega (arith, none_before n (n + 1) history (omega arith)) in
      λ i. (first i, line) ∷ rest g (n + 1) i
  one_more g n true None history one rest =
      ap (λ m. map (beside_of g (n ∷ renewals_from c m history)) (enumerate_from n (accepted_records c history))) (add-zero n)
      ∙ counted g n n (renewals_from c n history) (accepted_records c history) (omega arith)
      ∙ rest (suc g) n
  one_more g n true (Some line) history one rest = absurd one

  by_place : (history : History) (g n : ℕ) → map (beside_of g (renewals_from c n history)) (enumerate_from n (accepted_records c history)) ≡ accepted_behind c g history
  by_place [] g n = refl
  by_place (event ∷ history) g n =
      one_more g n (renewed_in c event) (accepted_in c event) history (apart (is_renew c event.0) (offered_to c event.0) event.1) (λ h m. by_place history h m)

-- nothing is counted before the first event
from_none : (renewals : List ℕ) (records : List Record) (n : ℕ) → map (λ (x : ℕ × Record). (generation_at renewals x.0, x.1)) (enumerate_from n records) ≡ map (beside_of 0 renewals) (enumerate_from n records)
from_none renewals [] n = refl
from_none renewals (line ∷ records) n =
    let one : generation_at renewals n ≡ 0 + generation_at renewals n = omega arith in
    λ i. (one i, line) ∷ from_none renewals records (n + 1) i

pub each_has_its_generation : EachHasItsGeneration
each_has_its_generation c history = sym (by_place c history 0 0) ∙ sym (from_none (renewals_from c 0 history) (accepted_records c history) 0)
