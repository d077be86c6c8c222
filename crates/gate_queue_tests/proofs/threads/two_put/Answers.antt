-- Both seats came back with what was put.
use Rattle.std.proofs.Common.{◌≡◌, ℕ, List, [], ◌∷◌, ◌++◌, ap, ◌∙◌, subst, arith}
use Rattle.std.specs.Prelude.{All}
use Rattle.gate_queue.specs.declared.tagged.Tagged.{Tagged}
use Rattle.gate_queue.specs.Seats.{SenderSeat}
use Rattle.gate_queue.specs.States.{IsDelivered}
use Rattle.gate_queue_tests.proofs.threads.two_put.Goals as goal

-- what each of two settled seats tells, by the seat's number and by what was put
told : (taken rest : List (Tagged ℕ)) (tails : List (SenderSeat ℕ)) (a b : SenderSeat ℕ) → tails ≡ a ∷ b ∷ [] → All (λ t. IsDelivered taken rest t.sender t.put) tails
    → IsDelivered taken rest a.sender a.put × IsDelivered taken rest b.sender b.put
told taken rest tails a b are all = let here = subst (All (λ (t : SenderSeat ℕ). IsDelivered taken rest t.sender t.put)) are all in (here 0 a (omega arith), here 1 a (omega arith))

at_seat : (before taken rest : List (Tagged ℕ)) (a old : SenderSeat ℕ) (s : ℕ) (put : List ℕ) → before ≡ taken → a.sender ≡ old.sender → old.sender ≡ s → a.put ≡ old.put ++ put → old.put ≡ []
    → IsDelivered before rest a.sender a.put → IsDelivered taken rest s put
at_seat before taken rest a old s put same number first grown none h =
    subst (λ (y : List (Tagged ℕ) × ℕ × List ℕ). IsDelivered y.0 rest y.1 y.2) (λ i. (same i, (number ∙ first) i, (grown ∙ ap (λ l. l ++ put) none) i)) h

pub returns-in-Ok-clause-first : goal.returns-in-Ok-clause-first
returns-in-Ok-clause-first g c =
    let both = c.exchange-first.ensures in
    let new = c.in_ok-queue.ensures in
    at_seat _ _ _ c.exchange-first.result.0.0 c.in_ok-queue.seats.0 _ _ (both.head.1 ∙ ap (λ l. l ++ c.exchange-first.result.1.1.items) new.head.1) both.first.1 new.first.1 both.first.2 new.first.2
    (told _ _ _ _ _ c.in_ok-tails.ensures.items c.in-Ok.ensures.delivered).0

pub returns-in-Ok-clause-second : goal.returns-in-Ok-clause-second
returns-in-Ok-clause-second g c =
    let new = c.in_ok-queue.ensures in
    let both = c.exchange-first.ensures in
    at_seat _ _ _ c.exchange-first.result.0.1 c.in_ok-queue.seats.1 _ _ (both.head.1 ∙ ap (λ l. l ++ c.exchange-first.result.1.1.items) new.head.1) both.second.1 new.second.1 both.second.2 new.second.2
    (told _ _ _ _ _ c.in_ok-tails.ensures.items c.in-Ok.ensures.delivered).1
