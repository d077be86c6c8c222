-- Lists that grow by one.
use Rattle.std.proofs.Common.{◌≡◌, ℕ, zero, suc, ◌<◌, List, [], ◌∷◌, ◌++◌, length, arith, get_or, subst, sym, ap, ◌∙◌}
use Rattle.gate_queue.specs.Seats.{QueueId, SenderSeat}
use Rattle.gate_queue.specs.declared.known.Known.{Known}
use Rattle.gate_queue.specs.Inner.Sharing.{next_sender, opening}
use Rattle.gate_queue.specs.Views.{sender_at}
use Rattle.gate_queue.specs.Inner.Views.{AreNew, new_seat}

-- a fact of each place stays when one comes
pub longer : {A : Type 0} (d : A) (G : ℕ → A → Type 0) (xs : List A) (x : A) → ((s : ℕ) → s < length xs → G s (get_or xs s d)) → G (length xs) x
    → (s : ℕ) → s < length (xs ++ x ∷ []) → G s (get_or (xs ++ x ∷ []) s d)
longer d G [] x old new zero h = new
longer d G [] x old new (suc s) h = absurd (omega arith)
longer d G (y ∷ ys) x old new zero h = old zero (omega arith)
longer d G (y ∷ ys) x old new (suc s) h = longer d (λ k. G (suc k)) ys x (λ k l. old (suc k) (omega arith)) new s (omega arith)

-- one more new seat
pub new_one_more : {T : Type 0} (id : QueueId) (senders n : ℕ) (tails after : List (SenderSeat T)) (x : SenderSeat T) → AreNew id senders tails → length tails ≡ n → x ≡ new_seat id senders n
    → after ≡ tails ++ x ∷ [] → AreNew id senders after
new_one_more {T} id senders n tails after x old count is grown =
    subst (AreNew id senders) (sym grown)
    (λ k d h. longer d (λ (s : ℕ) (t : SenderSeat T). t ≡ new_seat id senders s) tails x (λ s l. old s d l) (subst (λ s. x ≡ new_seat id senders s) (sym count) is) k h)

-- how the seat is seen that the next sender gets
pub new_seat_is : {T : Type 0} (here id : QueueId) (senders s : ℕ) (own k : Known T) → here ≡ id → own ≡ next_sender k → k ≡ opening senders s → sender_at here s own ≡ new_seat id senders s
new_seat_is here id senders s own k same is known = λ i. sender_at (same i) s ((is ∙ ap next_sender known) i)
