-- How the seats of a queue without a bound are given back, and what its takings tell.
use Rattle.std.proofs.Common.{◌≡◌, ℕ, zero, suc, ◌+◌, ◌<◌, List, [], ◌∷◌, ◌++◌, length, map, get_or, sym, refl, ap, ◌∙◌, subst, arith, append_assoc}
use Rattle.std.specs.Prelude.{All}
use Rattle.std.proofs.lemmas.List.{get_or-map}
use Rattle.gate_queue.specs.declared.tagged.Tagged.{Tagged}
use Rattle.gate_queue.specs.declared.known.Got.{Got}
use Rattle.gate_queue.specs.declared.known.Known.{Known}
use Rattle.gate_queue.specs.declared.known.Known.TheVariants.{Taker}
use Rattle.gate_queue.specs.Seats.{QueueId, Shape, SenderSeat, TakerSeat, AreTailsOf}
use Rattle.gate_queue.specs.States.{AreFrom, IsDelivered}
use Rattle.gate_queue.specs.Views.{as_taker}
use Rattle.gate_queue.specs.Inner.Views.{with_joined, seats_from, AreSeats}
use Rattle.gate_queue.specs.Tagged.{values_of}
use Rattle.gate_queue.specs.FreeViews.{seat_with}
use Rattle.gate_queue.proofs.Values.{values_of-append}
use Rattle.gate_queue.proofs.Settles.{inner, outer}
use Rattle.std.proofs.lemmas.List.Elements.{All-append}

module _ {T : Type 0} where
  after_first : (x : SenderSeat T) (xs : List (SenderSeat T)) (id : QueueId) (senders n : ℕ)
      → ((k : ℕ) (d : SenderSeat T) → k < length (x ∷ xs) → ((get_or (x ∷ xs) k d).queue ≡ record { id = id; senders = senders }) × ((get_or (x ∷ xs) k d).sender ≡ k + n))
      → (k : ℕ) (d : SenderSeat T) → k < length xs → ((get_or xs k d).queue ≡ record { id = id; senders = senders }) × ((get_or xs k d).sender ≡ k + suc n)
  after_first x xs id senders n are k d h = let next = are (suc k) d (omega arith) in (next.0, next.1 ∙ omega arith)

  from_number : (id : QueueId) (senders n : ℕ) (seats : List (SenderSeat T))
      → ((k : ℕ) (d : SenderSeat T) → k < length seats → ((get_or seats k d).queue ≡ record { id = id; senders = senders }) × ((get_or seats k d).sender ≡ k + n))
      → seats_from id senders n (map (λ (t : SenderSeat T). t.put) seats) ≡ seats
  from_number id senders n [] are = refl
  from_number id senders n (x ∷ xs) are =
      let here = are zero x (omega arith) in
      let nothing_more : 0 + n ≡ n = omega arith in
      λ i. record { queue = sym here.0 i; sender = sym (here.1 ∙ nothing_more) i; put = x.put } ∷ from_number id senders (suc n) xs (after_first x xs id senders n are) i

  -- the seats are those of their lists
  pub same_seats : (id : QueueId) (senders : ℕ) (seats : List (SenderSeat T)) → AreSeats id senders seats → seats_from id senders 0 (map (λ (t : SenderSeat T). t.put) seats) ≡ seats
  same_seats id senders seats are = from_number id senders 0 seats (λ k d h. let at = are k d h in (at.0, at.1 ∙ omega arith))

  pub are_seats : (queue : Shape) (id : QueueId) (senders : ℕ) (tails : List (SenderSeat T)) → record { id = id; senders = senders } ≡ queue.name → AreTailsOf queue tails → AreSeats id senders tails
  are_seats queue id senders tails name are k d h = let at = are k d h in (at.0 ∙ sym name, at.1)

  -- the seats that come back are those that were handed in
  pub back_tails : (id : QueueId) (senders : ℕ) (tails after : List (SenderSeat T)) (lists : List (List T)) → AreSeats id senders tails → after ≡ seats_from id senders 0 lists → lists ≡ map (λ (t : SenderSeat T). t.put) tails
      → after ≡ tails
  back_tails id senders tails after lists are is same = is ∙ ap (seats_from id senders 0) same ∙ same_seats id senders tails are

  pub back_head : (id id' : QueueId) (k joined parted : Known T) (lists : List (List T)) (ready : List (Tagged T)) (head : TakerSeat T) → joined ≡ Taker (with_joined (as_taker k) lists)
      → parted ≡ Taker (with_joined (as_taker joined) []) → id ≡ id' → seat_with id' k ready ≡ head → seat_with id parted ready ≡ head
  back_head id id' k joined parted lists ready head is is' same seen =
      (λ i. seat_with (same i) (is' i) ready) ∙ ap (λ (j : Known T). seat_with id' (Taker (with_joined (as_taker j) [])) ready) is ∙ seen

  -- each sender's list is what was taken of it and what waited
  pub delivered_each : (tails : List (SenderSeat T)) (v : Got T) (before rest : List (Tagged T)) (senders : ℕ) → v.joined ≡ map (λ (t : SenderSeat T). t.put) tails → v.senders ≡ senders → length tails ≡ senders
      → ((k : ℕ) (d : SenderSeat T) → k < length tails → (get_or tails k d).sender ≡ k) → ((s : ℕ) → s < v.senders → IsDelivered before rest s (get_or v.joined s []))
      → All (λ (tail : SenderSeat T). IsDelivered before rest tail.sender tail.put) tails
  delivered_each tails v before rest senders lists count many numbers told k d h =
      let put : get_or v.joined k [] ≡ (get_or tails k d).put = ap (λ l. get_or l k []) lists ∙ get_or-map (λ (t : SenderSeat T). t.put) tails k d [] h in
      subst (λ (y : ℕ × List T). IsDelivered before rest y.0 y.1) (λ i. (sym (numbers k d h) i, put i)) (told k (omega arith))

  -- values that were taken last, and then what waited behind them
  pub behind : (before ready xs rest : List (Tagged T)) (s : ℕ) (taken : List (Tagged T)) (put : List T) → taken ≡ before ++ ready → rest ≡ ready ++ xs → IsDelivered taken xs s put → IsDelivered before rest s put
  behind before ready xs rest s taken put is all told =
      ap (λ l. values_of s before ++ values_of s l) all ∙ ap (λ l. values_of s before ++ l) (values_of-append s ready xs) ∙ sym (append_assoc (values_of s before) (values_of s ready) (values_of s xs))
      ∙ ap (λ l. l ++ values_of s xs) (sym (values_of-append s before ready) ∙ ap (values_of s) (sym is)) ∙ told

  pub all_from : (n : ℕ) (before ready xs rest taken : List (Tagged T)) → taken ≡ before ++ ready → rest ≡ ready ++ xs → AreFrom n taken → AreFrom n xs → AreFrom n before × AreFrom n rest
  all_from n before ready xs rest taken is all from from' =
      let both : AreFrom n (before ++ ready) = subst (AreFrom n) is from in
      (outer n before ready both, subst (AreFrom n) (sym all) (All-append (λ x. x.sender < n) ready xs (inner n before ready both) from'))

  pub one_further : (ready more was now : List (Tagged T)) (x : Tagged T) → was ≡ ready ++ more → now ≡ was ++ x ∷ [] → now ≡ ready ++ (more ++ x ∷ [])
  one_further ready more was now x is grown = grown ∙ ap (λ l. l ++ x ∷ []) is ∙ append_assoc ready more (x ∷ [])

  -- what was taken is what was handed out, and then what is ready
  pub taken_before : (all taken handed ready rest before : List (Tagged T)) → all ≡ taken → handed ++ ready ≡ taken → handed ≡ before → rest ≡ ready → all ≡ before ++ rest
  taken_before all taken handed ready rest before is split same same' = is ∙ sym split ∙ (λ i. same i ++ sym same' i)
