-- How a queue is settled: its seats are joined in their order, and then all that waits is taken.
use Rattle.std.proofs.Common.{◌≡◌, ℕ, suc, ◌+◌, ◌<◌, ◌≤◌, List, [], ◌∷◌, ◌++◌, length, map, sym, refl, ap, ◌∙◌, subst, arith, append_assoc, append-nil, length-append, get_or, zero}
use Rattle.std.proofs.Math.Seq.{get_or-append_seam}
use Rattle.std.proofs.lemmas.List.{length-map}
use mathlib.Core.Logic.{dite}
use native.Mathlib.Decide.{dec_lt}
use Rattle.crossbeam_queue.specs.Fifo.{Merges, Held}
use Rattle.gate_queue.specs.declared.tagged.Tagged.{Tagged}
use Rattle.gate_queue.specs.declared.known.Got.{Got}
use Rattle.gate_queue.specs.declared.known.Known.{Known}
use Rattle.gate_queue.specs.declared.known.Known.TheVariants.{Taker, Nothing}
use Rattle.gate_queue.specs.Tagged.{values_of}
use Rattle.gate_queue.specs.Seats.{QueueId, QueueName, SenderSeat}
use Rattle.gate_queue.specs.States.{AreFrom, IsDelivered}
use Rattle.gate_queue.specs.Sharing.{Shares, joined_number, joined}
use Rattle.gate_queue.specs.Inner.Sharing.{HasTaken, CanWait, TakerAllows, took}
use Rattle.gate_queue.specs.Views.{as_sender, KnowsSender}
use Rattle.gate_queue.specs.Inner.Views.{with_joined, with_more, AreSeats}
use Rattle.gate_queue.proofs.Values.{values_of-append}
use Rattle.gate_queue.proofs.Counts.{same_length, values_of-beyond}
use Rattle.gate_queue.proofs.Parts.{joins}

module _ {T : Type 0} where
  -- the seats that are apart, and then those that are joined, are all of them
  pub still_all : (rest done old tails : List (SenderSeat T)) (x : SenderSeat T) → old ++ done ≡ tails → old ≡ rest ++ x ∷ [] → rest ++ x ∷ done ≡ tails
  still_all rest done old tails x is popped = sym (append_assoc rest (x ∷ []) done) ∙ ap (λ l. l ++ done) (sym popped) ∙ is

  -- where the last seat that is still apart stands
  last_at : (id : QueueId) (senders : ℕ) (tails rest done old : List (SenderSeat T)) (x : SenderSeat T) → AreSeats id senders tails → old ++ done ≡ tails → old ≡ rest ++ x ∷ []
      → (x.queue ≡ record { id = id; senders = senders }) × (x.sender ≡ length rest)
  last_at id senders tails rest done old x are is popped =
      let all : rest ++ x ∷ done ≡ tails = still_all rest done old tails x is popped in
      let at : get_or tails (length rest) x ≡ x = ap (λ l. get_or l (length rest) x) (sym all) ∙ get_or-append_seam rest x done x in
      let below : length rest < length tails = (let l = ap length all in omega (arith, l, length-append rest (x ∷ done))) in
      let seat = are (length rest) x below in
      (ap (λ (t : SenderSeat T). t.queue) (sym at) ∙ seat.0, ap (λ (t : SenderSeat T). t.sender) (sym at) ∙ seat.1)

  -- it is of the queue
  pub last_queue : (id : QueueId) (senders : ℕ) (tails rest done old : List (SenderSeat T)) (x : SenderSeat T) → AreSeats id senders tails → old ++ done ≡ tails → old ≡ rest ++ x ∷ [] → x.queue.id ≡ id
  last_queue id senders tails rest done old x are is popped = ap (λ (q : QueueName). q.id) (last_at id senders tails rest done old x are is popped).0

  -- and it has the number of those before it
  pub last_number : (id : QueueId) (senders : ℕ) (tails rest done old : List (SenderSeat T)) (x : SenderSeat T) → AreSeats id senders tails → length tails ≡ senders → old ++ done ≡ tails → old ≡ rest ++ x ∷ []
      → x.sender + suc (length (map (λ (t : SenderSeat T). t.put) done)) ≡ senders
  last_number id senders tails rest done old x are many is popped =
      let l = ap length (still_all rest done old tails x is popped) in
      let number = (last_at id senders tails rest done old x are is popped).1 in
      omega (arith, l, number, many, length-append rest (x ∷ done), length-map done (λ (t : SenderSeat T). t.put))

  -- joining that seat keeps the rule
  pub join_keeps : (pass : ℕ) (k : Known T) (v : Got T) (lists : List (List T)) (s other : ℕ) (own : Known T) → k ≡ Taker (with_joined v lists) → KnowsSender s own → s + suc (length lists) ≡ v.senders
      → Merges Shares pass k other own (joined k own) Nothing
  join_keeps pass k v lists s other own is knows next = joins pass k (with_joined v lists) other own (as_sender own) is knows.known (ap (λ n. n + suc (length lists)) knows.number ∙ next)

  -- where each seat is joined, they have their senders' numbers
  all_numbers : (v : Got T) (s : ℕ) → length v.joined ≡ v.senders → joined_number v s ≡ s
  all_numbers v s whole = omega arith

  count_by_sender : (v : Got T) (xs items after : List (Tagged T)) → length v.joined ≡ v.senders → TakerAllows v items → TakerAllows (with_more v xs) after
      → (s : ℕ) → values_of s (v.taken ++ items) ≡ values_of s ((v.taken ++ xs) ++ after)
  count_by_sender v xs items after whole before now s =
      dite (dec_lt s v.senders)
      (λ below. subst (λ n. values_of n (v.taken ++ items) ≡ values_of n ((v.taken ++ xs) ++ after)) (all_numbers v s whole) (sym (before.joined s (omega arith)) ∙ now.joined s (omega arith)))
      (λ beyond.
      let reach : v.senders ≤ s = omega arith in
      values_of-beyond v.senders s (v.taken ++ items) reach before.from ∙ sym (values_of-beyond v.senders s ((v.taken ++ xs) ++ after) reach now.from))

  -- where each seat is joined, what waited is what was taken since and what still waits
  waited : (v : Got T) (xs items after : List (Tagged T)) → length v.joined ≡ v.senders → TakerAllows v items → TakerAllows (with_more v xs) after → length xs + length after ≡ length items
  waited v xs items after whole before now =
      let same = same_length (v.taken ++ items) ((v.taken ++ xs) ++ after) (count_by_sender v xs items after whole before now) in
      omega (arith, same, length-append v.taken items, length-append (v.taken ++ xs) after, length-append v.taken xs)

  took_more : (v : Got T) (xs : List (Tagged T)) (x : Tagged T) → took (with_more v xs) x ≡ with_more v (xs ++ x ∷ [])
  took_more v xs x = λ i. record { senders = v.senders; made = v.made; taken = append_assoc v.taken xs (x ∷ []) i; joined = v.joined }

  -- one more taking at the end
  pub drain_step : (k w : Known T) (v : Got T) (xs : List (Tagged T)) (x : Tagged T) (n : ℕ) (first : Known T) → k ≡ Taker (with_more v xs) → HasTaken k x w → length v.joined ≡ v.senders
      → first ≡ Taker v → Held n (CanWait first) → (w ≡ Taker (with_more v (xs ++ x ∷ []))) × (length xs + 1 ≤ n)
  drain_step k w v xs x n first is has whole first_is held =
      let told = subst (λ (l : Known T). HasTaken l x w) is has in
      let before = subst (λ (l : Known T). CanWait l held.0) first_is held.2 in
      let now = subst (λ (u : Got T). TakerAllows u told.1.0) (took_more v xs x) told.1.1 in
      let count = waited v (xs ++ x ∷ []) held.0 told.1.0 whole before now in
      (told.0 ∙ ap (λ (u : Got T). Taker u) (took_more v xs x), omega (arith, count, held.1, length-append xs (x ∷ [])))

  -- the same for the list as it is then
  pub grown_more : (w : Known T) (v : Got T) (xs ys : List (Tagged T)) → w ≡ Taker (with_more v xs) → ys ≡ xs → w ≡ Taker (with_more v ys)
  grown_more w v xs ys is same = is ∙ ap (λ (l : List (Tagged T)). Taker (with_more v l)) (sym same)

  pub inner : (n : ℕ) (before xs : List (Tagged T)) → AreFrom n (before ++ xs) → AreFrom n xs
  inner n [] xs from = from
  inner n (y ∷ before) xs from = inner n before xs (λ k d h. from (suc k) d (omega arith))

  pub outer : (n : ℕ) (xs after : List (Tagged T)) → AreFrom n (xs ++ after) → AreFrom n xs
  outer n [] after from k d h = absurd (omega arith)
  outer n (x ∷ xs) after from zero d h = from zero d (omega arith)
  outer n (x ∷ xs) after from (suc k) d h = outer n xs after (λ j e l. from (suc j) e (omega arith)) k d (omega arith)

  no_more : (xs : List (Tagged T)) → length xs ≡ 0 → xs ≡ []
  no_more [] e = refl
  no_more (x ∷ xs) e = absurd (omega arith)

  -- when nothing waits any more
  pub drain_end : (k : Known T) (v : Got T) (xs : List (Tagged T)) → k ≡ Taker (with_more v xs) → length v.joined ≡ v.senders → Held 0 (CanWait k)
      → ((s : ℕ) → s < v.senders → IsDelivered v.taken xs s (get_or v.joined s [])) × (AreFrom v.senders v.taken × AreFrom v.senders xs)
  drain_end k v xs is whole held =
      let none : held.0 ≡ [] = no_more held.0 held.1 in
      let allows = subst (λ (l : Known T). CanWait l held.0) is held.2 in
      let all : (v.taken ++ xs) ++ held.0 ≡ v.taken ++ xs = ap (λ l. (v.taken ++ xs) ++ l) none ∙ append-nil (v.taken ++ xs) in (
        (λ s below. sym (values_of-append s v.taken xs) ∙ ap (values_of s) (sym all) ∙ sym (subst (λ n. get_or v.joined s [] ≡ values_of n ((v.taken ++ xs) ++ held.0)) (all_numbers v s whole) (allows.joined s (omega arith)))),
        (outer v.senders v.taken xs (subst (AreFrom v.senders) all allows.from), inner v.senders v.taken xs (subst (AreFrom v.senders) all allows.from)),
      )
