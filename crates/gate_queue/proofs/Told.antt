-- What the calls of a queue need of the rule, and what their answers tell of its state.
use Rattle.std.proofs.Common.{◌≡◌, ℕ, suc, ◌<◌, ◌≤◌, List, [], ◌∷◌, ◌++◌, length, sym, refl, ap, ◌∙◌, subst, arith, append-nil, length-append}
use Rattle.std.specs.Prelude.{Option, Some, None, IfSome, IfNone, MatchOption}
use Rattle.crossbeam_queue.specs.Fifo.{Pushes, Pops, Learns, Held}
use Rattle.gate_queue.specs.declared.tagged.Tagged.{Tagged}
use Rattle.gate_queue.specs.declared.known.Put.{Put}
use Rattle.gate_queue.specs.declared.known.Got.{Got}
use Rattle.gate_queue.specs.declared.known.Known.{Known}
use Rattle.gate_queue.specs.declared.known.Known.TheVariants.{Sender, Taker}
use Rattle.gate_queue.specs.Tagged.{values_of}
use Rattle.gate_queue.specs.Seats.{QueueId, Shape, SenderSeat, TakerSeat, IsTailOf, IsHeadOf}
use Rattle.gate_queue.specs.States.{AreFrom, MayBeFull, MayBeEmpty}
use Rattle.gate_queue.specs.Sharing.{Shares}
use Rattle.gate_queue.specs.Inner.Sharing.{HasPut, HasTaken, CanWait, SenderAllows, TakerAllows}
use Rattle.gate_queue.specs.Views.{as_sender, as_taker, sender_at, taker_at, KnowsSender, KnowsTaker}
use Rattle.gate_queue.proofs.Values.{values_of-append, length-values_of-only}
use Rattle.gate_queue.proofs.Keeps.{puts, takes, learns}

module _ {T : Type 0} where
  -- a put by the seat of the value's sender keeps the rule
  pub put_keeps : (n pass : ℕ) (k : Known T) (x : Tagged T) → k ≡ Sender (as_sender k) → x.sender ≡ (as_sender k).sender
      → Pushes Shares n pass k x (HasPut k x) × Learns Shares pass k (CanWait k)
  put_keeps n pass k x is sender =
      (subst (λ (l : Known T). Pushes Shares n pass l x (HasPut l x)) (sym is) (puts n pass (as_sender k) x sender), learns pass k)

  -- a taking by the taker's seat keeps the rule
  pub take_keeps : (pass : ℕ) (k : Known T) → k ≡ Taker (as_taker k) → Pops Shares pass k (HasTaken k) × Learns Shares pass k (CanWait k)
  take_keeps pass k is = (subst (λ (l : Known T). Pops Shares pass l (HasTaken l)) (sym is) (takes pass (as_taker k)), learns pass k)

  -- the same where the pass is known to know this
  pub take_keeps_at : (pass : ℕ) (k : Known T) (v : Got T) → k ≡ Taker v → Pops Shares pass k (HasTaken k) × Learns Shares pass k (CanWait k)
  take_keeps_at pass k v is = (subst (λ (l : Known T). Pops Shares pass l (HasTaken l)) (sym is) (takes pass v), learns pass k)

  full_at : (n : ℕ) (queue : Shape) (tail : SenderSeat T) (v : Put T) → n ≡ queue.capacity → v.senders ≡ queue.name.senders → v.sender ≡ tail.sender → v.put ≡ tail.put
      → v.sender < v.senders → Held n (SenderAllows v) → MayBeFull queue tail × (queue.name.senders ≡ 1 → queue.capacity ≤ length tail.put)
  full_at n queue tail v size count number list within held =
      let items = held.0 in
      let allows = held.2 in
      let all : List (Tagged T) = allows.taken ++ items in
      let full : length items ≡ queue.capacity = held.1 ∙ size in (
        (
          record { put = λ k. values_of k all; taken = allows.taken; waiting = items },
          record {
            from = subst (λ n. AreFrom n all) count allows.from;
            room = omega arith;
            delivered = λ k. sym (values_of-append k allows.taken items);
          },
          ap (λ k. values_of k all) (sym number) ∙ allows.put ∙ list,
          full,
        ),
        (λ one.
            let from_one : AreFrom 1 all = subst (λ n. AreFrom n all) (count ∙ one) allows.from in
            let first : v.sender ≡ 0 = (let c : v.senders ≡ 1 = count ∙ one in omega arith) in
            let put_is : values_of 0 all ≡ tail.put = ap (λ k. values_of k all) (sym first) ∙ allows.put ∙ list in
            omega (arith, ap length put_is, length-values_of-only all from_one, length-append allows.taken items)),
      )

  -- what a refused put tells
  pub full_told : (n s : ℕ) (id : QueueId) (k : Known T) (queue : Shape) (tail : SenderSeat T) → n ≡ queue.capacity → KnowsSender s k → sender_at id s k ≡ tail → IsTailOf queue tail
      → Held n (CanWait k) → MayBeFull queue tail × (queue.name.senders ≡ 1 → queue.capacity ≤ length tail.put)
  full_told n s id k queue tail size knows is of held =
      let v : Put T = as_sender k in
      full_at n queue tail v size (ap (λ (t : SenderSeat T). t.queue.senders) is ∙ ap (λ q. q.senders) of) (knows.number ∙ ap (λ (t : SenderSeat T). t.sender) is)
      (ap (λ (t : SenderSeat T). t.put) is) (subst (λ s. s < v.senders) (sym knows.number) knows.within)
      (subst (λ (k : Known T). Held n (CanWait k)) knows.known held)

  nothing_at : (queue : Shape) (head : TakerSeat T) (v : Got T) → v.senders ≡ queue.name.senders → v.taken ≡ head.taken → Held 0 (TakerAllows v) → MayBeEmpty queue head
  nothing_at queue head v count list held =
      let none : held.0 ≡ [] = empty_list held.0 held.1 in
      let is : v.taken ++ held.0 ≡ head.taken ++ [] = (λ i. list i ++ none i) in (
        record { put = λ k. values_of k head.taken; taken = head.taken; waiting = [] },
        record {
          from = subst (λ (y : ℕ × List (Tagged T)). AreFrom y.0 y.1) (λ i. (count i, is i)) held.2.from;
          room = omega arith;
          delivered = λ k. append-nil (values_of k head.taken);
        },
        refl,
        refl,
      )
    where
      empty_list : (xs : List (Tagged T)) → length xs ≡ 0 → xs ≡ []
      empty_list [] e = refl
      empty_list (x ∷ xs) e = absurd (omega arith)

  -- what finding the queue empty tells
  pub nothing_told : (id : QueueId) (k : Known T) (queue : Shape) (head : TakerSeat T) → KnowsTaker k → taker_at id k ≡ head → IsHeadOf queue head → Held 0 (CanWait k) → MayBeEmpty queue head
  nothing_told id k queue head knows is of held =
      nothing_at queue head (as_taker k) (ap (λ (h : TakerSeat T). h.queue.senders) is ∙ ap (λ q. q.senders) of) (ap (λ (h : TakerSeat T). h.taken) is)
      (subst (λ (k : Known T). Held 0 (CanWait k)) knows.known held)

  -- what a taking that finds nothing tells
  pub empty_told : (r : Option (Tagged T)) (id : QueueId) (k l : Known T) (queue : Shape) (head : TakerSeat T) → KnowsTaker k → taker_at id k ≡ head → IsHeadOf queue head
      → MatchOption r ((l ≡ k) × Held 0 (CanWait k)) (λ x. HasTaken k x l) → IfNone r (MayBeEmpty queue head)
  empty_told (Some x) id k l queue head knows is of rule = tt
  empty_told None id k l queue head knows is of rule = nothing_told id k queue head knows is of rule.1

  middle : (n : ℕ) (xs : List (Tagged T)) (x : Tagged T) (ys : List (Tagged T)) → AreFrom n ((xs ++ x ∷ []) ++ ys) → x.sender < n
  middle n [] x ys from = from 0 x (omega arith)
  middle n (z ∷ zs) x ys from = middle n zs x ys (λ k d h. from (suc k) d (omega arith))

  -- a value that was taken comes from a sender of the queue
  pub from_told : (x : Tagged T) (id : QueueId) (k l : Known T) (queue : Shape) (head : TakerSeat T) → KnowsTaker k → taker_at id k ≡ head → IsHeadOf queue head → HasTaken k x l → x.sender < queue.name.senders
  from_told x id k l queue head knows is of told =
      let v : Got T = as_taker k in
      let has = subst (λ (k : Known T). HasTaken k x l) knows.known told in
      subst (λ n. x.sender < n) (ap (λ (h : TakerSeat T). h.queue.senders) is ∙ ap (λ q. q.senders) of) (middle v.senders v.taken x has.1.0 has.1.1.from)

  -- what is taken comes from a sender of the queue
  pub sender_told : (r : Option (Tagged T)) (id : QueueId) (k l : Known T) (queue : Shape) (head : TakerSeat T) → KnowsTaker k → taker_at id k ≡ head → IsHeadOf queue head
      → MatchOption r ((l ≡ k) × Held 0 (CanWait k)) (λ x. HasTaken k x l) → IfSome r (λ x. x.sender < queue.name.senders)
  sender_told None id k l queue head knows is of rule = tt
  sender_told (Some x) id k l queue head knows is of rule = from_told x id k l queue head knows is of rule
