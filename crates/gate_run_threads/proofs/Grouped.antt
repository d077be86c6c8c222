-- What holds of queues that have the same senders.
use Rattle.std.proofs.Common.{◌≡◌, ◌∙◌, refl, sym, ap, subst, ℕ, zero, suc, ◌+◌, ◌<◌, List, [], ◌∷◌, ◌++◌, length, map, slice_index_or, Some, arith, add-zero}
use Rattle.std.specs.Prelude.{All, OnOk, Result, Ok, Err, slice_get}
use Rattle.std.specs.List.{range_with_len}
use Rattle.std.proofs.lemmas.List.{map-append}
use Rattle.gate_queue.specs.declared.tagged.Tagged.{Tagged}
use Rattle.gate_queue.specs.Seats.{AreAllTailsOf, IsTailOf, QueueName, SenderSeat, Shape, TakerSeat}
use Rattle.gate_queue.specs.States.{AreFrom, IsDelivered}
use Rattle.gate_run_threads.specs.Lists.{Each, EachAt}
use Rattle.gate_run_threads.specs.Seats.{fresh_tail, seat_in, seat_of}
use Rattle.gate_run_threads.specs.QueueGroups.{AreGroupsSettled, AreSettled, IsSettled, AreQueuesSettled, seats_in}
use Rattle.gate_run_threads.specs.Tables.{dealt, dealt_all, empties}
use Rattle.gate_run_threads.proofs.Paired.{map_length}
use Rattle.gate_run_threads.proofs.Places.{at_here, each_here, each_of_all, head_same, tail_same, the_same}
use Rattle.gate_run_threads.proofs.Seated.{map_map}
use Rattle.gate_run_threads.proofs.Turned.{by_rows, dealt_all_seen, table_turned}

pub range_length : (a n : ℕ) → length (range_with_len a n) ≡ n
range_length a zero = refl
range_length a (suc n) = ap suc (range_length (a + 1) n)

-- one more of two lists that are seen alike
pub alike_more : {A B C : Type 0} (f : A → C) (g : B → C) (xs xs' : List A) (ys ys' : List B) (x : A) (y : B) → map f xs ≡ map g ys → f x ≡ g y → xs' ≡ xs ++ x ∷ [] → ys' ≡ ys ++ y ∷ [] → map f xs' ≡ map g ys'
alike_more f g xs xs' ys ys' x y was is more more' =
    ap (map f) more ∙ map-append f xs (x ∷ []) ∙ (λ i. was i ++ is i ∷ []) ∙ sym (map-append g ys (y ∷ [])) ∙ ap (map g) (sym more')

-- and where the one list is what was made of the other
pub made_alike : {B C : Type 0} (g : B → C) (xs xs' : List C) (ys ys' : List B) (x : C) (y : B) → xs ≡ map g ys → x ≡ g y → xs' ≡ xs ++ x ∷ [] → ys' ≡ ys ++ y ∷ [] → xs' ≡ map g ys'
made_alike g xs xs' ys ys' x y was is more more' = more ∙ (λ i. was i ++ is i ∷ []) ∙ sym (map-append g ys (y ∷ [])) ∙ ap (map g) (sym more')

pub one_longer : {A : Type 0} (xs xs' : List A) (x : A) (n : ℕ) → length xs ≡ n → xs' ≡ xs ++ x ∷ [] → length xs' ≡ n + 1
one_longer {A} xs xs' x n many more = ap length more ∙ longer xs ∙ ap (λ k. k + 1) many
  where
    longer : (ys : List A) → length (ys ++ x ∷ []) ≡ length ys + 1
    longer [] = refl
    longer (y ∷ ys) = ap suc (longer ys) ∙ omega arith

-- what is of each element of the one list is of each of the other
pub as_wide : {R C X : Type 0} (len : C → ℕ) (n : ℕ) (v : R → C) (h : X → C) (rows : List R) (xs : List X) → map v rows ≡ map h xs → ((x : X) → len (h x) ≡ n) → map (λ r. len (v r)) rows ≡ map (λ r. n) rows
as_wide len n v h [] xs e wide = refl
as_wide len n v h (r ∷ rows) [] e wide = absurd (cc)
as_wide len n v h (r ∷ rows) (x ∷ xs) e wide = (λ i. (ap len (head_same (v r) (h x) (map v rows) (map h xs) e) ∙ wide x) i ∷ as_wide len n v h rows xs (tail_same (v r) (h x) (map v rows) (map h xs) e) wide i)

-- what is the same of all elements may be named
pub named : {X Y : Type 0} (f : X → ℕ) (g : ℕ → X → Y) (m : ℕ) (xs : List X) → map f xs ≡ map (λ x. m) xs → map (λ x. g m x) xs ≡ map (λ x. g (f x) x) xs
named f g m [] e = refl
named f g m (x ∷ xs) e = (λ i. g (sym (head_same (f x) m (map f xs) (map (λ y. m) xs) e) i) x ∷ named f g m xs (tail_same (f x) m (map f xs) (map (λ y. m) xs) e) i)

module _ {T : Type 0} where
  -- the seats of a new queue
  pub fresh_row : (queue : Shape) (n a : ℕ) (tails : List (SenderSeat T)) → length tails ≡ n → ((k : ℕ) (d : SenderSeat T) → k < length tails → IsTailOf queue (slice_index_or tails k d) × ((slice_index_or tails k d).sender ≡ a + k)) →
      All (λ (tail : SenderSeat T). tail.put ≡ []) tails → tails ≡ map (λ s. fresh_tail s queue) (range_with_len a n)
  fresh_row queue zero a [] e own put = refl
  fresh_row queue zero a (tail ∷ tails) e own put = absurd (cc)
  fresh_row queue (suc n) a [] e own put = absurd (cc)
  fresh_row queue (suc n) a (tail ∷ tails) e own put =
      let here = own 0 tail (omega arith) in
      let first : tail ≡ fresh_tail a queue = (λ i. record { queue = here.0 i; sender = (here.1 ∙ add-zero a) i; put = put 0 tail (omega arith) i }) in
      (λ i. first i ∷ fresh_row queue n (a + 1) tails (omega (arith, e)) (λ k d low. let (of, number) = own (suc k) d (omega (arith, low)) in (of, number ∙ omega arith)) (λ k d low. put (suc k) d (omega (arith, low))) i)

  seated : (queue : Shape) (n a : ℕ) (tails : List (SenderSeat T)) → map seat_of tails ≡ map (λ s. seat_in s queue) (range_with_len a n) → (k : ℕ) (d : SenderSeat T) → k < length tails → IsTailOf queue (slice_index_or tails k d) × ((slice_index_or tails k d).sender ≡ a + k)
  seated queue n a [] e k d low = absurd (omega (arith, low))
  seated queue zero a (tail ∷ tails) e k d low = absurd (cc)
  seated queue (suc n) a (tail ∷ tails) e zero d low =
      let here : seat_of tail ≡ seat_in a queue = head_same (seat_of tail) (seat_in a queue) (map seat_of tails) (map (λ s. seat_in s queue) (range_with_len (a + 1) n)) e in
      (ap (λ (seat : QueueName × ℕ). seat.0) here, ap (λ (seat : QueueName × ℕ). seat.1) here ∙ sym (add-zero a))
  seated queue (suc n) a (tail ∷ tails) e (suc k) d low =
      let (of, number) = seated queue n (a + 1) tails (tail_same (seat_of tail) (seat_in a queue) (map seat_of tails) (map (λ s. seat_in s queue) (range_with_len (a + 1) n)) e) k d (omega (arith, low)) in
      (of, number ∙ omega arith)

  pub all_seated : (queue : Shape) (tails : List (SenderSeat T)) → map seat_of tails ≡ seats_in queue → AreAllTailsOf queue tails
  all_seated queue tails e = (
    sym (map_length seat_of tails) ∙ ap length e ∙ map_length (λ s. seat_in s queue) (range_with_len 0 queue.name.senders) ∙ range_length 0 queue.name.senders,
    λ k d low. let (of, number) = seated queue queue.name.senders 0 tails e k d low in (of, number ∙ omega arith),
  )

  pub only_seated : (queue : Shape) (tail : SenderSeat T) → queue.name.senders ≡ 1 → seat_of tail ≡ seat_in 0 queue → AreAllTailsOf queue (tail ∷ [])
  only_seated queue tail one e = all_seated queue (tail ∷ []) (ap (λ seat. seat ∷ []) e ∙ ap (λ n. map (λ s. seat_in s queue) (range_with_len 0 n)) (sym one))

  pub settled_here : (queue : Shape) (head : TakerSeat T) (tails : List (SenderSeat T)) (waiting : List (Tagged T)) → AreFrom queue.name.senders head.taken → AreFrom queue.name.senders waiting →
      All (λ (tail : SenderSeat T). IsDelivered head.taken waiting tail.sender tail.put) tails → Each (IsSettled queue head) tails
  settled_here queue head tails waiting from from_waiting delivered = each_of_all (IsSettled queue head) tails (λ k d low. record { waiting = waiting; from = from; from_waiting = from_waiting; delivered = delivered k d low })

  -- of the queue and of the taker's seat at a place
  abbrev IsSettledAt : List Shape → List (TakerSeat T) → ℕ → SenderSeat T → Type 0
  IsSettledAt queues heads k tail = (queue : Shape) (head : TakerSeat T) → slice_get queues k ≡ Some queue → slice_get heads k ≡ Some head → IsSettled queue head tail

  each_settled : (queue : Shape) (queues : List Shape) (head : TakerSeat T) (heads : List (TakerSeat T)) (tails : List (SenderSeat T)) → Each (IsSettled queue head) tails → Each (IsSettledAt (queue ∷ queues) (head ∷ heads) 0) tails
  each_settled queue queues head heads [] all = tt
  each_settled queue queues head heads (tail ∷ tails) all = (
    (λ q h at at'. subst (λ x. IsSettled x h tail) (the_same queue q at) (subst (λ x. IsSettled queue x tail) (the_same head h at') all.0)),
    each_settled queue queues head heads tails all.1,
  )

  by_queue : (queues : List Shape) (heads : List (TakerSeat T)) (seats : List (List (SenderSeat T))) → AreSettled queues heads seats → EachAt (λ k. Each (IsSettledAt queues heads k)) seats
  by_queue [] [] [] all = tt
  by_queue [] [] (tails ∷ seats) all = absurd all
  by_queue [] (head ∷ heads) seats all = absurd all
  by_queue (queue ∷ queues) [] seats all = absurd all
  by_queue (queue ∷ queues) (head ∷ heads) [] all = absurd all
  by_queue (queue ∷ queues) (head ∷ heads) (tails ∷ seats) all = (each_settled queue queues head heads tails all.0.1, by_queue queues heads seats all.1)

  taken_from : (queues : List Shape) (heads : List (TakerSeat T)) (seats : List (List (SenderSeat T))) (k : ℕ) (queue : Shape) (head : TakerSeat T) → AreSettled queues heads seats →
      slice_get queues k ≡ Some queue → slice_get heads k ≡ Some head → AreFrom queue.name.senders head.taken
  taken_from [] [] [] k queue head all at at' = absurd (cc)
  taken_from [] [] (tails ∷ seats) k queue head all at at' = absurd all
  taken_from [] (h ∷ heads) seats k queue head all at at' = absurd all
  taken_from (q ∷ queues) [] seats k queue head all at at' = absurd all
  taken_from (q ∷ queues) (h ∷ heads) [] k queue head all at at' = absurd all
  taken_from (q ∷ queues) (h ∷ heads) (tails ∷ seats) zero queue head all at at' = subst (λ (x : Shape). AreFrom x.name.senders head.taken) (the_same q queue at) (subst (λ (x : TakerSeat T). AreFrom q.name.senders x.taken) (the_same h head at') all.0.0)
  taken_from (q ∷ queues) (h ∷ heads) (tails ∷ seats) (suc k) queue head all at at' = taken_from queues heads seats k queue head all.1 at at'

  each_sender : (queues : List Shape) (heads : List (TakerSeat T)) (senders : List (List (SenderSeat T))) (n : ℕ) → Each (λ row. length row ≡ n) senders → AreSettled queues heads (dealt_all (empties n) senders) → Each (EachAt (IsSettledAt queues heads)) senders
  each_sender queues heads senders n wide all = (by_rows (IsSettledAt queues heads) n (empties n) senders (map_length (λ k. []) (range_with_len 0 n) ∙ range_length 0 n) wide (by_queue queues heads (dealt_all (empties n) senders) all)).0

  pub by_sender : (queues : List Shape) (heads : List (TakerSeat T)) (senders : List (List (SenderSeat T))) (n : ℕ) → Each (λ row. length row ≡ n) senders → AreSettled queues heads (dealt_all (empties n) senders) → AreQueuesSettled queues heads senders
  by_sender queues heads senders n wide all = record {
    from = λ k queue head at at'. taken_from queues heads (dealt_all (empties n) senders) k queue head all at at';
    each = λ s k tails tail queue head at here of_queue of_head.
        at_here (IsSettledAt queues heads) tails k tail (each_here (EachAt (IsSettledAt queues heads)) senders s tails (each_sender queues heads senders n wide all) at) here queue head of_queue of_head;
  }

  -- of one sender
  single_columns : (a n : ℕ) (row : List (SenderSeat T)) → length row ≡ n → dealt (map (λ k. []) (range_with_len a n)) row ≡ map (λ tail. tail ∷ []) row
  single_columns a zero [] e = refl
  single_columns a zero (tail ∷ row) e = absurd (cc)
  single_columns a (suc n) [] e = absurd (cc)
  single_columns a (suc n) (tail ∷ row) e = ap (λ zs. (tail ∷ []) ∷ zs) (single_columns (a + 1) n row (omega (arith, e)))

  pub bounded_settled : (queues : List Shape) (heads : List (TakerSeat T)) (tails : List (SenderSeat T)) → length tails ≡ length queues → AreSettled queues heads (map (λ tail. tail ∷ []) tails) → AreQueuesSettled queues heads (tails ∷ [])
  bounded_settled queues heads tails many all = by_sender queues heads (tails ∷ []) (length queues) (many, tt) (subst (AreSettled queues heads) (sym (single_columns 0 (length queues) tails many)) all)

  pub none_settled : (queues : List Shape) (heads : List (TakerSeat T)) (tails : List (SenderSeat T)) → length queues ≡ 0 → map (λ (head : TakerSeat T). head.queue) heads ≡ map (λ (queue : Shape). queue.name) queues → map seat_of tails ≡ map (seat_in 0) queues →
      AreSettled queues heads (map (λ tail. tail ∷ []) tails)
  none_settled [] [] [] none of_heads of_tails = tt
  none_settled [] [] (t ∷ tails) none of_heads of_tails = absurd (cc)
  none_settled [] (h ∷ heads) tails none of_heads of_tails = absurd (cc)
  none_settled (q ∷ queues) heads tails none of_heads of_tails = absurd (cc)

  -- the seats of such queues, turned
  pub seats_turned : (queues : List Shape) (m : ℕ) (rows : List (List (SenderSeat T))) → map (λ (queue : Shape). queue.name.senders) queues ≡ map (λ (queue : Shape). m) queues →
      map (map seat_of) rows ≡ map (λ s. map (seat_in s) queues) (range_with_len 0 m) → map (map seat_of) (dealt_all (empties (length queues)) rows) ≡ map seats_in queues
  seats_turned queues m rows senders seats =
      dealt_all_seen seat_of (empties (length queues)) rows
      ∙ (λ i. dealt_all (map_map (map (seat_of {T = T})) (λ k. []) (range_with_len 0 (length queues)) i) (seats i))
      ∙ table_turned seat_in (range_with_len 0 m) queues (length queues) refl
      ∙ named (λ (queue : Shape). queue.name.senders) (λ n queue. map (λ s. seat_in s queue) (range_with_len 0 n)) m queues senders

  pub settled_as : (queues : List Shape) (heads : List (TakerSeat T)) (seats seats' : List (List (SenderSeat T))) → seats ≡ seats' → AreSettled queues heads seats → AreSettled queues heads seats'
  settled_as queues heads seats seats' e all = subst (AreSettled queues heads) e all

pub on_ok : {T E : Type 0} {A B : Type 0} (r : Result T E) → (A → B) → OnOk r A → OnOk r B
on_ok (Ok x) f a = f a
on_ok (Err e) f a = a

pub groups_as : {T : Type 0} (groups : List (List Shape)) (heads heads' : List (List (TakerSeat T))) (tails : List (List (SenderSeat T))) → heads ≡ heads' → AreGroupsSettled groups heads tails → AreGroupsSettled groups heads' tails
groups_as groups heads heads' tails e all = subst (λ hs. AreGroupsSettled groups hs tails) e all
