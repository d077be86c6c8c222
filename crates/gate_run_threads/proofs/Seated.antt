-- What holds of seats.
use Rattle.std.proofs.Common.{◌≡◌, ◌∙◌, refl, sym, ap, ℕ, zero, suc, ◌<◌, List, [], ◌∷◌, ◌++◌, Option, None, append-nil, length, map, slice_index_or, arith}
use Rattle.std.specs.Option.{option_to_list}
use Rattle.gate_queue.specs.declared.tagged.Tagged.{Tagged}
use Rattle.gate_queue.specs.Seats.{QueueName, SenderSeat, Shape}
use Rattle.gate_run_threads.specs.Seats.{fresh_tail, values, seat_in, seat_of}

pub map_map : {A B C : Type 0} (f : B → C) (g : A → B) (xs : List A) → map f (map g xs) ≡ map (λ x. f (g x)) xs
map_map f g [] = refl
map_map f g (x ∷ xs) = ap (λ ys. f (g x) ∷ ys) (map_map f g xs)

module _ {T : Type 0} where
  -- seats are those of queues, so their queues are these
  pub only_queues : (c : ℕ) (tails : List (SenderSeat T)) (queues : List Shape) → map seat_of tails ≡ map (seat_in c) queues → map (λ (tail : SenderSeat T). tail.queue) tails ≡ map (λ (queue : Shape). queue.name) queues
  only_queues c tails queues e =
      sym (map_map (λ (seat : QueueName × ℕ). seat.0) seat_of tails) ∙ ap (map (λ (seat : QueueName × ℕ). seat.0)) e ∙ map_map (λ (seat : QueueName × ℕ). seat.0) (seat_in c) queues

  -- so many seats as queues
  pub as_many : (c : ℕ) (tails : List (SenderSeat T)) (queues : List Shape) → map seat_of tails ≡ map (seat_in c) queues → length tails ≡ length queues
  as_many c [] [] e = refl
  as_many c [] (q ∷ queues) e = absurd (cc)
  as_many c (t ∷ tails) [] e = absurd (cc)
  as_many c (t ∷ tails) (q ∷ queues) e = ap suc (as_many c tails queues (ap behind e))
    where
      behind : List (QueueName × ℕ) → List (QueueName × ℕ)
      behind [] = []
      behind (s ∷ seats) = seats

  -- fresh seats are those of their queues, and nothing was put by them
  pub fresh_seats : (c : ℕ) (tails : List (SenderSeat T)) (queues : List Shape) → tails ≡ map (fresh_tail c) queues → map seat_of tails ≡ map (seat_in c) queues
  fresh_seats c tails queues e = ap (map seat_of) e ∙ map_map seat_of (fresh_tail c) queues

  pub fresh_put : (c : ℕ) (tails : List (SenderSeat T)) (queues : List Shape) → tails ≡ map (fresh_tail c) queues → (k : ℕ) (d : SenderSeat T) → k < length tails → (slice_index_or tails k d).put ≡ []
  fresh_put c tails queues e k d low = ap (λ zs. (slice_index_or zs k d).put) e ∙ by queues k (omega (arith, low, many))
    where
      many : length tails ≡ length queues
      many = as_many c tails queues (fresh_seats c tails queues e)

      by : (qs : List Shape) (i : ℕ) → i < length qs → (slice_index_or (map (fresh_tail c) qs) i d).put ≡ []
      by [] i low' = absurd (omega (arith, low'))
      by (q ∷ qs) zero low' = refl
      by (q ∷ qs) (suc i) low' = by qs i (omega (arith, low'))

  pub values_more : (taken : List (Tagged T)) (x : Tagged T) → values (taken ++ x ∷ []) ≡ values taken ++ x.value ∷ []
  values_more [] x = refl
  values_more (y ∷ taken) x = ap (λ zs. y.value ∷ zs) (values_more taken x)

  -- what was passed on, with what is kept, is what was taken; and with one more
  pub taken_more : (passed : List T) (kept : Option T) (taken taken' : List (Tagged T)) (x : Tagged T) (value : T) → passed ++ option_to_list kept ≡ values taken → kept ≡ None → x.value ≡ value → taken' ≡ taken ++ x ∷ [] →
      passed ++ value ∷ [] ≡ values taken'
  taken_more passed kept taken taken' x value was none is more =
      ap (λ zs. zs ++ value ∷ []) (sym (append-nil passed) ∙ ap (λ (o : Option T). passed ++ option_to_list o) (sym none) ∙ was)
      ∙ ap (λ y. values taken ++ y ∷ []) (sym is) ∙ sym (values_more taken x) ∙ ap values (sym more)
