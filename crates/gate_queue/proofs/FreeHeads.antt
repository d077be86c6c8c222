-- What a taker's seat of a queue without a bound has handed out, and what is ready.
use Rattle.std.proofs.Common.{◌≡◌, ℕ, zero, suc, ◌-◌, ◌<◌, ◌≤◌, List, [], ◌∷◌, ◌++◌, length, take, sym, refl, ap, ◌∙◌, subst, arith, append_assoc, append-nil, length-append}
use Rattle.std.proofs.Math.Seq.{take-append_seam}
use Rattle.std.specs.Prelude.{Option, Some, None, IfSome, IfNone, MatchOption}
use Rattle.gate_queue.specs.declared.tagged.Tagged.{Tagged}
use Rattle.gate_queue.specs.declared.known.Got.{Got}
use Rattle.gate_queue.specs.declared.known.Known.{Known}
use Rattle.gate_queue.specs.declared.known.Known.TheVariants.{Taker}
use Rattle.gate_queue.specs.Seats.{QueueId, Shape, TakerSeat, IsHeadOf, with_taken}
use Rattle.gate_queue.specs.States.{AreFrom, MayBeEmpty}
use Rattle.gate_queue.specs.Inner.Sharing.{HasTaken, HasTakenAll, CanWait, took}
use Rattle.gate_queue.specs.Views.{as_taker, taker_at, KnowsTaker}
use Rattle.gate_queue.specs.Inner.Views.{with_more}
use Rattle.gate_queue.specs.FreeViews.{handed_out, seat_with, FreePass, known_by, IsAtRest, IsFreeTakerRight}
use Rattle.std.specs.Option.{option_to_list}
use Rattle.gate_queue.proofs.Settles.{inner, outer}
use Rattle.gate_queue.proofs.Told.{nothing_told, from_told}

module _ {T : Type 0} where
  pub handed : (before taken ready : List (Tagged T)) → before ++ ready ≡ taken → handed_out taken ready ≡ before
  handed before taken ready e =
      let n : length (before ++ ready) - length ready ≡ length before = omega (arith, length-append before ready) in
      ap (λ l. handed_out l ready) (sym e) ∙ ap (λ n. take n (before ++ ready)) n ∙ take-append_seam before ready

  pub all_handed : (taken ready : List (Tagged T)) → ready ≡ [] → handed_out taken ready ≡ taken
  all_handed taken ready none = handed taken taken ready (ap (λ l. taken ++ l) none ∙ append-nil taken)

  -- where nothing is ready the seat has all that was taken
  pub seat_at_rest : (id : QueueId) (k : Known T) (ready : List (Tagged T)) (head : TakerSeat T) → ready ≡ [] → seat_with id k ready ≡ head → taker_at id k ≡ head
  seat_at_rest id k ready head none seen = (λ i. record { queue = record { id = id; senders = (as_taker k).senders }; taken = sym (all_handed (as_taker k).taken ready none) i }) ∙ seen

  -- ---- handing out the first value that is ready

  one_handed : (taken ready rest : List (Tagged T)) (x : Tagged T) → handed_out taken ready ++ ready ≡ taken → ready ≡ x ∷ rest → handed_out taken rest ≡ handed_out taken ready ++ x ∷ []
  one_handed taken ready rest x split is = handed (handed_out taken ready ++ x ∷ []) taken rest (append_assoc (handed_out taken ready) (x ∷ []) rest ∙ ap (λ l. handed_out taken ready ++ l) (sym is) ∙ split)

  pub seat_after_one : (id : QueueId) (k : Known T) (ready rest : List (Tagged T)) (x : Tagged T) (head : TakerSeat T) → handed_out (as_taker k).taken ready ++ ready ≡ (as_taker k).taken → seat_with id k ready ≡ head → ready ≡ x ∷ rest
      → seat_with id k rest ≡ with_taken head x
  seat_after_one id k ready rest x head split seen is =
      (λ i. record { queue = record { id = id; senders = (as_taker k).senders }; taken = one_handed (as_taker k).taken ready rest x split is i }) ∙ ap (λ (h : TakerSeat T). with_taken h x) seen

  pub sender_of_first : (id : QueueId) (k : Known T) (ready rest : List (Tagged T)) (x : Tagged T) (head : TakerSeat T) → AreFrom (as_taker k).senders ready → seat_with id k ready ≡ head → ready ≡ x ∷ rest → x.sender < head.queue.senders
  sender_of_first id k ready rest x head from seen is =
      let first : AreFrom (as_taker k).senders (x ∷ rest) = subst (AreFrom (as_taker k).senders) is from in
      subst (λ n. x.sender < n) (ap (λ (h : TakerSeat T). h.queue.senders) seen) (first zero x (omega arith))

  -- the seat has one value more, if there is one
  pub front_told : (r : Option (Tagged T)) (id : QueueId) (k : Known T) (ready after : List (Tagged T)) (head : TakerSeat T) → handed_out (as_taker k).taken ready ++ ready ≡ (as_taker k).taken → seat_with id k ready ≡ head
      → ready ≡ option_to_list r ++ after → IfSome r (λ x. seat_with id k after ≡ with_taken head x)
  front_told None id k ready after head split seen is = tt
  front_told (Some x) id k ready after head split seen is = seat_after_one id k ready after x head split seen is

  -- ---- taking one value, where nothing is ready

  known_as : (k : Known T) (v : Got T) → k ≡ Taker v → k ≡ Taker (as_taker k)
  known_as k v is = subst (λ (l : Known T). l ≡ Taker (as_taker l)) (sym is) refl

  pub knows_still : (k l : Known T) (u : Got T) → KnowsTaker k → l ≡ Taker u → u.joined ≡ (as_taker k).joined → u.made ≡ (as_taker k).made → u.senders ≡ (as_taker k).senders → KnowsTaker l
  knows_still k l u knows is joined made senders = record {
    known = known_as l u is;
    joined = ap (λ (m : Known T). (as_taker m).joined) is ∙ joined ∙ knows.joined;
    made = ap (λ (m : Known T). (as_taker m).made) is ∙ made ∙ knows.made ∙ sym senders ∙ sym (ap (λ (m : Known T). (as_taker m).senders) is);
  }

  took_what : (k l : Known T) (x : Tagged T) → KnowsTaker k → HasTaken k x l → l ≡ Taker (took (as_taker k) x)
  took_what k l x knows told = (subst (λ (m : Known T). HasTaken m x l) knows.known told).0

module _ {T A : Type 0} where
  pub right_after_one : (p : FreePass T A) (ready rest : List (Tagged T)) (x : Tagged T) (n m : ℕ) → IsFreeTakerRight p ready n → ready ≡ x ∷ rest → m ≡ n → IsFreeTakerRight p rest m
  right_after_one p ready rest x n m right is same =
      let v : Got T = as_taker (known_by p) in
      let first : AreFrom v.senders (x ∷ rest) = subst (AreFrom v.senders) is right.from in
      record {
        at_rest = right.at_rest;
        knows = right.knows;
        split = ap (λ l. l ++ rest) (one_handed v.taken ready rest x right.split is) ∙ append_assoc (handed_out v.taken ready) (x ∷ []) rest ∙ ap (λ l. handed_out v.taken ready ++ l) (sym is) ∙ right.split;
        from = λ k d h. first (suc k) d (omega arith);
        room = subst (λ k. 31 ≤ k) (sym same) right.room;
      }

  pub right_after_front : (r : Option (Tagged T)) (p : FreePass T A) (ready after : List (Tagged T)) (n m : ℕ) → IsFreeTakerRight p ready n → ready ≡ option_to_list r ++ after → m ≡ n → IsFreeTakerRight p after m
  right_after_front None p ready after n m right is same = subst (λ (y : List (Tagged T) × ℕ). IsFreeTakerRight p y.0 y.1) (λ i. (is i, sym same i)) right
  right_after_front (Some x) p ready after n m right is same = right_after_one p ready after x n m right is same

  pub nothing_is_ready : (q : FreePass T A) (ready : List (Tagged T)) (n : ℕ) → IsAtRest q → KnowsTaker (known_by q) → ready ≡ [] → 31 ≤ n → IsFreeTakerRight q ready n
  nothing_is_ready q ready n rest knows none room = record {
    at_rest = rest;
    knows = knows;
    split = ap (λ l. l ++ ready) (all_handed (as_taker (known_by q)).taken ready none) ∙ ap (λ l. (as_taker (known_by q)).taken ++ l) none ∙ append-nil (as_taker (known_by q)).taken;
    from = subst (AreFrom (as_taker (known_by q)).senders) (sym none) (λ k d h. absurd (omega arith));
    room = room;
  }

  pub right_after_pop : (r : Option (Tagged T)) (p q : FreePass T A) (S : Type 0) (ready after : List (Tagged T)) (n m : ℕ) → IsFreeTakerRight p ready n → IsAtRest q → after ≡ [] → m ≡ n
      → MatchOption r ((known_by q ≡ known_by p) × CanWait (known_by p) []) (λ x. HasTaken (known_by p) x (known_by q) × S) → IsFreeTakerRight q after m
  right_after_pop None p q S ready after n m right rest none same rule =
      nothing_is_ready q after m rest (subst (λ (k : Known T). KnowsTaker k) (sym rule.0) right.knows) none (subst (λ k. 31 ≤ k) (sym same) right.room)
  right_after_pop (Some x) p q S ready after n m right rest none same rule =
      nothing_is_ready q after m rest (knows_still (known_by p) (known_by q) (took (as_taker (known_by p)) x) right.knows (took_what (known_by p) (known_by q) x right.knows rule.0) refl refl refl) none
      (subst (λ k. 31 ≤ k) (sym same) right.room)

module _ {T : Type 0} where
  -- what a taking tells that finds nothing
  pub free_empty_told : (r : Option (Tagged T)) (id : QueueId) (k l : Known T) (S : Type 0) (ready : List (Tagged T)) (queue : Shape) (head : TakerSeat T) → KnowsTaker k → ready ≡ [] → seat_with id k ready ≡ head → IsHeadOf queue head
      → MatchOption r ((l ≡ k) × CanWait k []) (λ x. HasTaken k x l × S) → IfNone r (MayBeEmpty queue head)
  free_empty_told (Some x) id k l S ready queue head knows none seen of rule = tt
  free_empty_told None id k l S ready queue head knows none seen of rule = nothing_told id k queue head knows (seat_at_rest id k ready head none seen) of ([], refl, rule.1)

  -- what is taken comes from a sender of the queue
  pub free_sender_told : (r : Option (Tagged T)) (id : QueueId) (k l : Known T) (S : Type 0) (ready : List (Tagged T)) (queue : Shape) (head : TakerSeat T) → KnowsTaker k → ready ≡ [] → seat_with id k ready ≡ head → IsHeadOf queue head
      → MatchOption r ((l ≡ k) × CanWait k []) (λ x. HasTaken k x l × S) → IfSome r (λ x. x.sender < queue.name.senders)
  free_sender_told None id k l S ready queue head knows none seen of rule = tt
  free_sender_told (Some x) id k l S ready queue head knows none seen of rule = from_told x id k l queue head knows (seat_at_rest id k ready head none seen) of rule.0

  -- the seat has one value more
  pub free_some_told : (r : Option (Tagged T)) (id id' : QueueId) (k l : Known T) (S : Type 0) (ready after : List (Tagged T)) (head : TakerSeat T) → KnowsTaker k → ready ≡ [] → after ≡ [] → id' ≡ id → seat_with id k ready ≡ head
      → MatchOption r ((l ≡ k) × CanWait k []) (λ x. HasTaken k x l × S) → IfSome r (λ x. seat_with id' l after ≡ with_taken head x)
  free_some_told None id id' k l S ready after head knows none none' same seen rule = tt
  free_some_told (Some x) id id' k l S ready after head knows none none' same seen rule =
      let now : l ≡ Taker (took (as_taker k) x) = (subst (λ (m : Known T). HasTaken m x l) knows.known rule.0).0 in
      let before : taker_at id k ≡ head = seat_at_rest id k ready head none seen in
      (λ i. record { queue = record { id = same i; senders = (as_taker (now i)).senders }; taken = all_handed (as_taker l).taken after none' i })
      ∙ (λ i. record { queue = record { id = id; senders = (as_taker k).senders }; taken = (as_taker (now i)).taken }) ∙ ap (λ (h : TakerSeat T). with_taken h x) before

-- ---- taking several values, where nothing is ready

module _ {T : Type 0} where
  -- they come from senders of the queue
  pub taken_from : (k w : Known T) (v : Got T) (xs ready : List (Tagged T)) → k ≡ Taker v → HasTakenAll k xs w → ready ≡ xs → AreFrom v.senders ready
  taken_from k w v xs ready is told same =
      let has = subst (λ (l : Known T). HasTakenAll l xs w) is told in
      subst (AreFrom v.senders) (sym same) (inner v.senders v.taken xs (outer v.senders (v.taken ++ xs) has.1.0 has.1.1.from))

  more_handed : (k l : Known T) (ready after : List (Tagged T)) → ready ≡ [] → l ≡ Taker (with_more (as_taker k) after) → handed_out (as_taker l).taken after ≡ (as_taker k).taken
  more_handed k l ready after none is = handed (as_taker k).taken (as_taker l).taken after (sym (ap (λ (m : Known T). (as_taker m).taken) is))

  -- what is ready is not handed out yet
  pub seat_after_fill : (id id' : QueueId) (k l : Known T) (ready after : List (Tagged T)) (head : TakerSeat T) → ready ≡ [] → l ≡ Taker (with_more (as_taker k) after) → id' ≡ id → seat_with id k ready ≡ head → seat_with id' l after ≡ head
  seat_after_fill id id' k l ready after head none is same seen =
      (λ i. record { queue = record { id = same i; senders = (as_taker (is i)).senders }; taken = more_handed k l ready after none is i }) ∙ seat_at_rest id k ready head none seen

module _ {T A : Type 0} where
  pub right_after_fill : (p q : FreePass T A) (ready after : List (Tagged T)) (n m : ℕ) → IsFreeTakerRight p ready n → IsAtRest q → ready ≡ [] → known_by q ≡ Taker (with_more (as_taker (known_by p)) after)
      → AreFrom (as_taker (known_by p)).senders after → m ≡ n → IsFreeTakerRight q after m
  right_after_fill p q ready after n m right rest none is from same = record {
    at_rest = rest;
    knows = knows_still (known_by p) (known_by q) (with_more (as_taker (known_by p)) after) right.knows is refl refl refl;
    split = ap (λ l. l ++ after) (more_handed (known_by p) (known_by q) ready after none is) ∙ sym (ap (λ (k : Known T). (as_taker k).taken) is);
    from = subst (λ n. AreFrom n after) (sym (ap (λ (k : Known T). (as_taker k).senders) is)) from;
    room = subst (λ k. 31 ≤ k) (sym same) right.room;
  }

-- ---- moving out what was taken

module _ {X : Type 0} where
  pub some_first : (xs : List X) → 0 < length xs → (x : X) × (rest : List X) × (xs ≡ x ∷ rest)
  some_first [] h = absurd (omega arith)
  some_first (x ∷ xs) h = (x, xs, refl)

  pub none_left : (xs : List X) → length xs ≡ 0 → xs ≡ []
  none_left [] e = refl
  none_left (x ∷ xs) e = absurd (omega arith)

  pub one_moved : (ready after left rest xs : List X) (x y : X) → ready ++ left ≡ xs → left ≡ x ∷ rest → y ≡ x → after ≡ ready ++ y ∷ [] → after ++ rest ≡ xs
  one_moved ready after left rest xs x y all is same grown =
      ap (λ l. l ++ rest) grown ∙ append_assoc ready (y ∷ []) rest ∙ ap (λ z. ready ++ z ∷ rest) same ∙ ap (λ l. ready ++ l) (sym is) ∙ all

  pub some_of : (A : Type 0) (B : X → Type 0) (o : Option X) (x : X) → o ≡ Some x → MatchOption o A B → B x
  some_of A B o x is told = subst (λ (o : Option X). MatchOption o A B) is told
