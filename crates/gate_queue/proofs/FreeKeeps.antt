-- Each step keeps the rule of the queues without a bound: from what it does for the rule of every queue, and since the first pass stays the taker's.
use Rattle.std.proofs.Common.{◌≡◌, ◌≢◌, ℕ, zero, suc, ◌+◌, ◌<◌, ◌≤◌, List, [], ◌∷◌, ◌++◌, length, set, sym, refl, ap, ◌∙◌, subst, inl, inr, ⊎_elim, arith}
use mathlib.Core.Option.{some, some-injective, some-ne-none}
use lib.ListN.{get_elem?}
use Rattle.crossbeam_queue.specs.Fifo.{Pushes, Pops, PopsMany, Forks, Merges, Admits, Learns}
use Rattle.gate_queue.specs.declared.tagged.Tagged.{Tagged}
use Rattle.gate_queue.specs.declared.known.Put.{Put}
use Rattle.gate_queue.specs.declared.known.Got.{Got}
use Rattle.gate_queue.specs.declared.known.Known.{Known}
use Rattle.gate_queue.specs.declared.known.Known.TheVariants.{Sender, Taker, Nothing}
use Rattle.gate_queue.specs.Sharing.{Fits, Shares, joined}
use Rattle.gate_queue.specs.Inner.Sharing.{newcomer, HasPut, HasTaken, HasTakenAll, CanWait, planned, nothing, seated, next_sender, took}
use Rattle.gate_queue.specs.Inner.FreeSharing.{IsFresh, HasBegun, SharesFree, begun, parted, first_joined, rest_of}
use Rattle.gate_queue.specs.Views.{as_sender}
use Rattle.gate_queue.specs.Inner.Views.{with_more}
use Rattle.gate_queue.proofs.Views.{each_set, each_snoc}
use Rattle.gate_queue.proofs.Told.{put_keeps, take_keeps_at}
use Rattle.gate_queue.proofs.Keeps.{nothing_yet, refit, takes_many}
use Rattle.gate_queue.proofs.Parts.{plans, seats, parts}

module _ {T : Type 0} where
  -- where the taker knows something it stays a taker
  abbrev StaysTaker : Known T → Known T → Type 0
  StaysTaker k w = (u : Got T) → k ≡ Taker u → (u' : Got T) × (w ≡ Taker u')

  sender_role : (k : Known T) (v : Put T) → k ≡ Sender v → k ≢ Nothing
  sender_role k v is e = (let d : Sender v ≡ Nothing = sym is ∙ e in (cc))

  taker_role : (k : Known T) (v : Got T) → k ≡ Taker v → k ≢ Nothing
  taker_role k v is e = (let d : Taker v ≡ Nothing = sym is ∙ e in (cc))

  sender_stays : (k w : Known T) (v : Put T) → k ≡ Sender v → StaysTaker k w
  sender_stays k w v is u e = absurd (let d : Sender v ≡ Taker u = sym is ∙ e in (cc))

  -- the first pass stays the taker's
  first_stays : (views : List (Known T)) (pass : ℕ) (k w : Known T) (g : Got T) → get_elem? views 0 ≡ some (Taker g) → get_elem? views pass ≡ some k → StaysTaker k w
      → (g' : Got T) × (get_elem? (set views pass w) 0 ≡ some (Taker g'))
  first_stays [] pass k w g first at stays = absurd (some-ne-none (Taker g) (sym first))
  first_stays (v ∷ vs) zero k w g first at stays = let now = stays g (some-injective k (Taker g) (sym at ∙ first)) in (now.0, ap some now.1)
  first_stays (v ∷ vs) (suc p) k w g first at stays = (g, first)

  first_snoc : (views : List (Known T)) (a b : Known T) → get_elem? views 0 ≡ some b → get_elem? (views ++ a ∷ []) 0 ≡ some b
  first_snoc [] a b first = absurd (some-ne-none b (sym first))
  first_snoc (v ∷ vs) a b first = first

  first_set : (views : List (Known T)) (w b : Known T) → get_elem? views 0 ≡ some b → get_elem? (set views 0 w) 0 ≡ some w
  first_set [] w b first = absurd (some-ne-none b (sym first))
  first_set (v ∷ vs) w b first = refl

  lift_pushes : (n pass : ℕ) (k : Known T) (x : Tagged T) (then : Known T → Type 0) → k ≢ Nothing → ((w : Known T) → then w → StaysTaker k w) → Pushes Shares n pass k x then → Pushes SharesFree n pass k x then
  lift_pushes n pass k x then role stays keeps items views room h at =
      ⊎_elim (λ (f : IsFresh items views). absurd (role (f.none_knows pass k at)))
      (λ (b : HasBegun items views).
      let now = keeps items views room b.shares at in
      let first = first_stays views pass k now.0 b.taker b.first at (stays now.0 now.2) in
      (now.0, inr (record { shares = now.1; taker = first.0; first = first.1 }), now.2))
      h

  lift_pops : (pass : ℕ) (k : Known T) (then : Tagged T → Known T → Type 0) → k ≢ Nothing → ((x : Tagged T) (w : Known T) → then x w → StaysTaker k w) → Pops Shares pass k then → Pops SharesFree pass k then
  lift_pops pass k then role stays keeps x items views h at =
      ⊎_elim (λ (f : IsFresh (x ∷ items) views). absurd (role (f.none_knows pass k at)))
      (λ (b : HasBegun (x ∷ items) views).
      let now = keeps x items views b.shares at in
      let first = first_stays views pass k now.0 b.taker b.first at (stays x now.0 now.2) in
      (now.0, inr (record { shares = now.1; taker = first.0; first = first.1 }), now.2))
      h

  lift_pops_many : (pass : ℕ) (k : Known T) (n : ℕ) (then : List (Tagged T) → Known T → Type 0) → k ≢ Nothing → ((xs : List (Tagged T)) (w : Known T) → then xs w → StaysTaker k w) → PopsMany Shares pass k n then
      → PopsMany SharesFree pass k n then
  lift_pops_many pass k n then role stays keeps xs items views size h at =
      ⊎_elim (λ (f : IsFresh (xs ++ items) views). absurd (role (f.none_knows pass k at)))
      (λ (b : HasBegun (xs ++ items) views).
      let now = keeps xs items views size b.shares at in
      let first = first_stays views pass k now.0 b.taker b.first at (stays xs now.0 now.2) in
      (now.0, inr (record { shares = now.1; taker = first.0; first = first.1 }), now.2))
      h

  lift_learns : (pass : ℕ) (k : Known T) (fact : List (Tagged T) → Type 0) → k ≢ Nothing → Learns Shares pass k fact → Learns SharesFree pass k fact
  lift_learns pass k fact role learns items views h at =
      ⊎_elim (λ (f : IsFresh items views). absurd (role (f.none_knows pass k at))) (λ (b : HasBegun items views). learns items views b.shares at) h

  pub lift_forks : (pass : ℕ) (k left right : Known T) → k ≢ Nothing → StaysTaker k left → Forks Shares pass k left right → Forks SharesFree pass k left right
  lift_forks pass k left right role stays keeps items views h at =
      ⊎_elim (λ (f : IsFresh items views). absurd (role (f.none_knows pass k at)))
      (λ (b : HasBegun items views).
      let first = first_stays views pass k left b.taker b.first at stays in
      inr (record { shares = keeps items views b.shares at; taker = first.0; first = first_snoc (set views pass left) right (Taker first.0) first.1 }))
      h

  lift_merges : (pass : ℕ) (k : Known T) (other : ℕ) (l both : Known T) (w : Put T) → k ≢ Nothing → StaysTaker k both → l ≡ Sender w → Merges Shares pass k other l both Nothing
      → Merges SharesFree pass k other l both Nothing
  lift_merges pass k other l both w role stays is keeps items views h at two at' =
      ⊎_elim (λ (f : IsFresh items views). absurd (role (f.none_knows pass k at)))
      (λ (b : HasBegun items views).
      let first = first_stays views pass k both b.taker b.first at stays in
      let second = first_stays (set views pass both) other l Nothing first.0 first.1 at' (sender_stays l Nothing w is) in
      inr (record { shares = keeps items views b.shares at two at'; taker = second.0; first = second.1 }))
      h

  -- ---- the steps

  -- the rule of a new queue
  pub free_begins : SharesFree {T = T} [] (Nothing ∷ [])
  free_begins = inl (record { none_waits = refl; none_knows = each_snoc (λ _ v. v ≡ Nothing) [] Nothing (λ pass v e. absurd (some-ne-none v (sym e))) refl; first = refl })

  -- a pass that knows nothing may come at any time
  pub admits : Admits {T = Tagged T} {V = Known T} SharesFree Nothing
  admits items views h =
      ⊎_elim
      (λ (f : IsFresh items views).
      inl (record { none_waits = f.none_waits; none_knows = each_snoc (λ _ v. v ≡ Nothing) views Nothing f.none_knows refl; first = first_snoc views Nothing Nothing f.first }))
      (λ (b : HasBegun items views).
      let s = b.shares in
      inr
      (record {
        shares = refit s s.holder s.taken s.history (each_snoc (Fits s.taker s.senders s.holder s.all s.taken) views Nothing s.fits tt);
        taker = b.taker;
        first = first_snoc views Nothing (Taker b.taker) b.first;
      }))
      h

  -- the first pass becomes the taker's
  pub taker_begins : (pass : ℕ) (k : Known T) → pass ≡ 0 → k ≡ Nothing → Forks SharesFree pass k (begun k) (nothing k)
  taker_begins pass k here is items views h at =
      ⊎_elim
      (λ (f : IsFresh items views).
      let w : Known T = newcomer 0 in
      let F : ℕ → Known T → Type 0 = Fits 0 0 (λ _. 0) [] [] in
      inr
      (record {
        shares = nothing_yet f.none_waits
            (each_snoc F (set views pass w) Nothing
            (each_set F views pass w (record { here = here; got = refl; count = refl; unmade = λ s h. (refl, refl); joined = λ s h. absurd (omega arith) })
            (λ j u apart e. subst (F j) (sym (f.none_knows j u e)) tt)) tt);
        taker = record { senders = 0; made = 0; taken = []; joined = [] };
        first = first_snoc (set views pass w) Nothing w (subst (λ p. get_elem? (set views p w) 0 ≡ some w) (sym here) (first_set views w Nothing f.first));
      }))
      (λ (b : HasBegun items views).
      absurd (let d : Taker b.taker ≡ Nothing = some-injective (Taker b.taker) Nothing (sym b.first ∙ ap (get_elem? views) (sym here) ∙ at ∙ ap some is) in (cc)))
      h

  pub free_plans : (pass : ℕ) (k : Known T) (v : Got T) → k ≡ Taker v → v.made ≡ 0 → length v.joined ≡ 0 → Forks SharesFree pass k (planned k) (nothing k)
  free_plans pass k v is new apart =
      lift_forks pass k (planned k) (nothing k) (taker_role k v is) (λ u e. (record u { senders = u.senders + 1 }, ap planned e)) (plans pass k v is new apart)

  pub free_seats : (pass : ℕ) (k : Known T) (v : Got T) → k ≡ Taker v → v.made < v.senders → length v.joined ≡ 0 → Forks SharesFree pass k (seated k) (next_sender k)
  free_seats pass k v is room apart =
      lift_forks pass k (seated k) (next_sender k) (taker_role k v is) (λ u e. (record u { made = u.made + 1 }, ap seated e)) (seats pass k v is room apart)

  pub free_parts : (pass : ℕ) (k : Known T) (v : Got T) → k ≡ Taker v → v.made ≡ v.senders → 0 < length v.joined → length v.joined ≤ v.senders → Forks SharesFree pass k (parted k) (first_joined k)
  free_parts pass k v is made some_are room =
      lift_forks pass k (parted k) (first_joined k) (taker_role k v is) (λ u e. (record u { joined = rest_of u.joined }, ap parted e)) (parts pass k v is made some_are room)

  pub free_joins : (pass : ℕ) (k : Known T) (v : Got T) (other : ℕ) (l : Known T) (w : Put T) → k ≡ Taker v → l ≡ Sender w → Merges Shares pass k other l (joined k l) Nothing
      → Merges SharesFree pass k other l (joined k l) Nothing
  free_joins pass k v other l w is is' =
      lift_merges pass k other l (joined k l) w (taker_role k v is) (λ u e. (record u { joined = w.put ∷ u.joined }, λ i. joined (e i) (is' i))) is'

  put_stays : (k w : Known T) (x : Tagged T) → HasPut k x w → k ≡ Sender (as_sender k) → StaysTaker k w
  put_stays k w x told is = sender_stays k w (as_sender k) is

  pub free_put_keeps : (pass : ℕ) (k : Known T) (x : Tagged T) → k ≡ Sender (as_sender k) → x.sender ≡ (as_sender k).sender → (n : ℕ) → Pushes SharesFree n pass k x (HasPut k x)
  free_put_keeps pass k x is sender n =
      lift_pushes n pass k x (HasPut k x) (sender_role k (as_sender k) is) (λ w told. put_stays k w x told is) (put_keeps n pass k x is sender).0

  take_stays : (k w : Known T) (v : Got T) (x : Tagged T) → k ≡ Taker v → HasTaken k x w → StaysTaker k w
  take_stays k w v x is told u e = (took v x, (subst (λ (l : Known T). HasTaken l x w) is told).0)

  pub free_take_keeps : (pass : ℕ) (k : Known T) (v : Got T) → k ≡ Taker v → Pops SharesFree pass k (HasTaken k) × Learns SharesFree pass k (CanWait k)
  free_take_keeps pass k v is =
      let keeps = take_keeps_at pass k v is in
      (lift_pops pass k (HasTaken k) (taker_role k v is) (λ x w told. take_stays k w v x is told) keeps.0, lift_learns pass k (CanWait k) (taker_role k v is) keeps.1)

  take_many_stays : (k w : Known T) (v : Got T) (xs : List (Tagged T)) → k ≡ Taker v → HasTakenAll k xs w → StaysTaker k w
  take_many_stays k w v xs is told u e = (with_more v xs, (subst (λ (l : Known T). HasTakenAll l xs w) is told).0)

  pub free_take_many_keeps : (pass : ℕ) (k : Known T) (v : Got T) (limit : ℕ) → k ≡ Taker v
      → ((n : ℕ) → 0 < n → n ≤ limit → PopsMany SharesFree pass k n (HasTakenAll k)) × Learns SharesFree pass k (CanWait k) × Admits {T = Tagged T} {V = Known T} SharesFree Nothing
  free_take_many_keeps pass k v limit is = (
    (λ n some_are few.
        lift_pops_many pass k n (HasTakenAll k) (taker_role k v is) (λ xs w told. take_many_stays k w v xs is told)
        (subst (λ (l : Known T). PopsMany Shares pass l n (HasTakenAll l)) (sym is) (takes_many pass v n))),
    (free_take_keeps pass k v is).1,
    admits,
  )
