-- The rule of a queue, as contracts say it and as threads keep it.
use Rattle.std.proofs.Common.{◌≡◌, ◌≢◌, ◌∙◌, ◌<◌, ◌≤◌, ◌+◌, ℕ, zero, suc, cond, ltb, List, [], ◌∷◌, ◌++◌, map, refl, sym, ap, subst, le-ltb, lt-ltb, ne_eqb, arith}
use Rattle.std.specs.List.{range_with_len}
use mathlib.Core.Option.{some, some-injective, some-ne-none}
use lib.ListN.{get_elem?}
use Rattle.gate_queue.specs.declared.tagged.Tagged.{Tagged}
use Rattle.gate_queue.specs.declared.known.Got.{Got}
use Rattle.gate_queue.specs.declared.known.Known.{Known}
use Rattle.gate_queue.specs.declared.known.Known.TheVariants.{Sender, Taker, Nothing}
use Rattle.gate_queue.specs.declared.known.Put.{Put}
use Rattle.gate_queue.specs.Laws.{Knows, ProtocolKeepsTheRule, RuleIsTheProtocols, sender_in, state_in, taker_in}
use Rattle.gate_queue.specs.Sharing.{Fits, Shares}
use Rattle.gate_queue.specs.States.{AreFrom}
use Rattle.gate_queue.specs.Tagged.{values_of}
use Rattle.gate_queue.proofs.Values.{values_of-append}

known : {T : Type 0} (items : List (Tagged T)) (views : List (Known T)) (shares : Shares items views) (pass : ℕ) (v : Known T) →
    Fits shares.taker shares.senders shares.holder shares.all shares.taken pass v → Knows (state_in items views shares) v
known items views shares pass (Sender v) fits = sym fits.put
known items views shares pass (Taker v) fits = sym fits.got
known items views shares pass Nothing fits = tt

pub keeps_the_rule : (T : Type 0) → ProtocolKeepsTheRule T
keeps_the_rule T queue items views shares senders room = (
  record {
    from = subst (λ n. AreFrom n (shares.taken ++ items)) senders (subst (AreFrom shares.senders) shares.history shares.from);
    room = room;
    delivered = λ k. sym (values_of-append k shares.taken items) ∙ ap (values_of k) (sym shares.history);
  },
  λ pass v at. known items views shares pass v (shares.fits pass v at),
)

-- the first pass is the taker's, and then each sender has one
abbrev holder_of : ℕ → ℕ → ℕ
holder_of n k = cond (ltb k n) (suc (suc k)) 0

held : (n k : ℕ) → k < n → holder_of n k ≡ suc (suc k)
held n k low = rw (lt-ltb k n low)

not_held : (n k : ℕ) → n ≤ k → holder_of n k ≡ 0
not_held n k high = rw (le-ltb k n high)

-- nothing comes of a sender that there isn't
none_of : {T : Type 0} (n s : ℕ) (xs : List (Tagged T)) → AreFrom n xs → n ≤ s → values_of s xs ≡ []
none_of n s [] from high = refl
none_of n s (x ∷ xs) from high =
    let other : x.sender ≢ s = λ is. (let low = from 0 x (omega arith) in omega arith) in
    rw (ne_eqb x.sender s other) (none_of n s xs (λ k d low. from (suc k) d (omega arith)) high)

-- what stands at a place of the seats of senders
sender_at : {T : Type 0} (seat : ℕ → Known T) (n start j : ℕ) (v : Known T) → get_elem? (map seat (range_with_len start n)) j ≡ some v → (j < n) × (v ≡ seat (start + j))
sender_at seat zero start j v at = absurd (some-ne-none v (sym at))
sender_at seat (suc n) start zero v at = (omega arith, sym (some-injective (seat start) v at) ∙ ap seat (omega arith))
sender_at seat (suc n) start (suc j) v at =
    let (low, is) = sender_at seat n (start + 1) j v at in
    (omega arith, is ∙ ap seat (omega arith))

-- what is so of the taker's seat, and of each sender's, is so of all
all_fit : {T : Type 0} (F : ℕ → Known T → Type 0) (taker : Got T) (seat : ℕ → Put T) (n : ℕ) → F 0 (Taker taker) → ((k : ℕ) → k < n → F (suc k) (Sender (seat k)))
    → (pass : ℕ) (v : Known T) → get_elem? (Taker taker ∷ map (λ k. Sender (seat k)) (range_with_len 0 n)) pass ≡ some v → F pass v
all_fit F taker seat n first later zero v at = subst (F 0) (some-injective (Taker taker) v at) first
all_fit F taker seat n first later (suc j) v at =
    let (low, is) = sender_at (λ k. Sender (seat k)) n 0 j v at in
    subst (F (suc j)) (sym (is ∙ ap (λ k. Sender (seat k)) (omega arith))) (later j low)

pub is_the_protocols : (T : Type 0) → RuleIsTheProtocols T
is_the_protocols T queue s allows =
    let n : ℕ = queue.name.senders in
    let all : List (Tagged T) = s.taken ++ s.waiting in
    let F : ℕ → Known T → Type 0 = Fits 0 n (holder_of n) all s.taken in
    let put : (k : ℕ) → values_of k all ≡ s.put k = λ k. values_of-append k s.taken s.waiting ∙ allows.delivered k in
    let taker : F 0 (Taker (taker_in queue s)) = record {
      here = refl;
      got = refl;
      count = refl;
      unmade = λ k high. (not_held n k high, none_of n k all allows.from high);
      joined = λ i low. absurd (omega arith);
    } in
    let sender : (k : ℕ) → k < n → F (suc k) (Sender (sender_in queue s k)) = λ k low. record { seat = held n k low; put = sym (put k); count = refl; within = low } in (
      record {
        taker = 0;
        senders = n;
        holder = holder_of n;
        all = all;
        taken = s.taken;
        history = refl;
        from = allows.from;
        fits = all_fit F (taker_in queue s) (sender_in queue s) n taker sender;
      },
      refl,
      refl,
      put,
    )
