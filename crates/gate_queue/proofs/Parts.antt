-- The steps that cut a pass or join one keep the rule of the queues.
use Rattle.std.proofs.Common.{◌≡◌, ◌≢◌, ℕ, zero, suc, ◌+◌, ◌-◌, ◌<◌, ◌≤◌, true, false, cond, List, [], ◌∷◌, length, get_or, set, sym, refl, ap, ◌∙◌, subst, eqb, eq-eqb, ne_eqb, arith}
use mathlib.Core.Option.{some}
use lib.ListN.{get_elem?}
use Rattle.crossbeam_queue.specs.Fifo.{Forks, Merges}
use Rattle.gate_queue.specs.declared.tagged.Tagged.{Tagged}
use Rattle.gate_queue.specs.declared.known.Put.{Put}
use Rattle.gate_queue.specs.declared.known.Got.{Got}
use Rattle.gate_queue.specs.declared.known.Known.{Known}
use Rattle.gate_queue.specs.declared.known.Known.TheVariants.{Sender, Taker, Nothing}
use Rattle.gate_queue.specs.Tagged.{values_of}
use Rattle.gate_queue.specs.Sharing.{IsSender, IsTaker, Fits, Shares, joined_number, joined}
use Rattle.gate_queue.specs.Inner.Sharing.{planned, nothing, seated, next_sender}
use Rattle.gate_queue.specs.Inner.FreeSharing.{parted, first_joined}
use Rattle.gate_queue.specs.Inner.Views.{with_joined}
use Rattle.crossbeam_queue.proofs.Lists.{set_else}
use Rattle.gate_queue.proofs.Views.{Each, each_set, each_snoc}
use Rattle.gate_queue.proofs.Keeps.{refit}

-- the holders when seat s goes to p
abbrev given : (ℕ → ℕ) → ℕ → ℕ → ℕ → ℕ
given holder s p q = cond (eqb q s) p (holder q)

given_there : (holder : ℕ → ℕ) (s p : ℕ) → given holder s p s ≡ p
given_there holder s p = rw (eq-eqb s s refl)

given_else : (holder : ℕ → ℕ) (s p q : ℕ) → q ≢ s → given holder s p q ≡ holder q
given_else holder s p q apart = rw (ne_eqb q s apart)

given_none : (holder : ℕ → ℕ) (s q : ℕ) → holder q ≡ 0 → given holder s 0 q ≡ 0
given_none holder s q none = elim (eqb q s) as (λ b. cond b 0 (holder q) ≡ 0) [ true ↦ refl | false ↦ none ]

-- the numbers of the seats that are joined, when the first is given back
one_less : (senders n i : ℕ) → n < senders → senders - suc n + suc i ≡ senders - n + i
one_less senders n i l = omega arith

module _ {T : Type 0} where
  fits_plan : (taker senders : ℕ) (holder : ℕ → ℕ) (all taken : List (Tagged T)) (pass : ℕ) → pass ≡ taker → ((s : ℕ) → holder s ≡ 0)
      → (j : ℕ) (u : Known T) → j ≢ pass → Fits taker senders holder all taken j u → Fits taker (senders + 1) holder all taken j u
  fits_plan taker senders holder all taken pass here none j (Sender u) apart f = absurd (let a : suc j ≡ 0 = sym f.seat ∙ none u.sender in omega arith)
  fits_plan taker senders holder all taken pass here none j (Taker u) apart f = absurd (apart (f.here ∙ sym here))
  fits_plan taker senders holder all taken pass here none j Nothing apart f = tt

  plans_at : (pass : ℕ) (v : Got T) → v.made ≡ 0 → length v.joined ≡ 0 → Forks Shares pass (Taker v) (planned (Taker v)) (nothing (Taker v))
  plans_at pass v new apart items views h at =
      let w : Got T = record v { senders = v.senders + 1 } in
      let me = h.fits pass (Taker v) at in
      let none : (s : ℕ) → h.holder s ≡ 0 = λ s. (me.unmade s (let z : v.made ≡ 0 = new in omega arith)).0 in
      let mine : IsTaker h.taker (h.senders + 1) h.holder h.all h.taken pass w =
      record { here = me.here; got = me.got; count = ap (λ n. n + 1) me.count; unmade = me.unmade; joined = λ i l. absurd (omega arith) } in
      let F : ℕ → Known T → Type 0 = Fits h.taker (h.senders + 1) h.holder h.all h.taken in
      record {
        taker = h.taker;
        senders = h.senders + 1;
        holder = h.holder;
        all = h.all;
        taken = h.taken;
        history = h.history;
        from = λ k d l. (let b = h.from k d l in omega arith);
        fits = each_snoc F (set views pass (Taker w)) Nothing
            (each_set F views pass (Taker w) mine (λ j u apart e. fits_plan h.taker h.senders h.holder h.all h.taken pass me.here none j u apart (h.fits j u e))) tt;
      }

  pub plans : (pass : ℕ) (k : Known T) (v : Got T) → k ≡ Taker v → v.made ≡ 0 → length v.joined ≡ 0 → Forks Shares pass k (planned k) (nothing k)
  plans pass k v is new apart = subst (λ (k : Known T). Forks Shares pass k (planned k) (nothing k)) (sym is) (plans_at pass v new apart)

  fits_seat : (taker senders : ℕ) (holder : ℕ → ℕ) (all taken : List (Tagged T)) (pass s p : ℕ) → pass ≡ taker → holder s ≡ 0
      → (j : ℕ) (u : Known T) → j ≢ pass → Fits taker senders holder all taken j u → Fits taker senders (given holder s p) all taken j u
  fits_seat taker senders holder all taken pass s p here none j (Sender u) apart f =
      let other : u.sender ≢ s = λ e. (let a : suc j ≡ 0 = sym f.seat ∙ ap holder e ∙ none in omega arith) in
      record { seat = given_else holder s p u.sender other ∙ f.seat; put = f.put; count = f.count; within = f.within }
  fits_seat taker senders holder all taken pass s p here none j (Taker u) apart f = absurd (apart (f.here ∙ sym here))
  fits_seat taker senders holder all taken pass s p here none j Nothing apart f = tt

  seats_at : (pass : ℕ) (v : Got T) → v.made < v.senders → length v.joined ≡ 0 → Forks Shares pass (Taker v) (seated (Taker v)) (next_sender (Taker v))
  seats_at pass v room apart items views h at =
      let w : Got T = record v { made = v.made + 1 } in
      let me = h.fits pass (Taker v) at in
      let next : Put T = record { sender = v.made; senders = v.senders; put = [] } in
      let free = me.unmade v.made (omega arith) in
      let vs : List (Known T) = set views pass (Taker w) in
      let n : ℕ = suc (length vs) in
      let mine : IsTaker h.taker h.senders (given h.holder v.made n) h.all h.taken pass w =
      record {
        here = me.here;
        got = me.got;
        count = me.count;
        unmade = λ s l. let none = me.unmade s (omega arith) in (given_else h.holder v.made n s (λ e. omega arith) ∙ none.0, none.1);
        joined = λ i l. absurd (omega arith);
      } in
      let new : IsSender h.senders (given h.holder v.made n) h.all (length vs) next =
      record { seat = given_there h.holder v.made n; put = sym free.1; count = me.count; within = subst (λ k. v.made < k) me.count room } in
      let F : ℕ → Known T → Type 0 = Fits h.taker h.senders (given h.holder v.made n) h.all h.taken in
      refit h (given h.holder v.made n) h.taken h.history
      (each_snoc F vs (Sender next)
      (each_set F views pass (Taker w) mine (λ j u apart e. fits_seat h.taker h.senders h.holder h.all h.taken pass v.made n me.here free.0 j u apart (h.fits j u e))) new)

  pub seats : (pass : ℕ) (k : Known T) (v : Got T) → k ≡ Taker v → v.made < v.senders → length v.joined ≡ 0 → Forks Shares pass k (seated k) (next_sender k)
  seats pass k v is room apart = subst (λ (k : Known T). Forks Shares pass k (seated k) (next_sender k)) (sym is) (seats_at pass v room apart)

  parts_at : (pass : ℕ) (v : Got T) (l : List T) (ls : List (List T)) → v.made ≡ v.senders → length ls < v.senders
      → Forks Shares pass (Taker (with_joined v (l ∷ ls))) (parted (Taker (with_joined v (l ∷ ls)))) (first_joined (Taker (with_joined v (l ∷ ls))))
  parts_at pass v l ls made room items views h at =
      let w : Got T = with_joined v ls in
      let me = h.fits pass (Taker (with_joined v (l ∷ ls))) at in
      let s : ℕ = v.senders - suc (length ls) in
      let next : Put T = record { sender = s; senders = v.senders; put = l } in
      let first : v.senders - suc (length ls) + 0 ≡ s = omega arith in
      let free = subst (λ k. (h.holder k ≡ 0) × (l ≡ values_of k h.all)) first (me.joined zero (omega arith)) in
      let vs : List (Known T) = set views pass (Taker w) in
      let n : ℕ = suc (length vs) in
      let later : (i : ℕ) → i < length ls → (h.holder (joined_number w i) ≡ 0) × (get_or ls i [] ≡ values_of (joined_number w i) h.all) = λ i b.
      subst (λ k. (h.holder k ≡ 0) × (get_or ls i [] ≡ values_of k h.all)) (one_less v.senders (length ls) i room) (me.joined (suc i) (omega arith)) in
      let mine : IsTaker h.taker h.senders (given h.holder s n) h.all h.taken pass w =
      record {
        here = me.here;
        got = me.got;
        count = me.count;
        unmade = λ t b. let none = me.unmade t b in (given_else h.holder s n t (λ e. omega arith) ∙ none.0, none.1);
        joined = λ i b. let none = later i b in (given_else h.holder s n (joined_number w i) (λ e. omega arith) ∙ none.0, none.1);
      } in
      let new : IsSender h.senders (given h.holder s n) h.all (length vs) next =
      record { seat = given_there h.holder s n; put = free.1; count = me.count; within = subst (λ k. s < k) me.count (omega arith) } in
      let F : ℕ → Known T → Type 0 = Fits h.taker h.senders (given h.holder s n) h.all h.taken in
      refit h (given h.holder s n) h.taken h.history
      (each_snoc F vs (Sender next)
      (each_set F views pass (Taker w) mine (λ j u apart e. fits_seat h.taker h.senders h.holder h.all h.taken pass s n me.here free.0 j u apart (h.fits j u e))) new)

  -- the first seat that was joined is given back
  pub parts : (pass : ℕ) (k : Known T) (v : Got T) → k ≡ Taker v → v.made ≡ v.senders → 0 < length v.joined → length v.joined ≤ v.senders → Forks Shares pass k (parted k) (first_joined k)
  parts pass k v is made some_are room = subst (λ (k : Known T). Forks Shares pass k (parted k) (first_joined k)) (sym is) (by_lists v.joined v made some_are room)
    where
      by_lists : (lists : List (List T)) (v : Got T) → v.made ≡ v.senders → 0 < length lists → length lists ≤ v.senders
          → Forks Shares pass (Taker (with_joined v lists)) (parted (Taker (with_joined v lists))) (first_joined (Taker (with_joined v lists)))
      by_lists [] v made some_are room = absurd (omega arith)
      by_lists (l ∷ ls) v made some_are room = parts_at pass v l ls made (omega arith)

  -- what another seat knows stays when the seat of a sender is joined
  fits_join : (taker senders : ℕ) (holder : ℕ → ℕ) (all taken : List (Tagged T)) (pass other s : ℕ) → pass ≡ taker → holder s ≡ suc other
      → (j : ℕ) (u : Known T) → j ≢ pass → j ≢ other → Fits taker senders holder all taken j u → Fits taker senders (given holder s 0) all taken j u
  fits_join taker senders holder all taken pass other s here held j (Sender u) apart apart' f =
      let differ : u.sender ≢ s = λ e. apart' (let a : suc j ≡ suc other = sym f.seat ∙ ap holder e ∙ held in omega arith) in
      record { seat = given_else holder s 0 u.sender differ ∙ f.seat; put = f.put; count = f.count; within = f.within }
  fits_join taker senders holder all taken pass other s here held j (Taker u) apart apart' f = absurd (apart (f.here ∙ sym here))
  fits_join taker senders holder all taken pass other s here held j Nothing apart apart' f = tt

  -- the numbers of the seats that are joined, when one more is
  one_more : (v : Got T) (w : Put T) (i : ℕ) → w.sender + suc (length v.joined) ≡ v.senders → i < length v.joined → joined_number v i ≡ joined_number (record v { joined = w.put ∷ v.joined }) (suc i)
  one_more v w i next l = omega arith

  joins_at : (pass : ℕ) (v : Got T) (other : ℕ) (w : Put T) → w.sender + suc (length v.joined) ≡ v.senders
      → Merges Shares pass (Taker v) other (Sender w) (joined (Taker v) (Sender w)) Nothing
  joins_at pass v other w next items views h at two at' =
      let v' : Got T = record v { joined = w.put ∷ v.joined } in
      let me = h.fits pass (Taker v) at in
      let vs : List (Known T) = set views pass (Taker v') in
      let was : get_elem? views other ≡ some (Sender w) = sym (set_else views pass other (Taker v') two) ∙ at' in
      let it = h.fits other (Sender w) was in
      let holder : ℕ → ℕ = given h.holder w.sender 0 in
      let mine : IsTaker h.taker h.senders holder h.all h.taken pass v' =
      record {
        here = me.here;
        got = me.got;
        count = me.count;
        unmade = λ s l. let none = me.unmade s l in (given_none h.holder w.sender s none.0, none.1);
        joined = both h.all holder v w next (given_there h.holder w.sender 0, it.put) (λ i l. let none = me.joined i l in (given_none h.holder w.sender (joined_number v i) none.0, none.1));
      } in
      let F : ℕ → Known T → Type 0 = Fits h.taker h.senders holder h.all h.taken in
      let G : ℕ → Known T → Type 0 = λ j u. j ≢ other → F j u in
      let now : Each G vs = each_set G views pass (Taker v') (λ _. mine)
      (λ j u apart e apart'. fits_join h.taker h.senders h.holder h.all h.taken pass other w.sender me.here it.seat j u apart apart' (h.fits j u e)) in
      refit h holder h.taken h.history
      (each_set F vs other Nothing tt (λ j u apart e. now j u e apart))
    where
      both : (all : List (Tagged T)) (holder : ℕ → ℕ) (v : Got T) (w : Put T) → w.sender + suc (length v.joined) ≡ v.senders → (holder w.sender ≡ 0) × (w.put ≡ values_of w.sender all)
          → ((i : ℕ) → i < length v.joined → (holder (joined_number v i) ≡ 0) × (get_or v.joined i [] ≡ values_of (joined_number v i) all))
          → (i : ℕ) → i < suc (length v.joined)
          → (holder (joined_number (record v { joined = w.put ∷ v.joined }) i) ≡ 0) × (get_or (w.put ∷ v.joined) i [] ≡ values_of (joined_number (record v { joined = w.put ∷ v.joined }) i) all)
      both all holder v w next new old zero l =
          let first : w.sender ≡ v.senders - suc (length v.joined) + 0 = omega arith in subst (λ s. (holder s ≡ 0) × (w.put ≡ values_of s all)) first new
      both all holder v w next new old (suc i) l = subst (λ s. (holder s ≡ 0) × (get_or v.joined i [] ≡ values_of s all)) (one_more v w i next (omega arith)) (old i (omega arith))

  pub joins : (pass : ℕ) (k : Known T) (v : Got T) (other : ℕ) (l : Known T) (w : Put T) → k ≡ Taker v → l ≡ Sender w → w.sender + suc (length v.joined) ≡ v.senders
      → Merges Shares pass k other l (joined k l) Nothing
  joins pass k v other l w is is' next = subst (λ (y : Known T × Known T). Merges Shares pass y.0 other y.1 (joined y.0 y.1) Nothing) (λ i. (sym is i, sym is' i)) (joins_at pass v other w next)
