-- Each step keeps the rule of the queues.
use Rattle.std.proofs.Common.{◌≡◌, ◌≢◌, ℕ, zero, suc, ◌<◌, List, [], ◌∷◌, ◌++◌, sym, refl, ap, ◌∙◌, subst, append_assoc, arith}
use Rattle.std.proofs.lemmas.List.Elements.{All-append}
use mathlib.Core.Option.{some-ne-none}
use Rattle.crossbeam_queue.specs.Fifo.{Pushes, Pops, PopsMany, Learns}
use Rattle.gate_queue.specs.declared.tagged.Tagged.{Tagged}
use Rattle.gate_queue.specs.declared.known.Put.{Put}
use Rattle.gate_queue.specs.declared.known.Got.{Got}
use Rattle.gate_queue.specs.declared.known.Known.{Known}
use Rattle.gate_queue.specs.declared.known.Known.TheVariants.{Sender, Taker, Nothing}
use Rattle.gate_queue.specs.Tagged.{values_of}
use Rattle.gate_queue.specs.States.{AreFrom}
use Rattle.gate_queue.specs.Inner.Views.{with_more}
use Rattle.gate_queue.specs.Sharing.{IsSender, IsTaker, Fits, Shares, joined_number}
use Rattle.gate_queue.specs.Inner.Sharing.{newcomer, HasPut, HasTaken, HasTakenAll, CanWait, SenderAllows, TakerAllows}
use Rattle.gate_queue.proofs.Values.{values_of-same, values_of-other}
use Rattle.gate_queue.proofs.Views.{Each, each_set, each_snoc}

module _ {T : Type 0} where
  -- the rule while nothing was put and no sender has a seat
  pub nothing_yet : {items : List (Tagged T)} {views : List (Known T)} → items ≡ [] → Each (Fits 0 0 (λ _. 0) [] []) views → Shares items views
  nothing_yet none fits = record { taker = 0; senders = 0; holder = λ _. 0; all = []; taken = []; history = sym none; from = λ k d h. absurd (omega arith); fits = fits }

  -- the rule of a new queue
  pub begins : Shares {T = T} [] (newcomer 0 ∷ [])
  begins =
      nothing_yet refl
      (each_snoc (Fits 0 0 (λ _. 0) [] []) [] (newcomer 0) (λ pass v e. absurd (some-ne-none v (sym e)))
      (record { here = refl; got = refl; count = refl; unmade = λ s h. (refl, refl); joined = λ s h. absurd (omega arith) }))

  -- the same history, of which perhaps more is taken, with other views and perhaps other holders of seats
  pub refit : {items rest : List (Tagged T)} {views others : List (Known T)} (h : Shares items views) (holder : ℕ → ℕ) (taken : List (Tagged T)) → h.all ≡ taken ++ rest → Each (Fits h.taker h.senders holder h.all taken) others → Shares rest others
  refit h holder taken history fits = record { taker = h.taker; senders = h.senders; holder = holder; all = h.all; taken = taken; history = history; from = h.from; fits = fits }

  one_from : (senders : ℕ) (x : Tagged T) → x.sender < senders → AreFrom senders (x ∷ [])
  one_from senders x h zero d k = h
  one_from senders x h (suc j) d k = absurd (omega arith)

  -- what another seat knows stays when a value of this sender joins the history
  fits_put : (taker senders : ℕ) (holder : ℕ → ℕ) (all taken : List (Tagged T)) (pass : ℕ) (x : Tagged T) → holder x.sender ≡ suc pass
      → (j : ℕ) (u : Known T) → j ≢ pass → Fits taker senders holder all taken j u → Fits taker senders holder (all ++ x ∷ []) taken j u
  fits_put taker senders holder all taken pass x mine j (Sender u) apart f =
      let other : x.sender ≢ u.sender = λ e. apart (let a : suc j ≡ suc pass = sym f.seat ∙ ap holder (sym e) ∙ mine in omega arith) in
      record { seat = f.seat; put = f.put ∙ sym (values_of-other u.sender all x other); count = f.count; within = f.within }
  fits_put taker senders holder all taken pass x mine j (Taker u) apart f =
      let other : (s : ℕ) → holder s ≡ 0 → x.sender ≢ s = λ s none e. (let a : suc pass ≡ 0 = sym mine ∙ ap holder e ∙ none in omega arith) in
      record {
        here = f.here;
        got = f.got;
        count = f.count;
        unmade = λ s h. let none = f.unmade s h in (none.0, values_of-other s all x (other s none.0) ∙ none.1);
        joined = λ i h. let none = f.joined i h in (none.0, none.1 ∙ sym (values_of-other (joined_number u i) all x (other (joined_number u i) none.0)));
      }
  fits_put taker senders holder all taken pass x mine j Nothing apart f = tt

  pub puts : (n pass : ℕ) (v : Put T) (x : Tagged T) → x.sender ≡ v.sender → Pushes Shares n pass (Sender v) x (HasPut (Sender v) x)
  puts n pass v x is items views room h at =
      let w : Put T = record v { put = v.put ++ x.value ∷ [] } in
      let me = h.fits pass (Sender v) at in
      let all : List (Tagged T) = h.all ++ x ∷ [] in
      let mine : IsSender h.senders h.holder all pass w =
      record { seat = me.seat; put = ap (λ l. l ++ x.value ∷ []) me.put ∙ sym (values_of-same v.sender h.all x is); count = me.count; within = me.within } in
      let from_one : x.sender < h.senders = subst (λ s. s < h.senders) (sym is) me.within in (
        Sender w,
        record {
          taker = h.taker;
          senders = h.senders;
          holder = h.holder;
          all = all;
          taken = h.taken;
          history = ap (λ l. l ++ x ∷ []) h.history ∙ append_assoc h.taken items (x ∷ []);
          from = All-append (λ y. y.sender < h.senders) h.all (x ∷ []) h.from (one_from h.senders x from_one);
          fits = each_set (Fits h.taker h.senders h.holder all h.taken) views pass (Sender w) mine
              (λ j u apart e. fits_put h.taker h.senders h.holder h.all h.taken pass x (ap h.holder is ∙ me.seat) j u apart (h.fits j u e));
        },
        refl,
      )

  -- what another seat knows stays at a taking
  fits_take : (taker senders : ℕ) (holder : ℕ → ℕ) (all taken after : List (Tagged T)) (pass : ℕ) → pass ≡ taker
      → (j : ℕ) (u : Known T) → j ≢ pass → Fits taker senders holder all taken j u → Fits taker senders holder all after j u
  fits_take taker senders holder all taken after pass here j (Sender u) apart f = f
  fits_take taker senders holder all taken after pass here j (Taker u) apart f = absurd (apart (f.here ∙ sym here))
  fits_take taker senders holder all taken after pass here j Nothing apart f = tt

  taker_allows : (taker senders : ℕ) (holder : ℕ → ℕ) (all taken items : List (Tagged T)) (pass : ℕ) (v : Got T)
      → all ≡ taken ++ items → AreFrom senders all → IsTaker taker senders holder all taken pass v → TakerAllows v items
  taker_allows taker senders holder all taken items pass v history from f =
      let is : all ≡ v.taken ++ items = history ∙ ap (λ l. l ++ items) (sym f.got) in
      record {
        from = subst (λ (y : ℕ × List (Tagged T)). AreFrom y.0 y.1) (λ i. (sym f.count i, is i)) from;
        joined = λ i h. (f.joined i h).1 ∙ ap (values_of (joined_number v i)) is;
      }

  pub takes_many : (pass : ℕ) (v : Got T) (n : ℕ) → PopsMany Shares pass (Taker v) n (HasTakenAll (Taker v))
  takes_many pass v n xs items views size h at =
      let w : Got T = with_more v xs in
      let me = h.fits pass (Taker v) at in
      let taken : List (Tagged T) = h.taken ++ xs in
      let history : h.all ≡ taken ++ items = h.history ∙ sym (append_assoc h.taken xs items) in
      let mine : IsTaker h.taker h.senders h.holder h.all taken pass w =
      record { here = me.here; got = ap (λ l. l ++ xs) me.got; count = me.count; unmade = me.unmade; joined = me.joined } in (
        Taker w,
        refit h h.holder taken history
            (each_set (Fits h.taker h.senders h.holder h.all taken) views pass (Taker w) mine
            (λ j u apart e. fits_take h.taker h.senders h.holder h.all h.taken taken pass me.here j u apart (h.fits j u e))),
        (refl, (items, taker_allows h.taker h.senders h.holder h.all taken items pass w history h.from mine)),
      )

  pub takes : (pass : ℕ) (v : Got T) → Pops Shares pass (Taker v) (HasTaken (Taker v))
  takes pass v x items views h at = takes_many pass v 1 (x ∷ []) items views refl h at

  sender_allows : (senders : ℕ) (holder : ℕ → ℕ) (all taken items : List (Tagged T)) (pass : ℕ) (v : Put T)
      → all ≡ taken ++ items → AreFrom senders all → IsSender senders holder all pass v → SenderAllows v items
  sender_allows senders holder all taken items pass v history from f = record {
    taken = taken;
    from = subst (λ (y : ℕ × List (Tagged T)). AreFrom y.0 y.1) (λ i. (sym f.count i, history i)) from;
    put = ap (values_of v.sender) (sym history) ∙ sym f.put;
  }

  pub learns : (pass : ℕ) (v : Known T) → Learns Shares pass v (CanWait v)
  learns pass (Sender v) items views h at = sender_allows h.senders h.holder h.all h.taken items pass v h.history h.from (h.fits pass (Sender v) at)
  learns pass (Taker v) items views h at = taker_allows h.taker h.senders h.holder h.all h.taken items pass v h.history h.from (h.fits pass (Taker v) at)
  learns pass Nothing items views h at = tt
