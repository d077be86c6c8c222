-- What holds means that offers and closes are answered by what came before them.
use Rattle.std.proofs.Common.{◌≡◌, ◌∙◌, refl, ap, ℕ, ◌+◌, ◌<◌, ◌≤◌, ◌==◌, [], ◌∷◌, ◌++◌, Bool, true, false, length, Option, Some, None, cond, arith}
use Rattle.gate_config.specs.Generations.{count_of}
use Rattle.std.specs.Prelude.{nat_le, nat_lt, slice_get, is_some, count_by}
use Rattle.std.proofs.lemmas.Bool.{eqb-false, ltb-false, ltb-true}
use Rattle.std.proofs.Common.{eqb-true}
use Rattle.gate_record.specs.declared.ids.ConnId.{ConnId}
use Rattle.gate_record.specs.declared.record.Record.{Record}
use Rattle.gate_record.specs.declared.transit.ConnEntry.TheVariants as entry
use Rattle.gate_config.specs.declared.generations.Generations.{Generations}
use Rattle.gate_core.specs.Inner.Steps.{with_connection}
use Rattle.gate_core.specs.declared.answer.Answer.{Answer}
use Rattle.gate_core.specs.declared.answer.Answer.TheVariants.{Accepted, Closed, Full, Idle, Moved}
use Rattle.gate_core.specs.declared.step.Step.{Step}
use Rattle.gate_core.specs.declared.step.Step.TheVariants as step
use Rattle.gate_core.specs.History.{History, closed, is_put, has_taken, waiting}
use Rattle.gate_core.specs.Promises.{IsRightAnswer, close_answer, offer_answer, renew_answer}
use Rattle.gate_core.specs.States.{ConnectionState, State}
use Rattle.gate_core.specs.Steps.{close, offer, renew, step_of}
use Rattle.gate_core.proofs.Streams.{ConnHolds, Holds}

-- a queue that isn't full, the two ways to say it
full_or_not : (q : ℕ) (a f : Answer) → q ≤ 4096 → (b : Bool) → nat_lt q 4096 ≡ b → (d : Bool) → (q == 4096) ≡ d → cond b a f ≡ cond d f a
full_or_not q a f within true e true k = let below : q < 4096 = ltb-true q 4096 e in let same : q ≡ 4096 = eqb-true q 4096 k in absurd (omega (arith, below, same))
full_or_not q a f within true e false k = refl
full_or_not q a f within false e true k = refl
full_or_not q a f within false e false k =
    let high : 4096 ≤ q = ltb-false q 4096 e in let same : q ≡ 4096 = omega (arith, high, within) in absurd (eqb-false q 4096 k same)

module _ (gens : Generations) (h : History) (c : ℕ) (conn : ConnectionState) (holds : ConnHolds gens h c (Some conn)) where
  waiting_is : length conn.queue ≡ waiting c h
  waiting_is = let w : length conn.queue + count_by (has_taken c) h ≡ count_by (is_put c) h = holds.waits in omega (arith, w)

  renew_by : (count : ℕ) → cond conn.closed Closed (cond (nat_le count (length conn.renewals + 1)) Idle (cond (nat_lt (length conn.queue) 4096) Moved Full)) ≡ renew_answer count c h
  renew_by count =
      let room : cond (nat_lt (length conn.queue) 4096) Moved Full ≡ cond (waiting c h == 4096) Full Moved =
      full_or_not (length conn.queue) Moved Full holds.within (nat_lt (length conn.queue) 4096) refl (length conn.queue == 4096) refl ∙ ap (λ n. cond (n == 4096) Full Moved) waiting_is in
      λ i. cond (holds.closing i) Closed (cond (nat_le count (length (holds.renewed i) + 1)) Idle (room i))

  right_by : (x : Answer) → cond conn.closed Closed (cond (nat_lt (length conn.queue) 4096) x Full) ≡ cond (closed c h) Closed (cond (waiting c h == 4096) Full x)
  right_by x =
      ap (λ b. cond b Closed (cond (nat_lt (length conn.queue) 4096) x Full)) holds.closing
      ∙ ap (λ y. cond (closed c h) Closed y)
      (full_or_not (length conn.queue) x Full holds.within (nat_lt (length conn.queue) 4096) refl (length conn.queue == 4096) refl ∙ ap (λ n. cond (n == 4096) Full x) waiting_is)

offer_is : (b f : Bool) (conn : ConnectionState) (line : Record) → (cond {A = ConnectionState × Answer} b (conn, Closed) (cond f (record conn { accepted = conn.accepted + 1; queue = conn.queue ++ entry.Numbered conn.accepted line ∷ [] }, Accepted conn.accepted) (conn, Full))).1 ≡ cond b Closed (cond f (Accepted conn.accepted) Full)
offer_is true f conn line = refl
offer_is false true conn line = refl
offer_is false false conn line = refl

close_is : (b f : Bool) (conn : ConnectionState) → (cond {A = ConnectionState × Answer} b (conn, Closed) (cond f (record conn { closed = true; queue = conn.queue ++ entry.End ∷ [] }, Moved) (conn, Full))).1 ≡ cond b Closed (cond f Moved Full)
close_is true f conn = refl
close_is false true conn = refl
close_is false false conn = refl

renew_is : (b l f : Bool) (conn : ConnectionState) → (cond {A = ConnectionState × Answer} b (conn, Closed) (cond l (conn, Idle) (cond f (record conn { renewals = conn.renewals ++ conn.accepted ∷ []; queue = conn.queue ++ entry.Renew ∷ [] }, Moved) (conn, Full)))).1 ≡ cond b Closed (cond l Idle (cond f Moved Full))
renew_is true l f conn = refl
renew_is false true f conn = refl
renew_is false false true conn = refl
renew_is false false false conn = refl

renew_right : (gens : Generations) (h : History) (state : State) (d : ConnId) → (o : Option ConnectionState) → is_some o ≡ true → ConnHolds gens h d.0 o → (with_connection (renew (count_of gens)) d.0 o state).1 ≡ renew_answer (count_of gens) d.0 h
renew_right gens h state d None there holds = absurd (cc)
renew_right gens h state d (Some conn) there holds =
    renew_is conn.closed (nat_le (count_of gens) (length conn.renewals + 1)) (nat_lt (length conn.queue) 4096) conn ∙ renew_by gens h d.0 conn holds (count_of gens)

offer_right : (gens : Generations) (h : History) (state : State) (d : ConnId) (line : Record) → (o : Option ConnectionState) → is_some o ≡ true → ConnHolds gens h d.0 o → (with_connection (offer line) d.0 o state).1 ≡ offer_answer d.0 h
offer_right gens h state d line None there holds = absurd (cc)
offer_right gens h state d line (Some conn) there holds =
    offer_is conn.closed (nat_lt (length conn.queue) 4096) conn line ∙ right_by gens h d.0 conn holds (Accepted conn.accepted)
    ∙ ap (λ n. cond (closed d.0 h) Closed (cond (waiting d.0 h == 4096) Full (Accepted n))) holds.count

close_right : (gens : Generations) (h : History) (state : State) (d : ConnId) → (o : Option ConnectionState) → is_some o ≡ true → ConnHolds gens h d.0 o → (with_connection close d.0 o state).1 ≡ close_answer d.0 h
close_right gens h state d None there holds = absurd (cc)
close_right gens h state d (Some conn) there holds = close_is conn.closed (nat_lt (length conn.queue) 4096) conn ∙ right_by gens h d.0 conn holds Moved

pub right_answer : (gens : Generations) (h : History) (state : State) (s : Step) → Holds gens h state → IsRightAnswer gens h s (step_of gens state s).1
right_answer gens h state (step.Offer d line) holds = λ inside. offer_right gens h state d line (slice_get state.connections d.0) ((holds.conns d.0).there inside) (holds.conns d.0)
right_answer gens h state (step.Close d) holds = λ inside. close_right gens h state d (slice_get state.connections d.0) ((holds.conns d.0).there inside) (holds.conns d.0)
right_answer gens h state (step.Renew d) holds = λ inside. renew_right gens h state d (slice_get state.connections d.0) ((holds.conns d.0).there inside) (holds.conns d.0)
right_answer gens h state (step.Take d) holds = tt
right_answer gens h state (step.Send d) holds = tt
right_answer gens h state (step.Fetch t n) holds = tt
right_answer gens h state (step.Match t) holds = tt
right_answer gens h state (step.Give t) holds = tt
right_answer gens h state (step.PostManage t p manage) holds = tt
right_answer gens h state (step.PostResult t p ended) holds = tt
right_answer gens h state (step.Turn t p) holds = tt
