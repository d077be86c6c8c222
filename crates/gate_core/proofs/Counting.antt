-- A step accepts at most one record more.
use Rattle.std.proofs.Common.{◌≡◌, sym, subst, ℕ, ◌+◌, ◌≤◌, List, [], ◌∷◌, ◌++◌, Bool, true, false, length, Ok, Err, Result, arith, if◌then◌else◌}
use Rattle.std.specs.Prelude.{nat_le, nat_lt}
use Rattle.gate_config.specs.Generations.{count_of}
use Rattle.gate_config.specs.declared.generations.Generations.{Generations}
use Rattle.gate_record.specs.declared.ids.TenantId.{TenantId}
use Rattle.gate_record.specs.declared.memory.Memory.{Memory}
use Rattle.gate_record.specs.declared.record.Record.{Record}
use Rattle.gate_record.specs.declared.transit.ConnEntry.{ConnEntry}
use Rattle.gate_record.specs.declared.transit.ConnEntry.TheVariants as entry
use Rattle.gate_record.specs.declared.transit.TenantItem.{TenantItem}
use Rattle.gate_core.specs.declared.answer.Answer.{Answer}
use Rattle.gate_core.specs.declared.answer.Answer.TheVariants.{Accepted, Closed, Full, Idle, Moved}
use Rattle.gate_core.specs.declared.step.Step.{Step}
use Rattle.gate_core.specs.Answers.{Does}
use Rattle.gate_core.specs.States.{ConnectionState, State}
use Rattle.gate_core.specs.Steps.{refused_step, step_of, take_from}
use Rattle.gate_core.specs.Worlds.{AcceptedAtMost}
use Rattle.gate_core.proofs.Moving.{Moves, after_refusal, after_step}

offers : (line : Record) (k : ConnectionState) (closed room : Bool) →
    (if◌then◌else◌ {A = ConnectionState × Answer} closed (k, Closed) (if◌then◌else◌ {A = ConnectionState × Answer} room (record k { accepted = k.accepted + 1; queue = k.queue ++ entry.Numbered k.accepted line ∷ [] }, Accepted k.accepted) (k, Full))).0.accepted ≤ k.accepted + 1
offers line k true room = omega arith
offers line k false true = omega arith
offers line k false false = omega arith

closes : (k : ConnectionState) (closed room : Bool) →
    (if◌then◌else◌ {A = ConnectionState × Answer} closed (k, Closed) (if◌then◌else◌ {A = ConnectionState × Answer} room (record k { closed = true; queue = k.queue ++ entry.End ∷ [] }, Moved) (k, Full))).0.accepted ≤ k.accepted + 1
closes k true room = omega arith
closes k false true = omega arith
closes k false false = omega arith

renewing : (k : ConnectionState) (closed last room : Bool) →
    (if◌then◌else◌ {A = ConnectionState × Answer} closed (k, Closed) (if◌then◌else◌ {A = ConnectionState × Answer} last (k, Idle)
    (if◌then◌else◌ {A = ConnectionState × Answer} room (record k { renewals = k.renewals ++ k.accepted ∷ []; queue = k.queue ++ entry.Renew ∷ [] }, Moved) (k, Full)))).0.accepted ≤ k.accepted + 1
renewing k true last room = omega arith
renewing k false true room = omega arith
renewing k false false true = omega arith
renewing k false false false = omega arith

takes : (gens : Generations) (c : ℕ) (k : ConnectionState) (unsent : List (TenantId × TenantItem)) (queue : List ConnEntry) → (take_from gens c unsent queue k).0.accepted ≤ k.accepted + 1
takes gens c k (x ∷ unsent) queue = omega arith
takes gens c k [] [] = omega arith
takes gens c k [] (x ∷ queue) = omega arith

one_more_at_most : (a b n : ℕ) → a ≤ b + 1 → b ≤ n → a ≤ n + 1
one_more_at_most a b n more few = omega (arith, more, few)

moves : (gens : Generations) (n : ℕ) → Moves gens (λ (k : ConnectionState). k.accepted ≤ n) (λ (k : ConnectionState). k.accepted ≤ n + 1)
moves gens n = record {
  stays = λ k few. one_more_at_most k.accepted k.accepted n (omega arith) few;
  offers = λ line k few. one_more_at_most _ k.accepted n (offers line k k.closed (nat_lt (length k.queue) 4096)) few;
  closes = λ k few. one_more_at_most _ k.accepted n (closes k k.closed (nat_lt (length k.queue) 4096)) few;
  renews = λ k few. one_more_at_most _ k.accepted n (renewing k k.closed (nat_le (count_of gens) (length k.renewals + 1)) (nat_lt (length k.queue) 4096)) few;
  takes = λ c k few. one_more_at_most _ k.accepted n (takes gens c k k.unsent k.queue) few;
  sends = λ unsent k few. one_more_at_most k.accepted k.accepted n (omega arith) few;
}

-- whatever a step that was done or refused leaves
pub one_more : (gens : Generations) (state : State) (s : Step) (next : State) (result : Result Answer Memory) → Does (refused_step state s) (step_of gens state s) next result →
    (n : ℕ) → AcceptedAtMost n state → AcceptedAtMost (n + 1) next
one_more gens state s next (Ok answer) does n few = subst (λ (after : State × Answer). AcceptedAtMost (n + 1) after.0) (sym does) (after_step gens (moves gens n) state few s)
one_more gens state s next (Err memory) does n few = subst (AcceptedAtMost (n + 1)) (sym does.0) (after_refusal gens (moves gens n) state few s)
