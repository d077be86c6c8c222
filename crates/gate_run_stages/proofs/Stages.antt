-- What was put by the seats of a stage.
use Rattle.std.proofs.Common.{◌≡◌, ◌∙◌, ap, sym, subst, ℕ, ◌<◌, ◌==◌, List, [], ◌∷◌, ◌++◌, map, if◌then◌else◌}
use Rattle.gate_queue.specs.Seats.{QueueName, SenderSeat}
use Rattle.gate_run_stages.specs.Inner.Stages.{ArePut, with_sent}
use Rattle.gate_run_threads.specs.Seats.{PutAt, seat_of}
use Rattle.gate_run_threads.proofs.Seated.{map_map}
use Rattle.gate_run_threads.specs.Steps.{GoesOn}
use Rattle.gate_run_threads.specs.declared.step_outcome.StepOutcome.{StepOutcome}
use Rattle.gate_run_threads.specs.declared.step_outcome.StepOutcome.TheVariants.{Ready, Pending, Done}

module _ {T : Type 0} where
  -- one item more
  pub put_one : (before now : List (SenderSeat T)) {sent : ℕ → List T} (number : ℕ) (item : T) → ArePut before sent → PutAt number item before now → ArePut now (with_sent number item sent)
  put_one before now number item put puts k d low =
      let low' = subst (λ n. k < n) puts.0 low in
      puts.1 k d low' ∙ ap (λ zs. zs ++ (if number == k then item ∷ [] else [])) (put k d low')

  -- the seats are the same
  pub put_same : (before now : List (SenderSeat T)) {sent : ℕ → List T} → now ≡ before → ArePut before sent → ArePut now sent
  put_same before now {sent} same put = subst (λ tails. ArePut tails sent) (sym same) put

  -- seats that are the same are in the same queues
  pub same_queues : (before now : List (SenderSeat T)) → map seat_of now ≡ map seat_of before → map (λ (tail : SenderSeat T). tail.queue) now ≡ map (λ (tail : SenderSeat T). tail.queue) before
  same_queues before now same =
      sym (map_map (λ (seat : QueueName × ℕ). seat.0) seat_of now) ∙ ap (map (λ (seat : QueueName × ℕ). seat.0)) same ∙ map_map (λ (seat : QueueName × ℕ). seat.0) seat_of before

-- what holds whatever came of a step
pub goes_on : {A : Type 0} (outcome : StepOutcome) → A → GoesOn outcome A
goes_on Ready holds = holds
goes_on Pending holds = holds
goes_on Done holds = tt
