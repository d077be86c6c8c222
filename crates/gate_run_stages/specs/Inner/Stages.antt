-- What a stage at work has sent, by its seats.
use Rattle.std.specs.Prelude.{◌≡◌, ◌<◌, ◌==◌, ◌++◌, ◌∷◌, ℕ, List, [], length, slice_index_or, if◌then◌else◌}
use Rattle.gate_queue.specs.Seats.{SenderSeat}

module _ {T : Type 0} where
  -- with one item more for the receiver of this number
  abbrev pub with_sent : ℕ → T → (ℕ → List T) → ℕ → List T
  with_sent number item sent k = sent k ++ (if number == k then item ∷ [] else [])

  -- by each seat was put what was sent to the receiver of that number
  abbrev pub ArePut : List (SenderSeat T) → (ℕ → List T) → Type 0
  ArePut tails sent = (k : ℕ) (d : SenderSeat T) → k < length tails → (slice_index_or tails k d).put ≡ sent k

module _ {S T : Type 0} where
  -- The stage that began as the first has come so far as the second, and what it has sent was put by its seats.
  pub record IsRunning (has_sent : S → S → (ℕ → List T) → Type 0) (first now : S) (tails : List (SenderSeat T)) : Type 0 where
    pub sent : ℕ → List T
    pub stage : has_sent first now sent
    pub put : ArePut tails sent

  -- The same, but this item is out for the receiver of this number.
  pub record IsHandingOn (has_out : S → S → (ℕ → List T) → ℕ → T → Type 0) (number : ℕ) (item : T) (first now : S) (tails : List (SenderSeat T)) : Type 0 where
    pub sent : ℕ → List T
    pub stage : has_out first now sent number item
    pub put : ArePut tails sent
