-- What contracts see of the queues of management events and results, from both of their ends.
use Rattle.std.specs.Prelude.{◌≡◌, ℕ, zero, suc, List, [], ◌∷◌, Option, None, length, map, option_and_then, slice_get}
use Rattle.std.specs.List.{range_with_len}
use Rattle.gate_config.specs.declared.config.Config.{Config}
use Rattle.gate_config.specs.declared.generations.Generations.{Generations}
use Rattle.gate_config.specs.Generations.{count_of}
use Rattle.gate_config.specs.Lookups.{pipelines_of, tenants_of}
use Rattle.gate_items.specs.declared.action.JobResult.{JobResult}
use Rattle.gate_items.specs.declared.action.Manage.{Manage}
use Rattle.gate_queue.specs.Seats.{SenderSeat, Shape, TakerSeat, with_put}
use Rattle.gate_record.specs.Limits.{places}
use Rattle.gate_source.specs.Stops.{Note}
use Rattle.gate_run_threads.specs.Lists.{Pairwise}
use Rattle.gate_run_threads.specs.Seats.{fresh_head, fresh_tail}

-- a queue, and the seat of its only sender
pub record PostEnd (T : Type 0) : Type 0 where
  pub queue : Shape
  pub tail : SenderSeat T

-- where management events and results are posted to a pipeline
pub record PostEnds : Type 0 where
  pub management : PostEnd Manage
  pub results : PostEnd JobResult

-- where the pipeline's worker takes them
pub record InboxEnds : Type 0 where
  pub management : TakerSeat Manage
  pub results : TakerSeat JobResult

-- The posts of all pipelines, by tenant and pipeline number; what is known of the stop cell; the cells of the generations after the first,
-- in order; and a note for each generation that was asked for, in order. Below, the same of an inbox
pub record PostsView : Type 0 where
  pub pipelines : List (List PostEnds)
  pub note : Note
  pub cells : List ℕ
  pub asked : List Note

pub record InboxView : Type 0 where
  pub pipelines : List (List InboxEnds)
  pub note : Note
  pub cells : List ℕ
  pub asked : List Note

-- the element for pipeline p of tenant t, if there is one
abbrev pub at_pipeline : {A : Type 0} → ℕ → ℕ → List (List A) → Option A
at_pipeline t p tenants = option_and_then (λ (pipelines : List _). slice_get pipelines p) (slice_get tenants t)

-- the list after its element at place i, if there is one, was changed
abbrev pub slice_change : {A : Type 0} → ℕ → (A → A) → List A → List A
slice_change i change [] = []
slice_change zero change (x ∷ xs) = change x ∷ xs
slice_change (suc i) change (x ∷ xs) = x ∷ slice_change i change xs

-- the end after one more value was put by its seat
abbrev pub posted : {T : Type 0} → T → PostEnd T → PostEnd T
posted value end = record { queue = end.queue; tail = with_put end.tail value }

-- the lists after the element for pipeline p of tenant t, if there is one, was changed
abbrev pub changed_at : {A : Type 0} → ℕ → ℕ → (A → A) → List (List A) → List (List A)
changed_at t p change tenants = slice_change t (slice_change p change) tenants

-- the posts after the ends of pipeline p of tenant t were changed
abbrev pub with_change : ℕ → ℕ → (PostEnds → PostEnds) → PostsView → PostsView
with_change t p change posts = record posts { pipelines = changed_at t p change posts.pipelines }

-- the posts after one more management event, and below one more result, was posted to pipeline p of tenant t
abbrev pub with_manage : ℕ → ℕ → Manage → PostsView → PostsView
with_manage t p manage posts = with_change t p (λ (ends : PostEnds). record ends { management = posted manage ends.management }) posts

abbrev pub with_result : ℕ → ℕ → JobResult → PostsView → PostsView
with_result t p ended posts = with_change t p (λ (ends : PostEnds). record ends { results = posted ended ends.results }) posts

-- both ends of a queue that was opened for posts with so many places: nothing was put into it or taken from it
pub record IsOpened {T : Type 0} (capacity : ℕ) (end : PostEnd T) (head : TakerSeat T) : Type 0 where
  pub tail_fresh : end.tail ≡ fresh_tail 0 end.queue
  pub head_fresh : head ≡ fresh_head end.queue
  pub has_places : end.queue.capacity ≡ capacity
  pub only_sender : end.queue.name.senders ≡ 1

pub record AreOpened (capacity : ℕ) (ends : PostEnds) (inbox : InboxEnds) : Type 0 where
  pub management : IsOpened capacity ends.management inbox.management
  pub results : IsOpened capacity ends.results inbox.results

-- how many pipelines each tenant has
abbrev pub pipeline_counts : Config → List ℕ
pipeline_counts config = map (λ t. length (pipelines_of config t)) (range_with_len 0 (length (tenants_of config)))

-- the inbox has a place for each pipeline of the configuration
abbrev pub IsInboxFor : Config → InboxView → Type 0
IsInboxFor config inbox = map length inbox.pipelines ≡ pipeline_counts config

-- These are the posts and the inbox of a configuration. They have the two ends of the queues of each pipeline, notes of one stop cell, and
-- the cells of all generations after the first, none of which was asked for.
pub record ArePosts (gens : Generations) (posts : PostsView) (inbox : InboxView) : Type 0 where
  pub tenants : map length posts.pipelines ≡ pipeline_counts gens.first
  pub inbox_for : IsInboxFor gens.first inbox
  pub opened : Pairwise (Pairwise (AreOpened places)) posts.pipelines inbox.pipelines
  pub cell : posts.note.cell ≡ inbox.note.cell
  pub knows_none : (posts.note.cause ≡ None) × (inbox.note.cause ≡ None)
  pub cells : posts.cells ≡ inbox.cells
  pub how_many : suc (length posts.cells) ≡ count_of gens
  pub none_asked : (posts.asked ≡ []) × (inbox.asked ≡ [])
