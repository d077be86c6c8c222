-- What the worker of a tenant needs to begin, and what it has done when it returns.
use Rattle.std.specs.Prelude.{◌≡◌, ◌<◌, ◌++◌, ℕ, List, length, map, slice_index_or}
use Rattle.gate_record.specs.declared.transit.PipelineItem.{PipelineItem}
use Rattle.gate_record.specs.declared.transit.TenantItem.{TenantItem}
use Rattle.gate_record.specs.Prefixes.{IsPrefixOf}
use Rattle.gate_config.specs.declared.generations.Generations.{Generations}
use Rattle.gate_config.specs.Lookups.{pipelines_of}
use Rattle.gate_tenant.specs.Dispatching.{chosen}
use Rattle.gate_queue.specs.declared.tagged.Tagged.{Tagged}
use Rattle.gate_queue.specs.Seats.{IsHeadOf, SenderSeat, Shape, TakerSeat}
use Rattle.gate_run_threads.specs.Seats.{fresh_head, fresh_tail, values, seat_in, seat_of}

-- the worker of tenant t can begin: each of its pipelines has a queue, and by none of its seats anything was taken or put
pub record CanDispatch (gens : Generations) (t : ℕ) (source : Shape) (targets : List Shape) (head : TakerSeat TenantItem) (tails : List (SenderSeat PipelineItem)) : Type 0 where
  pub pipelines : length targets ≡ length (pipelines_of gens.first t)
  pub not_taken : head ≡ fresh_head source
  pub not_put : tails ≡ map (fresh_tail 0) targets

-- What was put for each pipeline is a prefix of what that pipeline gets of the matched items. These are the first of the items that were
-- taken from tenant t's queue.
pub record GivenInOrder (gens : Generations) (t : ℕ) (taken : List (Tagged TenantItem)) (tails : List (SenderSeat PipelineItem)) : Type 0 where
  pub matched : List TenantItem
  pub unmatched : List TenantItem
  pub took : matched ++ unmatched ≡ values taken
  pub put : (p : ℕ) (d : SenderSeat PipelineItem) → p < length tails → IsPrefixOf (slice_index_or tails p d).put (chosen gens t p matched)

-- What the worker of tenant t has done, by its seats in the tenant's queue and in the trigger queues.
pub record HasDispatched (gens : Generations) (t : ℕ) (source : Shape) (targets : List Shape) (head : TakerSeat TenantItem) (tails : List (SenderSeat PipelineItem)) : Type 0 where
  pub head_of : IsHeadOf source head
  pub seats : map seat_of tails ≡ map (seat_in 0) targets
  pub given : GivenInOrder gens t head.taken tails
