-- What a forwarder needs to begin, and what it has done when it returns.
use Rattle.std.specs.Prelude.{◌≡◌, ◌<◌, ℕ, List, length, map, slice_index_or}
use Rattle.gate_record.specs.declared.transit.ConnEntry.{ConnEntry}
use Rattle.gate_record.specs.declared.transit.TenantItem.{TenantItem}
use Rattle.gate_config.specs.declared.generations.Generations.{Generations}
use Rattle.gate_config.specs.Lookups.{tenants_of}
use Rattle.gate_forward.specs.Forwarding.{forwarded}
use Rattle.gate_queue.specs.declared.tagged.Tagged.{Tagged}
use Rattle.gate_queue.specs.Seats.{IsHeadOf, SenderSeat, Shape, TakerSeat}
use Rattle.gate_record.specs.Prefixes.{IsPrefixOf}
use Rattle.gate_run_threads.specs.Seats.{fresh_head, fresh_tail, values, seat_in, seat_of}

-- a forwarder of connection c can begin: by none of its seats anything was taken or put
pub record CanForward (gens : Generations) (c : ℕ) (source : Shape) (targets : List Shape) (head : TakerSeat ConnEntry) (tails : List (SenderSeat TenantItem)) : Type 0 where
  pub tenants : length targets ≡ length (tenants_of gens.first)
  pub not_taken : head ≡ fresh_head source
  pub not_put : tails ≡ map (fresh_tail c) targets

-- What was put for each tenant is a prefix of what that tenant gets of all that was taken from connection c's queue.
abbrev pub PutInOrder : Generations → ℕ → List (Tagged ConnEntry) → List (SenderSeat TenantItem) → Type 0
PutInOrder gens c taken tails = (t : ℕ) (d : SenderSeat TenantItem) → t < length tails → IsPrefixOf (slice_index_or tails t d).put (forwarded gens t c (values taken))

-- What the forwarder of connection c has done, by its seats in the connection's queue and in the tenants'.
pub record HasForwarded (gens : Generations) (c : ℕ) (source : Shape) (targets : List Shape) (head : TakerSeat ConnEntry) (tails : List (SenderSeat TenantItem)) : Type 0 where
  pub head_of : IsHeadOf source head
  pub seats : map seat_of tails ≡ map (seat_in c) targets
  pub put : PutInOrder gens c head.taken tails
