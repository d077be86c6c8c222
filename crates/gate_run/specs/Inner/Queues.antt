-- The queues of a run, as they are opened.
use Rattle.std.specs.Prelude.{◌≡◌, [], ◌∷◌, length, map}
use Rattle.std.specs.Global.{Vec}
use Rattle.gate_record.specs.declared.transit.ConnEntry.{ConnEntry}
use Rattle.gate_record.specs.declared.transit.PipelineItem.{PipelineItem}
use Rattle.gate_record.specs.declared.transit.TenantItem.{TenantItem}
use Rattle.gate_config.specs.declared.config.Config.{Config}
use Rattle.gate_config.specs.Lookups.{connections_of, tenants_of}
use Rattle.gate_queue.specs.Seats.{SenderSeat, Shape, TakerSeat}
use Rattle.gate_run.specs.declared.by_queue.ByQueue.{ByQueue}
use Rattle.gate_run_posts.specs.Ports.{pipeline_counts}
use Rattle.gate_run_threads.specs.Seats.{fresh_head, fresh_tail}
use Rattle.gate_run_threads.specs.QueueGroups.{AreOpenQueues}

-- the queues of a run
abbrev pub Queues : Type 0
Queues = ByQueue Shape Shape Shape

-- the takers' seats in them
abbrev pub Heads : Type 0
Heads = ByQueue (TakerSeat ConnEntry) (TakerSeat TenantItem) (TakerSeat PipelineItem)

-- the senders' seats in them; of a tenant's queue by sender
abbrev pub Tails : Type 0
Tails = ByQueue (SenderSeat ConnEntry) (Vec (SenderSeat TenantItem)) (SenderSeat PipelineItem)

-- A queue for each connection, one for each tenant and one for each pipeline, with all their seats, by none of which anything was put or
-- taken.
pub record AreOpen (config : Config) (queues : Queues) (heads : Heads) (tails : Tails) : Type 0 where
  pub records : AreOpenQueues (length (connections_of config)) 1 queues.records.items heads.records.items (tails.records.items ∷ [])
  pub items : AreOpenQueues (length (tenants_of config)) (length (connections_of config)) queues.items.items heads.items.items (map (λ row. row.items) tails.items.items)
  pub trigger_counts : map (λ group. length group.items) queues.triggers.items ≡ pipeline_counts config
  pub trigger_senders : map (λ group. map (λ queue. queue.name.senders) group.items) queues.triggers.items ≡ map (λ group. map (λ queue. 1) group.items) queues.triggers.items
  pub trigger_heads : map (λ row. row.items) heads.triggers.items ≡ map (λ group. map fresh_head group.items) queues.triggers.items
  pub trigger_tails : map (λ row. row.items) tails.triggers.items ≡ map (λ group. map (fresh_tail 0) group.items) queues.triggers.items
