-- What pipelines take is of records that were accepted.
use Rattle.std.proofs.Common.{◌≡◌, ◌∙◌, sym, ap, subst, ℕ, List, Option, Some}
use Rattle.std.specs.Prelude.{length, option_and_then, slice_get}
use Rattle.std.specs.List.{filter_map}
use Rattle.gate_record.specs.declared.ids.Stamp.{Stamp}
use Rattle.gate_record.specs.declared.record.Record.{Record}
use Rattle.gate_record.specs.declared.transit.PipelineItem.{PipelineItem}
use Rattle.gate_record.specs.declared.transit.PipelineItem.TheVariants as pipeline
use Rattle.gate_record.specs.declared.transit.Stamped.{Stamped}
use Rattle.gate_record.specs.Reading.{reading_of}
use Rattle.gate_config.specs.declared.config.Config.{Config}
use Rattle.gate_config.specs.declared.generations.Generations.{Generations}
use Rattle.gate_forward.specs.Forwarding.{forwarded}
use Rattle.gate_items.specs.declared.action.Action.{Action}
use Rattle.gate_pipeline.specs.Histories.{asking}
use Rattle.gate_pipeline.specs.Triggers.{trigger_of}
use Rattle.gate_core.specs.History.{History, accepted_in_force, accepted_records, asked_by, closed, renewals}
use Rattle.gate_delivery.specs.Wanted.{asked_of}
use Rattle.gate_delivery.specs.Ways.{IsEventOf}
use Rattle.gate_delivery.proofs.Readings.{AllOf, ItemIs, TriggerIs, all_picked, forwarded_are}
use Rattle.gate_core.proofs.LowerLaws.{Laws}
use Rattle.gate_core.proofs.Puts.{put_by}
use Rattle.gate_record.specs.Entries.{AreEntriesOf}
use Rattle.gate_delivery.proofs.Maps.{the_same}

-- the record of the stamp was accepted, and reads as the event
abbrev pub IsGenuine : History → Stamped → Type 0
IsGenuine h s = IsEventOf (accepted_in_force s.stamp.conn.0 h) s

-- what is forwarded of all that was put
pub genuine_forwarded : Laws → (gens : Generations) (t : ℕ) (h : History) (c : ℕ) → AreEntriesOf (put_by c h) (accepted_in_force c h) (length (renewals c h)) (closed c h) → AllOf (ItemIs (IsGenuine h)) (forwarded gens t c (put_by c h))
genuine_forwarded laws gens t h c are = forwarded_are (IsGenuine h) gens t c (accepted_in_force c h) (λ s same is. subst (λ d. IsEventOf (accepted_in_force d h) s) (sym same) is) laws.entries are

-- ---- what they ask for

abbrev pub IsAsked : Config → ℕ → ℕ → History → Option Stamp × Action → Type 0
IsAsked config t p h one = asked_by config t p h one.0 ≡ Some one.1

module _ (laws : Laws) (config : Config) (t p : ℕ) (h : History) where
  asked_is : (x : PipelineItem) (one : Option Stamp × Action) → TriggerIs (IsGenuine h) x → asking config t p x ≡ Some one → IsAsked config t p h one
  asked_is (pipeline.Event s) one is e =
      let c = s.stamp.conn.0 in
      let there : slice_get (accepted_records c h) s.stamp.number ≡ Some is.line = laws.records.each_record (renewals c h) (accepted_records c h) s.stamp.number s.generation is.line is.there in
      subst (IsAsked config t p h) (the_same (Some s.stamp, trigger_of config t p s.stamp s.event) one e)
      (ap (λ (o : Option Record). option_and_then (λ (line : Record). asked_of config t p s.stamp (reading_of line)) o) there ∙ ap (asked_of config t p s.stamp) is.reads)
  asked_is pipeline.End one is e = absurd (cc)

  pub asked_are : (items : List PipelineItem) → AllOf (TriggerIs (IsGenuine h)) items → AllOf (IsAsked config t p h) (filter_map (asking config t p) items)
  asked_are items all = all_picked (TriggerIs (IsGenuine h)) (IsAsked config t p h) (asking config t p) asked_is items all
