-- No step puts or takes a mark beyond the last generation.
use Rattle.std.proofs.Common.{◌≡◌, ◌∙◌, refl, sym, ap, ℕ, suc, ◌+◌, ◌<◌, List, [], ◌∷◌, ◌++◌, Bool, true, false, length, arith, if◌then◌else◌}
use Rattle.std.specs.Prelude.{nat_le, nat_lt}
use Rattle.std.proofs.lemmas.Bool.{leb-false}
use Rattle.std.proofs.lemmas.List.{length-append}
use Rattle.gate_config.specs.Generations.{count_of}
use Rattle.gate_config.specs.declared.generations.Generations.{Generations}
use Rattle.gate_record.specs.Entries.{behind, generation_behind}
use Rattle.gate_record.specs.declared.ids.TenantId.{TenantId}
use Rattle.gate_record.specs.declared.record.Record.{Record}
use Rattle.gate_record.specs.declared.transit.ConnEntry.{ConnEntry}
use Rattle.gate_record.specs.declared.transit.ConnEntry.TheVariants as entry
use Rattle.gate_record.specs.declared.transit.TenantItem.{TenantItem}
use Rattle.gate_core.specs.declared.answer.Answer.{Answer}
use Rattle.gate_core.specs.declared.answer.Answer.TheVariants.{Accepted, Closed, Full, Idle, Moved}
use Rattle.gate_core.specs.States.{ConnectionState}
use Rattle.gate_core.specs.Steps.{new_connection, take_from}
use Rattle.gate_core.specs.Worlds.{RenewsWithin}
use Rattle.gate_core.proofs.Going.{generation_more}
use Rattle.gate_core.proofs.Moving.{Moves}

-- one renewal more
pub counted_more : (renewals : List ℕ) (n : ℕ) → length (renewals ++ n ∷ []) ≡ suc (length renewals)
counted_more renewals n = length-append renewals (n ∷ []) ∙ omega arith

module _ (gens : Generations) (k : ConnectionState) (old : RenewsWithin gens k) where
  offered : (line : Record) (closed room : Bool) →
      RenewsWithin gens (if◌then◌else◌ {A = ConnectionState × Answer} closed (k, Closed) (if◌then◌else◌ {A = ConnectionState × Answer} room (record k { accepted = k.accepted + 1; queue = k.queue ++ entry.Numbered k.accepted line ∷ [] }, Accepted k.accepted) (k, Full))).0
  offered line true room = old
  offered line false true = record { renewed = generation_more k.generation k.queue (entry.Numbered k.accepted line) ∙ old.renewed; within = old.within }
  offered line false false = old

  closing : (closed room : Bool) →
      RenewsWithin gens (if◌then◌else◌ {A = ConnectionState × Answer} closed (k, Closed) (if◌then◌else◌ {A = ConnectionState × Answer} room (record k { closed = true; queue = k.queue ++ entry.End ∷ [] }, Moved) (k, Full))).0
  closing true room = old
  closing false true = record { renewed = generation_more k.generation k.queue entry.End ∙ old.renewed; within = old.within }
  closing false false = old

  renewing : (closed last room : Bool) → nat_le (count_of gens) (length k.renewals + 1) ≡ last →
      RenewsWithin gens (if◌then◌else◌ {A = ConnectionState × Answer} closed (k, Closed) (if◌then◌else◌ {A = ConnectionState × Answer} last (k, Idle)
      (if◌then◌else◌ {A = ConnectionState × Answer} room (record k { renewals = k.renewals ++ k.accepted ∷ []; queue = k.queue ++ entry.Renew ∷ [] }, Moved) (k, Full)))).0
  renewing true last room e = old
  renewing false true room e = old
  renewing false false true e =
      let more = counted_more k.renewals k.accepted in
      let later : length k.renewals + 1 < count_of gens = leb-false (count_of gens) (length k.renewals + 1) e in
      record { renewed = generation_more k.generation k.queue entry.Renew ∙ ap suc old.renewed ∙ sym more; within = omega (arith, more, later) }
  renewing false false false e = old

  taking : (c : ℕ) (unsent : List (TenantId × TenantItem)) (queue : List ConnEntry) → k.queue ≡ queue → RenewsWithin gens (take_from gens c unsent queue k).0
  taking c (x ∷ unsent) queue e = old
  taking c [] [] e = old
  taking c [] (x ∷ queue) e = record { renewed = sym (ap (generation_behind k.generation) e) ∙ old.renewed; within = old.within }

pub renewing_moves : (gens : Generations) → Moves gens (RenewsWithin gens) (RenewsWithin gens)
renewing_moves gens = record {
  stays = λ k old. old;
  offers = λ line k old. offered gens k old line k.closed (nat_lt (length k.queue) 4096);
  closes = λ k old. closing gens k old k.closed (nat_lt (length k.queue) 4096);
  renews = λ k old. renewing gens k old k.closed (nat_le (count_of gens) (length k.renewals + 1)) (nat_lt (length k.queue) 4096) refl;
  takes = λ c k old. taking gens k old c k.unsent k.queue refl;
  sends = λ unsent k old. record { renewed = old.renewed; within = old.within };
}

pub new_within : (gens : Generations) → RenewsWithin gens new_connection
new_within gens = record { renewed = refl; within = omega arith }
