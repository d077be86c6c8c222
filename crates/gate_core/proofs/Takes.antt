-- A mark of a renewal is taken.
use Rattle.std.proofs.Common.{◌≡◌, ◌∙◌, refl, sym, ap, ℕ, suc, ◌==◌, ◌<◌, ◌≤◌, true, false, List, [], ◌∷◌, Result, Ok, Err, OnErr, OnOk, arith, length}
use Rattle.std.specs.Result.{is_ok}
use Rattle.std.specs.List.{range_with_len}
use Rattle.std.proofs.Math.Dec.{eqb-suc-zero}
use Rattle.gate_record.specs.declared.ids.TenantId.{TenantId}
use Rattle.gate_record.specs.declared.transit.ConnEntry.{ConnEntry}
use Rattle.gate_record.specs.declared.transit.ConnEntry.TheVariants as entry
use Rattle.gate_record.specs.declared.transit.TenantItem.{TenantItem}
use Rattle.gate_record.specs.Entries.{behind, generation_behind}
use Rattle.gate_config.specs.declared.generations.Generations.{Generations}
use Rattle.gate_config.specs.Lookups.{tenants_of}
use Rattle.gate_forward.specs.Forwarding.{sends}
use Rattle.gate_core.specs.declared.answer.Answer.{Answer}
use Rattle.gate_core.specs.declared.answer.Answer.TheVariants.{Moved}
use Rattle.gate_core.specs.States.{ConnectionState}
use Rattle.gate_core.specs.Steps.{take, take_from}
use Rattle.gate_delivery.proofs.Maps.{filter_map_none}

pub none_left : {A : Type 0} (xs : List A) → (length xs == 0) ≡ true → xs ≡ []
none_left [] e = refl
none_left (x ∷ xs) e = let some : (suc (length xs) == 0) ≡ false = eqb-suc-zero (length xs) in absurd (cc)

-- nobody gets anything of it
nothing_sent : (gens : Generations) (c g : ℕ) → sends gens c g entry.Renew ≡ []
nothing_sent gens c g = filter_map_none _ (λ t. refl) (range_with_len 0 (length (tenants_of gens.first)))

pub renewal_taken : (gens : Generations) (c : ℕ) (conn new : ConnectionState) (queue : List ConnEntry) → conn.unsent ≡ [] → conn.queue ≡ entry.Renew ∷ queue →
    new ≡ record conn { queue = queue; generation = suc conn.generation } → (new, Moved) ≡ take gens c conn
renewal_taken gens c conn new queue empty front e =
    let g = conn.generation in
    let next : List (TenantId × TenantItem) → ConnectionState = λ unsent. record conn { queue = queue; generation = suc g; unsent = unsent } in
    ap (λ (k : ConnectionState). (k, Moved)) (e ∙ ap next (empty ∙ sym (nothing_sent gens c g)))
    ∙ sym (λ i. take_from gens c (empty i) (front i) conn)

-- entries bring no earlier generation in force
no_less : (g : ℕ) (entries : List ConnEntry) → g ≤ generation_behind g entries
no_less g [] = omega arith
no_less g (entry.Numbered n line ∷ entries) = no_less g entries
no_less g (entry.Renew ∷ entries) = let more = no_less (suc g) entries in omega (arith, more)
no_less g (entry.End ∷ entries) = no_less g entries

-- a mark that waits brings a generation in force that the configuration has
pub mark_within : (g count renewals : ℕ) (queue rest : List ConnEntry) → queue ≡ entry.Renew ∷ rest → generation_behind g queue ≡ renewals → renewals < count → suc g < count
mark_within g count renewals queue rest front renewed within =
    let more : suc g ≤ generation_behind (suc g) rest = no_less (suc g) rest in
    let same : generation_behind g queue ≡ generation_behind (suc g) rest = ap (generation_behind g) front in
    omega (arith, more, same, renewed, within)

pub when_ok : {A E P : Type 0} (answer : Result A E) → is_ok answer ≡ true → OnOk answer P → P
when_ok (Ok value) e holds = holds
when_ok (Err error) e holds = absurd (cc)

pub when_err : {A E P : Type 0} (answer : Result A E) → is_ok answer ≡ false → OnErr answer P → P
when_err (Ok value) e holds = absurd (cc)
when_err (Err error) e holds = holds
