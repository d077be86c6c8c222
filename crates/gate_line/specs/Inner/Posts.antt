-- Definitions about lines that post, which private contracts and proofs cite, beside `Posts`.
use Rattle.std.specs.Prelude.{ℕ, List, Bool, true, Result, Ok, Err}
use Rattle.std.specs.Borrow.{Bor}
use Rattle.gate_items.specs.declared.action.JobResult.{JobResult}
use Rattle.gate_items.specs.declared.key.Key.{Key}
use Rattle.gate_items.specs.declared.key.Key.TheVariants.{Ref}
use Rattle.gate_line.specs.declared.field.LineFault.{LineFault}

abbrev pub ended_has_texts : JobResult → Bool
ended_has_texts ended = true

abbrev pub seen_ref : Result (ℕ × Bor (List ℕ) × Bor (List ℕ) × Bor (List ℕ)) LineFault → Result Key LineFault
seen_ref (Ok parts) = Ok (Ref (record { 0 = parts.0 }) parts.3.now parts.2.now parts.1.now)
seen_ref (Err fault) = Err fault

abbrev pub seen_ended : Result (ℕ × Bool × Bor (List ℕ)) LineFault → Result JobResult LineFault
seen_ended (Ok parts) = Ok (record { set = parts.0; job = parts.2.now; success = parts.1 })
seen_ended (Err fault) = Err fault
