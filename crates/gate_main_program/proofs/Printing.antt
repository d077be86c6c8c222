-- From what a command answers to what the program does.
use Rattle.std.proofs.Common.{◌≡◌, ◌∙◌, sym, subst, ℕ, ◌≤◌, ◌<◌, List, Option, Some, None, Result, Ok, Err, IfErr, IfOk, inl, inr, arith, string_bytes}
use Rattle.std.specs.Prelude.{◌⊎◌, MatchResult}
use Rattle.std.specs.Io.KnownBytes.{Appends}
use Rattle.std.specs.Global.{Vec}
use Rattle.std.specs.Prelude.{All, length, map}
use Rattle.std.proofs.lemmas.List.{length-map}
use Rattle.gate_config.specs.Generations.{AreReadFrom, PassesBeside, bytes_of, common_of, count_of}
use Rattle.gate_config.specs.declared.generations.Generations.{Generations}
use Rattle.gate_source.specs.Feeds.{Told}
use Rattle.gate_main_command.specs.declared.fault.Fault.{Fault}
use Rattle.gate_main_command.specs.declared.fault.Fault.TheVariants as fault
use Rattle.gate_main_command.specs.Faults.{status_of}
use Rattle.gate_main_command.specs.Faulty.{FailsInput, IsElsewhere}
use Rattle.gate_main_command.specs.Printed.{AreGenerations}
use Rattle.gate_main_program.specs.declared.program.Said.{Said}
use Rattle.gate_main_program.specs.Said.{Fails, HasStatus, IsOfAJournal, Prints}
use Rattle.gate_main_program.specs.Inner.Commands.{ComesAfter, SaysFor}

-- ---- what was printed

module _ {F : Type 0} (to_come : F → Told) (faults : F → ℕ) (words : ℕ) (input before after : Option (List ℕ)) where
  pub prints : (said : Result Said Fault) → IfOk said (λ own. SaysFor to_come faults words input (string_bytes own.text))
      → MatchResult said (λ own. Appends before after (string_bytes own.text) × (own.fault ≡ None)) (λ found. ⊥) → Prints to_come faults words input before after
  prints (Ok own) says appended = record { task = says.task; alone = says.alone; text = string_bytes own.text; says = says.says; appends = appended.0 }
  prints (Err found) says appended = absurd appended

-- ---- which fault there is

module _ {O : Type 0} (words : ℕ) (input : Option (List ℕ)) (before after : O) where
  after_text : (found : Fault) (later : Option Fault) → later ≡ Some found → ComesAfter words later → (1 < words) × IsOfAJournal found
  after_text found None e late = absurd (cc)
  after_text found (Some own) e late = let same : own ≡ found = cc in subst (λ one. (1 < words) × IsOfAJournal one) same late

  printed : (own : Said) (found : Fault) → ComesAfter words own.fault → (found ≡ fault.Write) ⊎ (own.fault ≡ Some found) → Fails words input before after found
  printed own found late (inl write) = record { of_input = λ alone. inl (subst IsElsewhere (sym write) tt); unchanged = inl (inl write) }
  printed own found late (inr is) =
      let both = after_text found own.fault is late in
      record { of_input = λ alone. absurd (let more : 1 < words = both.0 in omega (arith, more, alone)); unchanged = inl (inr both) }

  pub fails : (said : Result Said Fault) (found : Fault) → IfOk said (λ own. ComesAfter words own.fault) → IfErr said (λ one. words ≤ 1 → FailsInput input one)
      → MatchResult said (λ own. (found ≡ fault.Write) ⊎ (own.fault ≡ Some found)) (λ one. (found ≡ one) × (after ≡ before)) → Fails words input before after found
  fails (Ok own) found late of_input how = printed own found late how
  fails (Err one) found late of_input how = record { of_input = λ alone. subst (FailsInput input) (sym how.0) (of_input alone); unchanged = inr how.1 }

  pub has_status : (status : ℕ) (found : Fault) → status ≡ status_of found → Fails words input before after found → HasStatus words status input before after
  has_status status found is failing = record { found = found; is = sym is; fails = failing }

-- ---- generations that were read

pub are_generations : (documents documents' : List (Vec ℕ)) (gens gens' : Generations) → documents' ≡ documents → gens' ≡ gens → count_of gens ≡ length documents' → AreReadFrom (map bytes_of documents') gens
    → All (PassesBeside (common_of (map bytes_of documents'))) (map bytes_of documents') → AreGenerations (map bytes_of documents) gens'
are_generations documents documents' gens gens' same same_gens count read passed =
    let all : AreGenerations (map bytes_of documents') gens = record { count = count ∙ sym (length-map documents' bytes_of); read = read; passed = passed } in
    subst (AreGenerations (map bytes_of documents)) (sym same_gens) (subst (λ list. AreGenerations (map bytes_of list) gens) same all)

-- what a value that came back has
pub held : {T E : Type 0} (P : T → Type 0) (answer : Result T E) (value : T) → answer ≡ Ok value → IfOk answer P → P value
held P (Ok own) value e has = let same : own ≡ value = cc in subst P same has
held P (Err error) value e has = absurd (cc)

pub not_both : {T E P : Type 0} (answer : Result T E) (value : T) (error : E) → answer ≡ Err error → answer ≡ Ok value → P
not_both (Ok own) value error e f = absurd (cc)
not_both (Err own) value error e f = absurd (cc)
