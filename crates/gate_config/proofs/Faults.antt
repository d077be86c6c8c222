-- The first fault of lists of checks that are joined.
use Rattle.std.proofs.Common.{◌≡◌, ◌∙◌, ◌≤◌, ◌++◌, ℕ, length, nat_le, rules, List, [], ◌∷◌, Bool, true, false, Result, Ok, Err, inl, inr, sym, ap, subst}
use Rattle.std.specs.Prelude.{not}
use Rattle.std.specs.Result.{IsErrAnd}
use Rattle.gate_config.specs.declared.path.Step.{Step}
use Rattle.gate_config.specs.declared.fault.ConfigFault.{ConfigFault}
use Rattle.gate_config.specs.declared.fault.ConfigFault.TheVariants as fault
use Rattle.gate_config.specs.Faults.{Check, Asks, AllPass, IsFirstFault, IsFaultOf}
use Rattle.gate_config.specs.Inner.Faults.{HasPassed, HasFault, Reads, Tests}

-- what is a first fault there is one here, and want of memory is everywhere
over_faults : (xs ys : List Check) → ((found : ConfigFault) → IsFirstFault xs found → IsFirstFault ys found) → (found : ConfigFault) → IsFaultOf xs found → IsFaultOf ys found
over_faults xs ys f found (inl memory) = inl memory
over_faults xs ys f found (inr first) = inr (f found first)

first_front : (xs ys : List Check) (found : ConfigFault) → IsFirstFault xs found → IsFirstFault (xs ++ ys) found
first_front [] ys found h = absurd h
first_front (x ∷ xs) ys found (inl h) = inl h
first_front (x ∷ xs) ys found (inr h) = inr (h.0, first_front xs ys found h.1)

first_rest : (xs ys : List Check) (found : ConfigFault) → AllPass xs → IsFirstFault ys found → IsFirstFault (xs ++ ys) found
first_rest [] ys found p h = h
first_rest (x ∷ xs) ys found p h = inr (p.0, first_rest xs ys found p.1 h)

pass_both : (xs ys : List Check) → AllPass xs → AllPass ys → AllPass (xs ++ ys)
pass_both [] ys p q = q
pass_both (x ∷ xs) ys p q = (p.0, pass_both xs ys p.1 q)

-- a fault of the front
pub fault_front : {xs : List Check} (ys : List Check) {found : ConfigFault} → HasFault xs found → HasFault (xs ++ ys) found
fault_front {xs} ys {found} h = record { first = over_faults xs (xs ++ ys) (λ f. first_front xs ys f) found h.first }

-- a fault behind a front that passes
pub fault_rest : {xs ys : List Check} {found : ConfigFault} → HasPassed xs → HasFault ys found → HasFault (xs ++ ys) found
fault_rest {xs} {ys} {found} p h = record { first = over_faults ys (xs ++ ys) (λ f. first_rest xs ys f p.all) found h.first }

pub passed_both : {xs ys : List Check} → HasPassed xs → HasPassed ys → HasPassed (xs ++ ys)
passed_both {xs} {ys} p q = record { all = pass_both xs ys p.all q.all }

-- the same at a single check in front
pub fault_here : {x : Check} {xs : List Check} {found : ConfigFault} → HasFault (x ∷ []) found → HasFault (x ∷ xs) found
fault_here {x} {xs} h = fault_front xs h

pub fault_later : {x : Check} {xs : List Check} {found : ConfigFault} → HasPassed (x ∷ []) → HasFault xs found → HasFault (x ∷ xs) found
fault_later p h = fault_rest p h

pub passed_more : {x : Check} {xs : List Check} → HasPassed (x ∷ []) → HasPassed xs → HasPassed (x ∷ xs)
passed_more p q = passed_both p q

-- what the exit of a `?` answers
pub exit : {T : Type 0} {checks : List Check} (P : T → Type 0) {found : ConfigFault} (r : Result T ConfigFault) → IsErrAnd r (λ answer. answer ≡ found) → HasFault checks found → Reads checks P r
exit P (Ok x) e h = absurd e
exit {T} {checks} P (Err answer) e h = subst (λ f. HasFault checks f) (sym e) h

-- what a last call answers, behind checks that passed
pub after : {T : Type 0} {xs : List Check} (ys : List Check) (P : T → Type 0) (r : Result T ConfigFault) → HasPassed xs → Reads ys P r → Reads (xs ++ ys) P r
after ys P (Ok value) p h = (passed_both p h.0, h.1)
after ys P (Err found) p h = fault_rest p h

pub after_one : {T : Type 0} {x : Check} (ys : List Check) (P : T → Type 0) (r : Result T ConfigFault) → HasPassed (x ∷ []) → Reads ys P r → Reads (x ∷ ys) P r
after_one ys P r p h = after ys P r p h

-- the test that a name is new
pub new : {b : Bool} (place : List Step) → b ≡ false → HasPassed (Asks (not b) (fault.Repeated place) ∷ [])
new place e = record { all = (ap not e, tt) }

pub taken : {b : Bool} {place found : List Step} → b ≡ true → found ≡ place → HasFault (Asks (not b) (fault.Repeated place) ∷ []) (fault.Repeated found)
taken e p = record { first = inr (inl (ap not e, ap fault.Repeated p)) }

-- a reader that gives nothing, and what else is known once it has passed
pub saying : {T : Type 0} (checks : List Check) {Q : Type 0} (r : Result T ConfigFault) → Tests checks r → Q → Reads checks (λ _. Q) r
saying checks (Ok value) h q = (h.0, q)
saying checks (Err found) h q = h

-- the test that there are at most so many names
pub room : {names next : List (List ℕ)} {n m : ℕ} (found : ConfigFault) → n ≤ m → n ≡ length names → names ≡ next → HasPassed (Asks (nat_le (length next) m) found ∷ [])
room {names} {next} {n} {m} found h e s = record { all = (subst (λ k. nat_le k m ≡ true) (e ∙ ap length s) (search (rules, h)), tt) }
