-- Documents in order, and the configurations that are read from them.
use Rattle.std.proofs.Common.{◌≡◌, ◌+◌, ◌<◌, ◌≤◌, ℕ, zero, suc, List, [], ◌∷◌, ◌++◌, Option, map, length, get_or, take, sym, subst, arith, inl, inr}
use Rattle.std.specs.Prelude.{◌≢◌}
use Rattle.std.specs.Global.{Vec}
use Rattle.std.specs.List.{All, AllZip}
use Rattle.std.proofs.lemmas.List.{take_all}
use Rattle.std.proofs.lemmas.List.Elements.{All-head, All-nil, All-push, All-tail}
use Rattle.std.proofs.lemmas.Slice.Zip.{all_zipped_more}
use Rattle.gate_config.specs.declared.config.Config.{Config}
use Rattle.gate_config.specs.declared.fault.ConfigFault.{ConfigFault}
use Rattle.gate_config.specs.declared.fault.ConfigFault.TheVariants as config_fault
use Rattle.gate_config.specs.Generations.{FailsBeside, IsFirstToFail, IsReadFromBytes, PassesBeside, bytes_of}
use Rattle.gate_config.specs.Inner.Documents.{IsFaultBehind, MayFailBeside, fault_of}
use Rattle.gate_config.specs.Structure.{Structure}
use Rattle.gate_config.proofs.Each.{map_more}

-- the first i documents pass, and were read
pub record DocumentsSoFar (common : Option Structure) (documents : List (Vec ℕ)) (i : ℕ) (later : List Config) : Type 0 where
  pub passed : All (PassesBeside common) (map bytes_of (take i documents))
  pub read : AllZip IsReadFromBytes (map bytes_of (take i documents)) later

pub documents_none : {common : Option Structure} {documents : List (Vec ℕ)} → DocumentsSoFar common documents 0 []
documents_none {common} = record { passed = All-nil (PassesBeside common); read = tt }

pub documents_more : {common : Option Structure} {documents : List (Vec ℕ)} {i : ℕ} {later : List Config} (x : Vec ℕ) (config : Config) →
    i < length documents → x ≡ get_or documents i x → DocumentsSoFar common documents i later → PassesBeside common (bytes_of x) → IsReadFromBytes (bytes_of x) config → DocumentsSoFar common documents (i + 1) (later ++ config ∷ [])
documents_more {common} {documents} {i} {later} x config l e so_far p h =
    let more = map_more bytes_of documents i x l e in
    record {
      passed = subst (All (PassesBeside common)) (sym more) (All-push (PassesBeside common) (map bytes_of (take i documents)) (bytes_of x) so_far.passed p);
      read = subst (λ ds. AllZip IsReadFromBytes ds (later ++ config ∷ [])) (sym more) (all_zipped_more IsReadFromBytes (map bytes_of (take i documents)) later (bytes_of x) config so_far.read h);
    }

pub documents_passed : {common : Option Structure} {documents : List (Vec ℕ)} {i : ℕ} {later : List Config} → length documents ≤ i → DocumentsSoFar common documents i later → All (PassesBeside common) (map bytes_of documents)
documents_passed {common} {documents} {i} l so_far = subst (λ ds. All (PassesBeside common) (map bytes_of ds)) (take_all i documents l) so_far.passed

pub documents_read : {common : Option Structure} {documents : List (Vec ℕ)} {i : ℕ} {later : List Config} → length documents ≤ i → DocumentsSoFar common documents i later → AllZip IsReadFromBytes (map bytes_of documents) later
documents_read {documents = documents} {i = i} {later = later} l so_far = subst (λ ds. AllZip IsReadFromBytes (map bytes_of ds) later) (take_all i documents l) so_far.read

-- behind documents that pass one fails
fails_at : (common : Option Structure) (documents : List (Vec ℕ)) (i : ℕ) (x : Vec ℕ) (found : ConfigFault) → i < length documents → x ≡ get_or documents i x → All (PassesBeside common) (map bytes_of (take i documents)) → FailsBeside common (bytes_of x) found → IsFirstToFail common (map bytes_of documents) i found
fails_at common [] i x found l e p h = absurd (omega (arith, l))
fails_at common (y ∷ documents) zero x found l e p h = subst (λ d. FailsBeside common (bytes_of d) found) e h
fails_at common (y ∷ documents) (suc i) x found l e p h = (
  All-head (PassesBeside common) (bytes_of y) (map bytes_of (take i documents)) p,
  fails_at common documents i x found (omega (arith, l)) e (All-tail (PassesBeside common) (bytes_of y) (map bytes_of (take i documents)) p) h,
)

of_fault : (common : Option Structure) (documents : List (List ℕ)) (i : ℕ) (found : ConfigFault) → (found ≢ config_fault.Memory → IsFirstToFail common documents i found) → IsFaultBehind common documents (fault_of (suc i) found)
of_fault common documents i config_fault.Memory h = tt
of_fault common documents i config_fault.NotJson h = let n : config_fault.NotJson ≢ config_fault.Memory = λ e. absurd (cc) in (n, h n)
of_fault common documents i (config_fault.Shape place) h = let n : config_fault.Shape place ≢ config_fault.Memory = λ e. absurd (cc) in (n, h n)
of_fault common documents i (config_fault.Limit place) h = let n : config_fault.Limit place ≢ config_fault.Memory = λ e. absurd (cc) in (n, h n)
of_fault common documents i (config_fault.Manager place) h = let n : config_fault.Manager place ≢ config_fault.Memory = λ e. absurd (cc) in (n, h n)
of_fault common documents i (config_fault.Attribute place) h = let n : config_fault.Attribute place ≢ config_fault.Memory = λ e. absurd (cc) in (n, h n)
of_fault common documents i (config_fault.Pattern place) h = let n : config_fault.Pattern place ≢ config_fault.Memory = λ e. absurd (cc) in (n, h n)
of_fault common documents i (config_fault.Repeated place) h = let n : config_fault.Repeated place ≢ config_fault.Memory = λ e. absurd (cc) in (n, h n)

fails : (common : Option Structure) (bytes : List ℕ) (found : ConfigFault) → MayFailBeside common bytes found → found ≢ config_fault.Memory → FailsBeside common bytes found
fails common bytes found (inl memory) n = absurd (n memory)
fails common bytes found (inr h) n = h

pub documents_fault : {common : Option Structure} {documents : List (Vec ℕ)} {i : ℕ} {later : List Config} (x : Vec ℕ) (found : ConfigFault) →
    i < length documents → x ≡ get_or documents i x → DocumentsSoFar common documents i later → MayFailBeside common (bytes_of x) found → IsFaultBehind common (map bytes_of documents) (fault_of (i + 1) found)
documents_fault {common} {documents} {i} x found l e so_far h =
    let next : suc i ≡ i + 1 = omega arith in
    subst (λ g. IsFaultBehind common (map bytes_of documents) (fault_of g found)) next
    (of_fault common (map bytes_of documents) i found (λ n. fails_at common documents i x found l e so_far.passed (fails common (bytes_of x) found h n)))
