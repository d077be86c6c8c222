-- What contracts see of an index: the plain list, as the definition changes it.
use Rattle.std.proofs.Common.{◌≡◌, ◌∙◌, ◌+◌, ◌<◌, ℕ, List, [], ◌∷◌, ◌++◌, Bool, true, false, cond, Option, Some, None, map, refl, sym, ap, append-nil, arith}
use Rattle.std.specs.Prelude.{not, ◌^◌}
use Rattle.std.specs.List.{find}
use Rattle.std.specs.Map.{lookup, remove_entry, set_value, values_of}
use Rattle.std.proofs.lemmas.Bool.{lt-ltb}
use Rattle.gate_record.specs.declared.ids.ManagerKind.TheVariants.{Independent}
use Rattle.gate_items.specs.Inner.Agreement.{Each}
use Rattle.gate_items.specs.Machine.{Makes, State, after_plan, before, behind, is_complete, leaving, report_of, staying}
use Rattle.gate_items.specs.declared.action.Outcome.{Outcome}
use Rattle.gate_items.specs.declared.action.Discard.TheVariants.{Numbers}
use Rattle.gate_items.specs.declared.action.Outcome.TheVariants.{Applied, Discarded}
use Rattle.gate_items.specs.declared.item.QueueItem.{QueueItem}
use Rattle.gate_items.specs.declared.item.Report.{Report}
use Rattle.gate_items.proofs.Entries.{Entry, at_place}

abbrev pub shown : ℕ → List Entry → List Report → State
shown next es told = record { manager = Independent; next = next; items = values_of es; reported = told }

-- the item that a test means is the one at place p
abbrev pub Means : (QueueItem → Bool) → ℕ → List Entry → Type 0
Means test p es = Each (λ e. test e.1 ≡ at_place p e.0) es

pub means_nothing : (test : QueueItem → Bool) (es : List Entry) → Each (λ e. test e.1 ≡ false) es → find test (values_of es) ≡ None
means_nothing test [] m = refl
means_nothing test (e ∷ es) m = ap (λ b. cond b (Some e.1) (find test (values_of es))) m.0 ∙ means_nothing test es m.1

pub means_item : (test : QueueItem → Bool) (p : ℕ) (es : List Entry) → Means test p es → find test (values_of es) ≡ lookup (at_place p) es
means_item test p [] m = refl
means_item test p (e ∷ es) m = ap (λ b. cond b (Some e.1) (find test (values_of es))) m.0 ∙ ap (λ o. cond (at_place p e.0) (Some e.1) o) (means_item test p es m.1)

without_by : (b : Bool) (e : Entry) (es rest : List Entry) (front more : List QueueItem) → values_of rest ≡ front ++ more → values_of (cond b es (e ∷ rest)) ≡ cond b [] (e.1 ∷ front) ++ cond b (values_of es) more
without_by true e es rest front more h = refl
without_by false e es rest front more h = ap (λ l. e.1 ∷ l) h

pub means_without : (test : QueueItem → Bool) (p : ℕ) (es : List Entry) → Means test p es → values_of (remove_entry (at_place p) es) ≡ before test (values_of es) ++ behind test (values_of es)
means_without test p [] m = refl
means_without test p (e ∷ es) m =
    without_by (at_place p e.0) e es (remove_entry (at_place p) es) (before test (values_of es)) (behind test (values_of es)) (means_without test p es m.1)
    ∙ ap (λ b. cond b [] (e.1 ∷ before test (values_of es)) ++ cond b (values_of es) (behind test (values_of es))) (sym m.0)

with_by : (b : Bool) (w item : QueueItem) (e : Entry) (es rest : List Entry) (o : Option QueueItem) (front more : List QueueItem) → (o ≡ Some item → values_of rest ≡ front ++ w ∷ more) → cond b (Some e.1) o ≡ Some item → values_of (cond b ((e.0, w) ∷ es) (e ∷ rest)) ≡ cond b [] (e.1 ∷ front) ++ w ∷ cond b (values_of es) more
with_by true w item e es rest o front more h is = refl
with_by false w item e es rest o front more h is = ap (λ l. e.1 ∷ l) (h is)

pub means_with : (test : QueueItem → Bool) (p : ℕ) (w item : QueueItem) (es : List Entry) → Means test p es → lookup (at_place p) es ≡ Some item → values_of (set_value (at_place p) es w) ≡ before test (values_of es) ++ w ∷ behind test (values_of es)
means_with test p w item [] m is = cc
means_with test p w item (e ∷ es) m is =
    with_by (at_place p e.0) w item e es (set_value (at_place p) es w) (lookup (at_place p) es) (before test (values_of es)) (behind test (values_of es)) (means_with test p w item es m.1) is
    ∙ ap (λ b. cond b [] (e.1 ∷ before test (values_of es)) ++ w ∷ cond b (values_of es) (behind test (values_of es))) (sym m.0)

-- ---- nothing that waits is reported

abbrev pub Wait : List Entry → Type 0
Wait es = Each (λ e. is_complete e.1 ≡ false) es

wait_stays : (es : List Entry) → Wait es → staying Independent (values_of es) ≡ values_of es
wait_stays [] w = refl
wait_stays (e ∷ es) w = ap (λ b. cond (not b) (e.1 ∷ staying Independent (values_of es)) (staying Independent (values_of es))) w.0 ∙ ap (λ l. e.1 ∷ l) (wait_stays es w.1)

wait_leaves : (es : List Entry) → Wait es → leaving Independent (values_of es) ≡ []
wait_leaves [] w = refl
wait_leaves (e ∷ es) w = ap (λ b. cond b (e.1 ∷ leaving Independent (values_of es)) (leaving Independent (values_of es))) w.0 ∙ wait_leaves es w.1

-- one item is complete
one_stays : (p : ℕ) (w : QueueItem) (es : List Entry) → is_complete w ≡ true → Wait es → staying Independent (values_of (set_value (at_place p) es w)) ≡ values_of (remove_entry (at_place p) es)
one_stays p w [] done wait = refl
one_stays p w (e ∷ es) done wait = by (at_place p e.0) (one_stays p w es done wait.1)
  where
    by : (b : Bool) → staying Independent (values_of (set_value (at_place p) es w)) ≡ values_of (remove_entry (at_place p) es) → staying Independent (values_of (cond b ((e.0, w) ∷ es) (e ∷ set_value (at_place p) es w))) ≡ values_of (cond b es (e ∷ remove_entry (at_place p) es))
    by true more = ap (λ c. cond (not c) (w ∷ staying Independent (values_of es)) (staying Independent (values_of es))) done ∙ wait_stays es wait.1
    by false more = ap (λ c. cond (not c) (e.1 ∷ staying Independent (values_of (set_value (at_place p) es w))) (staying Independent (values_of (set_value (at_place p) es w)))) wait.0 ∙ ap (λ l. e.1 ∷ l) more

one_leaves : (p : ℕ) (w item : QueueItem) (es : List Entry) → is_complete w ≡ true → Wait es → lookup (at_place p) es ≡ Some item → leaving Independent (values_of (set_value (at_place p) es w)) ≡ w ∷ []
one_leaves p w item [] done wait is = cc
one_leaves p w item (e ∷ es) done wait is = by (at_place p e.0) is (one_leaves p w item es done wait.1)
  where
    by : (b : Bool) → cond b (Some e.1) (lookup (at_place p) es) ≡ Some item → (lookup (at_place p) es ≡ Some item → leaving Independent (values_of (set_value (at_place p) es w)) ≡ w ∷ []) → leaving Independent (values_of (cond b ((e.0, w) ∷ es) (e ∷ set_value (at_place p) es w))) ≡ w ∷ []
    by true is more = ap (λ c. cond c (w ∷ leaving Independent (values_of es)) (leaving Independent (values_of es))) done ∙ ap (λ l. w ∷ l) (wait_leaves es wait.1)
    by false is more = ap (λ c. cond c (e.1 ∷ leaving Independent (values_of (set_value (at_place p) es w))) (leaving Independent (values_of (set_value (at_place p) es w)))) wait.0 ∙ more is

-- ---- a plan that is carried out

settles : (next n sets : ℕ) (items made stay out : List QueueItem) (told : List Report) → next + sets ≡ n → n < 2 ^ 64 → staying Independent made ≡ stay → leaving Independent made ≡ out → after_plan (record { manager = Independent; next = next; items = items; reported = told }) (Makes made sets) ≡ (record { manager = Independent; next = n; items = stay; reported = told ++ map report_of out }, Applied)
settles next n sets items made stay out told e fits s l =
    let inside : next + sets < 2 ^ 64 = omega (arith, e, fits) in
    ap (λ b. cond {A = State × Outcome} b (record { manager = Independent; next = next + sets; items = staying Independent made; reported = told ++ map report_of (leaving Independent made) }, Applied) (record { manager = Independent; next = next; items = items; reported = told }, Discarded Numbers)) (lt-ltb (next + sets) (2 ^ 64) inside)
    ∙ ap (λ m. (record { manager = Independent; next = m; items = staying Independent made; reported = told ++ map report_of (leaving Independent made) }, Applied)) e
    ∙ ap (λ k. (record { manager = Independent; next = n; items = k; reported = told ++ map report_of (leaving Independent made) }, Applied)) s
    ∙ ap (λ k. (record { manager = Independent; next = n; items = stay; reported = told ++ map report_of k }, Applied)) l

-- nothing is reported
pub quiet : (next n sets : ℕ) (es es' : List Entry) (made : List QueueItem) (told : List Report) → next + sets ≡ n → n < 2 ^ 64 → made ≡ values_of es' → Wait es' → after_plan (shown next es told) (Makes made sets) ≡ (shown n es' told, Applied)
quiet next n sets es es' made told e fits same wait =
    ap (λ l. after_plan (shown next es told) (Makes l sets)) same
    ∙ settles next n sets (values_of es) (values_of es') (values_of es') [] told e fits (wait_stays es' wait) (wait_leaves es' wait)
    ∙ ap (λ r. (record { manager = Independent; next = n; items = values_of es'; reported = r }, Applied)) (append-nil told)

-- the item at p is reported
pub reports : (next n sets : ℕ) (es : List Entry) (made : List QueueItem) (told : List Report) (p : ℕ) (w item : QueueItem) → next + sets ≡ n → n < 2 ^ 64 → made ≡ values_of (set_value (at_place p) es w) → is_complete w ≡ true → Wait es → lookup (at_place p) es ≡ Some item → after_plan (shown next es told) (Makes made sets) ≡ (shown n (remove_entry (at_place p) es) (told ++ report_of w ∷ []), Applied)
reports next n sets es made told p w item e fits same done wait is =
    ap (λ l. after_plan (shown next es told) (Makes l sets)) same
    ∙ settles next n sets (values_of es) (values_of (set_value (at_place p) es w)) (values_of (remove_entry (at_place p) es)) (w ∷ []) told e fits (one_stays p w es done wait) (one_leaves p w item es done wait is)
