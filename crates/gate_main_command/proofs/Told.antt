-- What a journal knows and has written after it was told one thing more.
use Rattle.std.proofs.Common.{◌≡◌, ◌∙◌, sym, ap, refl, subst, ℕ, ◌+◌, List, [], ◌∷◌, ◌++◌, append-nil, append_assoc, Bool, true, false, Option, Some, None, Result, Ok, Err, IsOk, OnOk, is_some, option_map, length, slice_set, eqb-true, ◌<◌, ◌≤◌, arith}
use Rattle.std.specs.Prelude.{◌==◌, ◌&&◌, if◌then◌else◌, slice_get, slice_index_or, unwrap_or}
use Rattle.std.specs.Global.{Vec}
use Rattle.std.specs.Io.KnownBytes.{Appends}
use Rattle.std.specs.List.{filter_map}
use Rattle.std.proofs.KnownBytes.{Appends-trans}
use Rattle.std.proofs.lemmas.List.{length-append, length-set}
use Rattle.std.proofs.lemmas.List.Elements.{filter_map-append}
use Rattle.std.proofs.lemmas.Option.{slice_get_past}
use Rattle.gate_record.specs.declared.ids.ManagerKind.TheVariants.{Independent}
use Rattle.gate_record.specs.declared.ids.Stamp.{Stamp}
use Rattle.gate_config.specs.declared.config.Config.{Config}
use Rattle.gate_config.specs.declared.config.PipelineSpec.{PipelineSpec}
use Rattle.gate_config.specs.declared.config.TenantSpec.{TenantSpec}
use Rattle.gate_config.specs.Lookups.{pipelines_of, tenants_of}
use Rattle.gate_core.specs.Views.{EachAt}
use Rattle.gate_core.proofs.Elements.{each_push, lent}
use Rattle.gate_core.proofs.Spots.{AfterSet, after_set, another, it, not_itself}
use Rattle.gate_items.specs.declared.action.Action.{Action}
use Rattle.gate_items.specs.declared.action.Outcome.{Outcome}
use Rattle.gate_items.specs.Machine.{State}
use Rattle.gate_journal.specs.Facts.{action_lines}
use Rattle.gate_journal.specs.Follows.{Knows, items_after}
use Rattle.gate_journal.specs.Lines.{start_lines}
use Rattle.gate_journal.specs.declared.pipeline_journal.PipelineJournal.{PipelineJournal}
use Rattle.gate_main_command.specs.Telling.{IsTrue, Told, action_of, acts, ends, actions_of, items_told, journal_text, lines_after, manager_of, next_lines}
use Rattle.gate_main_command.specs.declared.journal.Journal.{Journal}
use Rattle.gate_main_command.specs.Inner.Journals.{Keeps}
use Rattle.gate_main_command.specs.Inner.Rows.{KnowAll, KnowRow, KnowsAt}

-- one element more
pub count_more : {X : Type 0} (xs ys : List X) (y : X) (i : ℕ) → ys ≡ xs ++ y ∷ [] → length xs ≡ i → length ys ≡ i + 1
count_more xs ys y i grown count = let longer : length ys ≡ length xs + 1 = ap length grown ∙ length-append xs (y ∷ []) in omega (arith, longer, count)

-- ---- new journals

-- the manager of a pipeline whose tenant has these pipelines
manager_is : (config : Config) (t p : ℕ) (pipelines : List PipelineSpec) (pipeline : PipelineSpec) → pipelines_of config t ≡ pipelines → slice_get pipelines p ≡ Some pipeline → manager_of config t p ≡ pipeline.manager
manager_is config t p pipelines pipeline own at = ap (λ row. unwrap_or (option_map (λ (one : PipelineSpec). one.manager) (slice_get row p)) Independent) own ∙ ap (λ found. unwrap_or (option_map (λ (one : PipelineSpec). one.manager) found) Independent) at

pub new_knows : (config : Config) (t p : ℕ) (pipelines : List PipelineSpec) (pipeline : PipelineSpec) (journal : PipelineJournal) → pipelines_of config t ≡ pipelines → slice_get pipelines p ≡ Some pipeline
    → Knows journal pipeline.manager (items_after pipeline.manager []) → KnowsAt config [] t p journal
new_knows config t p pipelines pipeline journal own at knows = subst (λ manager. Knows journal manager (items_after manager [])) (sym (manager_is config t p pipelines pipeline own at)) knows

-- the pipelines of a tenant
pub pipelines_are : (config : Config) (t : ℕ) (tenant : TenantSpec) → slice_get (tenants_of config) t ≡ Some tenant → pipelines_of config t ≡ tenant.pipelines
pipelines_are config t tenant at = ap (λ found. unwrap_or (option_map (λ (one : TenantSpec). one.pipelines) found) []) at

pub row_more : (config : Config) (t i : ℕ) (pipelines : List PipelineSpec) (pipeline : PipelineSpec) (journals : List PipelineJournal) (journal : PipelineJournal) → pipelines_of config t ≡ pipelines → length journals ≡ i
    → slice_get pipelines i ≡ Some pipeline → Knows journal pipeline.manager (items_after pipeline.manager []) → EachAt (KnowsAt config [] t) journals → EachAt (KnowsAt config [] t) (journals ++ journal ∷ [])
row_more config t i pipelines pipeline journals journal own count at knows all =
    each_push (KnowsAt config [] t) journals journal all (new_knows config t (length journals) pipelines pipeline journal own (subst (λ k. slice_get pipelines k ≡ Some pipeline) (sym count) at) knows)

pub rows_more : (config : Config) (i : ℕ) (tenant : TenantSpec) (rows : List (Vec PipelineJournal)) (row : Vec PipelineJournal) → length rows ≡ i → slice_get (tenants_of config) i ≡ Some tenant
    → ((t : ℕ) → pipelines_of config t ≡ tenant.pipelines → KnowRow config [] t row.items)
    → EachAt (λ t (one : Vec PipelineJournal). KnowRow config [] t one.items) rows → EachAt (λ t (one : Vec PipelineJournal). KnowRow config [] t one.items) (rows ++ row ∷ [])
rows_more config i tenant rows row count at knows all =
    each_push (λ t (one : Vec PipelineJournal). KnowRow config [] t one.items) rows row all (knows (length rows) (pipelines_are config (length rows) tenant (subst (λ k. slice_get (tenants_of config) k ≡ Some tenant) (sym count) at)))

-- ---- the actions of each pipeline

by_tests : (t u p q : ℕ) (a b : Bool) → (t == u) ≡ a → (p == q) ≡ b → (t ≡ u → p ≡ q → ⊥) → ((t == u) && (p == q)) ≡ false
by_tests t u p q true true e f unlike = absurd (unlike (eqb-true t u e) (eqb-true p q f))
by_tests t u p q true false e f unlike = ap (λ x. x && (p == q)) e ∙ f
by_tests t u p q false b e f unlike = ap (λ x. x && (p == q)) e

differ : (t u p q : ℕ) → (t ≡ u → p ≡ q → ⊥) → ((t == u) && (p == q)) ≡ false
differ t u p q unlike = by_tests t u p q (t == u) (p == q) refl refl unlike

self_by : (n : ℕ) (b : Bool) → (n == n) ≡ b → (n == n) ≡ true
self_by n true e = e
self_by n false e = absurd (not_itself n e)

self : (n : ℕ) → (n == n) ≡ true
self n = self_by n (n == n) refl

alike : (t p : ℕ) → ((t == t) && (p == p)) ≡ true
alike t p = ap (λ x. x && (p == p)) (self t) ∙ self p

-- what is told next adds this action, if it is one of the pipeline's
next_action : (t p : ℕ) (so_far : List Told) (next : Told) → actions_of t p (so_far ++ next ∷ []) ≡ actions_of t p so_far ++ filter_map (action_of t p) (next ∷ [])
next_action t p so_far next = filter_map-append (action_of t p) so_far (next ∷ [])

if_found : Option Action → List Action
if_found None = []
if_found (Some action) = action ∷ []

one_kept : (t p : ℕ) (next : Told) (found : Option Action) → action_of t p next ≡ found → filter_map (action_of t p) (next ∷ []) ≡ if_found found
unfolding if_found
one_kept t p next None e = cc
one_kept t p next (Some action) e = cc

own_action : (t p : ℕ) (so_far : List Told) (stamp : Option Stamp) (action : Action) → actions_of t p (so_far ++ acts t p stamp action ∷ []) ≡ actions_of t p so_far ++ action ∷ []
unfolding if_found
own_action t p so_far stamp action =
    next_action t p so_far (acts t p stamp action)
    ∙ ap (λ more. actions_of t p so_far ++ more) (one_kept t p (acts t p stamp action) (Some action) (ap (λ (same : Bool). if same then Some action else None) (alike t p)))

no_action : (t p : ℕ) (so_far : List Told) (next : Told) → action_of t p next ≡ None → actions_of t p (so_far ++ next ∷ []) ≡ actions_of t p so_far
unfolding if_found
no_action t p so_far next none =
    next_action t p so_far next ∙ ap (λ more. actions_of t p so_far ++ more) (one_kept t p next None none) ∙ append-nil (actions_of t p so_far)

other_action : (t p u q : ℕ) (so_far : List Told) (stamp : Option Stamp) (action : Action) → (t ≡ u → p ≡ q → ⊥) → actions_of t p (so_far ++ acts u q stamp action ∷ []) ≡ actions_of t p so_far
other_action t p u q so_far stamp action unlike = no_action t p so_far (acts u q stamp action) (ap (λ (same : Bool). if same then Some action else None) (differ t u p q unlike))

-- ---- what the journals of all pipelines know

knows_still : (config : Config) (so_far later : List Told) (t p : ℕ) (journal : PipelineJournal) → actions_of t p later ≡ actions_of t p so_far → KnowsAt config so_far t p journal → KnowsAt config later t p journal
knows_still config so_far later t p journal same knows = subst (λ actions. Knows journal (manager_of config t p) (items_after (manager_of config t p) actions)) (sym same) knows

module _ {X : Type 0} (has has' : ℕ → X → Type 0) where
  by_set : (xs : List X) (i j : ℕ) (y z : X) → ((k : ℕ) (w : X) → (i ≡ k → ⊥) → has k w → has' k w) → EachAt has xs → has' i y → AfterSet xs i y j → slice_get (slice_set xs i y) j ≡ Some z → has' j z
  by_set xs i j y z moves all here (it same found) e =
      let found_too : Some y ≡ Some z = sym found ∙ e in
      let one : y ≡ z = cc in
      subst (λ k. has' k z) same (subst (λ w. has' i w) one here)
  by_set xs i j y z moves all here (another differ found) e = moves j z differ (all j z (sym found ∙ e))

  -- one element is changed, and all others move on
  each_moved : (xs : List X) (i : ℕ) (x y : X) → slice_get xs i ≡ Some x → ((k : ℕ) (w : X) → (i ≡ k → ⊥) → has k w → has' k w) → EachAt has xs → has' i y → EachAt has' (slice_set xs i y)
  each_moved xs i x y at moves all here j z e = by_set xs i j y z moves all here (after_set xs i j x y at) e

-- a pipeline's journal that was lent knows the pipeline's items
pub lent_knows : (config : Config) (so_far : List Told) (t p : ℕ) (journals : List (Vec PipelineJournal)) (row : Vec PipelineJournal) (journal : PipelineJournal) → KnowAll config so_far journals
    → t < length journals → row ≡ slice_index_or journals t row → p < length row.items → journal ≡ slice_index_or row.items p journal → KnowsAt config so_far t p journal
lent_knows config so_far t p journals row journal all tenant_there row_is pipeline_there journal_is =
    (all.1 t row (lent journals t row tenant_there row_is)).1 p journal (lent row.items p journal pipeline_there journal_is)

-- the journal of one pipeline was told of an action
pub know_one_more : (config : Config) (so_far : List Told) (t p : ℕ) (stamp : Option Stamp) (action : Action) (journals : List (Vec PipelineJournal)) (row row' : Vec PipelineJournal) (journal journal' : PipelineJournal)
    → slice_get journals t ≡ Some row → slice_get row.items p ≡ Some journal → row'.items ≡ slice_set row.items p journal'
    → Knows journal' (manager_of config t p) (items_after (manager_of config t p) (actions_of t p so_far ++ action ∷ []))
    → KnowAll config so_far journals → KnowAll config (so_far ++ acts t p stamp action ∷ []) (slice_set journals t row')
know_one_more config so_far t p stamp action journals row row' journal journal' at own changed knows all =
    let later : List Told = so_far ++ acts t p stamp action ∷ [] in
    let here : KnowsAt config later t p journal' = subst (λ actions. Knows journal' (manager_of config t p) (items_after (manager_of config t p) actions)) (sym (own_action t p so_far stamp action)) knows in
    let before : KnowRow config so_far t row.items = all.1 t row at in
    let row_knows : EachAt (KnowsAt config later t) (slice_set row.items p journal') =
    each_moved (KnowsAt config so_far t) (KnowsAt config later t) row.items p journal journal' own
    (λ k w unlike. knows_still config so_far later t k w (other_action t k t p so_far stamp action (λ same q. unlike (sym q)))) before.1 here in
    let row_is : KnowRow config later t row'.items = (ap length changed ∙ length-set row.items p journal' ∙ before.0, subst (EachAt (KnowsAt config later t)) (sym changed) row_knows) in (
      length-set journals t row' ∙ all.0,
      each_moved (λ u (other : Vec PipelineJournal). KnowRow config so_far u other.items) (λ u (other : Vec PipelineJournal). KnowRow config later u other.items) journals t row row' at
          (λ u other unlike old. (old.0, λ q one e. knows_still config so_far later u q one (other_action u q t p so_far stamp action (λ same q'. unlike (sym same))) (old.1 q one e)))
          all.1 row_is,
    )

-- ---- pipelines that are there

no_tenant : (config : Config) (t p : ℕ) → p < length (pipelines_of config t) → length (tenants_of config) ≤ t → ⊥
no_tenant config t p there past =
    let none : slice_get (tenants_of config) t ≡ None = slice_get_past (tenants_of config) t past in
    let same : pipelines_of config t ≡ [] = ap (λ found. unwrap_or (option_map (λ (one : TenantSpec). one.pipelines) found) []) none in
    let none_of : length (pipelines_of config t) ≡ 0 = ap length same in
    omega (arith, there, none_of)

-- there are journals of the tenant
pub no_row : (config : Config) (so_far : List Told) (t p : ℕ) (journals : List (Vec PipelineJournal)) → KnowAll config so_far journals → p < length (pipelines_of config t) → length journals ≤ t → ⊥
no_row config so_far t p journals all there past = no_tenant config t p there (let count : length journals ≡ length (tenants_of config) = all.0 in omega (arith, count, past))

-- there is a journal of the pipeline
pub no_journal : (config : Config) (so_far : List Told) (t p : ℕ) (row : List PipelineJournal) → KnowRow config so_far t row → p < length (pipelines_of config t) → length row ≤ p → ⊥
no_journal config so_far t p row knows there past = let count : length row ≡ length (pipelines_of config t) = knows.0 in omega (arith, count, there, past)

-- nothing that isn't an action changes what they know
pub know_still : (config : Config) (so_far : List Told) (t p : ℕ) (finished : Bool) (items : ℕ) (journals : List (Vec PipelineJournal)) → KnowAll config so_far journals → KnowAll config (so_far ++ ends t p finished items ∷ []) journals
know_still config so_far t p finished items journals all =
    (all.0, λ u row at. ((all.1 u row at).0, λ q one e. knows_still config so_far (so_far ++ ends t p finished items ∷ []) u q one (no_action u q so_far (ends t p finished items) refl) ((all.1 u row at).1 q one e)))

-- ---- the lines

-- An action's lines are those that a true outcome has.
pub true_lines : (config : Config) (so_far : List Told) (t p : ℕ) (stamp : Option Stamp) (action : Action) (outcome : Outcome) (items : State) → IsTrue config so_far t p action outcome items
    → action_lines config t p (items_told config so_far t p) stamp action outcome items ≡ next_lines config so_far (acts t p stamp action)
true_lines config so_far t p stamp action outcome items true_told =
    ap (λ (done : State × Outcome). action_lines config t p (items_told config so_far t p) stamp action done.1 done.0) true_told.happened

lines_more : (config : Config) (past so_far : List Told) (next : Told) → lines_after config past (so_far ++ next ∷ []) ≡ lines_after config past so_far ++ next_lines config (past ++ so_far) next
lines_more config past [] next = append-nil (next_lines config past next) ∙ ap (λ all. next_lines config all next) (sym (append-nil past))
lines_more config past (one ∷ so_far) next =
    ap (λ rest. next_lines config past one ++ rest) (lines_more config (past ++ one ∷ []) so_far next
    ∙ ap (λ all. lines_after config (past ++ one ∷ []) so_far ++ next_lines config all next) (append_assoc past (one ∷ []) so_far))
    ∙ sym (append_assoc (next_lines config past one) (lines_after config (past ++ one ∷ []) so_far) (next_lines config (past ++ one ∷ so_far) next))

text_more : (config : Config) (so_far : List Told) (next : Told) → journal_text config (so_far ++ next ∷ []) ≡ journal_text config so_far ++ next_lines config so_far next
text_more config so_far next = ap (λ lines. start_lines ++ lines) (lines_more config [] so_far next) ∙ sym (append_assoc start_lines (lines_after config [] so_far) (next_lines config so_far next))

pub written_more : (config : Config) (so_far : List Told) (next : Told) (before middle after : Option (List ℕ)) (lines : List ℕ) → lines ≡ next_lines config so_far next
    → Appends before middle (journal_text config so_far) → Appends middle after lines → Appends before after (journal_text config (so_far ++ next ∷ []))
written_more config so_far next before middle after lines same first second =
    subst (Appends before after) (sym (text_more config so_far next))
    (Appends-trans before middle after (journal_text config so_far) (next_lines config so_far next) first (subst (Appends middle after) same second))

-- ---- a journal that was told

pub none_of : {X : Type 0} (found : Option X) → is_some found ≡ false → found ≡ None
none_of None e = refl
none_of (Some x) e = absurd (cc)

of_ok : {T E P : Type 0} (answer : Result T E) → IsOk answer → OnOk answer P → P
of_ok (Ok value) is has = has
of_ok (Err error) is has = absurd (cc)

module _ {W : Type 0} (contents : W → Option (List ℕ)) (config : Config) (so_far : List Told) (next : Told) (before : Option (List ℕ)) where
  -- a journal whose lines were made and written, unless it has a fault now
  pub keeps_on : {T E : Type 0} (journal journal' : Journal W) (made : Result T E) (lines : List ℕ) (journals : List (Vec PipelineJournal)) → Keeps contents config before so_far journal → journal.fault ≡ None
      → OnOk made (lines ≡ next_lines config so_far next) → OnOk made (KnowAll config (so_far ++ next ∷ []) journals)
      → (journal'.fault ≡ None → IsOk made) → (journal'.fault ≡ None → Appends (contents journal.writer) (contents journal'.writer) lines) → journal'.pipelines.journals.items ≡ journals
      → Keeps contents config before (so_far ++ next ∷ []) journal'
  keeps_on journal journal' made lines journals keeps well are know is_made written same = record {
    knows = λ none. subst (KnowAll config (so_far ++ next ∷ [])) (sym same) (of_ok made (is_made none) know);
    written = λ none. written_more config so_far next before (contents journal.writer) (contents journal'.writer) lines (of_ok made (is_made none) are) (keeps.written well) (written none);
  }

pub on_any : {T E P : Type 0} → P → (answer : Result T E) → OnOk answer P
on_any has (Ok value) = has
on_any has (Err error) = tt

-- what an answer has
pub over_ok : {T E P Q : Type 0} → (P → Q) → (answer : Result T E) → OnOk answer P → OnOk answer Q
over_ok says (Ok value) has = says has
over_ok says (Err error) has = has
