-- The lines of an action, part by part, are the texts of its facts.
use Rattle.std.proofs.Common.{◌≡◌, ◌∙◌, ap, refl, ℕ, List, [], ◌∷◌, ◌++◌, Bool, Option, None, append-nil, codes, decimal, flat_map, map}
use Rattle.std.specs.Prelude.{◌+◌, ◌==◌, if◌then◌else◌}
use Rattle.std.proofs.lemmas.Grind.{flat_map-append}
use Rattle.gate_record.specs.Names.{name_text}
use Rattle.gate_record.specs.declared.ids.Stamp.{Stamp}
use Rattle.gate_config.specs.declared.config.Config.{Config}
use Rattle.gate_items.specs.declared.action.Action.{Action}
use Rattle.gate_items.specs.declared.action.Action.TheVariants as action
use Rattle.gate_items.specs.declared.action.Outcome.TheVariants.{Applied}
use Rattle.gate_items.specs.declared.item.QueueItem.{QueueItem}
use Rattle.gate_items.specs.declared.item.Report.{Report}
use Rattle.gate_items.specs.Machine.{State}
use Rattle.gate_items.specs.Sets.{begun, cancelled, reported, sets_of}
use Rattle.gate_journal.specs.Causes.{own_cause}
use Rattle.gate_journal.specs.declared.cause.CancelCause.TheVariants.{Ahead}
use Rattle.gate_journal.specs.Facts.{Fact, action_lines, begin_facts, begun_item, build_set, cancel_facts, cancels, fact_line, reports, result_facts}
use Rattle.gate_journal.specs.Lines.{begin_end, begin_line, cancel_line, report_line}
use Rattle.gate_journal.specs.Inner.Lines.{begin_lines, cancel_lines, result_lines}
use Rattle.gate_journal.specs.Members.{change_member, jobs_member, more_names, next_name, patched_members}

-- the texts of facts that are made one by one
made : {X : Type 0} (text : Fact → List ℕ) (make : X → Fact) (xs : List X) → flat_map text (map make xs) ≡ flat_map (λ x. text (make x)) xs
made text make [] = refl
made text make (x ∷ xs) = ap (λ rest. text (make x) ++ rest) (made text make xs)

-- the names of an item's jobs, whatever their outcomes are
same_more : (jobs : List (List ℕ × Option Bool)) → more_names (map {B = List ℕ × Option Bool} (λ (name : List ℕ). (name, None)) (map (λ (job : List ℕ × Option Bool). job.0) jobs)) ≡ more_names jobs
same_more [] = refl
same_more (job ∷ jobs) = ap (λ rest. next_name job ++ rest) (same_more jobs)

same_names : (jobs : List (List ℕ × Option Bool)) → jobs_member (map {B = List ℕ × Option Bool} (λ (name : List ℕ). (name, None)) (map (λ (job : List ℕ × Option Bool). job.0) jobs)) ≡ jobs_member jobs
same_names [] = refl
same_names (job ∷ jobs) = ap (λ rest. codes "\"jobs\":[" ++ ((name_text job.0 ++ rest) ++ codes "],")) (same_more jobs)

module _ (config : Config) (t p : ℕ) where
  abbrev text : Fact → List ℕ
  text = fact_line config t p

  result_texts : (a : Action) → flat_map text (result_facts a) ≡ result_lines config t p a
  result_texts (action.Result result) = append-nil _
  result_texts (action.Trigger key patchset jobs) = refl
  result_texts (action.Manage manage) = refl

  cancel_texts : (a : Action) (sets : List ℕ) → flat_map text (cancel_facts a sets) ≡ cancel_lines config t p a sets
  cancel_texts a [] = refl
  cancel_texts a (set ∷ sets) = ap (λ rest. cancel_line config t p (own_cause a) set ++ rest) (made text (cancels Ahead) sets)

  begin_again : (stamp : Option Stamp) (item : QueueItem) → begin_line config t p stamp (begun_item (build_set item)) ≡ begin_line config t p stamp item
  begin_again stamp item =
      ap (λ jobs. (codes "{\"begin\":" ++ (decimal item.set ++ codes ",")) ++ ((change_member config item.key ++ jobs) ++ (patched_members config t p item.patchset ++ begin_end config t stamp item.key))) (same_names item.jobs)

  begin_texts : (stamp : Option Stamp) (next : ℕ) (items : List QueueItem) → flat_map text (begin_facts stamp next items) ≡ begin_lines config t p stamp next items
  begin_texts stamp next [] = refl
  begin_texts stamp next (item ∷ items) = (λ i. begin_again (if item.set + 1 == next then stamp else None) item i ++ begin_texts stamp next items i)

  report_texts : (all : List Report) → flat_map text (map reports all) ≡ flat_map (report_line config t p) all
  report_texts all = made text reports all

  pub applied_lines : (before : State) (stamp : Option Stamp) (a : Action) (items : State) →
      action_lines config t p before stamp a Applied items ≡
      result_lines config t p a ++ (cancel_lines config t p a (sets_of (cancelled before items)) ++ (begin_lines config t p stamp items.next (begun before items) ++ flat_map (report_line config t p) (reported before items)))
  applied_lines before stamp a items =
      let cancelling = cancel_facts a (sets_of (cancelled before items)) in
      let beginning = begin_facts stamp items.next (begun before items) in
      let reporting = map reports (reported before items) in
      flat_map-append text (result_facts a) (cancelling ++ (beginning ++ reporting))
      ∙ (λ i. result_texts a i ++ flat_map-append text cancelling (beginning ++ reporting) i)
      ∙ (λ i. result_lines config t p a ++ (cancel_texts a (sets_of (cancelled before items)) i ++ flat_map-append text beginning reporting i))
      ∙ (λ i. result_lines config t p a ++ (cancel_lines config t p a (sets_of (cancelled before items)) ++ (begin_texts stamp items.next (begun before items) i ++ report_texts (reported before items) i)))
