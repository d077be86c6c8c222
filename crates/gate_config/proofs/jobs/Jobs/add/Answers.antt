use Rattle.std.proofs.Common.{rules, ◌∙◌, ap, sym, Some, cond, map, [], string_bytes}
use Rattle.std.specs.Prelude.{unwrap_or}
use Rattle.std.specs.BTreeMap.{get_by_text}
use Rattle.std.specs.List.{filter_map}
use Rattle.std.specs.Str.{bytes_eq}
use Rattle.std.proofs.lemmas.Map.Text.{btree_map_updates_text}
use Rattle.serde_json.specs.View.{view}
use Rattle.gate_config.specs.Document.{name_in}
use Rattle.gate_config.specs.Inner.Jobs.{with_jobs}
use Rattle.gate_config.specs.Lookups.{jobs_under}
use Rattle.gate_config.proofs.JobLists.{added, none_added, on_ok}
use Rattle.gate_config.proofs.jobs.Jobs.add.Goals as goal

pub returns-then-is_empty : goal.returns-then-is_empty
returns-then-is_empty c = λ other. none_added c.args.jobs.now (jobs_under c.args.self.now other) (bytes_eq c.args.project.now other) (sym c.is_empty.ensures ∙ c.if-is_empty.true)

pub returns-in-Some : goal.returns-in-Some
returns-in-Some c =
    let names = filter_map name_in (map view c.args.jobs.now) in
    let old = c.args.self.now.lists in
    let next = c.get_mut.follows.lender c.add_names.new.list in
    let changed = btree_map_updates_text c.args.project.now old next (Some c.add_names.new.list) ((c.get_mut.follows.holds c.add_names.new.list).3 (search rules)) in
    on_ok c.add_names.result
    (λ e. added (get_by_text old) (get_by_text next) c.args.project.now names c.add_names.new.list changed
    (e ∙ ap (λ o. with_jobs (unwrap_or o []) names) c.in-Some.ensures.value))
    c.add_names.ensures

pub returns-in_ok-insert-in-None : goal.returns-in_ok-insert-in-None
returns-in_ok-insert-in-None c =
    let names = filter_map name_in (map view c.args.jobs.now) in
    let old = c.args.self.now.lists in
    let kept = c.get_mut.follows.lender-at-none in
    let next = c.insert.new.self in
    let list = c.add_names-in-None.new.list in
    let changed = btree_map_updates_text (string_bytes c.in_ok-from_str-in-None.field-0) kept next (Some list) c.in_ok-insert-in-None.ensures.updates in
    added (get_by_text old) (get_by_text next) c.args.project.now names list
    (λ other.
    changed other ∙ ap (λ key. cond (bytes_eq key other) (Some list) (get_by_text kept other)) c.in_ok-from_str-in-None.ensures.ok
    ∙ ap (λ m. cond (bytes_eq c.args.project.now other) (Some list) (get_by_text m other)) c.get_mut.follows.holds-at-none)
    (c.in_ok-add_names-in-None.ensures ∙ ap (λ l. with_jobs l names) c.new-list.ensures ∙ ap (λ o. with_jobs (unwrap_or o []) names) c.in-None.ensures.value)
