use Rattle.std.proofs.Common.{◌∙◌, ◌-◌, ◌++◌, List, ap, drop, flat_map, string_bytes, sym}
use Rattle.std.specs.List.{filter_map, find, range_with_len}
use Rattle.gate_items.specs.declared.item.Report.{Report}
use Rattle.gate_items.specs.Machine.{has_set}
use Rattle.gate_items.specs.Sets.{begun, cancelled, reported, sets_of}
use Rattle.gate_journal.specs.Follows.{items_after}
use Rattle.gate_journal.specs.Inner.Lines.{begin_lines, cancel_lines, result_lines}
use Rattle.gate_journal.specs.Lines.{report_line}
use Rattle.gate_journal.proofs.FactLines.{applied_lines}
use Rattle.gate_journal.proofs.Pushed.{behind}
use Rattle.gate_journal.proofs.pipeline_journal.PipelineJournal.push_applied.Goals as goal

pub returns-clause-lines : goal.returns-clause-lines
returns-clause-lines c manager actions knows e =
    let s = items_after manager actions in
    let items = c.args.processed.now.items.now in
    let config = c.args.place.now.config.now in
    let t = c.args.place.now.tenant.0 in
    let p = c.args.place.now.pipeline.0 in
    let cancels = cancel_lines config t p c.args.processed.now.action.now (sets_of (cancelled s items)) in
    let begins = begin_lines config t p c.args.processed.now.stamp items.next (begun s items) in
    let reports = flat_map (report_line config t p) (reported s items) in
    let own = result_lines config t p c.args.processed.now.action.now in
    behind (string_bytes c.args.out.now) own (cancels ++ (begins ++ reports)) c.in_ok-push_own.ensures
    (behind (string_bytes c.push_own.new.out) cancels (begins ++ reports) (c.in_ok-push_cancelled.ensures.lines manager actions knows e c.reports_from-reports.ensures)
    (behind (string_bytes c.push_cancelled.new.out) begins reports
    (c.in_ok-push_begun.ensures
    ∙ ap (λ from. string_bytes c.push_cancelled.new.out ++ begin_lines config t p c.args.processed.now.stamp items.next (filter_map (λ set. find (has_set set) items.items) (range_with_len from (items.next - from))))
    (c.in_ok-push_cancelled.ensures.next ∙ knows.next))
    (c.in_ok-push_reports.ensures
    ∙ ap (λ (rs : List Report). string_bytes c.push_begun.new.out ++ flat_map (report_line config t p) rs) (c.reports_from-reports.ensures ∙ ap (λ n. drop n items.reported) knows.reports))))
    ∙ ap (λ lines. string_bytes c.args.out.now ++ lines) (sym (applied_lines config t p s c.args.processed.now.stamp c.args.processed.now.action.now items))
