-- The lines of a journal: JSON objects, each with its members in the order of their bytes and a line feed at its end.
use Rattle.std.specs.Prelude.{ℕ, List, ◌++◌, Bool, true, false, Option, codes, decimal}
use Rattle.gate_record.specs.Names.{name_text}
use Rattle.gate_record.specs.declared.ids.Stamp.{Stamp}
use Rattle.gate_config.specs.declared.config.Config.{Config}
use Rattle.gate_items.specs.declared.action.Action.{Action}
use Rattle.gate_items.specs.declared.action.Action.TheVariants as action
use Rattle.gate_items.specs.declared.action.Manage.TheVariants as manage
use Rattle.gate_items.specs.declared.action.Discard.{Discard}
use Rattle.gate_items.specs.declared.action.JobResult.{JobResult}
use Rattle.gate_items.specs.declared.item.QueueItem.{QueueItem}
use Rattle.gate_items.specs.declared.item.Report.{Report}
use Rattle.gate_items.specs.declared.key.Key.{Key}
use Rattle.gate_items.specs.Words.{discard_word}
use Rattle.gate_journal.specs.Causes.{cause_word}
use Rattle.gate_journal.specs.declared.cause.CancelCause.{CancelCause}
use Rattle.gate_journal.specs.Members.{change_member, jobs_member, patched_members, pipeline_members, record_member, ref_member, tenant_members}

-- ---- single lines, of pipeline p of tenant t

-- the end of most lines: the tenant
abbrev pub line_end : Config → ℕ → List ℕ
line_end config t = tenant_members config t ++ codes "}\n"

abbrev pub begin_end : Config → ℕ → Option Stamp → Key → List ℕ
begin_end config t stamp key = record_member config stamp ++ (ref_member config key ++ line_end config t)

abbrev pub begin_line : Config → ℕ → ℕ → Option Stamp → QueueItem → List ℕ
begin_line config t p stamp item =
    (codes "{\"begin\":" ++ (decimal item.set ++ codes ","))
    ++ ((change_member config item.key ++ jobs_member item.jobs) ++ (patched_members config t p item.patchset ++ begin_end config t stamp item.key))

-- the end of a line with a reason
abbrev pub why_end : Config → ℕ → List ℕ → List ℕ
why_end config t word = tenant_members config t ++ (codes ",\"why\":\"" ++ (word ++ codes "\"}\n"))

abbrev pub cancel_line : Config → ℕ → ℕ → CancelCause → ℕ → List ℕ
cancel_line config t p cause set = (codes "{\"cancel\":" ++ (decimal set ++ codes ",")) ++ (pipeline_members config t p ++ why_end config t (cause_word cause))

abbrev pub success_member : Bool → List ℕ
success_member true = codes ",\"success\":true,"
success_member false = codes ",\"success\":false,"

abbrev pub report_end : Config → ℕ → Report → List ℕ
report_end config t report = ref_member config report.key ++ ((codes "\"report\":" ++ (decimal report.set ++ success_member report.success)) ++ line_end config t)

abbrev pub report_line : Config → ℕ → ℕ → Report → List ℕ
report_line config t p report = (codes "{" ++ change_member config report.key) ++ (patched_members config t p report.patchset ++ report_end config t report)

-- the line of a job's result
abbrev pub result_line : Config → ℕ → ℕ → JobResult → List ℕ
result_line config t p result =
    (codes "{\"job\":" ++ (name_text result.job ++ codes ","))
    ++ (pipeline_members config t p ++ ((codes "\"result\":" ++ (decimal result.set ++ success_member result.success)) ++ line_end config t))

-- The lines of discarded actions: a trigger is named by its record, a result by its build set and job, and a management event by
-- its key.
abbrev pub lost_trigger : Config → ℕ → ℕ → Option Stamp → List ℕ → List ℕ
lost_trigger config t p stamp why = codes "{\"discard\":\"trigger\"," ++ (pipeline_members config t p ++ (record_member config stamp ++ why_end config t why))

abbrev pub lost_result : Config → ℕ → ℕ → JobResult → List ℕ → List ℕ
lost_result config t p result why =
    (codes "{\"discard\":\"result\",\"job\":" ++ (name_text result.job ++ codes ","))
    ++ (pipeline_members config t p ++ ((codes "\"set\":" ++ (decimal result.set ++ codes ",")) ++ why_end config t why))

abbrev pub lost_manage : Config → ℕ → ℕ → List ℕ → Key → List ℕ → List ℕ
lost_manage config t p member key why = (codes "{" ++ (change_member config key ++ member)) ++ (pipeline_members config t p ++ (ref_member config key ++ why_end config t why))

abbrev pub discard_line : Config → ℕ → ℕ → Option Stamp → Action → Discard → List ℕ
discard_line config t p stamp (action.Trigger key patchset jobs) why = lost_trigger config t p stamp (discard_word why)
discard_line config t p stamp (action.Result result) why = lost_result config t p result (discard_word why)
discard_line config t p stamp (action.Manage (manage.Dequeue key)) why = lost_manage config t p (codes "\"discard\":\"dequeue\",") key (discard_word why)
discard_line config t p stamp (action.Manage (manage.Reset key)) why = lost_manage config t p (codes "\"discard\":\"reset\",") key (discard_word why)

-- ---- the first lines of a run, and the last one of a pipeline

-- The lines with which a run begins. After them, the numbers of build sets begin anew. The second has the version of the lines.
abbrev pub start_lines : List ℕ
start_lines = codes "{\"start\":1}\n{\"gate\":2}\n"

abbrev pub end_member : Bool → List ℕ
end_member true = codes "{\"end\":\"finished\","
end_member false = codes "{\"end\":\"running\","

-- the last line of a pipeline, which has so many items then
abbrev pub end_line : Config → ℕ → ℕ → Bool → ℕ → List ℕ
end_line config t p finished items = end_member finished ++ ((codes "\"items\":" ++ (decimal items ++ codes ",")) ++ (pipeline_members config t p ++ line_end config t))
