-- What is printed of the queue items of a pipeline, and of what it reported.
use Rattle.std.specs.Prelude.{ℕ, ℤ, List, ◌++◌, Bool, true, false, Option, Some, None, codes, decimal, flat_map, length}
use Rattle.std.specs.Fmt.{signed_decimal}
use Rattle.gate_record.specs.Names.{name_text}
use Rattle.gate_items.specs.declared.item.QueueItem.{QueueItem}
use Rattle.gate_items.specs.declared.item.Report.{Report}
use Rattle.gate_items.specs.declared.key.Key.{Key}
use Rattle.gate_items.specs.declared.key.Key.TheVariants as key
use Rattle.gate_items.specs.Machine.{State}
use Rattle.gate_line.specs.Words.{spaced_number}

-- a space and a name
abbrev pub quoted : List ℕ → List ℕ
quoted name = codes " " ++ name_text name

abbrev pub change_text : ℕ → ℤ → List ℕ
change_text conn number = codes "change" ++ (spaced_number conn ++ (codes " " ++ signed_decimal number))

abbrev pub ref_text : ℕ → List ℕ → List ℕ → List ℕ → List ℕ
ref_text conn project refname newrev = (codes "ref" ++ spaced_number conn) ++ (quoted newrev ++ (quoted refname ++ quoted project))

abbrev pub key_text : Key → List ℕ
key_text (key.Change conn number) = change_text conn.0 number
key_text (key.Ref conn project refname newrev) = ref_text conn.0 project refname newrev

-- ---- an item

abbrev pub outcome_word : Option Bool → List ℕ
outcome_word (Some true) = codes " success"
outcome_word (Some false) = codes " failure"
outcome_word None = codes " waiting"

abbrev pub job_text : List ℕ × Option Bool → List ℕ
job_text job = quoted job.0 ++ outcome_word job.1

abbrev pub sets_text : ℤ → ℕ → List ℕ
sets_text patchset set = codes " patchset " ++ signed_decimal patchset ++ codes " set " ++ decimal set

abbrev pub item_line : QueueItem → List ℕ
item_line item = (codes "item " ++ (key_text item.key ++ sets_text item.patchset item.set)) ++ (flat_map job_text item.jobs ++ codes "\n")

-- ---- a report

abbrev pub success_word : Bool → List ℕ
success_word true = codes " success\n"
success_word false = codes " failure\n"

abbrev pub report_line : Report → List ℕ
report_line report = (codes "report " ++ (key_text report.key ++ sets_text report.patchset report.set)) ++ success_word report.success

-- ---- all

abbrev pub counts_line : ℕ → ℕ → List ℕ
counts_line items reports = codes "shown " ++ decimal items ++ codes " " ++ decimal reports ++ codes "\n"

-- how many items and reports there are, then the items in order, then the reports in order
abbrev pub items_text : State → List ℕ
items_text items = counts_line (length items.items) (length items.reported) ++ (flat_map item_line items.items ++ flat_map report_line items.reported)

-- the text where there is such a pipeline, and `idle` where there isn't
abbrev pub shown_text : Option State → List ℕ
shown_text None = codes "idle\n"
shown_text (Some items) = items_text items
