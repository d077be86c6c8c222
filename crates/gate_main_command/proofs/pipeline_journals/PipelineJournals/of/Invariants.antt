use Rattle.std.specs.Prelude.{◌≡◌, [], length, vec_items}
use Rattle.std.specs.Global.{Vec}
use Rattle.gate_core.specs.Views.{EachAt}
use Rattle.gate_journal.specs.declared.pipeline_journal.PipelineJournal.{PipelineJournal}
use Rattle.gate_main_command.specs.Inner.Rows.{KnowRow}
use Rattle.gate_main_command.proofs.pipeline_journals.PipelineJournals.of.Given as goal

-- each tenant so far has its journals
abbrev pub invariant-loop-tenant : goal.invariant-loop-tenant
invariant-loop-tenant l = (length (vec_items l.journals) ≡ l.tenant-index) × EachAt (λ t (row : Vec PipelineJournal). KnowRow l.config [] t row.items) (vec_items l.journals)
