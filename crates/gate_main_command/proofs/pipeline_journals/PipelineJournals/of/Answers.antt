use Rattle.std.proofs.Common.{◌≡◌, ◌∙◌, ap, subst, sym, [], ◌∷◌, ◌++◌, Some}
use Rattle.std.specs.Global.{Vec}
use Rattle.std.specs.Prelude.{slice_get, vec_items}
use Rattle.gate_core.specs.Views.{EachAt}
use Rattle.gate_core.proofs.Elements.{lent}
use Rattle.gate_journal.specs.declared.pipeline_journal.PipelineJournal.{PipelineJournal}
use Rattle.gate_config.specs.Lookups.{tenants_of}
use Rattle.gate_main_command.specs.Inner.Rows.{KnowRow}
use Rattle.gate_main_command.proofs.Told.{count_more, rows_more}
use Rattle.gate_main_command.proofs.pipeline_journals.PipelineJournals.of.Goals as goal

pub loop-tenant-preserved : goal.loop-tenant-preserved
loop-tenant-preserved c =
    let config = c.args.config.now in
    let row = c.in_ok-journals_of.field-0 in
    let grown : vec_items c.push.new.self ≡ c.loop-tenant.journals.items ++ row ∷ [] = c.in_ok-push.ensures.items in
    let lent_at = lent c.tenants-tenant-items.result.now c.loop-tenant.tenant-index c.tenant-item.result c.loop-tenant-test.true c.tenant-item.is in
    let at : slice_get (tenants_of config) c.loop-tenant.tenant-index ≡ Some c.tenant-item.result = ap (λ list. slice_get list c.loop-tenant.tenant-index) (sym c.tenants-tenant-items.ensures) ∙ lent_at in (
      count_more c.loop-tenant.journals.items (vec_items c.push.new.self) row c.loop-tenant.tenant-index grown c.loop-tenant.invariant.0,
      subst (EachAt (λ t (one : Vec PipelineJournal). KnowRow config [] t one.items)) (sym grown)
          (rows_more config c.loop-tenant.tenant-index c.tenant-item.result c.loop-tenant.journals.items row c.loop-tenant.invariant.0 at
          (λ t own. c.in_ok-journals_of.ensures config t (own ∙ sym c.as_slice.ensures)) c.loop-tenant.invariant.1),
    )
