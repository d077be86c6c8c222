use Rattle.std.proofs.Common.{refl, sym, ◌∙◌}
use Rattle.serde_json.specs.View.{view}
use Rattle.gate_config.proofs.Picked.{picked_some, picked_none, tenant_kept, tenant_ignored}
use Rattle.gate_config.proofs.document.tenant_entries.Goals.{then-not-is_no_tenant+in_ok-push, else-not-is_no_tenant}
use Rattle.gate_config.specs.Document.{tenant_at}
use Rattle.gate_config.proofs.document.tenant_entries.Goals as goal

pub loop-position-preserved : goal.loop-position-preserved
loop-position-preserved c =
    elim c.if-not-is_no_tenant.branch [
      | then-not-is_no_tenant+in_ok-push w ↦
          rw (w.entries-is, w.in_ok-push.ensures.items)
          (picked_some tenant_at c.args.items.now c.loop-position.position c.index-items-position.result c.loop-position.entries.items _
          c.loop-position-test.true c.index-items-position.is c.loop-position.invariant refl
          (tenant_kept (view c.index-items-position.result) (sym c.is_no_tenant.ensures ∙ w.if-not-is_no_tenant.true)))
      | else-not-is_no_tenant w ↦
          rw w.entries-is
          (picked_none tenant_at c.args.items.now c.loop-position.position c.index-items-position.result c.loop-position.entries.items
          c.loop-position-test.true c.index-items-position.is c.loop-position.invariant
          (tenant_ignored (view c.index-items-position.result) (sym c.is_no_tenant.ensures ∙ w.if-not-is_no_tenant.false)))
    ]
