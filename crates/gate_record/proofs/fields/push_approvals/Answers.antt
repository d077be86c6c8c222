use Rattle.std.proofs.Common.{◌∙◌, ◌++◌, ap, sym, take}
use Rattle.std.specs.List.{filter_map}
use Rattle.gate_record.specs.Approvals.{approval_of}
use Rattle.gate_record.specs.Limits.{most_approvals}
use Rattle.gate_record.proofs.Kept.{kept_all, kept_next}
use Rattle.gate_record.proofs.fields.push_approvals.Goals as goal

pub loop-entry-preserved : goal.loop-entry-preserved
loop-entry-preserved c = (
  c.push_approval.ensures.few,
  λ values goes.
      let left = c.loop-entry.invariant.1 values goes in
      let next = c.in-Some.ensures.value left.0 left.1 in (
        next.1,
        next.4,
        ap (λ all. take most_approvals (all ++ filter_map approval_of next.1)) (c.in_ok-push_approval.ensures.added next.0 next.3) ∙ kept_next most_approvals c.loop-entry.approvals (approval_of next.0) (filter_map approval_of next.1)
            ∙ ap (λ rest. take most_approvals (c.loop-entry.approvals ++ filter_map approval_of rest)) (sym next.2) ∙ left.2,
      ),
)

pub returns : goal.returns
returns c values goes =
    let left = c.loop-entry.invariant.1 values goes in
    kept_all most_approvals c.loop-entry.approvals c.loop-entry.invariant.0
    ∙ ap (λ rest. take most_approvals (c.loop-entry.approvals ++ filter_map approval_of rest)) (sym (c.in_default.ensures.value left.0 left.1)) ∙ left.2
