use Rattle.std.proofs.Common.{◌∙◌, map}
use Rattle.gate_config.proofs.Faults.{exit, fault_later, fault_front, fault_rest, passed_more, passed_both}
use Rattle.gate_config.specs.Inner.Found.{found_view}
use Rattle.gate_config.specs.Texts.{texts_of_tenant}
use Rattle.gate_config.proofs.WithinLimits.{few_connections, few_tenants}
use Rattle.gate_config.proofs.read.read_entries.Goals as goal

pub invariant_of-result : goal.invariant_of-result
invariant_of-result c = record {
  few_connections = few_connections (map found_view c.args.entries.now) c.in_ok-connections.connections c.in_ok-names.ensures.0 (c.in_ok-connections.ensures ∙ c.in_ok-names.ensures.1);
  few_tenants = few_tenants found_view c.args.entries.now texts_of_tenant _ c.in_ok-tenants.tenants c.in_ok-tenants.ensures.1 c.in_ok-check_count.ensures.0;
}

pub returns-in_err-check_count : goal.returns-in_err-check_count
returns-in_err-check_count c =
    exit _ c.from_residual.result c.from_residual.ensures.1 (fault_front _ c.in_err-check_count.ensures)

pub returns-in_err-names : goal.returns-in_err-names
returns-in_err-names c =
    exit _ c.from_residual-in_err-names.result c.from_residual-in_err-names.ensures.1
    (fault_later c.in_ok-check_count.ensures.0 (fault_front _ c.in_err-names.ensures))

pub returns-in_err-tenants : goal.returns-in_err-tenants
returns-in_err-tenants c =
    exit _ c.from_residual-in_err-tenants.result c.from_residual-in_err-tenants.ensures.1
    (fault_later c.in_ok-check_count.ensures.0
    (fault_rest c.in_ok-names.ensures.0 (rw (c.as_slice.ensures, c.in_ok-connections.ensures, c.in_ok-names.ensures.1) at c.in_err-tenants.ensures)))

pub returns : goal.returns
returns c = (
  passed_more c.in_ok-check_count.ensures.0
      (passed_both c.in_ok-names.ensures.0 (rw (c.as_slice.ensures, c.in_ok-connections.ensures, c.in_ok-names.ensures.1) at c.in_ok-tenants.ensures.0)),
  (c.in_ok-connections.ensures ∙ c.in_ok-names.ensures.1, rw (c.as_slice.ensures, c.in_ok-connections.ensures, c.in_ok-names.ensures.1) at c.in_ok-tenants.ensures.1),
)
