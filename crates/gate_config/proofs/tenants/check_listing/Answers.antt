use Rattle.gate_config.proofs.Faults.{exit, fault_later, fault_front, after, after_one}
use Rattle.gate_config.proofs.tenants.check_listing.Goals as goal

pub returns-in_err-check_projects : goal.returns-in_err-check_projects
returns-in_err-check_projects c =
    exit _ c.from_residual-in_err-check_projects.result c.from_residual-in_err-check_projects.ensures.1
    (fault_later c.in_ok-check_optional_object.ensures.0 (fault_front _ c.in_err-check_projects.ensures))

pub returns : goal.returns
returns c =
    after_one _ _ c.check_projects-2.result c.in_ok-check_optional_object.ensures.0
    (after _ _ c.check_projects-2.result c.in_ok-check_projects.ensures.0 c.check_projects-2.ensures)
