use Rattle.std.proofs.Common.{option_map, subst}
use Rattle.serde_json.specs.View.{view}
use Rattle.gate_config.specs.Checks.{listing_checks}
use Rattle.gate_config.specs.Inner.Faults.{Tests}
use Rattle.gate_config.specs.Inner.Steps.{steps_of}
use Rattle.gate_config.specs.Places.{below}
use Rattle.gate_config.proofs.Faults.{after_one, room, saying}
use Rattle.gate_config.proofs.tenants.check_source.Goals as goal

pub returns : goal.returns
returns c =
    after_one _ _ c.check_listing.result (room _ c.if-len-gt-MAX_CONNECTIONS.false c.len.ensures c.in_ok-insert.ensures)
    (saying _ c.check_listing.result
    (subst (λ o. Tests (listing_checks (below (steps_of c.args.place.now) c.args.key.now) o) c.check_listing.result) c.member_of.ensures
    (subst (λ here. Tests (listing_checks here (option_map (λ v. view v.now) c.member_of.result)) c.check_listing.result) c.member-here.ensures
    c.check_listing.ensures)) c.in_ok-insert.ensures)
