use Rattle.std.proofs.Common.{◌≡◌, ℕ, ◌+◌, ◌-◌, ◌*◌, ◌<◌, ◌≤◌, length}
use denote.Text.{Utf8}
use denote.Shadow.{shadow}
use Rattle.gate_explain.proofs.telling.push_listing.Given as goal

-- What stands between two names is text.
abbrev pub invariant-loop-project : goal.invariant-loop-project
invariant-loop-project l =
    (goal.iterator-loop-project).can_next l.project-iterator ×
    (goal.iterator-loop-project).is_finite l.project-iterator ×
    shadow (Utf8 l.between)
