use Rattle.std.proofs.Common.{◌≡◌, ◌++◌, ◌+◌, map, drop}
use Rattle.gate_config.specs.Lookups.{belongs}
use Rattle.gate_intern.specs.Marks.{numbers_from, numbers_where}
use Rattle.gate_match.proofs.listed.listed_ids.Given as goal

-- what was found, and what will be found of the projects that are left, is all that is to be found
abbrev pub invariant-loop-project : goal.invariant-loop-project
invariant-loop-project l =
    l.ids.items ++ numbers_from (l.id + 1) (belongs l.config l.tenant.0 l.conn.0) (map (λ text. text.now) (drop l.project-index l.projects))
    ≡ numbers_where (belongs l.config l.tenant.0 l.conn.0) (map (λ text. text.now) l.projects)
