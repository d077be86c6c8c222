use Rattle.std.proofs.Common.{Bor, ℕ, List, [], map}
use Rattle.gate_config.specs.Lookups.{belongs}
use Rattle.gate_intern.specs.Marks.{numbers_where}
use Rattle.gate_match_rules.proofs.Finding.{numbered_more}
use Rattle.gate_match.proofs.listed.listed_ids.Goals as goal

abbrev now : Bor (List ℕ) → List ℕ
now text = text.now

pub loop-project-preserved : goal.loop-project-preserved
loop-project-preserved c =
    let test = belongs c.args.config.now c.args.tenant.0 c.args.conn.0 in
    numbered_more {R = Bor (List ℕ)} {A = List ℕ} now c.args.projects.now test c.loop-project.project-index (record { ref_ptr = (0, 0); now = [] }) c.loop-project.ids.items c.number_text.new.ids.items
    (numbers_where test (map now c.args.projects.now)) c.loop-project.id c.in_ok-id.id c.belongs.result
    c.loop-project-test.true c.in_ok-id.ensures.next c.in_ok-id.ensures.ids c.belongs.ensures c.loop-project.invariant
