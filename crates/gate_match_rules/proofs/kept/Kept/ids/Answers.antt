use Rattle.std.proofs.Common.{◌∙◌, Bor, ℕ, List, [], ◌+◌, map}
use Rattle.gate_intern.specs.Marks.{numbers_where}
use Rattle.gate_match_rules.specs.Finding.{entry_meets}
use Rattle.gate_match_rules.proofs.Finding.{none_more, numbered_more}
use Rattle.gate_match_rules.proofs.kept.Kept.ids.Goals as goal

abbrev now : Bor (List ℕ) → List ℕ
now text = text.now

pub loop-text-preserved : goal.loop-text-preserved
loop-text-preserved c = record {
  same = c.meets.ensures.same ∙ c.loop-text.invariant.same;
  met = λ one e.
      let test = entry_meets c.args.reach one in
      numbered_more {R = Bor (List ℕ)} {A = List ℕ} now c.args.texts.now test c.loop-text.text-index (record { ref_ptr = (0, 0); now = [] }) c.loop-text.ids.items c.number_text.new.ids.items
      (numbers_where test (map now c.args.texts.now)) c.loop-text.id c.in_ok-id.id c.meets.result
      c.loop-text-test.true c.in_ok-id.ensures.next c.in_ok-id.ensures.ids (c.meets.ensures.met one e) (c.loop-text.invariant.met one e);
}

pub returns-clause-met : goal.returns-clause-met
returns-clause-met c = λ one e.
    let test = entry_meets c.args.reach one in
    none_more {R = Bor (List ℕ)} {A = List ℕ} now c.args.texts.now test c.loop-text.text-index c.loop-text.ids.items (numbers_where test (map now c.args.texts.now)) (c.loop-text.id + 1)
    c.loop-text-test.false (c.loop-text.invariant.met one e)
