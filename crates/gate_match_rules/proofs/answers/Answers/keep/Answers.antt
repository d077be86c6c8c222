use Rattle.std.proofs.Common.{◌∙◌, zero, suc, [], ◌∷◌, sym, subst, ap, arith}
use Rattle.std.specs.List.{All}
use Rattle.std.proofs.lemmas.List.Elements.{All-append}
use Rattle.gate_match_rules.specs.declared.answers.Answer.{Answer}
use Rattle.gate_match_rules.specs.Knowing.{AreGiven, IsRight}
use Rattle.gate_match_rules.proofs.answers.Answers.keep.Goals as goal

one : {X : Type 0} (P : X → Type 0) (x : X) → P x → All P (x ∷ [])
one P x p zero d h = p
one P x p (suc k) d h = absurd (omega (arith, h))

pub returns : goal.returns
returns c = λ events known right. (
  let answer : Answer = record { field = c.args.question.now.field; text = c.text.result; negate = c.args.question.now.asked.now.entry.now.negate; rows = c.args.rows } in
      let its : IsRight events answer = λ one e. right one (e ∙ ap (λ text. (text, c.args.question.now.asked.now.entry.now.negate)) c.text.ensures) in
      subst (All (IsRight events)) (sym (c.note_last.ensures.known ∙ c.in_ok-push.ensures.items))
      (All-append (IsRight events) c.args.self.now.known.items (answer ∷ []) known.0 (one (IsRight events) answer its)),
  subst (AreGiven events) (sym c.note_last.ensures.approvals) known.1,
)
