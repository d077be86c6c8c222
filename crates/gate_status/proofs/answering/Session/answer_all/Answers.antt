use Rattle.std.proofs.Common.{◌≡◌, ◌∙◌, ◌++◌, ◌∷◌, [], List, Option, Some, None, refl, sym, ap, subst, append_assoc}
use Rattle.gate_record.specs.declared.record.Record.{Record}
use Rattle.gate_status.specs.declared.fault.SessionEnd.{SessionEnd}
use Rattle.gate_status.specs.Inner.Talks.{Talks}
use Rattle.gate_status.proofs.Exchanges.{talks_more, talks_none, talks_on}
use Rattle.gate_status.proofs.answering.Session.answer_all.Goals as goal

pub loop-line-init : goal.loop-line-init
loop-line-init g c = record {
  answered = ([], refl, talks_none (g.W.Write.contents c.args.output.now.device));
  for_config = c.requires.for_config;
  faults = refl;
}

-- the line that ends the session stands behind those that were answered, and more behind it
pub returns-in-Some-2-clause-talks : goal.returns-in-Some-2-clause-talks
returns-in-Some-2-clause-talks g c =
    let a = c.loop-line.invariant.answered in
    let next : c.loop-line.rest.now ≡ c.in-Some.line.now ∷ c.in-Some.more.now = (let e = c.in-Some.ensures.cases.0 in let a = c.in-Some.line-is in let b = c.in-Some.more-is in cc) in
    let own = subst (λ (h : Option SessionEnd). Talks c.args.self.now.config.now (c.in-Some.line.now ∷ []) h (g.W.Write.contents c.loop-line.output.device) (g.W.Write.contents c.answer_one.new.output.device) c.loop-line.posts c.answer_one.new.posts) c.in-Some-2.is c.in_ok-how.ensures.talks in
    subst (λ (lines : List Record). Talks c.args.self.now.config.now lines (Some c.in-Some-2.how) (g.W.Write.contents c.args.output.now.device) (g.W.Write.contents c.answer_one.new.output.device) c.args.posts.now c.answer_one.new.posts)
    (append_assoc a.0 (c.in-Some.line.now ∷ []) c.in-Some.more.now ∙ ap (λ lines. a.0 ++ lines) (sym next) ∙ a.1)
    (talks_more c.in-Some.more.now (talks_on a.2 own))

pub loop-line-preserved : goal.loop-line-preserved
loop-line-preserved g c =
    let a = c.loop-line.invariant.answered in
    let next : c.loop-line.rest.now ≡ c.in-Some.line.now ∷ c.in-Some.more.now = (let e = c.in-Some.ensures.cases.0 in let a = c.in-Some.line-is in let b = c.in-Some.more-is in cc) in
    let none : c.in_ok-how.field-0 ≡ None = search in
    let own = subst (λ (h : Option SessionEnd). Talks c.args.self.now.config.now (c.in-Some.line.now ∷ []) h (g.W.Write.contents c.loop-line.output.device) (g.W.Write.contents c.answer_one.new.output.device) c.loop-line.posts c.answer_one.new.posts) none c.in_ok-how.ensures.talks in
    record {
      answered = (a.0 ++ c.in-Some.line.now ∷ [], append_assoc a.0 (c.in-Some.line.now ∷ []) c.in-Some.more.now ∙ ap (λ lines. a.0 ++ lines) (sym next) ∙ a.1, talks_on a.2 own);
      for_config = c.in_ok-how.ensures.for_config;
      faults = c.in_ok-how.ensures.faults ∙ c.loop-line.invariant.faults;
    }
