use Rattle.std.proofs.Common.{sym, subst}
use Rattle.gate_status.specs.Replies.{NoteAfter, asked_by}
use Rattle.gate_status.proofs.Exchanges.{talks_one}
use Rattle.gate_status.proofs.InRange.{still_for}
use Rattle.gate_status.proofs.answering.Session.answer_one.Goals as goal

pub returns-clause-talks : goal.returns-clause-talks
returns-clause-talks g c =
    talks_one c.args.line.now c.answer-reply.result (sym c.end.ensures) c.answer-reply.ensures.may c.in_ok-say.ensures.says c.answer-reply.ensures.posted c.answer-reply.ensures.asked c.answer-reply.ensures.left c.answer-reply.ensures.cells
    (subst (λ how. NoteAfter how c.args.posts.now.note c.answer-reply.new.posts.note) (sym c.end.ensures) c.answer-reply.ensures.note)

pub returns-clause-for_config : goal.returns-clause-for_config
returns-clause-for_config g c = still_for c.args.self.now.config.now (asked_by c.args.line.now) c.answer-reply.result c.args.posts.now c.answer-reply.new.posts c.requires.for_config c.answer-reply.ensures.posted

pub returns-in_err-say-clause-for_config : goal.returns-in_err-say-clause-for_config
returns-in_err-say-clause-for_config g c = still_for c.args.self.now.config.now (asked_by c.args.line.now) c.answer-reply.result c.args.posts.now c.answer-reply.new.posts c.requires.for_config c.answer-reply.ensures.posted
