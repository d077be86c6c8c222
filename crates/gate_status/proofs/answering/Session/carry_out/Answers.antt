use Rattle.std.proofs.Common.{refl, sym, subst, Ok}
use Rattle.gate_run_posts.specs.Ports.{PostEnds}
use Rattle.gate_status.specs.declared.command.Command.{Command}
use Rattle.gate_status.specs.declared.command.Command.TheVariants.{Manage, Result}
use Rattle.gate_status.specs.Replies.{MayReply}
use Rattle.gate_status.proofs.InRange.{may_reply}
use Rattle.gate_status.proofs.answering.Session.carry_out.Goals as goal

pub returns-in-Manage-clause-may : goal.returns-in-Manage-clause-may
returns-in-Manage-clause-may g c =
    let config = c.args.self.now.config.now in
    let posted = Manage c.in-Manage.tenant c.in-Manage.pipeline c.in-Manage.manage in
    let told = may_reply config c.args.posts.now.pipelines c.requires.for_config (Ok posted) c.in-Manage.tenant.0 c.in-Manage.pipeline.0 refl (λ (ends : PostEnds). ends.management) c.manage.result c.manage.ensures.judges in
    subst (λ (command : Command). MayReply config (Ok command) c.reply_to.result) (sym c.in-Manage.is) (subst (MayReply config (Ok posted)) (sym c.reply_to.ensures) told)

pub returns-in-Result-clause-may : goal.returns-in-Result-clause-may
returns-in-Result-clause-may g c =
    let config = c.args.self.now.config.now in
    let posted = Result c.in-Result.tenant c.in-Result.pipeline c.in-Result.ended in
    let told = may_reply config c.args.posts.now.pipelines c.requires.for_config (Ok posted) c.in-Result.tenant.0 c.in-Result.pipeline.0 refl (λ (ends : PostEnds). ends.results) c.result.result c.result.ensures.judges in
    subst (λ (command : Command). MayReply config (Ok command) c.reply_to-in-Result.result) (sym c.in-Result.is) (subst (MayReply config (Ok posted)) (sym c.reply_to-in-Result.ensures) told)
