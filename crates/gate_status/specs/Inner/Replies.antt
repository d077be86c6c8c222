-- Further definitions about `Replies`, which only private contracts and proofs cite.
use Rattle.std.specs.Prelude.{Result, Ok, Err}
use Rattle.gate_run_posts.specs.declared.posts.PostFault.{PostFault}
use Rattle.gate_run_posts.specs.declared.posts.PostFault.TheVariants.{NoPipeline, Full}
use Rattle.gate_status.specs.declared.reply.Reply.{Reply}
use Rattle.gate_status.specs.declared.reply.Reply.TheVariants as reply

-- the reply to a post, by its answer
abbrev pub reply_to : {T : Type 0} → Result (Unit {0}) (PostFault T) → Reply
reply_to (Ok done) = reply.Posted
reply_to (Err (NoPipeline value)) = reply.NoPipeline
reply_to (Err (Full value)) = reply.Full
