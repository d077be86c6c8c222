-- What a session may reply to a line, and what it posts for the line.
use Rattle.std.specs.Prelude.{◌≡◌, ◌≤◌, ◌<◌, ℕ, suc, List, ◌++◌, codes, length, map, Option, Some, None, Result, Ok, Err, string_bytes}
use Rattle.gate_record.specs.declared.record.Record.{Record}
use Rattle.gate_record.specs.declared.record.Record.TheVariants.{Line, Oversize}
use Rattle.gate_config.specs.declared.config.Config.{Config}
use Rattle.gate_config.specs.Lookups.{pipelines_of}
use Rattle.gate_source.specs.declared.stop.StopCause.{StopCause}
use Rattle.gate_source.specs.Stops.{Learns, Note}
use Rattle.gate_run_posts.specs.Ports.{PostEnds, PostsView, changed_at, pipeline_counts, posted}
use Rattle.gate_status.specs.declared.command.Command.{Command}
use Rattle.gate_status.specs.declared.command.Command.TheVariants as command
use Rattle.gate_status.specs.declared.command.CommandFault.{CommandFault}
use Rattle.gate_status.specs.declared.command.CommandFault.TheVariants as fault
use Rattle.gate_status.specs.declared.fault.SessionEnd.{SessionEnd}
use Rattle.gate_status.specs.declared.fault.SessionEnd.TheVariants as end
use Rattle.gate_status.specs.declared.progress.Progress.{Progress}
use Rattle.gate_status.specs.declared.reply.Reply.{Reply}
use Rattle.gate_status.specs.declared.reply.Reply.TheVariants as reply
use Rattle.gate_status.specs.Commands.{command_of}
use Rattle.gate_status.specs.Status.{status_text}

-- ---- texts

abbrev pub fault_line : CommandFault → List ℕ
fault_line fault.Empty = codes "empty\n"
fault_line fault.Unknown = codes "unknown\n"
fault_line fault.Arguments = codes "arguments\n"
fault_line fault.Number = codes "number\n"
fault_line fault.Memory = codes "memory\n"

abbrev pub reply_text : Reply → List ℕ
reply_text (reply.Shown text) = string_bytes text
reply_text reply.Posted = codes "ok\n"
reply_text reply.Full = codes "full\n"
reply_text reply.NoPipeline = codes "no-pipeline\n"
reply_text reply.Stopping = codes "ok\n"
reply_text reply.Renewed = codes "ok\n"
reply_text reply.Last = codes "last\n"
reply_text reply.Bye = codes "bye\n"
reply_text (reply.Refused why) = fault_line why

-- how a session ends with this reply, if it does
abbrev pub end_of : Reply → Option SessionEnd
end_of reply.Stopping = Some end.Stop
end_of reply.Bye = Some end.Quit
end_of other = None

-- ---- which reply may be given

-- the posts have a place for each pipeline of the configuration
abbrev pub ArePostsFor : Config → PostsView → Type 0
ArePostsFor config posts = map length posts.pipelines ≡ pipeline_counts config

-- The command of a line, or its fault. A line that is too long can't come, because a session reads fewer bytes than it would have.
abbrev pub asked_by : Record → Result Command CommandFault
asked_by (Line bytes) = command_of bytes
asked_by Oversize = Err fault.Unknown

-- the pipeline to which the command posts something
abbrev pub addressed : Result Command CommandFault → Option (ℕ × ℕ)
addressed (Ok (command.Manage tenant pipeline manage)) = Some (tenant.0, pipeline.0)
addressed (Ok (command.Result tenant pipeline ended)) = Some (tenant.0, pipeline.0)
addressed other = None

-- the pipeline is one of the configuration, and below: it isn't
abbrev pub IsThere : Config → Option (ℕ × ℕ) → Type 0
IsThere config None = ⊥
IsThere config (Some at) = at.1 < length (pipelines_of config at.0)

abbrev pub IsMissing : Config → Option (ℕ × ℕ) → Type 0
IsMissing config None = ⊥
IsMissing config (Some at) = length (pipelines_of config at.0) ≤ at.1

-- memory may be refused for this command, which is any but `quit`
abbrev pub MayTakeMemory : Result Command CommandFault → Type 0
MayTakeMemory (Err why) = ⊥
MayTakeMemory (Ok command.Quit) = ⊥
MayTakeMemory other = Unit {0}

abbrev pub MayRefuse : Result Command CommandFault → CommandFault → Type 0
MayRefuse asked fault.Empty = asked ≡ Err fault.Empty
MayRefuse asked fault.Unknown = asked ≡ Err fault.Unknown
MayRefuse asked fault.Arguments = asked ≡ Err fault.Arguments
MayRefuse asked fault.Number = asked ≡ Err fault.Number
MayRefuse asked fault.Memory = MayTakeMemory asked

-- The replies that may be given to a line. The reply to `status` is the lines of all pipelines with any counts. A post is answered `ok` or
-- `full` where there is such a pipeline, and `no-pipeline` where there isn't. The reply to `stop` is `ok`, to `renew` `ok` or `last`, and
-- to `quit` `bye`. A line that is no command gets its own fault. `memory` may come where memory may be refused.
abbrev pub MayReply : Config → Result Command CommandFault → Reply → Type 0
MayReply config asked (reply.Shown text) = (asked ≡ Ok command.Status) × (board : List (List Progress)) × (string_bytes text ≡ status_text config board ++ codes "ok\n")
MayReply config asked reply.Posted = IsThere config (addressed asked)
MayReply config asked reply.Full = IsThere config (addressed asked)
MayReply config asked reply.NoPipeline = IsMissing config (addressed asked)
MayReply config asked reply.Stopping = asked ≡ Ok command.Stop
MayReply config asked reply.Renewed = asked ≡ Ok command.Renew
MayReply config asked reply.Last = asked ≡ Ok command.Renew
MayReply config asked reply.Bye = asked ≡ Ok command.Quit
MayReply config asked (reply.Refused why) = MayRefuse asked why

-- ---- what a reply leaves

-- one more management event or result is posted to its pipeline, after those that were posted before
abbrev pub with_posted : Result Command CommandFault → List (List PostEnds) → List (List PostEnds)
with_posted (Err why) posts = posts
with_posted (Ok command.Status) posts = posts
with_posted (Ok command.Stop) posts = posts
with_posted (Ok command.Renew) posts = posts
with_posted (Ok command.Quit) posts = posts
with_posted (Ok (command.Manage tenant pipeline manage)) posts =
    changed_at tenant.0 pipeline.0 (λ (ends : PostEnds). record ends { management = posted manage ends.management }) posts
with_posted (Ok (command.Result tenant pipeline ended)) posts =
    changed_at tenant.0 pipeline.0 (λ (ends : PostEnds). record ends { results = posted ended ends.results }) posts

-- a value is posted exactly where the reply to its line is `ok`
abbrev pub posted_by : Result Command CommandFault → Reply → List (List PostEnds) → List (List PostEnds)
posted_by asked reply.Posted posts = with_posted asked posts
posted_by asked other posts = posts

-- how many generations were asked for: one more exactly where `renew` was answered `ok`
abbrev pub asked_behind : ℕ → Reply → ℕ
asked_behind asked reply.Renewed = suc asked
asked_behind asked other = asked

-- Where there are `later` later generations, of which `asked` were asked for: `renew` is answered `ok` only where one is left, and `last`
-- only where none is.
abbrev pub IsLeft : ℕ → ℕ → Reply → Type 0
IsLeft later asked reply.Renewed = asked < later
IsLeft later asked reply.Last = asked ≡ later
IsLeft later asked other = Unit {0}

-- What the posts know of the cause to stop changes exactly where the session ends by `stop`: then they know a cause
abbrev pub NoteAfter : Option SessionEnd → Note → Note → Type 0
NoteAfter (Some end.Stop) old new = (cause : StopCause) × Learns old cause new
NoteAfter other old new = new ≡ old
