-- What contracts see of the ends of one pipeline's queues, and how a post there is answered.
use Rattle.std.specs.Prelude.{◌≡◌, ℕ, List, None, Result, Ok, Err, Some}
use Rattle.gate_queue.specs.States.{MayBeFull}
use Rattle.gate_run_posts.specs.declared.posts.PostFault.{PostFault}
use Rattle.gate_run_posts.specs.declared.posts.PostFault.TheVariants.{NoPipeline, Full}
use Rattle.gate_run_posts.specs.declared.posts.PipelineInbox.{PipelineInbox}
use Rattle.gate_run_posts.specs.declared.posts.PipelinePosts.{PipelinePosts}
use Rattle.gate_run_posts.specs.Ports.{InboxEnds, PostEnd, PostEnds, at_pipeline}

abbrev pub ends_of : PipelinePosts → PostEnds
ends_of posts = record { management = posts.management; results = posts.results }

abbrev pub inbox_of : PipelineInbox → InboxEnds
inbox_of inbox = record { management = inbox.management; results = inbox.results }

-- the fault hands this value back
abbrev pub HandsBack : {T : Type 0} → T → PostFault T → Type 0
HandsBack value (NoPipeline back) = back ≡ value
HandsBack value (Full back) = back ≡ value

-- A post is answered `NoPipeline` exactly where there is no pipeline p of tenant t. It is answered `Full` only where the queue's rule
-- allows a full queue while this seat has put just what it has.
abbrev pub Judges : {T : Type 0} → (PostEnds → PostEnd T) → ℕ → ℕ → List (List PostEnds) → Result (Unit {0}) (PostFault T) → Type 0
Judges {T} kind t p pipelines (Ok done) = (ends : PostEnds) × (at_pipeline t p pipelines ≡ Some ends)
Judges {T} kind t p pipelines (Err (NoPipeline value)) = at_pipeline t p pipelines ≡ None
Judges {T} kind t p pipelines (Err (Full value)) = (ends : PostEnds) × (at_pipeline t p pipelines ≡ Some ends) × MayBeFull (kind ends).queue (kind ends).tail
