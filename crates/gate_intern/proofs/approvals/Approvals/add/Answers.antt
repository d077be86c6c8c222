use Rattle.std.proofs.Common.{◌∙◌, ap, map}
use Rattle.indexmap.specs.IndexSet.{insert_key}
use Rattle.gate_intern.specs.Columns.{is_same_vote}
use Rattle.gate_intern.proofs.Seen.{insert_seen, vote_of}
use Rattle.gate_intern.proofs.approvals.Approvals.add.Goals as goal

pub returns : goal.returns
returns c =
    ap (map vote_of) c.in_ok-insert.ensures.keys
    ∙ insert_seen vote_of is_same_vote c.self.inside.votes.keys c.vote.result
    ∙ ap (λ votes. insert_key is_same_vote votes (vote_of c.vote.result)) c.self.view_is
    ∙ ap (insert_key is_same_vote c.args.self.now) c.vote.ensures
