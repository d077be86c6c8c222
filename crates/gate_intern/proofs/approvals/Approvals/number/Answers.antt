use Rattle.std.proofs.Common.{◌≡◌, ◌∙◌, ◌+◌, sym, ap, subst}
use Rattle.std.specs.Prelude.{IfOk}
use Rattle.std.specs.List.{position_or_len}
use Rattle.std.specs.Option.{option_copied}
use Rattle.gate_intern.specs.Columns.{is_same_vote, number_among}
use Rattle.gate_intern.proofs.Seen.{place_seen, vote_of}
use Rattle.gate_intern.proofs.approvals.Approvals.number.Goals as goal

pub returns : goal.returns
returns c =
    let votes = c.args.self.now in
    let at : position_or_len (λ y. is_same_vote (vote_of c.vote.result) (vote_of y)) c.self.inside.votes.keys ≡ position_or_len (is_same_vote c.in-Some.approval.now) votes =
    place_seen vote_of (is_same_vote (vote_of c.vote.result)) c.self.inside.votes.keys
    ∙ ap (position_or_len (is_same_vote (vote_of c.vote.result))) c.self.view_is
    ∙ ap (λ vote. position_or_len (is_same_vote vote) votes) c.vote.ensures in
    subst (λ approval. IfOk c.number_of.result (λ n. n ≡ number_among is_same_vote votes (option_copied approval))) (sym c.in-Some.is)
    (subst (λ place. IfOk c.number_of.result (λ n. n ≡ place + 1)) at c.number_of.ensures)
