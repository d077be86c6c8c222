-- How a session goes on, and what it has done once it ends.
use Rattle.std.proofs.Common.{◌≡◌, ◌∙◌, ◌++◌, ◌+◌, ◌<◌, ◌≤◌, ℕ, List, [], length, map, refl, sym, subst, Option, Some, None, arith, append-nil, inl, inr, ◌≢◌, Ok, Err}
use Rattle.std.specs.Prelude.{IfOk, Result, ◌⊎◌}
use Rattle.std.specs.Io.KnownBytes.{Consumes}
use Rattle.std.specs.Option.{option_to_list}
use Rattle.std.proofs.lemmas.List.{length-append}
use Rattle.gate_record.specs.declared.record.Record.{Record}
use Rattle.gate_record.specs.Lines.{ended_records, records_of}
use Rattle.gate_record.specs.Prefixes.{IsPrefixOf}
use Rattle.gate_config.specs.declared.config.Config.{Config}
use Rattle.gate_source.specs.Splitting.{Finishes, IsFed}
use Rattle.gate_run_posts.specs.Ports.{PostsView}
use Rattle.gate_status.specs.declared.fault.SessionEnd.{SessionEnd}
use Rattle.gate_status.specs.declared.fault.SessionEnd.TheVariants as end
use Rattle.gate_status.specs.Limits.{longest_session}
use Rattle.gate_status.specs.declared.reply.Reply.{Reply}
use Rattle.gate_status.specs.declared.reply.Reply.TheVariants as reply
use Rattle.gate_status.specs.Inner.Listened.{Hears}
use Rattle.gate_status.specs.Replies.{end_of}
use Rattle.gate_status.specs.Talks.{Answers, AreFirst, Exchange, Heard, Talk, made_by_reply}
use Rattle.gate_status.specs.Inner.Talks.{Talks}
use Rattle.gate_status.proofs.Exchanges.{consumes_on, talks_none, talks_on}

abbrev lines_of : List Exchange → List Record
lines_of exchanges = map (λ (exchange : Exchange). exchange.line) exchanges

-- what was read and answered so far
pub record SoFar (config : Config) (split : Option (List ℕ)) (room : ℕ) (told told' written written' : Option (List ℕ)) (posts posts' : PostsView) : Type 0 where
  pub bytes : List ℕ
  pub read : Consumes told told' bytes
  pub fed : IsFed bytes split
  pub left : room + length bytes ≡ longest_session
  pub talks : Talks config (ended_records bytes) None written written' posts posts'

consumes_none : (told : Option (List ℕ)) → Consumes told told []
consumes_none None = tt {0}
consumes_none (Some xs) = refl

pub so_far_none : {config : Config} {split : Option (List ℕ)} {room : ℕ} (told written : Option (List ℕ)) (posts : PostsView) → IsFed [] split → room ≡ longest_session → SoFar config split room told told written written posts posts
so_far_none told written posts fed all = record {
  bytes = [];
  read = consumes_none told;
  fed = fed;
  left = omega (arith, all);
  talks = talks_none written;
}

is_made : (how : SessionEnd) → (Some end.Quit ≡ Some how) ⊎ (Some end.Stop ≡ Some how) → made_by_reply how ≡ Some how
is_made end.Quit e = refl
is_made end.Stop e = refl
is_made end.End (inl e) = absurd (cc)
is_made end.End (inr e) = absurd (cc)
is_made end.Limit (inl e) = absurd (cc)
is_made end.Limit (inr e) = absurd (cc)

-- a reply ends a session by `quit` or by `stop`
pub by_reply : (how : SessionEnd) (r : Reply) → end_of r ≡ Some how → made_by_reply how ≡ Some how
by_reply how (reply.Shown text) e = absurd (cc)
by_reply how reply.Posted e = absurd (cc)
by_reply how reply.Full e = absurd (cc)
by_reply how reply.NoPipeline e = absurd (cc)
by_reply how reply.Stopping e = is_made how (inr e)
by_reply how reply.Renewed e = absurd (cc)
by_reply how reply.Last e = absurd (cc)
by_reply how reply.Bye e = is_made how (inl e)
by_reply how (reply.Refused why) e = absurd (cc)

cc_end : {X : Type 0} {x : X} → None ≡ Some x → ⊥
cc_end e = cc

heard_first : (bytes : List ℕ) (rest : Option (List ℕ)) (lines : List Record) (how : SessionEnd) (r : Reply) → end_of r ≡ Some how → length bytes ≤ longest_session → AreFirst bytes rest lines → Heard how bytes rest lines
heard_first bytes rest lines end.End r e few first = absurd (cc_end (by_reply end.End r e))
heard_first bytes rest lines end.Quit r e few first = (few, first)
heard_first bytes rest lines end.Stop r e few first = (few, first)
heard_first bytes rest lines end.Limit r e few first = absurd (cc_end (by_reply end.Limit r e))

module _ {config : Config} {split split' : Option (List ℕ)} {room : ℕ} (room' : ℕ) {told told' told'' w w' w'' : Option (List ℕ)} {p p' p'' : PostsView} where
  -- a piece more, whose lines were answered
  pub so_far_on : {lines : List Record} → SoFar config split room told told' w w' p p' → Hears (split, room) told' (Some lines) told'' (split', room') → Talks config lines None w' w'' p' p'' → SoFar config split' room' told told'' w w'' p p''
  so_far_on {lines} s h t = record {
    bytes = s.bytes ++ h.0;
    read = consumes_on told told' told'' s.bytes h.0 s.read h.3;
    fed = (h.4 s.bytes s.fed).0;
    left = omega (arith, s.left, h.2, length-append s.bytes h.0);
    talks = subst (λ rs. Talks config rs None w w'' p p'') (h.4 s.bytes s.fed).1 (talks_on s.talks t);
  }

  -- a reply to one of its lines ends the session
  pub ends_by_reply : {lines : List Record} {how : SessionEnd} → SoFar config split room told told' w w' p p' → Hears (split, room) told' (Some lines) told'' (split', room') → Talks config lines (Some how) w' w'' p' p'' → Answers config how told told'' w w'' p p''
  ends_by_reply {lines} {how} s h t =
      let both = talks_on s.talks t in
      let last = both.talk.ends.1 in
      let bytes = s.bytes ++ h.0 in
      record {
        bytes = bytes;
        exchanges = both.exchanges;
        read = consumes_on told told' told'' s.bytes h.0 s.read h.3;
        heard = heard_first bytes told'' (lines_of both.exchanges) how last.reply both.talk.ends.4 (omega (arith, s.left, h.2, length-append s.bytes h.0)) (inl (subst (IsPrefixOf (lines_of both.exchanges)) (h.4 s.bytes s.fed).1 both.heard));
        talk = subst (λ made. Talk config made both.exchanges w w'' p p'') (sym (by_reply how last.reply both.talk.ends.4)) both.talk;
      }

-- ---- the reader's end

read_all : (told told' told'' : Option (List ℕ)) (bytes : List ℕ) → Consumes told told' bytes → Consumes told' told'' [] → Consumes told told'' bytes
read_all told told' told'' bytes a b = subst (Consumes told told'') (append-nil bytes) (consumes_on told told' told'' bytes [] a b)

finished : {config : Config} {split split' : Option (List ℕ)} {room : ℕ} {told told' w w' : Option (List ℕ)} {p p' : PostsView} (last : Option Record) (s : SoFar config split room told told' w w' p p') → split' ≡ split → Finishes split' last → ended_records s.bytes ++ option_to_list last ≡ records_of s.bytes
finished last s same ends = ends s.bytes (subst (IsFed s.bytes) (sym same) s.fed)

module _ {config : Config} {split split' : Option (List ℕ)} {room : ℕ} (room' : ℕ) {told told' told'' w w' w'' : Option (List ℕ)} {p p' p'' : PostsView} (last : Option Record) where
  -- the answers, by what was heard
  closed : (how : SessionEnd) (s : SoFar config split room told told' w w' p p') → Hears (split, room) told' None told'' (split', room') → (t : Talks config (option_to_list last) (made_by_reply how) w' w'' p' p'') → Heard how s.bytes told'' (lines_of (talks_on s.talks t).exchanges) → Answers config how told told'' w w'' p p''
  closed how s h t heard =
      let both = talks_on s.talks t in
      record {
        bytes = s.bytes;
        exchanges = both.exchanges;
        read = read_all told told' told'' s.bytes s.read h.1;
        heard = heard;
        talk = both.talk;
      }

  -- what follows the last LF was answered, if anything does, and the session ends
  pub closes : (how : SessionEnd) → how ≢ end.Limit → 0 < room → SoFar config split room told told' w w' p p' → Hears (split, room) told' None told'' (split', room') → Finishes split' last → Talks config (option_to_list last) (made_by_reply how) w' w'' p' p'' → Answers config how told told'' w w'' p p''
  closes end.End not_limit some s h ends t = closed end.End s h t (omega (arith, some, s.left), h.2, (talks_on s.talks t).heard ∙ finished last s h.0 ends)
  closes end.Quit not_limit some s h ends t =
      closed end.Quit s h t (omega (arith, s.left), inr (h.2, subst (IsPrefixOf (lines_of (talks_on s.talks t).exchanges)) (finished last s h.0 ends) (talks_on s.talks t).heard))
  closes end.Stop not_limit some s h ends t =
      closed end.Stop s h t (omega (arith, s.left), inr (h.2, subst (IsPrefixOf (lines_of (talks_on s.talks t).exchanges)) (finished last s h.0 ends) (talks_on s.talks t).heard))
  closes end.Limit not_limit some s h ends t = absurd (not_limit refl)

-- ---- the limit

pub limits : {config : Config} {split : Option (List ℕ)} {told told' w w' : Option (List ℕ)} {p p' : PostsView} (room : ℕ) → room ≡ 0 → SoFar config split room told told' w w' p p' → Answers config end.Limit told told' w w' p p'
limits room none s = record {
  bytes = s.bytes;
  exchanges = s.talks.exchanges;
  read = s.read;
  heard = (omega (arith, none, s.left), s.talks.heard);
  talk = s.talks.talk;
}

-- the same of what was answered, where it is an end
module _ {config : Config} {split split' : Option (List ℕ)} {room : ℕ} (room' : ℕ) {told told' w w' : Option (List ℕ)} {p p' : PostsView} (told'' w'' : Option (List ℕ)) (p'' : PostsView) (last : Option Record) where
  pub closes_so : {E : Type 0} (r : Result SessionEnd E) → IfOk r (λ how. how ≢ end.Limit) → 0 < room → SoFar config split room told told' w w' p p' → Hears (split, room) told' None told'' (split', room') → Finishes split' last → IfOk r (λ how. Talks config (option_to_list last) (made_by_reply how) w' w'' p' p'') → IfOk r (λ how. Answers config how told told'' w w'' p p'')
  closes_so (Ok how) not_limit some s h ends t = closes room' last how not_limit some s h ends t
  closes_so (Err why) not_limit some s h ends t = tt {0}
