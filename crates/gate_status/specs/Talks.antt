-- A session, line by line: what it says and does.
use Rattle.std.specs.Prelude.{◌≡◌, ◌<◌, ◌≤◌, ℕ, List, [], ◌∷◌, ◌++◌, All, flat_map, fold, length, map, Option, Some, None, ◌⊎◌}
use Rattle.std.specs.Io.KnownBytes.{Appends, Consumes, IsAtEnd}
use Rattle.gate_record.specs.declared.record.Record.{Record}
use Rattle.gate_record.specs.Lines.{ended_records, records_of}
use Rattle.gate_record.specs.Prefixes.{IsPrefixOf}
use Rattle.gate_config.specs.declared.config.Config.{Config}
use Rattle.gate_run_posts.specs.Ports.{PostEnds, PostsView}
use Rattle.gate_status.specs.declared.fault.SessionEnd.{SessionEnd}
use Rattle.gate_status.specs.declared.fault.SessionEnd.TheVariants as end
use Rattle.gate_status.specs.Limits.{longest_session}
use Rattle.gate_status.specs.declared.reply.Reply.{Reply}
use Rattle.gate_status.specs.Replies.{IsLeft, MayReply, NoteAfter, asked_behind, asked_by, end_of, posted_by, reply_text}

-- a line, and the reply to it
pub record Exchange : Type 0 where
  pub line : Record
  pub reply : Reply

abbrev pub MayBe : Config → Exchange → Type 0
MayBe config exchange = MayReply config (asked_by exchange.line) exchange.reply

-- the session goes on after this reply
abbrev pub GoesOn : Exchange → Type 0
GoesOn exchange = end_of exchange.reply ≡ None

abbrev pub text_of : Exchange → List ℕ
text_of exchange = reply_text exchange.reply

abbrev pub post_in : List (List PostEnds) → Exchange → List (List PostEnds)
post_in posts exchange = posted_by (asked_by exchange.line) exchange.reply posts

abbrev pub asked_in : ℕ → Exchange → ℕ
asked_in asked exchange = asked_behind asked exchange.reply

-- Each `renew` among these was answered by whether a generation was left, where so many were asked for before the first of them
abbrev pub AreLeft : ℕ → ℕ → List Exchange → Type 0
AreLeft later asked [] = Unit {0}
AreLeft later asked (exchange ∷ exchanges) = IsLeft later asked exchange.reply × AreLeft later (asked_in asked exchange) exchanges

-- The session goes on after each of these, or it ends with the last of them in this way and with none before
abbrev pub AreEndedBy : Option SessionEnd → List Exchange → Type 0
AreEndedBy None exchanges = All GoesOn exchanges
AreEndedBy (Some how) exchanges =
    (before : List Exchange) × (last : Exchange) × (exchanges ≡ before ++ last ∷ []) × All GoesOn before × (end_of last.reply ≡ Some how)

-- These lines were answered, each by a reply that may be given, in order. The texts of the replies were written. The values whose lines
-- were answered `ok` were posted, in order. As many more generations were asked for as `renew` was answered `ok`.
pub record Talk (config : Config) (how : Option SessionEnd) (exchanges : List Exchange) (written written' : Option (List ℕ)) (posts posts' : PostsView) : Type 0 where
  pub replies : All (MayBe config) exchanges
  pub ends : AreEndedBy how exchanges
  pub texts : Appends written written' (flat_map text_of exchanges)
  pub posted : posts'.pipelines ≡ fold post_in posts.pipelines exchanges
  pub asked : length posts'.asked ≡ fold asked_in (length posts.asked) exchanges
  pub left : AreLeft (length posts.cells) (length posts.asked) exchanges
  pub cells : posts'.cells ≡ posts.cells
  pub note : NoteAfter how posts.note posts'.note

-- The end that a reply makes: the end of the reader and the limit come without a reply
abbrev pub made_by_reply : SessionEnd → Option SessionEnd
made_by_reply end.End = None
made_by_reply end.Quit = Some end.Quit
made_by_reply end.Stop = Some end.Stop
made_by_reply end.Limit = None

-- These are the first of the lines that have ended. At the end of the reader, they may be the first of all lines, and the bytes after the
-- last LF count as a line
abbrev pub AreFirst : List ℕ → Option (List ℕ) → List Record → Type 0
AreFirst bytes rest lines = IsPrefixOf lines (ended_records bytes) ⊎ (IsAtEnd rest × IsPrefixOf lines (records_of bytes))

-- Which lines of the bytes that were read have answers, by how the session ended. At the end of the reader, before the limit, all lines
-- have. At the limit, when just so many bytes were read, all lines that have ended have. Otherwise no more bytes than the limit were read,
-- and the first of their lines have.
abbrev pub Heard : SessionEnd → List ℕ → Option (List ℕ) → List Record → Type 0
Heard end.End bytes rest lines = (length bytes < longest_session) × IsAtEnd rest × (lines ≡ records_of bytes)
Heard end.Quit bytes rest lines = (length bytes ≤ longest_session) × AreFirst bytes rest lines
Heard end.Stop bytes rest lines = (length bytes ≤ longest_session) × AreFirst bytes rest lines
Heard end.Limit bytes rest lines = (length bytes ≡ longest_session) × (lines ≡ ended_records bytes)

-- A whole session: what it read, and what it replied to the lines.
pub record Answers (config : Config) (how : SessionEnd) (told told' written written' : Option (List ℕ)) (posts posts' : PostsView) : Type 0 where
  pub bytes : List ℕ
  pub exchanges : List Exchange
  pub read : Consumes told told' bytes
  pub heard : Heard how bytes told' (map (λ (exchange : Exchange). exchange.line) exchanges)
  pub talk : Talk config (made_by_reply how) exchanges written written' posts posts'
