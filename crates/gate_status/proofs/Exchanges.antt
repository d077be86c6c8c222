-- Answers to lines put one after another are the answers to all of them.
use Rattle.std.proofs.Common.{◌≡◌, ◌∙◌, ◌++◌, ℕ, List, [], ◌∷◌, length, map, refl, sym, ap, subst, Option, Some, None, append_assoc, append-nil}
use Rattle.std.specs.Prelude.{All, flat_map, fold}
use Rattle.std.specs.Io.KnownBytes.{Appends, Consumes}
use Rattle.std.proofs.lemmas.Grind.{flat_map-append}
use Rattle.std.proofs.lemmas.List.{map-append}
use Rattle.std.proofs.lemmas.List.Elements.{All-append, All-cons, All-nil}
use Rattle.std.proofs.lemmas.List.Sums.{fold-append}
use Rattle.gate_record.specs.declared.record.Record.{Record}
use Rattle.gate_config.specs.declared.config.Config.{Config}
use Rattle.gate_run_posts.specs.Ports.{PostsView}
use Rattle.gate_status.specs.declared.fault.SessionEnd.{SessionEnd}
use Rattle.gate_status.specs.declared.reply.Reply.{Reply}
use Rattle.gate_status.specs.Replies.{IsLeft, MayReply, NoteAfter, asked_behind, asked_by, end_of, posted_by, reply_text}
use Rattle.gate_status.specs.Talks.{AreEndedBy, AreLeft, Exchange, GoesOn, MayBe, Talk, asked_in, post_in, text_of}
use Rattle.gate_status.specs.Inner.Talks.{AreHeard, Talks}

abbrev lines_of : List Exchange → List Record
lines_of exchanges = map (λ (exchange : Exchange). exchange.line) exchanges

pub appends_on : (w0 w1 w2 : Option (List ℕ)) (xs ys : List ℕ) → Appends w0 w1 xs → Appends w1 w2 ys → Appends w0 w2 (xs ++ ys)
appends_on None w1 w2 xs ys a b = tt {0}
appends_on (Some zs) None w2 xs ys a b = absurd a
appends_on (Some zs) (Some zs') None xs ys a b = absurd b
appends_on (Some zs) (Some zs') (Some zs'') xs ys a b = b ∙ ap (λ z. z ++ ys) a ∙ append_assoc zs xs ys

pub consumes_on : (w0 w1 w2 : Option (List ℕ)) (xs ys : List ℕ) → Consumes w0 w1 xs → Consumes w1 w2 ys → Consumes w0 w2 (xs ++ ys)
consumes_on None w1 w2 xs ys a b = tt {0}
consumes_on (Some zs) None w2 xs ys a b = absurd a
consumes_on (Some zs) (Some zs') None xs ys a b = absurd b
consumes_on (Some zs) (Some zs') (Some zs'') xs ys a b = a ∙ ap (λ z. xs ++ z) b ∙ sym (append_assoc xs ys zs'')

ends_on : (how : Option SessionEnd) (xs ys : List Exchange) → All GoesOn xs → AreEndedBy how ys → AreEndedBy how (xs ++ ys)
ends_on None xs ys on end = All-append GoesOn xs ys on end
ends_on (Some how) xs ys on end =
    (xs ++ end.0, end.1, ap (λ zs. xs ++ zs) end.2 ∙ sym (append_assoc xs end.0 (end.1 ∷ [])), All-append GoesOn xs end.0 on end.3, end.4)

heard_on : (how : Option SessionEnd) (front bs : List Exchange) (xs ys : List Record) → lines_of front ≡ xs → AreHeard how ys bs → AreHeard how (xs ++ ys) (front ++ bs)
heard_on None front bs xs ys a b = map-append (λ (e : Exchange). e.line) front bs ∙ ap (λ zs. zs ++ lines_of bs) a ∙ ap (λ zs. xs ++ zs) b
heard_on (Some how) front bs xs ys a b =
    (b.0, ap (λ zs. zs ++ b.0) (map-append (λ (e : Exchange). e.line) front bs) ∙ append_assoc (lines_of front) (lines_of bs) b.0 ∙ ap (λ zs. zs ++ (lines_of bs ++ b.0)) a ∙ ap (λ zs. xs ++ zs) b.1)

left_on : (later asked : ℕ) (xs ys : List Exchange) → AreLeft later asked xs → AreLeft later (fold asked_in asked xs) ys → AreLeft later asked (xs ++ ys)
left_on later asked [] ys a b = b
left_on later asked (x ∷ xs) ys a b = (a.0, left_on later (asked_in asked x) xs ys a.1 b)

module _ {config : Config} {w0 w1 w2 : Option (List ℕ)} {p0 p1 p2 : PostsView} where
  pub talk_on : {how : Option SessionEnd} (xs ys : List Exchange) → Talk config None xs w0 w1 p0 p1 → Talk config how ys w1 w2 p1 p2 → Talk config how (xs ++ ys) w0 w2 p0 p2
  talk_on {how} xs ys a b = record {
    replies = All-append (MayBe config) xs ys a.replies b.replies;
    ends = ends_on how xs ys a.ends b.ends;
    texts = subst (Appends w0 w2) (sym (flat_map-append text_of xs ys)) (appends_on w0 w1 w2 (flat_map text_of xs) (flat_map text_of ys) a.texts b.texts);
    posted = b.posted ∙ ap (λ ps. fold post_in ps ys) a.posted ∙ sym (fold-append post_in p0.pipelines xs ys);
    asked = b.asked ∙ ap (λ n. fold asked_in n ys) a.asked ∙ sym (fold-append asked_in (length p0.asked) xs ys);
    left = left_on (length p0.cells) (length p0.asked) xs ys a.left (subst (λ later. AreLeft later (fold asked_in (length p0.asked) xs) ys) (ap length a.cells) (subst (λ n. AreLeft (length p1.cells) n ys) a.asked b.left));
    cells = b.cells ∙ a.cells;
    note = subst (λ n. NoteAfter how n p2.note) a.note b.note;
  }

  pub talks_on : {how : Option SessionEnd} {xs ys : List Record} → Talks config xs None w0 w1 p0 p1 → Talks config ys how w1 w2 p1 p2 → Talks config (xs ++ ys) how w0 w2 p0 p2
  talks_on {how} {xs} {ys} a b = record {
    exchanges = a.exchanges ++ b.exchanges;
    heard = heard_on how a.exchanges b.exchanges xs ys a.heard b.heard;
    talk = talk_on a.exchanges b.exchanges a.talk b.talk;
  }

-- nothing was answered yet
nothing : (w : Option (List ℕ)) → Appends w w []
nothing None = tt {0}
nothing (Some zs) = sym (append-nil zs)

module _ {config : Config} {p : PostsView} where
  pub talk_none : (w : Option (List ℕ)) → Talk config None [] w w p p
  talk_none w = record {
    replies = All-nil (MayBe config);
    ends = All-nil GoesOn;
    texts = nothing w;
    posted = refl;
    asked = refl;
    left = tt {0};
    cells = refl;
    note = refl;
  }

  pub talks_none : (w : Option (List ℕ)) → Talks config [] None w w p p
  talks_none w = record { exchanges = []; heard = refl; talk = talk_none w }

-- a line alone
module _ (line : Record) (reply : Reply) where
  abbrev own : List Exchange
  own = (record { line = line; reply = reply }) ∷ []

  heard_one : (how : Option SessionEnd) → AreHeard how (line ∷ []) own
  heard_one None = refl
  heard_one (Some how) = ([], refl)

  ends_one : (how : Option SessionEnd) → end_of reply ≡ how → AreEndedBy how own
  ends_one None e = All-cons GoesOn (record { line = line; reply = reply }) [] e (All-nil GoesOn)
  ends_one (Some how) e = ([], record { line = line; reply = reply }, refl, All-nil GoesOn, e)

module _ {config : Config} {w w' : Option (List ℕ)} {p p' : PostsView} (line : Record) (reply : Reply) where
  pub talks_one : {how : Option SessionEnd} → end_of reply ≡ how → MayReply config (asked_by line) reply → Appends w w' (reply_text reply) → p'.pipelines ≡ posted_by (asked_by line) reply p.pipelines → length p'.asked ≡ asked_behind (length p.asked) reply → IsLeft (length p.cells) (length p.asked) reply → p'.cells ≡ p.cells → NoteAfter how p.note p'.note → Talks config (line ∷ []) how w w' p p'
  talks_one {how} e may texts posted asked left cells note = record {
    exchanges = own line reply;
    heard = heard_one line reply how;
    talk = record {
      replies = All-cons (MayBe config) (record { line = line; reply = reply }) [] may (All-nil (MayBe config));
      ends = ends_one line reply how e;
      texts = subst (Appends w w') (sym (append-nil (reply_text reply))) texts;
      posted = posted;
      asked = asked;
      left = (left, tt {0});
      cells = cells;
      note = note;
    };
  }

-- more lines stand behind those that were answered
pub talks_more : {config : Config} {how : SessionEnd} {w w' : Option (List ℕ)} {p p' : PostsView} {xs : List Record} (more : List Record) → Talks config xs (Some how) w w' p p' → Talks config (xs ++ more) (Some how) w w' p p'
talks_more {xs} more t = record {
  exchanges = t.exchanges;
  heard = (t.heard.0 ++ more, sym (append_assoc (lines_of t.exchanges) t.heard.0 more) ∙ ap (λ zs. zs ++ more) t.heard.1);
  talk = t.talk;
}
