-- What one step more does to what a history says.
use Rattle.std.proofs.Common.{◌≡◌, ◌∙◌, ap, refl, ℕ, ◌+◌, [], ◌∷◌, ◌++◌, Bool, true, false, cond, Option, None, append-nil, add-zero}
use Rattle.std.specs.Prelude.{◌&&◌, ◌||◌, count_by}
use Rattle.std.specs.Option.{option_to_list}
use Rattle.std.proofs.lemmas.List.Folds.{list_any-append}
use Rattle.std.proofs.lemmas.List.Sums.{sum_by-append}
use Rattle.gate_core.specs.declared.answer.Answer.{Answer}
use Rattle.gate_core.specs.declared.answer.Answer.TheVariants.{Closed, Full, Idle, Passed}
use Rattle.gate_core.specs.declared.step.Step.{Step}
use Rattle.gate_core.specs.History.{History, accepted_records, accepted_in, finished, closed, manage_posted_in, manage_posts, posted_manage, posted_result, result_posted_in, result_posts, processed_by, processed_in, is_put, has_taken, is_turn, is_close, is_take, is_offer, is_renew, is_moved, is_accepted, offered_to, processed_of, renewals, renewed_in}
use Rattle.gate_delivery.proofs.Maps.{filter_map_push}
use Rattle.gate_core.proofs.Puts.{put_by, put_stays, renewals_stay}

pub accepted_push : (c : ℕ) (h : History) (e : Step × Answer) → accepted_records c (h ++ e ∷ []) ≡ accepted_records c h ++ option_to_list (accepted_in c e)
accepted_push c h e = filter_map_push (accepted_in c) h e

pub turned_push : (t p : ℕ) (h : History) (e : Step × Answer) → processed_by t p (h ++ e ∷ []) ≡ processed_by t p h ++ option_to_list (processed_in t p e)
turned_push t p h e = filter_map_push (processed_in t p) h e

pub managed_push : (t p : ℕ) (h : History) (e : Step × Answer) → manage_posts t p (h ++ e ∷ []) ≡ manage_posts t p h ++ option_to_list (manage_posted_in t p e)
managed_push t p h e = filter_map_push (manage_posted_in t p) h e

pub ended_push : (t p : ℕ) (h : History) (e : Step × Answer) → result_posts t p (h ++ e ∷ []) ≡ result_posts t p h ++ option_to_list (result_posted_in t p e)
ended_push t p h e = filter_map_push (result_posted_in t p) h e

pub finished_push : (t p : ℕ) (h : History) (e : Step × Answer) → finished t p (h ++ e ∷ []) ≡ finished t p h || ((is_turn t p e.0 && is_moved e.1) || false)
finished_push t p h e = list_any-append (λ (event : Step × Answer). is_turn t p event.0 && is_moved event.1) h (e ∷ [])

pub closed_push : (c : ℕ) (h : History) (e : Step × Answer) → closed c (h ++ e ∷ []) ≡ closed c h || ((is_close c e.0 && is_moved e.1) || false)
closed_push c h e = list_any-append (λ (event : Step × Answer). is_close c event.0 && is_moved event.1) h (e ∷ [])

pub count_push : (test : Step × Answer → Bool) (h : History) (e : Step × Answer) → count_by test (h ++ e ∷ []) ≡ count_by test h + count_by test (e ∷ [])
count_push test h e = sum_by-append (λ (x : Step × Answer). cond (test x) 1 0) h (e ∷ [])

-- ---- a step that changes nothing of what was accepted, posted, processed, finished or closed

pub record Same (h h' : History) : Type 0 where
  pub accepts : (c : ℕ) → accepted_records c h' ≡ accepted_records c h
  pub turns : (t p : ℕ) → processed_by t p h' ≡ processed_by t p h
  pub manages : (t p : ℕ) → manage_posts t p h' ≡ manage_posts t p h
  pub ends : (t p : ℕ) → result_posts t p h' ≡ result_posts t p h
  pub finishes : (t p : ℕ) → finished t p h' ≡ finished t p h
  pub closes : (c : ℕ) → closed c h' ≡ closed c h
  pub renews : (c : ℕ) → renewals c h' ≡ renewals c h
  pub entries : (c : ℕ) → put_by c h' ≡ put_by c h

pub and_false : (b : Bool) → (b && false) ≡ false
and_false true = refl
and_false false = refl

pub or_false : (b : Bool) → (b || false) ≡ b
or_false true = refl
or_false false = refl

pub or_true : (b : Bool) → (b || true) ≡ true
or_true true = refl
or_true false = refl

pub cond_none : {A : Type 0} (b : Bool) → ◌≡◌ {A = Option A} (cond b None None) None
cond_none true = refl
cond_none false = refl

pub same_after : (h : History) (e : Step × Answer) → ((c : ℕ) → accepted_in c e ≡ None) → ((t p : ℕ) → processed_in t p e ≡ None) →
    ((t p : ℕ) → manage_posted_in t p e ≡ None) → ((t p : ℕ) → result_posted_in t p e ≡ None) →
    ((t p : ℕ) → (is_turn t p e.0 && is_moved e.1) ≡ false) → ((c : ℕ) → (is_close c e.0 && is_moved e.1) ≡ false) → ((c : ℕ) → renewed_in c e ≡ false) → Same h (h ++ e ∷ [])
same_after h e a d m r f k n = record {
  accepts = λ c. accepted_push c h e ∙ ap (λ o. accepted_records c h ++ option_to_list o) (a c) ∙ append-nil _;
  turns = λ t p. turned_push t p h e ∙ ap (λ o. processed_by t p h ++ option_to_list o) (d t p) ∙ append-nil _;
  manages = λ t p. managed_push t p h e ∙ ap (λ o. manage_posts t p h ++ option_to_list o) (m t p) ∙ append-nil _;
  ends = λ t p. ended_push t p h e ∙ ap (λ o. result_posts t p h ++ option_to_list o) (r t p) ∙ append-nil _;
  finishes = λ t p. finished_push t p h e ∙ ap (λ b. finished t p h || (b || false)) (f t p) ∙ or_false _;
  closes = λ c. closed_push c h e ∙ ap (λ b. closed c h || (b || false)) (k c) ∙ or_false _;
  renews = λ c. renewals_stay c h e (n c);
  entries = λ c. put_stays c h e (a c) (n c) (k c);
}

-- an answer that says that nothing was put, taken, processed or ended
pub record IsQuiet (answer : Answer) : Type 0 where
  pub not_accepted : is_accepted answer ≡ false
  pub not_moved : is_moved answer ≡ false
  pub not_processed : processed_of answer ≡ None

pub same_quiet : (h : History) (step : Step) (answer : Answer) → IsQuiet answer → Same h (h ++ (step, answer) ∷ [])
same_quiet h step answer q = same_after h (step, answer)
    (λ c. ap (λ b. cond b (offered_to c step) None) q.not_accepted)
    (λ t p. ap (λ o. cond (is_turn t p step) o None) q.not_processed ∙ cond_none (is_turn t p step))
    (λ t p. ap (λ b. cond b (posted_manage t p step) None) q.not_moved)
    (λ t p. ap (λ b. cond b (posted_result t p step) None) q.not_moved)
    (λ t p. ap (λ b. is_turn t p step && b) q.not_moved ∙ and_false (is_turn t p step))
    (λ c. ap (λ b. is_close c step && b) q.not_moved ∙ and_false (is_close c step))
    (λ c. ap (λ b. is_renew c step && b) q.not_moved ∙ and_false (is_renew c step))

-- what a quiet answer adds to the counts
pub puts_quiet : (c : ℕ) (h : History) (step : Step) (answer : Answer) → IsQuiet answer → count_by (is_put c) (h ++ (step, answer) ∷ []) ≡ count_by (is_put c) h
puts_quiet c h step answer q =
    let none : is_put c (step, answer) ≡ false =
    ap (λ b. (is_offer c step && b) || ((is_close c step && is_moved answer) || (is_renew c step && is_moved answer))) q.not_accepted
    ∙ ap (λ b. (is_offer c step && false) || ((is_close c step && b) || (is_renew c step && b))) q.not_moved
    ∙ ap (λ b. b || ((is_close c step && false) || (is_renew c step && false))) (and_false (is_offer c step))
    ∙ ap (λ b. b || (is_renew c step && false)) (and_false (is_close c step)) ∙ and_false (is_renew c step) in
    count_push (is_put c) h (step, answer) ∙ ap (λ b. count_by (is_put c) h + (0 + cond b 1 0)) none ∙ add-zero _

pub takes_quiet : (c : ℕ) (h : History) (step : Step) (answer : Answer) → IsQuiet answer → count_by (has_taken c) (h ++ (step, answer) ∷ []) ≡ count_by (has_taken c) h
takes_quiet c h step answer q =
    let none : has_taken c (step, answer) ≡ false = ap (λ b. is_take c step && b) q.not_moved ∙ and_false (is_take c step) in
    count_push (has_taken c) h (step, answer) ∙ ap (λ b. count_by (has_taken c) h + (0 + cond b 1 0)) none ∙ add-zero _

pub quiet_idle : IsQuiet Idle
quiet_idle = record { not_accepted = refl; not_moved = refl; not_processed = refl }

pub quiet_full : IsQuiet Full
quiet_full = record { not_accepted = refl; not_moved = refl; not_processed = refl }

pub quiet_closed : IsQuiet Closed
quiet_closed = record { not_accepted = refl; not_moved = refl; not_processed = refl }

pub quiet_passed : IsQuiet Passed
quiet_passed = record { not_accepted = refl; not_moved = refl; not_processed = refl }
