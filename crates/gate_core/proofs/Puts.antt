-- What one step more does to what a history says of a connection's entries and renewals.
use Rattle.std.proofs.Common.{◌≡◌, ◌∙◌, sym, ap, refl, ℕ, ◌+◌, List, [], ◌∷◌, ◌++◌, Bool, false, length, Option, Some, None, option_map, if◌then◌else◌, arith, add-zero, zero-add, append-nil, append_assoc}
use Rattle.std.specs.Prelude.{◌&&◌}
use Rattle.std.specs.List.{cons_option}
use Rattle.std.specs.Option.{option_to_list}
use Rattle.gate_record.specs.declared.record.Record.{Record}
use Rattle.gate_record.specs.declared.transit.ConnEntry.{ConnEntry}
use Rattle.gate_record.specs.declared.transit.ConnEntry.TheVariants as entry
use Rattle.gate_core.specs.declared.answer.Answer.{Answer}
use Rattle.gate_core.specs.declared.step.Step.{Step}
use Rattle.gate_core.specs.History.{History, accepted_in, accepted_records, is_close, is_moved, renewals, renewals_from, renewed_in}

-- the step put the end mark of connection c
abbrev pub closed_in : ℕ → Step × Answer → Bool
closed_in c event = is_close c event.0 && is_moved event.1

-- what a step put into the queue of connection c, which had accepted n records
abbrev pub put_in : ℕ → ℕ → Step × Answer → List ConnEntry
put_in c n event =
    option_to_list (option_map (entry.Numbered n) (accepted_in c event))
    ++ ((if renewed_in c event then entry.Renew ∷ [] else []) ++ (if closed_in c event then entry.End ∷ [] else []))

abbrev pub put_from : ℕ → ℕ → History → List ConnEntry
put_from c n [] = []
put_from c n (event ∷ history) = put_in c n event ++ put_from c (n + length (option_to_list (accepted_in c event))) history

-- all that was put into a connection's queue
abbrev pub put_by : ℕ → History → List ConnEntry
put_by c history = put_from c 0 history

abbrev renewal_in : ℕ → ℕ → Step × Answer → List ℕ
renewal_in c n event = if renewed_in c event then n ∷ [] else []

count_cons : (o : Option Record) (records : List Record) → length (cons_option o records) ≡ length (option_to_list o) + length records
count_cons None records = sym (zero-add (length records))
count_cons (Some line) records = omega arith

counted : (c n : ℕ) (x : Step × Answer) (h : History) → (n + length (option_to_list (accepted_in c x))) + length (accepted_records c h) ≡ n + length (accepted_records c (x ∷ h))
counted c n x h = let one = count_cons (accepted_in c x) (accepted_records c h) in omega (arith, one)

-- what is listed of each event, by how many records were accepted before it, and one event more
module _ {X : Type 0} (c : ℕ) (listed : ℕ → History → List X) (one : ℕ → Step × Answer → List X) (nil : (n : ℕ) → listed n [] ≡ [])
    (cons : (n : ℕ) (x : Step × Answer) (h : History) → listed n (x ∷ h) ≡ one n x ++ listed (n + length (option_to_list (accepted_in c x))) h) where
  listed_more : (n : ℕ) (h : History) (e : Step × Answer) → listed n (h ++ e ∷ []) ≡ listed n h ++ one (n + length (accepted_records c h)) e
  listed_more n [] e =
      cons n e [] ∙ ap (λ rest. one n e ++ rest) (nil (n + length (option_to_list (accepted_in c e)))) ∙ append-nil (one n e) ∙ ap (λ m. one m e) (sym (add-zero n))
      ∙ ap (λ front. front ++ one (n + 0) e) (sym (nil n))
  listed_more n (x ∷ h) e =
      let m = n + length (option_to_list (accepted_in c x)) in
      let last = one (n + length (accepted_records c (x ∷ h))) e in
      cons n x (h ++ e ∷ []) ∙ ap (λ rest. one n x ++ rest) (listed_more m h e ∙ ap (λ k. listed m h ++ one k e) (counted c n x h))
      ∙ sym (append_assoc (one n x) (listed m h) last) ∙ ap (λ front. front ++ last) (sym (cons n x h))

pub put_push : (c : ℕ) (h : History) (e : Step × Answer) → put_by c (h ++ e ∷ []) ≡ put_by c h ++ put_in c (length (accepted_records c h)) e
put_push c h e = listed_more c (put_from c) (put_in c) (λ n. refl) (λ n x h. refl) 0 h e ∙ ap (λ n. put_by c h ++ put_in c n e) (zero-add (length (accepted_records c h)))

pub renewals_push : (c : ℕ) (h : History) (e : Step × Answer) → renewals c (h ++ e ∷ []) ≡ renewals c h ++ (if renewed_in c e then length (accepted_records c h) ∷ [] else [])
renewals_push c h e =
    listed_more c (renewals_from c) (renewal_in c) (λ n. refl) (λ n x h. refl) 0 h e ∙ ap (λ n. renewals c h ++ renewal_in c n e) (zero-add (length (accepted_records c h)))

-- ---- a step that puts nothing

nothing_put : (c n : ℕ) (e : Step × Answer) → accepted_in c e ≡ None → renewed_in c e ≡ false → closed_in c e ≡ false → put_in c n e ≡ []
nothing_put c n e a r k = λ i. option_to_list (option_map (entry.Numbered n) (a i)) ++ ((if r i then entry.Renew ∷ [] else []) ++ (if k i then entry.End ∷ [] else []))

pub put_stays : (c : ℕ) (h : History) (e : Step × Answer) → accepted_in c e ≡ None → renewed_in c e ≡ false → closed_in c e ≡ false → put_by c (h ++ e ∷ []) ≡ put_by c h
put_stays c h e a r k = put_push c h e ∙ ap (λ xs. put_by c h ++ xs) (nothing_put c (length (accepted_records c h)) e a r k) ∙ append-nil (put_by c h)

pub renewals_stay : (c : ℕ) (h : History) (e : Step × Answer) → renewed_in c e ≡ false → renewals c (h ++ e ∷ []) ≡ renewals c h
renewals_stay c h e r = renewals_push c h e ∙ ap (λ b. renewals c h ++ (if b then length (accepted_records c h) ∷ [] else [])) r ∙ append-nil (renewals c h)
