-- Entries and records with the generations that are in force at them.
use Rattle.std.proofs.Common.{◌≡◌, ◌∙◌, refl, sym, ap, ℕ, zero, suc, ◌+◌, ◌<◌, ◌≤◌, List, [], ◌∷◌, ◌++◌, Bool, true, false, cond, length, map, take, Some, slice_get, option_map, append-nil, append_assoc, subst, add-zero, zero-add, arith}
use Rattle.std.specs.Prelude.{nat_le, All}
use Rattle.std.specs.List.{enumerate_from}
use Rattle.std.proofs.lemmas.Bool.{le-leb, leb-false, leb-true, lt-leb}
use Rattle.std.proofs.lemmas.List.{length-append, map-append, take-append-le, take_all}
use Rattle.std.proofs.lemmas.List.Elements.{All-head, All-tail}
use Rattle.std.proofs.lemmas.List.Sums.{fold-append, sum_by-append, sum_by-cons}
use Rattle.std.proofs.lemmas.Option.{slice_get_within}
use Rattle.gate_record.specs.declared.record.Record.{Record}
use Rattle.gate_record.specs.declared.transit.ConnEntry.{ConnEntry}
use Rattle.gate_record.specs.declared.transit.ConnEntry.TheVariants as entry
use Rattle.gate_record.specs.Entries.{AreEntriesOf, accepts, begins, behind, beside, closes, generation_at, generation_behind, renews, with_generations, at_generation}
use Rattle.gate_record.specs.Generations.{AreFirstEntries, EntriesHaveGenerations, RecordsHaveGenerations}
use Rattle.gate_record.specs.Prefixes.{IsPrefixOf}

-- ---- entries

one_more : (entries : List ConnEntry) (e : ConnEntry) → generation_behind 0 (entries ++ e ∷ []) ≡ behind (generation_behind 0 entries) e
one_more entries e = fold-append behind 0 entries (e ∷ [])

joined : (g : ℕ) (entries more : List ConnEntry) → with_generations g (entries ++ more) ≡ with_generations g entries ++ with_generations (generation_behind g entries) more
joined g [] more = refl
joined g (e ∷ entries) more = ap (λ rest. (g, e) ∷ rest) (joined (behind g e) entries more)

behind_all : {entries : List ConnEntry} {records : List (ℕ × Record)} {g : ℕ} {closed : Bool} → AreEntriesOf entries records g closed → generation_behind 0 entries ≡ g
behind_all begins = refl
behind_all (accepts {entries} {records} {g} line before) = one_more entries (entry.Numbered (length records) line) ∙ behind_all before
behind_all (renews {entries} before) = one_more entries entry.Renew ∙ ap suc (behind_all before)
behind_all (closes {entries} before) = one_more entries entry.End ∙ behind_all before

first_of : {entries : List ConnEntry} {records first : List (ℕ × Record)} {g : ℕ} {closed : Bool} → AreEntriesOf entries first g closed → (rest : List (ℕ × Record)) → first ++ rest ≡ records →
    AreFirstEntries entries records
first_of {entries} {records} {first} {g} {closed} are rest e = record { first = first; generation = g; closed = closed; entries_of_first = are; is_prefix = (rest, e) }

module _ (entries : List ConnEntry) (records more : List (ℕ × Record)) (e : ConnEntry) (k : ℕ) (wider : (first : List (ℕ × Record)) → IsPrefixOf first records → IsPrefixOf first more)
    (all : AreFirstEntries (entries ++ e ∷ []) more) (shorter : AreFirstEntries (take k entries) records) where
  -- a prefix of entries with one more behind them is one of those entries, or all
  cut : AreFirstEntries (take k (entries ++ e ∷ [])) more
  cut = by (nat_le k (length entries)) refl
    where
      by : (b : Bool) → nat_le k (length entries) ≡ b → AreFirstEntries (take k (entries ++ e ∷ [])) more
      by true h = subst (λ es. AreFirstEntries es more) (sym (take-append-le k entries (e ∷ []) (leb-true k (length entries) h))) (record {
        first = shorter.first;
        generation = shorter.generation;
        closed = shorter.closed;
        entries_of_first = shorter.entries_of_first;
        is_prefix = wider shorter.first shorter.is_prefix;
      })
      by false h = subst (λ es. AreFirstEntries es more) (sym (take_all k (entries ++ e ∷ []) (omega (arith, leb-false k (length entries) h, length-append entries (e ∷ []))))) all

as_it_is : {records : List (ℕ × Record)} (first : List (ℕ × Record)) → IsPrefixOf first records → IsPrefixOf first records
as_it_is first is = is

one_behind : {records : List (ℕ × Record)} (x : ℕ × Record) (first : List (ℕ × Record)) → IsPrefixOf first records → IsPrefixOf first (records ++ x ∷ [])
one_behind x first (rest, e) = (rest ++ x ∷ [], sym (append_assoc first rest (x ∷ [])) ∙ ap (λ xs. xs ++ x ∷ []) e)

each_prefix : {entries : List ConnEntry} {records : List (ℕ × Record)} {g : ℕ} {closed : Bool} → AreEntriesOf entries records g closed → (k : ℕ) → AreFirstEntries (take k entries) records
each_prefix begins k = subst (λ es. AreFirstEntries es []) (sym (take_all k [] (omega arith))) (first_of begins [] refl)
each_prefix (accepts {entries} {records} {g} line before) k =
    cut entries records (records ++ (g, line) ∷ []) (entry.Numbered (length records) line) k (one_behind (g, line))
    (first_of (accepts line before) [] (append-nil (records ++ (g, line) ∷ []))) (each_prefix before k)
each_prefix (renews {entries} {records} before) k = cut entries records records entry.Renew k as_it_is (first_of (renews before) [] (append-nil records)) (each_prefix before k)
each_prefix (closes {entries} {records} before) k = cut entries records records entry.End k as_it_is (first_of (closes before) [] (append-nil records)) (each_prefix before k)

pub entries_have_generations : EntriesHaveGenerations
entries_have_generations = record { joined = joined; behind_all = behind_all; each_prefix = each_prefix }

-- ---- records

enumerate_from-append : {A : Type 0} (n : ℕ) (xs ys : List A) → enumerate_from n (xs ++ ys) ≡ enumerate_from n xs ++ enumerate_from (n + length xs) ys
enumerate_from-append n [] ys = ap (λ k. enumerate_from k ys) (sym (add-zero n))
enumerate_from-append n (x ∷ xs) ys = ap (λ rest. (n, x) ∷ rest) (enumerate_from-append (n + 1) xs ys ∙ ap (λ k. enumerate_from (n + 1) xs ++ enumerate_from k ys) (omega arith))

-- all renewals stand before a record behind them
all_before : (n : ℕ) (renewals : List ℕ) → All (λ m. m ≤ n) renewals → generation_at renewals n ≡ length renewals
all_before n [] few = refl
all_before n (m ∷ renewals) few =
    let rest : generation_at renewals n ≡ length renewals = all_before n renewals (All-tail (λ r. r ≤ n) m renewals few) in
    let all : 1 + generation_at renewals n ≡ length (m ∷ renewals) = omega (arith, rest) in
    sum_by-cons (λ r. cond (nat_le r n) 1 0) m renewals
    ∙ ap (λ b. cond b 1 0 + generation_at renewals n) (le-leb m n (All-head (λ r. r ≤ n) m renewals few))
    ∙ all

one_record : (renewals : List ℕ) (records : List Record) (line : Record) → All (λ m. m ≤ length records) renewals →
    beside renewals (records ++ line ∷ []) ≡ beside renewals records ++ (length renewals, line) ∷ []
one_record renewals records line few =
    ap (map (at_generation renewals)) (enumerate_from-append 0 records (line ∷ []) ∙ ap (λ n. enumerate_from 0 records ++ (n, line) ∷ []) (zero-add (length records)))
    ∙ map-append (at_generation renewals) (enumerate_from 0 records) ((length records, line) ∷ [])
    ∙ ap (λ g. beside renewals records ++ (g, line) ∷ []) (all_before (length records) renewals few)

-- a renewal behind a record isn't counted there
not_counted : (renewals : List ℕ) (n m : ℕ) → n < m → generation_at (renewals ++ m ∷ []) n ≡ generation_at renewals n
not_counted renewals n m h =
    sum_by-append (λ r. cond (nat_le r n) 1 0) renewals (m ∷ [])
    ∙ ap (λ b. generation_at renewals n + (0 + cond b 1 0)) (lt-leb m n h)
    ∙ add-zero (generation_at renewals n)

one_renewal : (renewals : List ℕ) (records : List Record) → beside (renewals ++ length records ∷ []) records ≡ beside renewals records
one_renewal renewals records = by 0 records (omega arith)
  where
    by : (n : ℕ) (rest : List Record) → n + length rest ≤ length records →
        map (at_generation (renewals ++ length records ∷ [])) (enumerate_from n rest)
        ≡ map (at_generation renewals) (enumerate_from n rest)
    by n [] h = refl
    by n (line ∷ rest) h =
        let first : at_generation (renewals ++ length records ∷ []) (n, line) ≡ at_generation renewals (n, line) = λ i. (not_counted renewals n (length records) (omega (arith, h)) i, line) in
        λ i. first i ∷ by (n + 1) rest (omega (arith, h)) i

each_record : (renewals : List ℕ) (records : List Record) (n : ℕ) (g : ℕ) (line : Record) → slice_get {X = ℕ × Record} (beside renewals records) n ≡ Some (g, line) → slice_get records n ≡ Some line
each_record renewals records n g line e = by 0 records n e
  where
    by : (start : ℕ) (rest : List Record) (k : ℕ) →
        slice_get {X = ℕ × Record} (map (at_generation renewals) (enumerate_from start rest)) k ≡ Some (g, line) → slice_get rest k ≡ Some line
    by start [] k h = let none : k < 0 = slice_get_within {A = ℕ × Record} [] k (g, line) h in absurd (omega (arith, none))
    by start (other ∷ rest) zero h = ap (option_map (λ (x : ℕ × Record). x.1)) h
    by start (other ∷ rest) (suc k) h = by (start + 1) rest k h

pub records_have_generations : RecordsHaveGenerations
records_have_generations = record { one_record = one_record; one_renewal = one_renewal; each_record = each_record }
