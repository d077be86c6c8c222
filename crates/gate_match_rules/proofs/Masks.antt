-- Masks whose words are all ones or 0.
use Rattle.std.proofs.Common.{◌≡◌, ◌∙◌, refl, sym, ap, ap₂, ℕ, zero, suc, if◌then◌else◌, ◌+◌, ◌==◌, ◌&&◌, ◌||◌, Bool, true, false, not, cond, List, [], ◌∷◌, ◌++◌, map, replicate, length, take, arith, bit_and, bit_or}
use Rattle.std.proofs.Math.Seq.{take-append_seam}
use Rattle.std.proofs.lemmas.List.{length-map}
use Rattle.std.proofs.lemmas.List.Recursion.{is_count_by}
use Rattle.std.proofs.lemmas.Simd.{length-zip2}
use Rattle.std.specs.Simd.Lanes.{zip2}
use Rattle.gate_lanes.specs.Masks.{mark_if, cleared_if, count_marked}
use Rattle.gate_match_rules.specs.Marks.{AreMarks, is_marked, marks_any, marks_of, words_of}

marked_if : (b : Bool) → is_marked (mark_if b) ≡ b
marked_if true = refl
marked_if false = refl

marks_of_words : (bs : List Bool) → marks_of (words_of bs) ≡ bs
marks_of_words [] = refl
marks_of_words (b ∷ bs) = ap₂ ◌∷◌ (marked_if b) (marks_of_words bs)

-- words that are those of a mask
pub are_marks : (words : List ℕ) (bs : List Bool) → words ≡ words_of bs → AreMarks words
are_marks words bs e = ap words_of (ap marks_of e ∙ marks_of_words bs) ∙ sym e

pub marks_are : (words : List ℕ) (bs : List Bool) → words ≡ words_of bs → marks_of words ≡ bs
marks_are words bs e = ap marks_of e ∙ marks_of_words bs

pub words_of_map : {A : Type 0} (f : A → Bool) (xs : List A) → map (λ x. mark_if (f x)) xs ≡ words_of (map f xs)
words_of_map f [] = refl
words_of_map f (x ∷ xs) = ap (λ ws. mark_if (f x) ∷ ws) (words_of_map f xs)

-- rows that are marked alike pass alike
pub marked_alike : {A B : Type 0} (f : A → Bool) (g : B → Bool) (xs : List A) (ys : List B) → map (λ x. mark_if (f x)) xs ≡ map (λ y. mark_if (g y)) ys → map f xs ≡ map g ys
marked_alike f g xs ys e =
    sym (marks_are (map (λ x. mark_if (f x)) xs) (map f xs) (words_of_map f xs)) ∙ marks_are (map (λ x. mark_if (f x)) xs) (map g ys) (e ∙ words_of_map g ys)

pub words_of_none : (n : ℕ) → replicate n 0 ≡ words_of (replicate n false)
words_of_none zero = refl
words_of_none (suc n) = ap (λ ws. 0 ∷ ws) (words_of_none n)

-- what is written over a whole list
pub written : (n : ℕ) (new rest : List ℕ) → length new ≡ n → take n (new ++ rest) ≡ new
written n new rest e = ap (λ m. take m (new ++ rest)) (sym e) ∙ take-append_seam new rest

zip2_words : (f : ℕ → ℕ → ℕ) (g : Bool → Bool → Bool) → ((a b : Bool) → f (mark_if a) (mark_if b) ≡ mark_if (g a b)) →
    (xs ys : List Bool) → zip2 f (words_of xs) (words_of ys) ≡ words_of (zip2 g xs ys)
zip2_words f g h [] ys = refl
zip2_words f g h (a ∷ xs) [] = refl
zip2_words f g h (a ∷ xs) (b ∷ ys) = ap₂ ◌∷◌ (h a b) (zip2_words f g h xs ys)

-- two masks joined word by word
pub joined : (f : ℕ → ℕ → ℕ) (g : Bool → Bool → Bool) → ((a b : Bool) → f (mark_if a) (mark_if b) ≡ mark_if (g a b)) →
    (n : ℕ) (new old other rest : List ℕ) → AreMarks old → AreMarks other → length old ≡ n → length other ≡ length old →
    new ≡ zip2 f old other → take n (new ++ rest) ≡ words_of (zip2 g (marks_of old) (marks_of other))
joined f g h n new old other rest marks others e same is =
    written n new rest (ap length is ∙ length-zip2 f old other (sym same) ∙ e)
    ∙ is ∙ ap (λ ws. zip2 f ws other) (sym marks) ∙ ap (zip2 f (words_of (marks_of old))) (sym others)
    ∙ zip2_words f g h (marks_of old) (marks_of other)

-- what a mask is whose words are those of two others, joined
pub record IsJoined (g : Bool → Bool → Bool) (words : List ℕ) (old other : List Bool) : Type 0 where
  pub marks : AreMarks words
  pub value : marks_of words ≡ zip2 g old other
  pub len : length (marks_of words) ≡ length old

pub joins : (f : ℕ → ℕ → ℕ) (g : Bool → Bool → Bool) → ((a b : Bool) → f (mark_if a) (mark_if b) ≡ mark_if (g a b)) →
    (n : ℕ) (new words others rest : List ℕ) (old other : List Bool) → AreMarks words → AreMarks others → length words ≡ n → marks_of words ≡ old → marks_of others ≡ other →
    length other ≡ length old → new ≡ zip2 f words others → IsJoined g (take n (new ++ rest)) old other
joins f g h n new words others rest old other marks other_marks e seen other_seen same is =
    let alike : length others ≡ length words = sym (length-map others is_marked) ∙ ap length other_seen ∙ same ∙ ap length (sym seen) ∙ length-map words is_marked in
    let all = joined f g h n new words others rest marks other_marks e alike is in
    let value = marks_are (take n (new ++ rest)) (zip2 g (marks_of words) (marks_of others)) all ∙ ap (λ xs. zip2 g xs (marks_of others)) seen ∙ ap (zip2 g old) other_seen in
    record {
      marks = are_marks (take n (new ++ rest)) (zip2 g (marks_of words) (marks_of others)) all;
      value = value;
      len = ap length value ∙ length-zip2 g old other (sym same);
    }

pub and_marks : (a b : Bool) → bit_and (mark_if a) (mark_if b) ≡ mark_if (a && b)
and_marks true true = refl
and_marks true false = refl
and_marks false true = refl
and_marks false false = refl

pub or_marks : (a b : Bool) → bit_or (mark_if a) (mark_if b) ≡ mark_if (a || b)
or_marks true true = refl
or_marks true false = refl
or_marks false true = refl
or_marks false false = refl

clear_mark : (a f : Bool) → (if f then 0 else mark_if a) ≡ mark_if (a && not f)
clear_mark true true = refl
clear_mark true false = refl
clear_mark false true = refl
clear_mark false false = refl

zip2_cleared : (xs : List Bool) (flags : List ℕ) → zip2 cleared_if (words_of xs) flags ≡ words_of (zip2 (λ a f. a && not f) xs (marks_of flags))
zip2_cleared [] flags = refl
zip2_cleared (a ∷ xs) [] = refl
zip2_cleared (a ∷ xs) (f ∷ flags) = ap₂ ◌∷◌ (clear_mark a (is_marked f)) (zip2_cleared xs flags)

-- a mask without the rows that are flagged
pub cleared : (n : ℕ) (new old flags rest : List ℕ) → AreMarks old → length old ≡ n → length flags ≡ length old →
    new ≡ zip2 cleared_if old flags → take n (new ++ rest) ≡ words_of (zip2 (λ a f. a && not f) (marks_of old) (marks_of flags))
cleared n new old flags rest marks e same is =
    written n new rest (ap length is ∙ length-zip2 cleared_if old flags (sym same) ∙ e)
    ∙ is ∙ ap (λ ws. zip2 cleared_if ws flags) (sym marks) ∙ zip2_cleared (marks_of old) flags

how_many : List ℕ → ℕ
how_many [] = 0
how_many (word ∷ words) = cond (is_marked word) (1 + how_many words) (how_many words)

counted : (words : List ℕ) → how_many words ≡ count_marked words
unfolding how_many
counted = is_count_by how_many is_marked refl (λ x xs. refl)

one_more : (b : Bool) (n : ℕ) (rest : List Bool) → (n == 0) ≡ not (marks_any rest) → (cond b (1 + n) n == 0) ≡ not (marks_any (b ∷ rest))
one_more true n rest e = grind arith
one_more false n rest e = e

none_by_how_many : (words : List ℕ) → (how_many words == 0) ≡ not (marks_any (marks_of words))
unfolding how_many
none_by_how_many [] = refl
none_by_how_many (word ∷ words) = one_more (is_marked word) (how_many words) (marks_of words) (none_by_how_many words)

-- no row is marked where none is counted
pub none_counted : (words : List ℕ) → (count_marked words == 0) ≡ not (marks_any (marks_of words))
none_counted words = ap (λ n. n == 0) (sym (counted words)) ∙ none_by_how_many words
