-- Going through numbers in rising order.
use Rattle.std.proofs.Common.{◌≡◌, ◌∙◌, refl, sym, ap, ℕ, zero, suc, ◌+◌, ◌-◌, ◌<◌, List, [], ◌∷◌, ◌++◌, Bool, true, false, not, ◌&&◌, ◌||◌, Option, Some, None, map, add-zero, arith}
use Rattle.std.specs.List.{cons_option, filter_map, list_all, range_with_len}
use Rattle.std.specs.Option.{option_to_list}
use Rattle.std.proofs.lemmas.List.FromFn.{map-range_with_len_more}
use Rattle.std.proofs.lemmas.List.{append_assoc}

-- a number that passes decides nothing
pub passes : (f : ℕ → Bool) (i n : ℕ) → i < n → f i ≡ true → list_all f (range_with_len (i + 1) (n - (i + 1))) ≡ list_all f (range_with_len i (n - i))
passes f i n h e =
    let rest : n - i ≡ suc (n - (i + 1)) = omega (arith, h) in
    sym (ap (λ k. list_all f (range_with_len i k)) rest ∙ ap (λ b. b && list_all f (range_with_len (i + 1) (n - (i + 1)))) e)

-- a connection that isn't listed, and one whose end mark is there
pub unlisted : (listed mark : Bool) → listed ≡ false → (not listed || mark) ≡ true
unlisted listed mark e = ap (λ b. not b || mark) e

pub ended : (listed mark : Bool) → mark ≡ true → (not listed || mark) ≡ true
ended false mark e = refl
ended true mark e = e

module _ {Y : Type 0} where
  cons_option-nil : (o : Option Y) → cons_option o [] ≡ option_to_list o
  cons_option-nil None = refl
  cons_option-nil (Some y) = refl

  cons_option-append : (o : Option Y) (ys zs : List Y) → cons_option o (ys ++ zs) ≡ cons_option o ys ++ zs
  cons_option-append None ys zs = refl
  cons_option-append (Some y) ys zs = refl

  more_from : (f : ℕ → Option Y) (a n j : ℕ) → a + n ≡ j → filter_map f (range_with_len a (suc n)) ≡ filter_map f (range_with_len a n) ++ option_to_list (f j)
  more_from f a zero j e = cons_option-nil (f a) ∙ ap (λ i. option_to_list (f i)) (sym (add-zero a) ∙ e)
  more_from f a (suc n) j e =
      let shifted : (a + 1) + n ≡ j = omega (arith, e) in
      ap (cons_option (f a)) (more_from f (a + 1) n j shifted) ∙ cons_option-append (f a) (filter_map f (range_with_len (a + 1) n)) (option_to_list (f j))

  -- a number more at the end
  pub one_more : (f : ℕ → Option Y) (n : ℕ) → filter_map f (range_with_len 0 (n + 1)) ≡ filter_map f (range_with_len 0 n) ++ option_to_list (f n)
  one_more f n =
      let whole : n + 1 ≡ suc n = omega arith in
      ap (λ k. filter_map f (range_with_len 0 k)) whole ∙ more_from f 0 n n (omega arith)

  pub none_of : (f : ℕ → Option Y) → ((i : ℕ) → f i ≡ None) → (a n : ℕ) → filter_map f (range_with_len a n) ≡ []
  none_of f none a zero = refl
  none_of f none a (suc n) = ap (λ o. cons_option o (filter_map f (range_with_len (a + 1) n))) (none a) ∙ none_of f none (a + 1) n

  -- one more behind those so far
  pub one_more_behind : (f : ℕ → Option Y) (old : List Y) (n : ℕ) → (old ++ filter_map f (range_with_len 0 n)) ++ option_to_list (f n) ≡ old ++ filter_map f (range_with_len 0 (n + 1))
  one_more_behind f old n = append_assoc old (filter_map f (range_with_len 0 n)) (option_to_list (f n)) ∙ ap (λ ys. old ++ ys) (sym (one_more f n))

  pub each_more_behind : (f : ℕ → Y) (old : List Y) (n : ℕ) → (old ++ map f (range_with_len 0 n)) ++ f n ∷ [] ≡ old ++ map f (range_with_len 0 (n + 1))
  each_more_behind f old n = append_assoc old (map f (range_with_len 0 n)) (f n ∷ []) ∙ ap (λ ys. old ++ ys) (sym (map-range_with_len_more f 0 n n (omega arith)))
