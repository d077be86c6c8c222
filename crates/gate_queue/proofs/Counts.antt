-- How long a list is, by the values of its senders.
use Rattle.std.proofs.Common.{◌≡◌, ◌≢◌, ℕ, suc, ◌≤◌, cond, List, [], ◌∷◌, ◌++◌, length, sym, refl, ap, ◌∙◌, subst, eqb, eq-eqb, ne_eqb, arith}
use mathlib.Core.Logic.{dite}
use native.Mathlib.Decide.{ℕ_discrete}
use Rattle.gate_queue.specs.declared.tagged.Tagged.{Tagged}
use Rattle.gate_queue.specs.Tagged.{values_of}
use Rattle.gate_queue.specs.States.{AreFrom}
use Rattle.gate_queue.proofs.Values.{values_of-append}

module _ {T : Type 0} where
  here : (s : ℕ) (x : Tagged T) (xs : List (Tagged T)) → x.sender ≡ s → values_of s (x ∷ xs) ≡ x.value ∷ values_of s xs
  here s x xs e = rw (eq-eqb x.sender s e)

  there : (s : ℕ) (x : Tagged T) (xs : List (Tagged T)) → x.sender ≢ s → values_of s (x ∷ xs) ≡ values_of s xs
  there s x xs e = rw (ne_eqb x.sender s e)

  -- the list without the first value of this sender
  abbrev without : ℕ → List (Tagged T) → List (Tagged T)
  without s [] = []
  without s (x ∷ xs) = cond (eqb x.sender s) xs (x ∷ without s xs)

  without-here : (s : ℕ) (x : Tagged T) (xs : List (Tagged T)) → x.sender ≡ s → without s (x ∷ xs) ≡ xs
  without-here s x xs e = rw (eq-eqb x.sender s e)

  without-there : (s : ℕ) (x : Tagged T) (xs : List (Tagged T)) → x.sender ≢ s → without s (x ∷ xs) ≡ x ∷ without s xs
  without-there s x xs e = rw (ne_eqb x.sender s e)

  tail_of : (a b : T) (as' bs : List T) → a ∷ as' ≡ b ∷ bs → as' ≡ bs
  tail_of a b as' bs e = (cc)

  length-without : (s : ℕ) (xs : List (Tagged T)) (v : T) (vs : List T) → values_of s xs ≡ v ∷ vs → length xs ≡ suc (length (without s xs))
  length-without s [] v vs h = absurd (let h' : [] ≡ v ∷ vs = h in (cc))
  length-without s (x ∷ xs) v vs h =
      dite (ℕ_discrete x.sender s) (λ e. ap suc (ap length (sym (without-here s x xs e))))
      (λ ne. ap suc (length-without s xs v vs (sym (there s x xs ne) ∙ h)) ∙ ap (λ l. suc (length l)) (sym (without-there s x xs ne)))

  values_of-without-same : (s : ℕ) (xs : List (Tagged T)) (v : T) (vs : List T) → values_of s xs ≡ v ∷ vs → values_of s (without s xs) ≡ vs
  values_of-without-same s [] v vs h = absurd (let h' : [] ≡ v ∷ vs = h in (cc))
  values_of-without-same s (x ∷ xs) v vs h =
      dite (ℕ_discrete x.sender s) (λ e. ap (values_of s) (without-here s x xs e) ∙ tail_of x.value v (values_of s xs) vs (sym (here s x xs e) ∙ h))
      (λ ne. ap (values_of s) (without-there s x xs ne) ∙ there s x (without s xs) ne ∙ values_of-without-same s xs v vs (sym (there s x xs ne) ∙ h))

  values_of-without-other : (t s : ℕ) (xs : List (Tagged T)) → t ≢ s → values_of t (without s xs) ≡ values_of t xs
  values_of-without-other t s [] apart = refl
  values_of-without-other t s (x ∷ xs) apart =
      dite (ℕ_discrete x.sender s) (λ e. ap (values_of t) (without-here s x xs e) ∙ sym (there t x xs (λ e'. apart (sym e' ∙ e))))
      (λ ne.
      ap (values_of t) (without-there s x xs ne) ∙ values_of-append t (x ∷ []) (without s xs) ∙ ap (λ l. values_of t (x ∷ []) ++ l) (values_of-without-other t s xs apart)
      ∙ sym (values_of-append t (x ∷ []) xs))

  no_values : (ys : List (Tagged T)) → ((s : ℕ) → [] ≡ values_of s ys) → length ys ≡ 0
  no_values [] same = refl
  no_values (y ∷ ys) same = absurd (let h : [] ≡ y.value ∷ values_of y.sender ys = same y.sender ∙ here y.sender y ys refl in (cc))

  -- two lists with the same values of each sender are as long
  pub same_length : (xs ys : List (Tagged T)) → ((s : ℕ) → values_of s xs ≡ values_of s ys) → length xs ≡ length ys
  same_length [] ys same = sym (no_values ys same)
  same_length (x ∷ xs) ys same =
      let first : values_of x.sender ys ≡ x.value ∷ values_of x.sender xs = sym (same x.sender) ∙ here x.sender x xs refl in
      let rest : (s : ℕ) → values_of s xs ≡ values_of s (without x.sender ys) = λ s.
      dite (ℕ_discrete s x.sender)
      (λ e. subst (λ s. values_of s xs ≡ values_of s (without x.sender ys)) (sym e) (sym (values_of-without-same x.sender ys x.value (values_of x.sender xs) first)))
      (λ ne. sym (there s x xs (λ e. ne (sym e))) ∙ same s ∙ sym (values_of-without-other s x.sender ys ne)) in
      ap suc (same_length xs (without x.sender ys) rest) ∙ sym (length-without x.sender ys x.value (values_of x.sender xs) first)

  -- no value comes from a sender beyond the last
  pub values_of-beyond : (n s : ℕ) (xs : List (Tagged T)) → n ≤ s → AreFrom n xs → values_of s xs ≡ []
  values_of-beyond n s [] beyond from = refl
  values_of-beyond n s (x ∷ xs) beyond from =
      there s x xs (λ e. let below = from 0 x (omega arith) in omega arith) ∙ values_of-beyond n s xs beyond (λ k d h. from (suc k) d (omega arith))
