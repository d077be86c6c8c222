-- What the words that were read so far say of streams.
use Rattle.std.proofs.Common.{◌≡◌, ◌∙◌, sym, ap, refl, subst, ℕ, ◌<◌, ◌≤◌, ◌+◌, List, [], ◌∷◌, ◌++◌, Bool, true, false, Some, option_map, length, map, string_bytes, get_or, eqb-true, arith}
use Rattle.std.specs.Prelude.{String, ◌==◌, cond, count_by, slice_get}
use Rattle.std.specs.List.{list_any}
use Rattle.std.proofs.lemmas.List.Sums.{sum_by-cons}
use Rattle.std.proofs.lemmas.Option.{slice_get-map, slice_get_read}
use Rattle.std.specs.Global.{Global}
use Rattle.gate_config.specs.declared.config.Config.{Config}
use Rattle.gate_core.proofs.Elements.{each_push}
use Rattle.gate_main_streams.specs.Addresses.{text_of}
use Rattle.gate_main_streams.specs.declared.address.Address.{Address}
use Rattle.gate_main_streams.specs.declared.address.Address.TheVariants as address
use Rattle.gate_main_command.specs.StreamWords.{IsStreamWord, NameFirst, how_many}
use Rattle.gate_main_command.specs.declared.streams.StreamWord.{StreamWord}

pub none_yet : (config : Config) (words : List (List ℕ)) → NameFirst config words []
none_yet config words = record { each = λ i source e. absurd (cc); at_most_one = λ conn. omega arith }

abbrev weight : Bool → ℕ
weight is = cond is 1 0

module _ {X : Type 0} (p : X → Bool) where
  counted : (b : Bool) (x : X) (xs : List X) → p x ≡ b → count_by p (x ∷ xs) ≡ weight b + count_by p xs
  counted b x xs e = sum_by-cons (λ y. cond (p y) 1 0) x xs ∙ ap (λ is. weight is + count_by p xs) e

  none_by : (b : Bool) (x : X) (xs : List X) → p x ≡ b → list_any p (x ∷ xs) ≡ false → (list_any p xs ≡ false → count_by p xs ≡ 0) → count_by p (x ∷ xs) ≡ 0
  none_by true x xs e any more = absurd (cc)
  none_by false x xs e any more = let rest : count_by p xs ≡ 0 = more (cc) in let whole : count_by p (x ∷ xs) ≡ 0 + count_by p xs = counted false x xs e in omega (arith, rest, whole)

  pub none : (xs : List X) → list_any p xs ≡ false → count_by p xs ≡ 0
  none [] any = refl
  none (x ∷ xs) any = none_by (p x) x xs refl any (none xs)

  some_by : (b : Bool) (x : X) (xs : List X) → p x ≡ b → list_any p (x ∷ xs) ≡ true → (list_any p xs ≡ true → 1 ≤ count_by p xs) → 1 ≤ count_by p (x ∷ xs)
  some_by true x xs e any more = let whole : count_by p (x ∷ xs) ≡ 1 + count_by p xs = counted true x xs e in omega (arith, whole)
  some_by false x xs e any more = let rest : 1 ≤ count_by p xs = more (cc) in let whole : count_by p (x ∷ xs) ≡ 0 + count_by p xs = counted false x xs e in omega (arith, rest, whole)

  pub some : (xs : List X) → list_any p xs ≡ true → 1 ≤ count_by p xs
  some [] any = absurd (cc)
  some (x ∷ xs) any = some_by (p x) x xs refl any (some xs)

  one_by : (b : Bool) (xs : List X) (y : X) → p y ≡ b → count_by p (xs ++ y ∷ []) ≡ count_by p xs + weight b
  one_by b [] y e = let whole : count_by p (y ∷ []) ≡ weight b + 0 = counted b y [] e in omega (arith, whole)
  one_by b (x ∷ xs) y e =
      let rest : count_by p (xs ++ y ∷ []) ≡ count_by p xs + weight b = one_by b xs y e in
      let longer : count_by p (x ∷ (xs ++ y ∷ [])) ≡ weight (p x) + count_by p (xs ++ y ∷ []) = counted (p x) x (xs ++ y ∷ []) refl in
      let shorter : count_by p (x ∷ xs) ≡ weight (p x) + count_by p xs = counted (p x) x xs refl in
      omega (arith, rest, longer, shorter)

-- one stream more, of a connection that had none
at_most : (sources : List StreamWord) (source : StreamWord) (conn : ℕ) (b : Bool) → (source.conn == conn) ≡ b → how_many source.conn sources ≡ 0 → how_many conn sources ≤ 1 → how_many conn (sources ++ source ∷ []) ≤ 1
at_most sources source conn true e none_before most =
    let own : how_many conn sources ≡ 0 = ap (λ c. how_many c sources) (sym (eqb-true source.conn conn e)) ∙ none_before in
    let more : how_many conn (sources ++ source ∷ []) ≡ how_many conn sources + 1 = one_by (λ (one : StreamWord). one.conn == conn) true sources source e in
    omega (arith, own, more)
at_most sources source conn false e none_before most =
    let more : how_many conn (sources ++ source ∷ []) ≡ how_many conn sources + 0 = one_by (λ (one : StreamWord). one.conn == conn) false sources source e in
    omega (arith, most, more)

pub named_more : (config : Config) (words : List (List ℕ)) (sources : List StreamWord) (source : StreamWord) (word : List ℕ) → NameFirst config words sources → slice_get words (length sources) ≡ Some word
    → IsStreamWord config word source → list_any (λ (one : StreamWord). one.conn == source.conn) sources ≡ false → NameFirst config words (sources ++ source ∷ [])
named_more config words sources source word so_far at is new = record {
  each = each_push (λ i (one : StreamWord). (w : List ℕ) → slice_get words i ≡ Some w → IsStreamWord config w one) sources source so_far.each
      (λ w e. let found : Some word ≡ Some w = sym at ∙ e in let same : word ≡ w = cc in subst (λ v. IsStreamWord config v source) same is);
  at_most_one = λ conn. at_most sources source conn (source.conn == conn) refl (none (λ (one : StreamWord). one.conn == source.conn) sources new) (so_far.at_most_one conn);
}

-- a connection that has a stream has exactly one
pub exactly_one : (config : Config) (words : List (List ℕ)) (sources : List StreamWord) (conn : ℕ) → NameFirst config words sources → list_any (λ (one : StreamWord). one.conn == conn) sources ≡ true → how_many conn sources ≡ 1
exactly_one config words sources conn so_far has =
    let least : 1 ≤ how_many conn sources = some (λ (one : StreamWord). one.conn == conn) sources has in
    let most : how_many conn sources ≤ 1 = so_far.at_most_one conn in
    omega (arith, least, most)

-- ---- words

-- a text without a first equals sign, and so without an address
pub no_address : (text : List ℕ) → text ≡ [] → (a : Address) → text_of a ≡ text → ⊥
no_address text none (address.File path) e = absurd (cc)
no_address text none (address.Tcp place) e = absurd (cc)
no_address text none (address.Unix path) e = absurd (cc)

-- the bytes of a word
pub word_at : (words : List (String Global)) (i : ℕ) (word : String Global) → i < length words → word ≡ get_or words i word → slice_get (map string_bytes words) i ≡ Some (string_bytes word)
word_at words i word within is = slice_get-map string_bytes words i ∙ ap (option_map string_bytes) (slice_get_read words (length words) i word refl within is)
