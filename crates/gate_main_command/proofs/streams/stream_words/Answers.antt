use Rattle.std.proofs.Common.{◌≡◌, ◌∙◌, ap, refl, subst, sym, arith, inl, inr, ℕ, List, [], ◌∷◌, ◌++◌, length, map, string_bytes, true, false}
use Rattle.std.specs.List.{list_any}
use Rattle.std.specs.Prelude.{◌==◌, Some, slice_get, vec_items}
use Rattle.std.proofs.lemmas.List.{length-map}
use Rattle.std.proofs.lemmas.Option.{slice_get_read}
use Rattle.gate_main_command.specs.StreamWords.{IsStreamWord, NameFirst}
use Rattle.gate_main_command.specs.declared.streams.StreamWord.{StreamWord}
use Rattle.gate_main_command.proofs.Named.{exactly_one, named_more, none, word_at}
use Rattle.gate_main_command.proofs.Told.{count_more}
use Rattle.gate_main_command.proofs.streams.stream_words.Goals as goal

pub loop-word-preserved : goal.loop-word-preserved
loop-word-preserved c =
    let config = c.args.config.now in
    let words = map string_bytes c.args.words.now in
    let sources = c.loop-word.sources.items in
    let source = c.in-Some.source in
    let grown : vec_items c.push.new.self ≡ sources ++ source ∷ [] = c.in_ok-push.ensures.items in
    let at = word_at c.args.words.now c.loop-word.word-index c.word-item.result c.loop-word-test.true c.word-item.is in
    let here = subst (λ k. slice_get words k ≡ Some (string_bytes c.word-item.result)) (sym c.loop-word.invariant.0) at in
    let is = subst (λ word. IsStreamWord config word source) c.as_str.ensures.value c.in-Some.ensures.is in
    let new : list_any (λ (one : StreamWord). one.conn == source.conn) sources ≡ false =
    subst (λ (xs : List StreamWord). list_any (λ (one : StreamWord). one.conn == source.conn) xs ≡ false) c.as_slice.ensures.value c.in-Some.ensures.new in (
      count_more sources (vec_items c.push.new.self) source c.loop-word.word-index grown c.loop-word.invariant.0,
      subst (NameFirst config words) (sym grown) (named_more config words sources source (string_bytes c.word-item.result) c.loop-word.invariant.1 here is new),
    )

pub returns-clause-names : goal.returns-clause-names
returns-clause-names c =
    let config = c.args.config.now in
    let words = map string_bytes c.args.words.now in
    let sources = c.loop-word.sources.items in
    record {
      count = omega (arith, c.loop-word.invariant.0, c.loop-word-test.false, c.loop-word.auto.word-index-end) ∙ sym (length-map c.args.words.now string_bytes);
      first = c.loop-word.invariant.1;
      one = λ conn within. exactly_one config words sources conn c.loop-word.invariant.1 (c.loop-number.invariant conn (let all = ap length c.connections-name-items.ensures in omega (arith, within, c.loop-number-test.false, all)));
    }

pub returns-in_default-clause-fault : goal.returns-in_default-clause-fault
returns-in_default-clause-fault c =
    let config = c.args.config.now in
    let words = map string_bytes c.args.words.now in
    let sources = c.loop-word.sources.items in
    let word = string_bytes c.word-item.result in
    let text = string_bytes c.in_ok-from_str.field-0 in
    let same : text ≡ word = c.in_ok-from_str.ensures.ok ∙ c.as_str-in_default.ensures.value in
    inl (record {
      at = c.loop-word.word-index;
      stands = word_at c.args.words.now c.loop-word.word-index c.word-item.result c.loop-word-test.true c.word-item.is ∙ ap Some (sym same);
      before = sources;
      count = c.loop-word.invariant.0;
      first = c.loop-word.invariant.1;
      wrong = λ source is. exactly_one config words sources source.conn c.loop-word.invariant.1
          (subst (λ (xs : List StreamWord). list_any (λ (one : StreamWord). one.conn == source.conn) xs ≡ true) c.as_slice.ensures.value
          (c.in_default.ensures.none source (subst (λ read. IsStreamWord config read source) (same ∙ sym c.as_str.ensures.value) is)));
    })

pub returns-then-not-has-clause-fault : goal.returns-then-not-has-clause-fault
returns-then-not-has-clause-fault c =
    let config = c.args.config.now in
    let words = map string_bytes c.args.words.now in
    let sources = c.loop-word.sources.items in
    let names = c.connections-name-items.result.now in
    let number = c.loop-number.number in
    let name = c.name-item.result in
    let same = c.in_ok-from_str-2.ensures.ok ∙ c.as_str-then-not-has.ensures in
    inr (record {
      sources = sources;
      count = omega (arith, c.loop-word.invariant.0, c.loop-word-test.false, c.loop-word.auto.word-index-end) ∙ sym (length-map c.args.words.now string_bytes);
      first = c.loop-word.invariant.1;
      conn = number;
      stands = subst (λ (all : List (List ℕ)). slice_get all number ≡ Some name) c.connections-name-items.ensures (slice_get_read names (length names) number name refl c.loop-number-test.true c.name-item.is) ∙ ap Some (sym same);
      none = none (λ (one : StreamWord). one.conn == number) sources
          (subst (λ (xs : List StreamWord). list_any (λ (one : StreamWord). one.conn == number) xs ≡ false) c.as_slice-in-loop-number.ensures.value (sym c.has.ensures ∙ c.if-not-has.true));
      one = λ earlier less. exactly_one config words sources earlier c.loop-word.invariant.1 (c.loop-number.invariant earlier less);
    })
