use Rattle.std.proofs.Common.{◌≡◌, ◌∙◌, [], ◌∷◌, sym, ap, map, Some, string_bytes}
use Rattle.gate_config.proofs.Views.{only_key}
use Rattle.gate_config.specs.Document.{only}
use Rattle.gate_config.proofs.names.only_key.Goals as goal

pub returns-in-None : goal.returns-in-None
returns-in-None c =
    let keys : c.keys-keys.result ≡ c.in_ok-first.first.now ∷ [] = c.in_ok-first.ensures.steps ∙ ap (λ rest. c.in_ok-first.first.now ∷ rest) c.in-None.ensures.steps.0 in
    ap Some c.as_str.ensures.value ∙ ap (λ ks. only (map string_bytes ks)) (sym keys)
    ∙ only_key c.keys-keys.result c.args.members.now.entries c.keys-keys.ensures.rest

pub returns-in-Some : goal.returns-in-Some
returns-in-Some c =
    let keys : c.keys-keys.result ≡ c.in_ok-first.first.now ∷ c.in-Some.field-0.now ∷ c.next-2.new.self = c.in_ok-first.ensures.steps ∙ ap (λ rest. c.in_ok-first.first.now ∷ rest) c.in-Some.ensures.steps in
    ap (λ ks. only (map string_bytes ks)) (sym keys)
    ∙ only_key c.keys-keys.result c.args.members.now.entries c.keys-keys.ensures.rest
