use Rattle.std.proofs.Common.{◌≡◌, ◌∙◌, ◌<◌, ◌^◌, subst, sym, ap, arith, refl, cond, ℕ, Bool, Some, None, true}
use Rattle.std.specs.Prelude.{◌&&◌, nat_lt}
use Rattle.std.specs.List.{list_all}
use Rattle.std.proofs.lemmas.List.{take_all}
use Rattle.gate_line.specs.Words.{is_digit, value_of}
use Rattle.gate_line.proofs.Numbers.{byte_refused, fits}
use Rattle.gate_line.proofs.words.value_of.Goals as goal

pub returns-in-None : goal.returns-in-None
returns-in-None c = byte_refused c.args.text.now c.loop-byte.byte-index (2 ^ 64) c.loop-byte.value _ (omega arith) c.loop-byte.invariant.so_far refl c.in-None.ensures

pub returns : goal.returns
returns c =
    let text = c.args.text.now in
    let at = take_all c.loop-byte.byte-index text c.loop-byte-test.false in
    let whole : c.loop-byte.value ≡ value_of text = c.loop-byte.invariant.so_far ∙ ap value_of at in
    let digits : list_all is_digit text ≡ true = sym (ap (list_all is_digit) at) ∙ c.loop-byte.invariant.digits in
    ap Some whole
    ∙ fits (value_of text) (2 ^ 64) (subst (λ (n : ℕ). n < 2 ^ 64) whole c.loop-byte.invariant.small)
    ∙ sym (ap (λ (a : Bool). cond (a && nat_lt (value_of text) (2 ^ 64)) (Some (value_of text)) None) digits)
