use Rattle.std.proofs.Common.{◌∙◌, ◌||◌, bit_or, sym, ap}
use Rattle.std.specs.Simd.Lanes.{zip2}
use Rattle.gate_match_rules.proofs.Masks.{or_marks, joins}
use Rattle.gate_match_rules.proofs.mask.Mask.or.Goals as goal

pub invariant_of-self : goal.invariant_of-self
invariant_of-self c = (joins bit_or (λ a b. a || b) or_marks c.self.inside.words.len c.or_into.new.out c.self.inside.words.items c.other.inside.words.items _ _ _ c.self.invariant c.other.invariant (sym c.self.inside.words.ok.0) c.self.view_is c.other.view_is c.requires (c.or_into.ensures ∙ ap (λ words. zip2 bit_or words c.as_slice.result.now) c.as_mut_slice.ensures.value ∙ ap (zip2 bit_or c.self.inside.words.items) c.as_slice.ensures.value)).marks

pub returns : goal.returns
returns c = let done = joins bit_or (λ a b. a || b) or_marks c.self.inside.words.len c.or_into.new.out c.self.inside.words.items c.other.inside.words.items _ _ _ c.self.invariant c.other.invariant (sym c.self.inside.words.ok.0) c.self.view_is c.other.view_is c.requires (c.or_into.ensures ∙ ap (λ words. zip2 bit_or words c.as_slice.result.now) c.as_mut_slice.ensures.value ∙ ap (zip2 bit_or c.self.inside.words.items) c.as_slice.ensures.value) in record { value = done.value; len = done.len }
