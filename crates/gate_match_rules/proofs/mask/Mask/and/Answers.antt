use Rattle.std.proofs.Common.{◌∙◌, ◌&&◌, bit_and, sym, ap}
use Rattle.std.specs.Simd.Lanes.{zip2}
use Rattle.gate_match_rules.proofs.Masks.{and_marks, joins}
use Rattle.gate_match_rules.proofs.mask.Mask.and.Goals as goal

pub invariant_of-self : goal.invariant_of-self
invariant_of-self c = (joins bit_and (λ a b. a && b) and_marks c.self.inside.words.len c.and_into.new.out c.self.inside.words.items c.other.inside.words.items _ _ _ c.self.invariant c.other.invariant (sym c.self.inside.words.ok.0) c.self.view_is c.other.view_is c.requires (c.and_into.ensures ∙ ap (λ words. zip2 bit_and words c.as_slice.result.now) c.as_mut_slice.ensures.value ∙ ap (zip2 bit_and c.self.inside.words.items) c.as_slice.ensures.value)).marks

pub returns : goal.returns
returns c = let done = joins bit_and (λ a b. a && b) and_marks c.self.inside.words.len c.and_into.new.out c.self.inside.words.items c.other.inside.words.items _ _ _ c.self.invariant c.other.invariant (sym c.self.inside.words.ok.0) c.self.view_is c.other.view_is c.requires (c.and_into.ensures ∙ ap (λ words. zip2 bit_and words c.as_slice.result.now) c.as_mut_slice.ensures.value ∙ ap (zip2 bit_and c.self.inside.words.items) c.as_slice.ensures.value) in record { value = done.value; len = done.len }
