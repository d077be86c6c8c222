-- Generations by number, each beside its document.
use Rattle.std.proofs.Common.{◌≡◌, ◌∙◌, ◌+◌, ◌<◌, ℕ, zero, suc, List, [], ◌∷◌, Some, Result, Ok, Err, map, length, refl, sym, ap, subst, arith}
use Rattle.std.specs.Prelude.{IfOk, option_map, slice_get, unwrap_or}
use Rattle.std.specs.Global.{Vec}
use Rattle.std.specs.List.{All, AllZip}
use Rattle.std.proofs.lemmas.List.{length-map}
use Rattle.std.proofs.lemmas.List.Elements.{All-head, All-tail}
use Rattle.std.proofs.lemmas.Option.{none-some, same_Some}
use Rattle.std.proofs.lemmas.Slice.Zip.{AllZip-long}
use Rattle.gate_config.specs.declared.config.Config.{Config}
use Rattle.gate_config.specs.declared.generation_fault.GenerationFault.{GenerationFault}
use Rattle.gate_config.specs.declared.generations.Generations.{Generations}
use Rattle.gate_config.specs.Generations.{AreReadFrom, IsReadFromBytes, PassesBeside, bytes_of, common_in, count_of}
use Rattle.gate_config.specs.InForce.{AreAlike, in_force}
use Rattle.gate_config.specs.Inner.Structures.{structure_in}
use Rattle.gate_config.specs.Limits.{most_generations}
use Rattle.gate_config.specs.Structure.{Structure, structure_of}
use Rattle.gate_config.proofs.LookUpsAlike.{alike, structure_read}

-- what a document has in common with others is what was read of it
common_read : (bytes : List ℕ) (config : Config) → IsReadFromBytes bytes config → common_in bytes ≡ Some (structure_in config)
common_read bytes config h = ap (option_map structure_of) h.1 ∙ ap (λ (s : Structure). Some s) (sym (structure_read h.0 config h.2))

same_structure : (first other : Config) (bytes : List ℕ) → IsReadFromBytes bytes other → PassesBeside (Some (structure_in first)) bytes → structure_in other ≡ structure_in first
same_structure first other bytes h p = same_Some (structure_in other) (structure_in first) (sym (common_read bytes other h) ∙ p.1)

each_alike : (first : Config) (documents : List (List ℕ)) (later : List Config) → AllZip IsReadFromBytes documents later → All (PassesBeside (Some (structure_in first))) documents → (g : ℕ) → AreAlike first (unwrap_or (slice_get later g) first)
each_alike first [] [] h p g = alike first first refl
each_alike first [] (other ∷ later) h p g = absurd h
each_alike first (bytes ∷ documents) [] h p g = absurd h
each_alike first (bytes ∷ documents) (other ∷ later) h p zero =
    alike first other (same_structure first other bytes h.0 (All-head (PassesBeside (Some (structure_in first))) bytes documents p))
each_alike first (bytes ∷ documents) (other ∷ later) h p (suc g) =
    each_alike first documents later h.1 (All-tail (PassesBeside (Some (structure_in first))) bytes documents p) g

pub all_alike : (first : Config) (documents : List (List ℕ)) (later : List Config) → AllZip IsReadFromBytes documents later → All (PassesBeside (Some (structure_in first))) documents → (g : ℕ) → AreAlike first (in_force first later g)
all_alike first documents later h p zero = alike first first refl
all_alike first documents later h p (suc g) = each_alike first documents later h p g

as_many : (documents : List (Vec ℕ)) (later : List Config) → AllZip IsReadFromBytes (map bytes_of documents) later → length later ≡ length documents
as_many documents later h = AllZip-long IsReadFromBytes (map bytes_of documents) later h ∙ length-map documents bytes_of

pub few : (documents : List (Vec ℕ)) (later : List Config) → AllZip IsReadFromBytes (map bytes_of documents) later → length documents < most_generations → length later < most_generations
few documents later h l = subst (λ n. n < most_generations) (sym (as_many documents later h)) l

-- ---- what was read

pub count_read : (documents : List (Vec ℕ)) (r : Result Generations GenerationFault) → IfOk r (λ gens. AllZip IsReadFromBytes (map bytes_of documents) gens.later) → IfOk r (λ gens. count_of gens ≡ length documents + 1)
count_read documents (Ok gens) h = let e : length gens.later ≡ length documents = as_many documents gens.later h in omega (arith, e)
count_read documents (Err found) h = tt

at_later : (first : Config) (documents : List (List ℕ)) (later : List Config) → AllZip IsReadFromBytes documents later → (g : ℕ) (bytes : List ℕ) → slice_get documents g ≡ Some bytes → IsReadFromBytes bytes (unwrap_or (slice_get later g) first)
at_later first [] [] h g bytes e = absurd (none-some bytes e)
at_later first [] (other ∷ later) h g bytes e = absurd h
at_later first (x ∷ documents) [] h g bytes e = absurd h
at_later first (x ∷ documents) (other ∷ later) h zero bytes e = subst (λ b. IsReadFromBytes b other) (same_Some x bytes e) h.0
at_later first (x ∷ documents) (other ∷ later) h (suc g) bytes e = at_later first documents later h.1 g bytes e

at_number : (start : List ℕ) (documents : List (List ℕ)) (gens : Generations) → IsReadFromBytes start gens.first → AllZip IsReadFromBytes documents gens.later → AreReadFrom (start ∷ documents) gens
at_number start documents gens here h zero bytes e = subst (λ b. IsReadFromBytes b gens.first) (same_Some start bytes e) here
at_number start documents gens here h (suc g) bytes e = at_later gens.first documents gens.later h g bytes e

pub all_read : (start : List ℕ) (first : Config) (documents : List (List ℕ)) (r : Result Generations GenerationFault) → IsReadFromBytes start first → IfOk r (λ gens. gens.first ≡ first) → IfOk r (λ gens. AllZip IsReadFromBytes documents gens.later) → IfOk r (AreReadFrom (start ∷ documents))
all_read start first documents (Ok gens) here e h = at_number start documents gens (subst (λ config. IsReadFromBytes start config) (sym e) here) h
all_read start first documents (Err found) here e h = tt
