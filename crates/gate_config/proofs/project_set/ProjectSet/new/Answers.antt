use Rattle.std.proofs.Common.{◌∙◌, Ok, ap, map, string_bytes, sym}
use Rattle.std.specs.BTreeSet.{IsFromIterResult}
use Rattle.std.specs.String.{string_cmp}
use Rattle.std.proofs.lemmas.Iterator.Adapters.{YieldsList-from_vec, fact_from_collect}
use Rattle.gate_config.proofs.ProjectSets.{same_names}
use Rattle.gate_config.specs.Names.{is_among}
use Rattle.gate_config.proofs.project_set.ProjectSet.new.Goals as goal

pub invariant_of-result : goal.invariant_of-result
invariant_of-result c =
    let ran = c.in_ok-from_iter.ensures.ran in
    let set = c.in_ok-from_iter.field-0 in
    let made : IsFromIterResult string_cmp c.args.names.items set =
    fact_from_collect {E = Unit {0}} (λ items made. IsFromIterResult string_cmp items made) (Ok set) (ran.1, ran.3, ran.4) (YieldsList-from_vec {s = ran.0} c.args.names.items ran.2.0 (ran.2.1 ∙ c.args.names.ok.0)) in
    record {
      filtered = λ name there.
          c.filter_of-filter.ensures name (ap (λ names. is_among (map string_bytes names) name) c.as_slice.ensures.value ∙ sym (same_names set.keys c.args.names.items made.0 name) ∙ there);
    }

pub returns : goal.returns
returns c =
    let ran = c.in_ok-from_iter.ensures.ran in
    let set = c.in_ok-from_iter.field-0 in
    let made : IsFromIterResult string_cmp c.args.names.items set =
    fact_from_collect {E = Unit {0}} (λ items made. IsFromIterResult string_cmp items made) (Ok set) (ran.1, ran.3, ran.4) (YieldsList-from_vec {s = ran.0} c.args.names.items ran.2.0 (ran.2.1 ∙ c.args.names.ok.0)) in
    same_names set.keys c.args.names.items made.0
