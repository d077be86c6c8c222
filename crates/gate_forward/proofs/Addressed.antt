-- Items for tenants, the last tenant's first.
use Rattle.std.proofs.Common.{◌≡◌, ◌∙◌, refl, sym, ap, ℕ, zero, suc, ◌+◌, ◌-◌, ◌<◌, ◌≤◌, List, [], length, Option, Some, None, option_map, arith}
use Rattle.std.specs.List.{cons_option, filter_map, range_with_len}
use Rattle.gate_record.specs.declared.ids.TenantId.{TenantId}
use Rattle.gate_record.specs.declared.transit.TenantItem.{TenantItem}
use Rattle.gate_config.specs.declared.config.Config.{Config}
use Rattle.gate_config.specs.declared.config.TenantSpec.{TenantSpec}
use Rattle.gate_config.specs.declared.generations.Generations.{Generations}
use Rattle.gate_config.specs.Lookups.{tenants_of}
use Rattle.gate_forward.specs.Forwarding.{by_tenant, for_tenant}

-- how many tenants there are, by what is read of the first generation
pub as_many : (gens : Generations) {first : Config} {tenants : List TenantSpec} → tenants ≡ tenants_of first → first ≡ gens.first → length tenants ≡ length (tenants_of gens.first)
as_many gens tenants first = ap length tenants ∙ ap (λ config. length (tenants_of config)) first

module _ (gets : ℕ → Option TenantItem) where
  -- what the tenants get from this one on
  abbrev pub from : ℕ → ℕ → List (TenantId × TenantItem)
  from t k = filter_map (λ u. option_map (for_tenant u) (gets u)) (range_with_len t k)

  -- one tenant more, before the others
  pub one_more : (n t : ℕ) (item : Option TenantItem) → t < n → item ≡ gets t → cons_option (option_map (for_tenant t) item) (from (t + 1) (n - (t + 1))) ≡ from t (n - t)
  one_more n t item h is =
      let rest : n - t ≡ suc (n - (t + 1)) = omega (arith, h) in
      ap (λ got. cons_option (option_map (for_tenant t) got) (from (t + 1) (n - (t + 1)))) is ∙ ap (from t) (sym rest)

  -- not more than tenants
  pub few : (t k : ℕ) → length (from t k) ≤ k
  few t zero = omega arith
  few t (suc k) = one_at_most _ (gets t) (few (t + 1) k)
    where
      one_at_most : (rest : List (TenantId × TenantItem)) (o : Option TenantItem) → length rest ≤ k → length (cons_option (option_map (for_tenant t) o) rest) ≤ suc k
      one_at_most rest None h = omega (arith, h)
      one_at_most rest (Some item) h = omega (arith, h)

nobody_from : (t n : ℕ) → from (λ _. None) t n ≡ []
nobody_from t zero = refl
nobody_from t (suc n) = nobody_from (t + 1) n

-- where nobody gets anything
pub nobody : (gens : Generations) → [] ≡ by_tenant gens (λ _. None)
nobody gens = sym (nobody_from 0 (length (tenants_of gens.first)))
