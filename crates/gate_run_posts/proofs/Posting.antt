-- What is changed at one place of lists of lists.
use Rattle.std.proofs.Common.{◌≡◌, ◌∙◌, refl, sym, ap, subst, ℕ, zero, suc, ◌<◌, ◌≤◌, List, [], ◌∷◌, length, map, slice_index_or, slice_set, Some, None, arith}
use Rattle.std.specs.Global.{Vec}
use Rattle.std.specs.Prelude.{option_and_then, slice_get}
use Rattle.gate_run_posts.specs.PipelineEnds.{ends_of}
use Rattle.gate_run_posts.specs.Ports.{at_pipeline, slice_change}
use Rattle.gate_run_posts.specs.declared.posts.PipelinePosts.{PipelinePosts}

module _ {A B : Type 0} (f : A → B) where
  pub changed : (xs : List A) (i : ℕ) (y d : A) (change : B → B) → i < length xs → f y ≡ change (f (slice_index_or xs i d)) → map f (slice_set xs i y) ≡ slice_change i change (map f xs)
  changed [] i y d change low e = absurd (omega (arith, low))
  changed (x ∷ xs) zero y d change low e = ap (λ z. z ∷ map f xs) e
  changed (x ∷ xs) (suc i) y d change low e = ap (λ zs. f x ∷ zs) (changed xs i y d change (omega (arith, low)) e)

  pub got : (xs : List A) (i : ℕ) (d : A) → i < length xs → slice_get (map f xs) i ≡ Some (f (slice_index_or xs i d))
  got [] i d low = absurd (omega (arith, low))
  got (x ∷ xs) zero d low = refl
  got (x ∷ xs) (suc i) d low = got xs i d (omega (arith, low))

  pub got_none : (xs : List A) (i : ℕ) → length xs ≤ i → slice_get (map f xs) i ≡ None
  got_none [] i high = refl
  got_none (x ∷ xs) zero high = absurd (omega (arith, high))
  got_none (x ∷ xs) (suc i) high = got_none xs i (omega (arith, high))

-- at a place that is there, what it would be elsewhere doesn't matter
pub any_default : {A : Type 0} (xs : List A) (i : ℕ) (d e : A) → i < length xs → slice_index_or xs i d ≡ slice_index_or xs i e
any_default [] i d e low = absurd (omega (arith, low))
any_default (x ∷ xs) zero d e low = refl
any_default (x ∷ xs) (suc i) d e low = any_default xs i d e (omega (arith, low))

-- a place of a list that was looked up twice is there both times
pub within : {A : Type 0} (rows : List (Vec A)) (i j : ℕ) (seen row : Vec A) → i < length rows → seen ≡ slice_index_or rows i seen → row ≡ slice_index_or rows i row → j < length seen.items → j < length row.items
within rows i j seen row low is_seen is_row there = subst (λ (v : Vec _). j < length v.items) (is_seen ∙ any_default rows i seen row low ∙ sym is_row) there

-- the ends of a pipeline that was looked up
pub found : (tenants : List (Vec PipelinePosts)) (t p : ℕ) (seen tenant : Vec PipelinePosts) (pipeline : PipelinePosts) → t < length tenants → seen ≡ slice_index_or tenants t seen → tenant ≡ slice_index_or tenants t tenant → p < length seen.items →
    pipeline ≡ slice_index_or tenant.items p pipeline → at_pipeline t p (map (λ v. map ends_of v.items) tenants) ≡ Some (ends_of pipeline)
found tenants t p seen tenant pipeline low is_seen is_tenant there is_pipeline =
    ap (option_and_then (λ pipelines. slice_get pipelines p)) (got (λ (v : Vec PipelinePosts). map ends_of v.items) tenants t tenant low)
    ∙ ap (λ (v : Vec PipelinePosts). slice_get (map ends_of v.items) p) (sym is_tenant)
    ∙ got ends_of tenant.items p pipeline (within tenants t p seen tenant low is_seen is_tenant there)
    ∙ ap (λ x. Some (ends_of x)) (sym is_pipeline)
