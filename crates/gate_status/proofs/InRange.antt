-- The pipelines of a configuration and those of its posts are the same.
use Rattle.std.proofs.Common.{◌≡◌, ◌∙◌, ◌<◌, ◌≤◌, ◌+◌, ℕ, zero, suc, List, [], ◌∷◌, length, map, refl, sym, ap, subst, Option, Some, None, Ok, Err, arith}
use Rattle.std.specs.Prelude.{option_map, option_and_then, slice_get, unwrap_or, Result}
use Rattle.std.specs.List.{range_with_len}
use Rattle.std.proofs.lemmas.Option.{slice_get-map, slice_get_past, slice_get_within}
use Rattle.std.proofs.lemmas.List.FromFn.{length-range_with_len}
use Rattle.std.proofs.lemmas.List.{length-map}
use Rattle.gate_config.specs.declared.config.Config.{Config}
use Rattle.gate_config.specs.declared.config.TenantSpec.{TenantSpec}
use Rattle.gate_config.specs.Lookups.{pipelines_of, tenants_of}
use Rattle.gate_run_posts.specs.Ports.{PostEnds, PostsView, at_pipeline, changed_at, pipeline_counts, posted, slice_change, PostEnd}
use Rattle.gate_status.specs.declared.command.Command.{Command}
use Rattle.gate_status.specs.declared.command.Command.TheVariants as command
use Rattle.gate_status.specs.declared.command.CommandFault.{CommandFault}
use Rattle.gate_status.specs.declared.reply.Reply.{Reply}
use Rattle.gate_status.specs.declared.reply.Reply.TheVariants as reply
use Rattle.gate_run_posts.specs.declared.posts.PostFault.{PostFault}
use Rattle.gate_run_posts.specs.declared.posts.PostFault.TheVariants.{NoPipeline, Full}
use Rattle.gate_run_posts.specs.PipelineEnds.{Judges}
use Rattle.gate_status.specs.Replies.{ArePostsFor, IsMissing, IsThere, MayReply, addressed, posted_by, with_posted}
use Rattle.gate_status.specs.Inner.Replies.{reply_to}

the_same : {X : Type 0} (x y : X) → Some x ≡ Some y → x ≡ y
the_same x y e = cc

module _ {A : Type 0} where
  past : (xs : List A) (i : ℕ) → slice_get xs i ≡ None → length xs ≤ i
  past [] i e = omega arith
  past (x ∷ xs) zero e = absurd (cc)
  past (x ∷ xs) (suc i) e = omega (arith, past xs i e)

  -- ---- what is changed at one place leaves the counts

  many : (i : ℕ) (change : A → A) (xs : List A) → length (slice_change i change xs) ≡ length xs
  many i change [] = refl
  many zero change (x ∷ xs) = refl
  many (suc i) change (x ∷ xs) = ap suc (many i change xs)

  all_many : (t p : ℕ) (change : A → A) (xss : List (List A)) → map length (changed_at t p change xss) ≡ map length xss
  all_many t p change [] = refl
  all_many zero p change (xs ∷ xss) = ap (λ n. n ∷ map length xss) (many p change xs)
  all_many (suc t) p change (xs ∷ xss) = ap (λ ns. length xs ∷ ns) (all_many t p change xss)

number_here : (a m i : ℕ) → i < m → slice_get (range_with_len a m) i ≡ Some (a + i)
number_here a zero i low = absurd (omega (arith, low))
number_here a (suc m) zero low = ap Some (omega arith)
number_here a (suc m) (suc i) low = number_here (a + 1) m i (omega (arith, low)) ∙ ap Some (omega arith)

module _ (config : Config) (posts : List (List PostEnds)) (fit : map length posts ≡ pipeline_counts config) where
  abbrev tenants : ℕ
  tenants = length (tenants_of config)

  rows : length posts ≡ tenants
  rows = sym (length-map posts length) ∙ ap length fit ∙ length-map (range_with_len 0 tenants) (λ t. length (pipelines_of config t)) ∙ length-range_with_len 0 tenants

  row : (t : ℕ) (ends : List PostEnds) → slice_get posts t ≡ Some ends → length ends ≡ length (pipelines_of config t)
  row t ends at =
      let low : t < tenants = omega (arith, slice_get_within posts t ends at, rows) in
      the_same (length ends) (length (pipelines_of config t))
      (sym (slice_get-map length posts t ∙ ap (option_map length) at)
      ∙ ap (λ ns. slice_get ns t) fit
      ∙ slice_get-map (λ i. length (pipelines_of config i)) (range_with_len 0 tenants) t
      ∙ ap (option_map (λ i. length (pipelines_of config i))) (number_here 0 tenants t low ∙ ap Some (omega arith)))

  no_row : (t : ℕ) → slice_get posts t ≡ None → pipelines_of config t ≡ []
  no_row t at =
      let high : tenants ≤ t = omega (arith, past posts t at, rows) in
      ap (λ o. unwrap_or (option_map (λ (tenant : TenantSpec). tenant.pipelines) o) []) (slice_get_past (tenants_of config) t high)

  missing_by : (t p : ℕ) (o : Option (List PostEnds)) → slice_get posts t ≡ o → option_and_then (λ (ends : List PostEnds). slice_get ends p) o ≡ None → length (pipelines_of config t) ≤ p
  missing_by t p None at e = omega (arith, ap length (no_row t at))
  missing_by t p (Some ends) at e = omega (arith, past ends p e, row t ends at)

  -- where there is no place for posts there is no pipeline
  pub is_missing : (t p : ℕ) → at_pipeline t p posts ≡ None → length (pipelines_of config t) ≤ p
  is_missing t p e = missing_by t p (slice_get posts t) refl e

  there_by : (t p : ℕ) (end : PostEnds) (o : Option (List PostEnds)) → slice_get posts t ≡ o → option_and_then (λ (ends : List PostEnds). slice_get ends p) o ≡ Some end → p < length (pipelines_of config t)
  there_by t p end None at e = absurd (cc)
  there_by t p end (Some ends) at e = omega (arith, slice_get_within ends p end e, row t ends at)

  -- and where there is one there is
  pub is_there : (t p : ℕ) (end : PostEnds) → at_pipeline t p posts ≡ Some end → p < length (pipelines_of config t)
  is_there t p end e = there_by t p end (slice_get posts t) refl e

-- ---- posts stay those of the configuration

with_many : (asked : Result Command CommandFault) (posts : List (List PostEnds)) → map length (with_posted asked posts) ≡ map length posts
with_many (Err why) posts = refl
with_many (Ok command.Status) posts = refl
with_many (Ok command.Stop) posts = refl
with_many (Ok command.Renew) posts = refl
with_many (Ok command.Quit) posts = refl
with_many (Ok (command.Manage tenant pipeline manage)) posts = all_many tenant.0 pipeline.0 (λ (ends : PostEnds). record ends { management = posted manage ends.management }) posts
with_many (Ok (command.Result tenant pipeline ended)) posts = all_many tenant.0 pipeline.0 (λ (ends : PostEnds). record ends { results = posted ended ends.results }) posts

by_many : (asked : Result Command CommandFault) (r : Reply) (posts : List (List PostEnds)) → map length (posted_by asked r posts) ≡ map length posts
by_many asked (reply.Shown text) posts = refl
by_many asked reply.Posted posts = with_many asked posts
by_many asked reply.Full posts = refl
by_many asked reply.NoPipeline posts = refl
by_many asked reply.Stopping posts = refl
by_many asked reply.Renewed posts = refl
by_many asked reply.Last posts = refl
by_many asked reply.Bye posts = refl
by_many asked (reply.Refused why) posts = refl

pub still_for : (config : Config) (asked : Result Command CommandFault) (r : Reply) (posts posts' : PostsView) → ArePostsFor config posts → posts'.pipelines ≡ posted_by asked r posts.pipelines → ArePostsFor config posts'
still_for config asked r posts posts' fit e = ap (map length) e ∙ by_many asked r posts.pipelines ∙ fit

-- ---- the reply to a post

module _ {T : Type 0} (config : Config) (posts : List (List PostEnds)) (fit : map length posts ≡ pipeline_counts config) (asked : Result Command CommandFault) (t p : ℕ) (to : addressed asked ≡ Some (t, p)) (kind : PostEnds → PostEnd T) where
  pub may_reply : (answer : Result (Unit {0}) (PostFault T)) → Judges kind t p posts answer → MayReply config asked (reply_to answer)
  may_reply (Ok done) judged = subst (IsThere config) (sym to) (is_there config posts fit t p judged.0 judged.1)
  may_reply (Err (NoPipeline value)) judged = subst (IsMissing config) (sym to) (is_missing config posts fit t p judged)
  may_reply (Err (Full value)) judged = subst (IsThere config) (sym to) (is_there config posts fit t p judged.0 judged.1)
