-- Further definitions about `Talks`, which only private contracts and proofs cite.
use Rattle.std.specs.Prelude.{◌≡◌, ℕ, List, map, Option, Some, None}
use Rattle.gate_record.specs.declared.record.Record.{Record}
use Rattle.gate_record.specs.Prefixes.{IsPrefixOf}
use Rattle.gate_config.specs.declared.config.Config.{Config}
use Rattle.gate_run_posts.specs.Ports.{PostsView}
use Rattle.gate_status.specs.declared.fault.SessionEnd.{SessionEnd}
use Rattle.gate_status.specs.Talks.{Exchange, Talk}

-- the first of these lines were answered, in order, and all of them where the session goes on
abbrev pub AreHeard : Option SessionEnd → List Record → List Exchange → Type 0
AreHeard None lines exchanges = map (λ (exchange : Exchange). exchange.line) exchanges ≡ lines
AreHeard (Some how) lines exchanges = IsPrefixOf (map (λ (exchange : Exchange). exchange.line) exchanges) lines

pub record Talks (config : Config) (lines : List Record) (how : Option SessionEnd) (written written' : Option (List ℕ)) (posts posts' : PostsView) : Type 0 where
  pub exchanges : List Exchange
  pub heard : AreHeard how lines exchanges
  pub talk : Talk config how exchanges written written' posts posts'
