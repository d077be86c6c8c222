use Rattle.std.proofs.Common.{rules}
use Rattle.gate_run.proofs.running.run_works.Goals as goal

pub scoped-requires : goal.scoped-requires
scoped-requires g c = record {
  at = λ a. (
    c.requires,
    (search rules, record { shared = c.type_bounds.sync-G.shared }, record { shared = c.type_bounds.sync-R.shared }),
  );
}
