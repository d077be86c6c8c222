use Rattle.std.proofs.Common.{arith, ◌≡◌, ◌∙◌, ◌<◌, ap, sym, length, true}
use Rattle.gate_config.specs.Lookups.{connections_of, lists}
use Rattle.gate_tenant.specs.Dispatching.{is_marked}
use Rattle.gate_tenant.proofs.Ranges.{ended, passes, unlisted}
use Rattle.gate_tenant.proofs.matching.all_marked.Goals as goal
use Rattle.gate_tenant.proofs.matching.all_marked.Goals.{else-listed-via-then-listed+else-not-marks-conn, else-listed-via-else-listed}

pub loop-conn-preserved : goal.loop-conn-preserved
loop-conn-preserved c =
    let config = c.args.config.now in
    let all : length c.connections-conn-end.result.now ≡ length (connections_of config) = ap length c.connections-conn-end.ensures in
    let some : c.loop-conn.conn < length (connections_of config) = omega (arith, c.loop-conn-test.true, all) in
    let marked : is_marked config c.args.tenant.0 c.args.marks.now c.loop-conn.conn ≡ true = elim c.else-listed.branch [
      | else-listed-via-then-listed+else-not-marks-conn w ↦ ended (lists config c.args.tenant.0 c.loop-conn.conn) _ w.if-not-marks-conn.false
      | else-listed-via-else-listed w ↦ unlisted (lists config c.args.tenant.0 c.loop-conn.conn) _ (sym c.listed.ensures ∙ w.if-listed.false)
    ] in
    passes (is_marked config c.args.tenant.0 c.args.marks.now) c.loop-conn.conn (length (connections_of config)) some marked ∙ c.loop-conn.invariant
