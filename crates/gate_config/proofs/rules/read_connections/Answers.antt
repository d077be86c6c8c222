use Rattle.gate_config.proofs.Each.{plain_exit, read_more, plain_all, plain_read}
use Rattle.gate_config.proofs.rules.read_connections.Goals as goal

pub returns-in_err-read_connection : goal.returns-in_err-read_connection
returns-in_err-read_connection c = plain_exit _ c.connection-item.result c.from_residual.result c.from_residual.ensures.1 c.loop-connection-test.true c.connection-item.is c.loop-connection.invariant.tested (rw c.as_str.ensures at c.in_err-read_connection.ensures)

pub loop-connection-preserved : goal.loop-connection-preserved
loop-connection-preserved c = read_more c.connection-item.result c.in_ok-read_connection.field-0 c.in_ok-push.ensures.items c.loop-connection-test.true c.connection-item.is c.loop-connection.invariant (rw c.as_str.ensures at c.in_ok-read_connection.ensures.0) (rw c.as_str.ensures at c.in_ok-read_connection.ensures.1)

pub returns : goal.returns
returns c =
    (plain_all c.loop-connection-test.false c.loop-connection.invariant.tested, rw c.new.ensures (plain_read c.loop-connection-test.false c.loop-connection.invariant))
