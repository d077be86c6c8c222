use Rattle.std.proofs.Common.{map}
use Rattle.gate_config.proofs.InOrder.{all_read, count_read}
use Rattle.gate_config.specs.Generations.{bytes_of}
use Rattle.gate_config.proofs.read_all.read_in_order.Goals as goal

pub returns-in-Ok-clause-count : goal.returns-in-Ok-clause-count
returns-in-Ok-clause-count c = count_read c.args.later.now c.read_behind.result c.read_behind.ensures.read

pub returns-in-Ok-clause-read : goal.returns-in-Ok-clause-read
returns-in-Ok-clause-read c =
    all_read c.args.first.now c.in-Ok.config (map bytes_of c.args.later.now) c.read_behind.result c.in-Ok.ensures.read c.read_behind.ensures.first c.read_behind.ensures.read
