use Rattle.gate_config.proofs.Attributes.{attributes_none, attributes_more, attributes_all}
use Rattle.gate_config.proofs.Each.{flat_exit, flat_all}
use Rattle.gate_config.proofs.rules.read_attributes.Goals as goal

pub loop-key-init : goal.loop-key-init
loop-key-init c = attributes_none c.unlisted-read.ensures

pub returns-in_err-read_attribute : goal.returns-in_err-read_attribute
returns-in_err-read_attribute c = flat_exit _ c.key-item.result c.from_residual.result c.from_residual.ensures.1 c.loop-key-test.true c.key-item.is c.loop-key.invariant.tested (rw c.as_str.ensures.value at c.in_err-read_attribute.ensures)

pub loop-key-preserved : goal.loop-key-preserved
loop-key-preserved c =
    attributes_more c.key-item.result c.loop-key-test.true c.key-item.is c.loop-key.invariant
    (rw c.as_str.ensures.value at c.in_ok-read_attribute.ensures.0) (rw c.as_str.ensures.value at c.in_ok-read_attribute.ensures.1)

pub returns : goal.returns
returns c = (flat_all c.loop-key-test.false c.loop-key.invariant.tested, attributes_all c.loop-key-test.false c.requires c.loop-key.invariant)
