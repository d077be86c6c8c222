use Rattle.std.proofs.Common.{rules}
use Rattle.std.proofs.iter.runs.Made.{chains}
use Rattle.gate_config.proofs.Views.{keys_in-from_keys}
use Rattle.gate_config.proofs.parts.keys_of_members.Goals as goal

pub returns : goal.returns
returns c = keys_in-from_keys c.in_ok-collect.field-0.items c.args.members.now.entries (search (rules, chains))
