use Rattle.std.proofs.Common.{◌∙◌, ap}
use Rattle.std.specs.BTreeMap.{is_at}
use Rattle.std.specs.Map.{remove_entry}
use Rattle.std.specs.Ordering.{nat_cmp}
use Rattle.gate_items.proofs.Entries.{insert_removed}
use Rattle.gate_items.proofs.index.Index.put_item.Goals as goal

pub returns-in-Err-clause-same_items : goal.returns-in-Err-clause-same_items
returns-in-Err-clause-same_items c =
    c.remove-item.ensures.entries
    ∙ ap (remove_entry (is_at (nat_cmp c.args.place))) c.in_ok-insert.ensures.entries
    ∙ insert_removed c.args.place c.args.item c.args.self.now.items.entries c.requires.place
