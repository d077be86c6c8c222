use Rattle.std.proofs.Common.{◌∙◌, ap, false}
use Rattle.gate_source.specs.Streams.{still_told}
use Rattle.gate_source.proofs.Reading.{told_first}
use Rattle.gate_source.proofs.reader_feed.ReaderFeed.new.Goals as goal

pub returns-clause-tells : goal.returns-clause-tells
returns-clause-tells g c =
    ap (λ waiting. still_told waiting false c.new.result (g.R.Read.remaining c.args.reader)) c.new-2.ensures.items
    ∙ told_first c.new.result (g.R.Read.remaining c.args.reader) c.new.ensures
