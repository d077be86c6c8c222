use Rattle.std.proofs.Common.{length}
use Rattle.gate_main_program.proofs.Printing.{fails, has_status}
use Rattle.gate_main_program.proofs.program.run_words.Goals as goal

pub returns-in-Err-clause-fails : goal.returns-in-Err-clause-fails
returns-in-Err-clause-fails g c not_nought =
    let said = c.said_by-said in
    has_status (length c.args.words.now) (g.R.Read.remaining c.args.input.now) c.args.output.now c.print_said.new.output c.fail.result c.in-Err.fault c.fail.ensures
    (fails (length c.args.words.now) (g.R.Read.remaining c.args.input.now) c.args.output.now c.print_said.new.output said.result c.in-Err.fault said.ensures.late said.ensures.fault c.in-Err.ensures.fails)
