use Rattle.std.proofs.Common.{◌∙◌, sym}
use Rattle.gate_main_program.proofs.Printing.{held, not_both}
use Rattle.gate_main_program.proofs.serving.serve_words.Goals as goal
use Rattle.gate_main_program.proofs.serving.serve_words.Goals.{in-Ok, in-Err}

pub returns : goal.returns
returns g c = record {
  gens = c.in_ok-gens.gens;
  are = c.in_ok-gens.ensures;
  reports = elim c.match-open_all.branch [ in-Ok w ↦ held _ w.run-ran.result (c.in_ok-ran.ran, c.in_ok-ran._port) (sym w.ran-is ∙ c.in_ok-ran.was) w.run-ran.ensures | in-Err w ↦ not_both _ _ _ w.ran-is c.in_ok-ran.was ];
}
