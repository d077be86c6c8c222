use Rattle.gate_main_program.proofs.Printing.{are_generations}
use Rattle.gate_main_program.proofs.serving.shared_generations.Goals as goal

pub returns : goal.returns
returns c =
    let read = c.in_ok-read_generations.ensures in
    are_generations c.args.documents.items c.as_slice.result.now c.in_ok-read_generations.field-0 c.in_ok-new.field-0 c.as_slice.ensures.value c.in_ok-new.ensures read.count read.read read.passed
