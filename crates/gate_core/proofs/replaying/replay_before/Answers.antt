use Rattle.std.proofs.Common.{◌∙◌, sym}
use Rattle.std.proofs.lemmas.List.{length-map}
use Rattle.gate_config.specs.Generations.{bytes_of}
use Rattle.gate_core.proofs.replaying.replay_before.Goals as goal

pub returns-in-Ok-play_text-clause-text : goal.returns-in-Ok-play_text-clause-text
returns-in-Ok-play_text-clause-text g c = record {
  gens = c.in-Ok.gens;
  count = c.in-Ok.ensures.count ∙ sym (length-map c.args.documents.now bytes_of);
  read = c.in-Ok.ensures.read;
  passed = c.in-Ok.ensures.passed;
  lines = c.in-Ok-play_text.ensures.text.lines;
  parsed = c.in-Ok-play_text.ensures.text.parsed;
  plays = c.in-Ok-play_text.ensures.text.plays;
}
