use Rattle.std.proofs.Common.{◌∙◌, ◌+◌, sym, ap, subst, arith, List, ℕ}
use Rattle.std.specs.Prelude.{Ok, string_bytes}
use Rattle.std.specs.Str.Lines.{lines}
use Rattle.gate_config.specs.declared.generations.Generations.{Generations}
use Rattle.gate_core.specs.Inner.Replays.{PlaysLine, played}
use Rattle.gate_core.specs.Script.{line_adds, lines_from}
use Rattle.gate_core.specs.Worlds.{state_of}
use Rattle.gate_core.proofs.Lines.{line_played}
use Rattle.gate_core.proofs.playing.play_script.Goals as goal

pub loop-rest-preserved : goal.loop-rest-preserved
loop-rest-preserved g c =
    let gens = c.args.gens.now in
    let before = c.loop-rest.before in
    let state = state_of c.loop-rest.player.world in
    let text = string_bytes c.loop-rest.player.text in
    let said = line_adds c.first_line.result.0.now in
    let next = state_of c.play_line.new.self.world in
    let longer = string_bytes c.play_line.new.self.text in
    let rest = lines_from (before + 1 + 1) (lines c.first_line.result.1.now) in
    record {
      same = c.in_ok-play_line.ensures.gens ∙ c.loop-rest.invariant.same;
      counts = c.in_ok-play_line.ensures.counts;
      few = omega (arith, c.first_line.ensures.shorter, c.loop-rest.invariant.few);
      completes =
          sym (line_played gens state next text longer said (before + 1) c.in_ok-play_line.field-0 rest
          (subst (λ (k : Generations). PlaysLine k state text said next longer (before + 1) (Ok c.in_ok-play_line.field-0)) c.loop-rest.invariant.same c.in_ok-play_line.ensures.plays))
          ∙ sym (ap (λ (ls : List (List ℕ)). played gens state text (lines_from (before + 1) ls)) c.first_line.ensures.lines)
          ∙ c.loop-rest.invariant.completes;
    }
