-- The laws of runs, for what their hypotheses are gathered in.
use Rattle.std.proofs.Common.{arith}
use Rattle.scale_base.specs.Run.{run, run_of, setting_of, start_of}
use Rattle.cost_theory.proofs.Laws.{is_program, run-within}
use Rattle.code_text.specs.EdgeCosts.{weights}
use Rattle.code_text.specs.TextGraph.{text_graph}
use Rattle.code_text.specs.Text.{kind_at, text_of}
use Rattle.graph_runs.specs.Laws.{RunsAreTransitions, KeptRunsAreKeptTransitions, KeptRunsAreBelow, KeptRunsEnd, CyclesLeftAreBelow, ImageRunsEnd, ImageRunsAreKeptTransitions, ImageRunsAreBelow}
use Rattle.graph_runs.proofs.RunLaws.{run_transitions}
use Rattle.graph_runs.proofs.KeptRuns.{kept_run, kept_worst}
use Rattle.code_text.proofs.Laws.{weights_are}
use Rattle.graph_runs.proofs.Lengths.{going_length, length_le_sum}
use Rattle.graph_runs.proofs.Images.{image_starts}

pub runs_are_moves : RunsAreTransitions
runs_are_moves t env s code l costs at is n rs h = run_transitions t env at.text code is.lists is.words l costs s at.state at.entry n rs h

pub runs_are_kept_moves : KeptRunsAreKeptTransitions
runs_are_kept_moves t env s code l extent costs at is n c h =
    kept_run t env at.text code is.reached.lists is.reached.words is.calls l extent is.loops is.whole costs s at.state at.entry n c h

pub runs_are_below : KeptRunsAreBelow
runs_are_below t env s code l extent costs nums at is are n c h =
    kept_worst t env at.text code is.reached.lists is.reached.words is.calls l extent is.loops is.whole costs s at.state at.entry nums are n c h

pub cycles_left_are_below : CyclesLeftAreBelow
cycles_left_are_below t code l extent costs nums is are r c kept =
    let law = run-within (text_graph t code) l extent (weights t code costs) nums (record {
      program = is_program (kind_at t) t.entry code is.reached.lists is.reached.words is.calls;
      accepted = is.loops;
      weights = weights_are t code costs;
      numbers = are;
    }) kept.moves kept.kept in
    let cost = kept.cost in
    omega (arith, law, cost)

pub kept_runs_end : KeptRunsEnd
kept_runs_end t env s code l extent costs nums at is are some n c h goes =
    let below = runs_are_below t env s code l extent costs nums at is are n c h in
    let size = going_length env s n goes in
    let least = length_le_sum (λ x. costs x.class) (λ x. some x.class) (run env s n).steps in
    omega (arith, below, size, least)

pub image_runs_are_kept_transitions : ImageRunsAreKeptTransitions
unfolding run_of
image_runs_are_kept_transitions file image levels input code l extent costs ok is n c h =
    runs_are_kept_moves (text_of image) (setting_of image levels input) (start_of image levels) code l extent costs (image_starts file image levels input ok) is n c h

pub image_runs_are_below : ImageRunsAreBelow
unfolding run_of
image_runs_are_below file image levels input code l extent costs nums ok is are n c h =
    runs_are_below (text_of image) (setting_of image levels input) (start_of image levels) code l extent costs nums (image_starts file image levels input ok) is are n c h

pub image_runs_end : ImageRunsEnd
unfolding run_of
image_runs_end file image levels input code l extent costs nums ok is are some n c h goes =
    kept_runs_end (text_of image) (setting_of image levels input) (start_of image levels) code l extent costs nums (image_starts file image levels input ok) is are some n c h goes
