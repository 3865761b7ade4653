-- A safe image keeps the promise, and so does a paced one.
use Rattle.std.proofs.Common.{◌≡◌, ℕ, zero, suc, ◌+◌, ◌-◌, ◌^◌, ◌<◌, ◌≤◌, Bool, List, [], ◌∷◌, length, Option, Some, None, refl, arith, sym, ap, ◌∙◌, subst}
use Rattle.std.specs.Prelude.{slice_get, slice_index}
use Rattle.std.proofs.lemmas.Option.{get_or_from_slice_get}
use Rattle.scale_base.specs.Image.{Image}
use Rattle.scale_base.specs.Run.{Run, HasExited, run_of, setting_of, start_of, starting_level}
use Rattle.scale_base.proofs.Laws.{run_stays}
use Rattle.power_model.specs.Numbers.{PowerModel}
use Rattle.power_model.specs.Price.{price, held_energy}
use Rattle.power_model.specs.Switches.{NeverRises}
use Rattle.power_model.proofs.Laws.{cycles-price}
use Rattle.cost_theory.specs.Graph.{Loops}
use Rattle.cost_theory.specs.Reached.{Code}
use Rattle.cost_theory.specs.Worst.{Numbers}
use Rattle.code_text.specs.Text.{text_of}
use Rattle.graph_runs.specs.KeptSteps.{Carried}
use Rattle.loop_file.specs.declared.notes.LoopNote.{LoopNote}
use Rattle.loop_file.specs.Kept.{noted_loops}
use Rattle.flow_graph.specs.FlowGraph.{FlowGraph}
use Rattle.loop_forest.specs.Tree.{LoopView, loops, IsTreeOf}
use Rattle.stub_writer.specs.Stubs.{Site}
use Rattle.paid_runs.specs.Patched.{IsTunedRun}
use Rattle.rewritten_runs.specs.Prices.{price_of}
use Rattle.rewritten_runs.specs.Promise.{EndsAsPromised}
use Rattle.rewritten_runs.specs.Followed.{HasEnded}
use Rattle.rewritten_runs.proofs.Laws.{program_of, kept_by_tree, over_stays, taken, taken_within}
use Rattle.image_check.specs.Laws.{SafeImagesKeepThePromise}
use Rattle.image_check.specs.PacedLaws.{PacedImagesKeepThePromise}
use Rattle.image_check.proofs.Tuned.{safe_runs, paced_runs}

module _ (power : PowerModel) (original foreign : Image) (sites : List Site) (code : Code) (l : Loops) (is_of : ℕ → ℕ → Bool) (n more : Numbers) (input : List ℕ) (steps status : ℕ) (c : Carried)
    (is_level : starting_level (length power.levels) foreign.keyed_segment < length power.levels)
    (r : IsTunedRun power original foreign sites (starting_level (length power.levels) foreign.keyed_segment) code l is_of n more input steps c)
    (exited : (run_of original (length power.levels) input steps).standing ≡ HasExited status) where
  abbrev levels : ℕ
  levels = length power.levels

  abbrev start : ℕ
  start = starting_level levels foreign.keyed_segment

  abbrev after : ℕ
  after = r.followed.followed.after

  -- what is so of the run behind its exit
  record IsEnd (run : Run) : Type 0 where
    exits : run.standing ≡ HasExited status
    output : run.state.output ≡ (run_of original levels input steps).state.output
    from : length (run_of original levels input steps).steps ≤ length run.steps
    to : length run.steps ≤ length (run_of original levels input steps).steps + more.worst 0
    cycles : (price power start run.steps).cycles ≤ (price_of power original input steps).cycles + more.worst 0
    in_time : (price power start run.steps).time ≤ power.deadline
    falls : NeverRises start run.steps
    energy : (price power start run.steps).energy ≤ held_energy power (price power start run.steps)

  end_is : IsEnd (run_of foreign levels input after)
  end_is =
      let one = cycles-price power (starting_level levels original.keyed_segment) (run_of original levels input steps).steps in
      let other = cycles-price power start (run_of foreign levels input after).steps in
      let cycles = r.cycles in
      record {
        exits = r.standing ∙ exited;
        output = r.output;
        from = r.not_fewer;
        to = r.not_more;
        cycles = omega (arith, one, other, cycles);
        in_time = r.time;
        falls = r.falls;
        energy = r.energy status exited;
      }

  -- the greater of the two numbers of steps
  abbrev last : ℕ
  last = steps + (after - steps)

  stays_ended : run_of foreign levels input last ≡ run_of foreign levels input after
  unfolding run_of
  stays_ended =
      let most : last ≡ (steps - after) + after = omega arith in
      let here : HasEnded (run_of foreign levels input after).standing = subst HasEnded (sym (r.standing ∙ exited)) tt in
      ap (run_of foreign levels input) most ∙ run_stays (setting_of foreign levels input) (start_of foreign levels) after (steps - after) (over_stays (setting_of foreign levels input) (run_of foreign levels input after) here)

  taken_by : taken (run_of original levels input steps) ≤ steps
  unfolding run_of
  taken_by = taken_within (setting_of original levels input) (start_of original levels) steps

  last_within : last ≤ steps + more.worst 0
  last_within =
      let asked = taken_by in
      let all = ap length r.followed.followed.steps in
      let late = r.followed.followed.after_is in
      let most = r.not_more in
      omega (arith, late, all, most, asked)

  pub promised : EndsAsPromised power original foreign (more.worst 0) input steps status
  promised =
      let e = subst IsEnd (sym stays_ended) end_is in
      record {
        after = last;
        from = omega arith;
        to = last_within;
        exits = e.exits;
        output = e.output;
        steps_from = e.from;
        steps_to = e.to;
        cycles = e.cycles;
        is_level = is_level;
        in_time = e.in_time;
        falls = e.falls;
        energy = e.energy;
      }

-- the bounds of the loops of notes
small_bounds : (v : FlowGraph) (notes : List LoopNote) (tree : LoopView) → IsTreeOf v notes tree → (k : ℕ) → k < (loops v tree).loops → (loops v tree).bound k ≤ 2 ^ 31
small_bounds v notes tree is k low = by_get (slice_get tree.bounds k) refl
  where
    none_index : (xs : List ℕ) (i : ℕ) → slice_get xs i ≡ None → slice_index xs i ≡ 0
    none_index [] i q = refl
    none_index (x ∷ xs) zero q = let never : ⊥ = cc in absurd never
    none_index (x ∷ xs) (suc i) q = none_index xs i q

    by_get : (o : Option ℕ) → slice_get tree.bounds k ≡ o → slice_index tree.bounds k ≤ 2 ^ 31
    by_get None e = let z = none_index tree.bounds k e in omega (arith, z)
    by_get (Some b) e = let z = get_or_from_slice_get tree.bounds k b 0 e in let small = is.tree.bound k b e in omega (arith, z, small)

pub promise_kept : SafeImagesKeepThePromise
promise_kept = λ power ok original_file file original foreign original_is foreign_is bytes no_key notes v tree graph_is tree_is found owner n least more s input steps status kept exited.
    let prog = program_of (text_of original) v notes tree graph_is tree_is in
    let k = kept_by_tree v notes tree tree_is original (length power.levels) input steps kept.carried kept.kept in
    let r = safe_runs power ok original_file file original foreign original_is foreign_is bytes no_key v.code (loops v tree) (noted_loops notes).inside prog (small_bounds v notes tree tree_is) found owner n least more s input steps kept.carried k in
    promised power original foreign _ v.code (loops v tree) _ n more input steps status kept.carried s.start r exited

pub paced_promise : PacedImagesKeepThePromise
paced_promise = λ power ok budget original_file file original foreign original_is foreign_is bytes no_key notes v tree graph_is tree_is found owner n least more s input steps status kept exited.
    let prog = program_of (text_of original) v notes tree graph_is tree_is in
    let k = kept_by_tree v notes tree tree_is original (length power.levels) input steps kept.carried kept.kept in
    let r = paced_runs power ok budget original_file file original foreign original_is foreign_is bytes no_key v.code (loops v tree) (noted_loops notes).inside prog (small_bounds v notes tree tree_is) found owner n least more s input steps kept.carried k in
    promised power original foreign _ v.code (loops v tree) _ n more input steps status kept.carried s.start r.0 exited
