use Rattle.std.proofs.Common.{ℕ, Bool, sym, ap, subst}
use Rattle.loop_file.specs.Kept.{noted_loops}
use Rattle.rewritten_runs.specs.Stubs.{plain_weights}
use Rattle.program_sources.specs.declared.reading.Sources.{Sources}
use Rattle.scaler.proofs.Laws.{timed_are, timed_count, timed_short, timed_slow, timed_total}
use Rattle.plan_graphs.specs.Sketched.{AreMarkedBy, marks_kept}
use Rattle.plan_graphs.specs.Program.{AreMarksDrawn, IsWalkDrawn}
use Rattle.plan_graphs.proofs.ProgramFacts.{told_of, turns_size, marks_kept_at, holds, marks_drawn, walk_drawn}
use Rattle.plan_graphs.proofs.program.draw_program.Goals as goal

pub marked_of-requires : goal.marked_of-requires
marked_of-requires c = record {
  tree = ((noted_loops c.args.sources.now.notes).inside, c.in_ok-timed.ensures.tree_is.tree);
  weights_size = timed_count c.args.sources.now.power c.args.sources.now.view c.args.sources.now.notes c.in_ok-timed.timed c.in_ok-timed.ensures;
  worst_size = c.in_ok-timed.ensures.worst_is.size;
  sizes = c.in_ok-timed.ensures.sizes;
}

pub draw_known-requires-clause-known : goal.draw_known-requires-clause-known
draw_known-requires-clause-known c = record {
  tree = ((noted_loops c.args.sources.now.notes).inside, c.in_ok-timed.ensures.tree_is.tree);
  weights_size = timed_count c.args.sources.now.power c.args.sources.now.view c.args.sources.now.notes c.in_ok-timed.timed c.in_ok-timed.ensures;
  worst_size = c.in_ok-timed.ensures.worst_is.size;
  sizes = c.in_ok-timed.ensures.sizes;
}

pub draw_known-requires-clause-turns : goal.draw_known-requires-clause-turns
draw_known-requires-clause-turns c = turns_size c.args.sources.now.power c.args.sources.now.view c.args.sources.now.notes c.in_ok-timed.timed c.in_ok-timed.ensures

pub draw_known-requires-clause-marked : goal.draw_known-requires-clause-marked
draw_known-requires-clause-marked c = marks_kept_at c.args.sources.now.power c.args.sources.now.view c.args.sources.now.notes c.in_ok-timed.timed c.in_ok-timed.ensures c.in_ok-timed.timed.worst.slacks c.sources.inside.0.0.min_gain c.in_ok-marked.marked c.in_ok-marked.ensures

pub returns : goal.returns
returns c =
    let power = c.args.sources.now.power in
    let image = c.args.sources.now.view in
    let notes = c.args.sources.now.notes in
    let p = c.in_ok-timed.timed in
    let h = c.in_ok-timed.ensures in
    let x = p.worst in
    let n = h.worst_is.numbers.0 in
    let left = h.left n h.worst_is.numbers.1 in
    let marked = c.in_ok-marked.marked in
    let marked_is : AreMarkedBy p.graph p.tree x.slacks power.min_gain marked = subst (λ (gain : ℕ). AreMarkedBy p.graph p.tree x.slacks gain marked) (ap (λ (q : Sources). q.power.min_gain) c.sources.view_is) c.in_ok-marked.ensures in
    let known = c.in_ok-draw_known.ensures h.total h.total_is in
    let walk = known.walk in
    let plan = c.in_ok-draw_known.field-0 in
    let told = told_of n marked walk in
    let drawn = known.drawn told (holds power image notes p h marked walk left) in
    record {
      code = p.graph;
      tree = p.tree;
      told = told;
      code_is = h.code_is;
      tree_is = h.tree_is;
      numbers_are = timed_are power image notes p h;
      short = timed_short power image notes p h;
      in_time = (p.start, timed_slow power image notes p h);
      worst = timed_total power image notes p h plan.worst drawn.worst;
      marks_are = subst (λ (b : Bool). AreMarksDrawn power image p.graph p.tree n b (marks_kept marked)) (sym known.countable) (marks_drawn power image notes p h marked left marked_is);
      walk_is = subst (λ (b : Bool). IsWalkDrawn p.graph p.tree (plain_weights power image p.graph) (n.worst 0) b told) (sym known.walked)
          (walk_drawn power image notes p h h.total h.total_is marked walk known.is_walk);
      functions = drawn.functions;
      loops = drawn.loops;
      blocks_are = drawn.blocks_are;
      blocks = drawn.blocks;
    }
