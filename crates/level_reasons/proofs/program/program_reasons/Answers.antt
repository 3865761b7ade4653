use Rattle.loop_file.specs.Kept.{noted_loops}
use Rattle.rewritten_runs.specs.Stubs.{plain_weights}
use Rattle.scaler.proofs.Laws.{timed_are, timed_calls, timed_count, timed_low, timed_short, timed_slow, timed_total}
use Rattle.level_reasons.specs.Program.{numbers_of}
use Rattle.level_reasons.proofs.ProgramFacts.{in_range, plain_least, plain_left, turn_at, turns_size}
use Rattle.level_reasons.proofs.program.program_reasons.Goals as goal

pub least-requires-clause-tree : goal.least-requires-clause-tree
least-requires-clause-tree c = ((noted_loops c.args.sources.now.notes).inside, c.in_ok-timed.ensures.tree_is.tree)

pub least-requires-clause-weights : goal.least-requires-clause-weights
least-requires-clause-weights c = timed_count c.args.sources.now.power c.args.sources.now.view c.args.sources.now.notes c.in_ok-timed.timed c.in_ok-timed.ensures

pub least-requires-clause-calls : goal.least-requires-clause-calls
least-requires-clause-calls c = timed_calls c.args.sources.now.power c.args.sources.now.view c.args.sources.now.notes c.in_ok-timed.timed c.in_ok-timed.ensures

pub least-requires-clause-worst : goal.least-requires-clause-worst
least-requires-clause-worst c = in_range c.args.sources.now.power c.args.sources.now.view c.args.sources.now.notes c.in_ok-timed.timed c.in_ok-timed.ensures

pub edge_lines-requires : goal.edge_lines-requires
edge_lines-requires c = record {
  power = c.requires;
  flow = c.in_ok-timed.ensures.code_is.flow;
  tree = ((noted_loops c.args.sources.now.notes).inside, c.in_ok-timed.ensures.tree_is.tree);
  start = timed_low c.args.sources.now.power c.args.sources.now.view c.args.sources.now.notes c.in_ok-timed.timed c.in_ok-timed.ensures;
  slacks_size = c.in_ok-timed.ensures.sizes.slacks;
  rests_size = c.in_ok-timed.ensures.sizes.rests;
  turns_size = turns_size c.args.sources.now.power c.args.sources.now.view c.args.sources.now.notes c.in_ok-timed.timed c.in_ok-timed.ensures;
  after_size = c.in_ok-least.ensures.small.after_size;
  after_small = c.in_ok-least.ensures.small.after;
}

pub loop_lines-requires : goal.loop_lines-requires
loop_lines-requires c = record {
  power = c.requires;
  flow = c.in_ok-timed.ensures.code_is.flow;
  tree = ((noted_loops c.args.sources.now.notes).inside, c.in_ok-timed.ensures.tree_is.tree);
  start = timed_low c.args.sources.now.power c.args.sources.now.view c.args.sources.now.notes c.in_ok-timed.timed c.in_ok-timed.ensures;
  slacks_size = c.in_ok-timed.ensures.sizes.slacks;
  rests_size = c.in_ok-timed.ensures.sizes.rests;
  turns_size = turns_size c.args.sources.now.power c.args.sources.now.view c.args.sources.now.notes c.in_ok-timed.timed c.in_ok-timed.ensures;
  after_size = c.in_ok-least.ensures.small.after_size;
  after_small = c.in_ok-least.ensures.small.after;
}

pub returns : goal.returns
returns c =
    let power = c.args.sources.now.power in
    let image = c.args.sources.now.view in
    let notes = c.args.sources.now.notes in
    let p = c.in_ok-timed.timed in
    let h = c.in_ok-timed.ensures in
    let n = h.worst_is.numbers.0 in
    let least = c.in_ok-least.ensures.least in
    let left = plain_left power image notes p h n p.worst (h.left n h.worst_is.numbers.1) in
    let turn = turn_at power image notes p h in
    let all = numbers_of p.graph p.tree (plain_weights power image p.graph) n least.0 in
    record {
      code = p.graph;
      tree = p.tree;
      numbers = n;
      least = least.0;
      code_is = h.code_is;
      tree_is = h.tree_is;
      numbers_are = timed_are power image notes p h;
      least_are = plain_least power image notes p h least.0 least.1;
      short = timed_short power image notes p h;
      worst = timed_total power image notes p h c.total-total.result c.total-total.ensures;
      start = timed_slow power image notes p h;
      edges = c.in_ok-edges.ensures all (record { slack = left.slack; left = left.rest; least = least.2.after; turn = turn });
      loops = c.in_ok-loops.ensures all (record { slack = left.slack; left = left.rest; least = least.2.after; turn = turn });
    }
