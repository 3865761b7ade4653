use Rattle.plan_graphs.proofs.ProgramFacts.{known_drawn}
use Rattle.plan_graphs.proofs.program.draw_known.Goals as goal

pub draw_sketch-requires : goal.draw_sketch-requires
draw_sketch-requires c = record {
  tree = c.requires.known.tree;
  rests_size = c.requires.known.sizes.rests;
  context_size = c.requires.known.sizes.context;
  worst_size = c.requires.known.worst_size;
  turns_size = c.requires.turns;
  marks = c.requires.marked;
}

pub returns : goal.returns
returns c = λ worst is.
    known_drawn c.args.known.now c.args.marked.now worst c.in_ok-walk.walk c.draw_sketch.result (c.in_ok-walk.ensures.walk worst is) c.draw_sketch.ensures.walked c.draw_sketch.ensures.countable c.draw_sketch.ensures.parts
