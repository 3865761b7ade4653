use Rattle.plan_graphs.proofs.program.draw_sketch.Goals as goal

pub returns-clause-parts : goal.returns-clause-parts
returns-clause-parts c = λ told holds. record {
  worst = c.total.ensures;
  functions = c.in_ok-functions.ensures told holds;
  loops = c.in_ok-loops.ensures told holds;
  blocks_are = c.block_count-blocks.ensures.blocks;
  blocks = c.in_ok-blocks.ensures told holds;
}
