use Rattle.std.proofs.Common.{◌≡◌, ◌++◌}
use Rattle.image_maker.specs.Making.{opening, blocks, headers, state_at}
use Rattle.image_maker.proofs.program.make_program.Given as goal

abbrev pub invariant-loop-k : goal.invariant-loop-k
invariant-loop-k l = record {
  lines : l.program.lines.items ≡ opening ++ blocks l.number l.k;
  headers : l.program.headers.items ≡ headers l.number l.k;
  state : l.program.draws.state ≡ state_at l.number l.k;
}
