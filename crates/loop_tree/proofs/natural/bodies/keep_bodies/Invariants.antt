use Rattle.std.proofs.Common.{◌≡◌, map}
use Rattle.loop_tree.specs.Passes.{AreBodies}
use Rattle.loop_tree.proofs.natural.bodies.keep_bodies.Given as goal

abbrev pub invariant-loop-k : goal.invariant-loop-k
invariant-loop-k l = record {
  same : l.search ≡ l.fn.search;
  bodies : AreBodies l.graph l.notes l.k (map (λ body. body.items) l.bodies.items);
}
