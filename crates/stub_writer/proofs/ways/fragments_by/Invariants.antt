use Rattle.std.proofs.Common.{◌≡◌, drop}
use Rattle.stub_writer.specs.Sites.{fragments_by, kind_number}
use Rattle.stub_writer.proofs.ways.fragments_by.Given as goal

abbrev pub invariant-loop-edge : goal.invariant-loop-edge
invariant-loop-edge l = fragments_by (kind_number l.kind) (drop l.edge-index l.edges) ≡ fragments_by (kind_number l.kind) l.edges
