use Rattle.std.proofs.Common.{◌≡◌, ◌≤◌, ◌*◌, ◌+◌, ◌++◌, drop}
use Rattle.stub_writer.specs.Stubs.{code_bytes, fragments_code}
use Rattle.stub_writer.proofs.ways.push_fragments.Given as goal

abbrev pub invariant-loop-fragment : goal.invariant-loop-fragment
invariant-loop-fragment l = record {
  so_far : l.out.items ++ code_bytes (fragments_code l.at (drop l.fragment-index l.fragments)) ≡ l.fn.out.items ++ code_bytes (fragments_code l.fn.table l.fragments);
  small : l.at ≤ l.fn.table + 64 * l.fragment-index;
}
