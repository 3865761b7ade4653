use Rattle.std.proofs.Common.{◌≡◌, ◌≤◌, ◌*◌, take, length}
use Rattle.stub_writer.specs.Stubs.{rows_by}
use Rattle.stub_writer.proofs.ways.all_rows_len.Given as goal

abbrev pub invariant-loop-fragment : goal.invariant-loop-fragment
invariant-loop-fragment l = record { is : l.len ≡ length (rows_by (take l.fragment-index l.fragments)); small : l.len ≤ 16 * l.fragment-index }
