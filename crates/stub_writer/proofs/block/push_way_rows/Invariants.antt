use Rattle.std.proofs.Common.{◌≡◌, ◌++◌, drop}
use Rattle.std.specs.List.{flat_map}
use Rattle.stub_writer.specs.Stubs.{word_bytes, rows_by}
use Rattle.stub_writer.proofs.block.push_way_rows.Given as goal

abbrev pub invariant-loop-fragment : goal.invariant-loop-fragment
invariant-loop-fragment l = l.out.items ++ flat_map word_bytes (rows_by (drop l.fragment-index l.fragments)) ≡ l.fn.out.items ++ flat_map word_bytes (rows_by l.fragments)
