use Rattle.std.proofs.Common.{◌≡◌, ◌≤◌, ◌*◌, take}
use Rattle.std.specs.List.{sum_by}
use Rattle.stub_writer.specs.Fragments.{code_len}
use Rattle.stub_writer.proofs.ways.codes_len.Given as goal

abbrev pub invariant-loop-fragment : goal.invariant-loop-fragment
invariant-loop-fragment l = record { is : l.len ≡ sum_by code_len (take l.fragment-index l.fragments); small : l.len ≤ 16 * l.fragment-index }
