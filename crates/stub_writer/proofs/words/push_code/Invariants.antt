use Rattle.std.proofs.Common.{◌≡◌, ◌++◌, take}
use Rattle.stub_writer.specs.Stubs.{code_bytes}
use Rattle.stub_writer.proofs.words.push_code.Given as goal

abbrev pub invariant-loop-instr : goal.invariant-loop-instr
invariant-loop-instr l = l.out.items ≡ l.fn.out.items ++ code_bytes (take l.instr-index l.code)
