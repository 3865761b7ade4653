use Rattle.std.proofs.Common.{◌≡◌, ℕ, ◌+◌, ◌*◌, ◌<◌, Option, vec_len}
use Rattle.std.specs.Prelude.{slice_index_or}
use Rattle.rv_machine.specs.declared.decoded.Decoded.{Decoded}
use Rattle.rv_machine.specs.Code.{MayBeFixed}
use Rattle.rv_machine.proofs.decoding.code_page.Given as goal

abbrev pub invariant-loop-k : goal.invariant-loop-k
invariant-loop-k g l = record {
  are : (j : ℕ) (o : Option Decoded) → j < l.k → o ≡ slice_index_or l.instrs.items j o → MayBeFixed (g.M.Memory.layout l.memory) (g.M.Memory.bytes l.memory) (4 * (l.number * 1024 + j)) o;
  len : vec_len l.instrs ≡ l.k;
}
