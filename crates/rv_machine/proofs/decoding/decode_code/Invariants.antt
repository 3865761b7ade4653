use Rattle.std.proofs.Common.{◌≡◌, ℕ, ◌<◌, Option, vec_len}
use Rattle.std.specs.Prelude.{slice_index_or}
use Rattle.rv_machine.specs.Code.{MayBeGroup}
use Rattle.rv_machine.specs.declared.code.CodeGroup.{CodeGroup}
use Rattle.rv_machine.proofs.decoding.decode_code.Given as goal

abbrev pub invariant-loop-k : goal.invariant-loop-k
invariant-loop-k g l = record {
  are : (m : ℕ) (o : Option CodeGroup) → m < l.k → o ≡ slice_index_or l.groups.items m o → MayBeGroup (g.M.Memory.layout l.memory) (g.M.Memory.bytes l.memory) m o;
  len : vec_len l.groups ≡ l.k;
}
