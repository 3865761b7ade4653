use Rattle.std.proofs.Common.{◌≡◌, ℕ, ◌+◌, ◌*◌, ◌<◌, Option, vec_len}
use Rattle.std.specs.Prelude.{slice_index_or}
use Rattle.rv_machine.specs.Code.{MayBePage}
use Rattle.rv_machine.specs.declared.code.CodePage.{CodePage}
use Rattle.rv_machine.proofs.decoding.code_group.Given as goal

abbrev pub invariant-loop-k : goal.invariant-loop-k
invariant-loop-k g l = record {
  are : (j : ℕ) (o : Option CodePage) → j < l.k → o ≡ slice_index_or l.pages.items j o → MayBePage (g.M.Memory.layout l.memory) (g.M.Memory.bytes l.memory) (l.number * 1024 + j) o;
  len : vec_len l.pages ≡ l.k;
}
