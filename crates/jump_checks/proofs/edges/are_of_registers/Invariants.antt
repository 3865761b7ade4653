use Rattle.std.proofs.Common.{◌≡◌, ℕ, ◌<◌, Some}
use Rattle.std.specs.Prelude.{slice_get}
use Rattle.bound_laws.specs.Values.{IsRegister}
use Rattle.jump_laws.specs.declared.reads.TableRead.{TableRead}
use Rattle.jump_checks.proofs.edges.are_of_registers.Given as goal

abbrev pub invariant-loop-k : goal.invariant-loop-k
invariant-loop-k l = (k : ℕ) (x : TableRead) → k < l.k → slice_get l.reads k ≡ Some (Some x) → IsRegister x.register
