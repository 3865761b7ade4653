use Rattle.std.proofs.Common.{◌≡◌, ℕ, ◌<◌, Option, vec_len}
use Rattle.std.specs.Prelude.{slice_index_or}
use Rattle.flat_memory.specs.Wholes.{MayBeGroupOf}
use Rattle.flat_memory.specs.declared.page_table.PageGroup.{PageGroup}
use Rattle.flat_memory.proofs.page_loading.load_table.Given as goal

abbrev pub invariant-loop-k : goal.invariant-loop-k
invariant-loop-k l = record {
  are : (m : ℕ) (o : Option PageGroup) → m < l.k → o ≡ slice_index_or l.groups.items m o → MayBeGroupOf l.list m o;
  len : vec_len l.groups ≡ l.k;
}
