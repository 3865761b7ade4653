use Rattle.std.proofs.Common.{◌≡◌, ℕ, ◌+◌, ◌*◌, ◌<◌, Option, vec_len}
use Rattle.std.specs.Prelude.{slice_index_or}
use Rattle.flat_memory.specs.Wholes.{MayBePageOf}
use Rattle.flat_memory.specs.declared.page.Page.{Page}
use Rattle.flat_memory.proofs.page_loading.load_group.Given as goal

abbrev pub invariant-loop-k : goal.invariant-loop-k
invariant-loop-k l = record {
  are : (j : ℕ) (o : Option Page) → j < l.k → o ≡ slice_index_or l.pages.items j o → MayBePageOf l.list (l.number * 1024 + j) o;
  len : vec_len l.pages ≡ l.k;
}
