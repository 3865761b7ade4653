use Rattle.std.proofs.Common.{◌≡◌, ◌+◌, map, vec_len}
use Rattle.std.specs.List.{range_with_len}
use Rattle.flat_memory.specs.Lists.{list_bytes}
use Rattle.flat_memory.proofs.page_loading.load_page.Given as goal

abbrev pub invariant-loop-k : goal.invariant-loop-k
invariant-loop-k l = record {
  items : l.bytes.items ≡ map (λ j. list_bytes l.list (l.from + j)) (range_with_len 0 l.k);
  len : vec_len l.bytes ≡ l.k;
}
