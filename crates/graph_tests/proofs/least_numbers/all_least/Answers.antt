use Rattle.std.proofs.Common.{◌≡◌, ◌≤◌, ◌^◌, ℕ, List, Some, slice_get, slice_index, arith}
use Rattle.std.proofs.lemmas.Option.{get_or_from_slice_get}
use Rattle.graph_tests.proofs.least_numbers.all_least.Goals as goal

small_first : (xs : List ℕ) (x : ℕ) → slice_get xs 0 ≡ Some x → slice_index xs 0 ≤ 2 ^ 48 → x ≤ 2 ^ 48
small_first xs x at small = let same : slice_index xs 0 ≡ x = get_or_from_slice_get xs 0 x 0 at in omega arith

pub least-requires-clause-worst : goal.least-requires-clause-worst
least-requires-clause-worst c =
    let f = c.in_ok-_worst.ensures.found in
    let some = c.function_count-functions.ensures.some in
    let count = c.function_count-functions.ensures.count in
    (f.numbers.0, f.numbers.1, small_first _ (f.numbers.0.worst 0) (f.numbers.2 0 (omega arith)) f.small)
