use Rattle.std.proofs.Common.{◌≡◌, ◌≢◌, ◌<◌, ℕ, max, length, get_or}
use Rattle.keep_monitor.specs.Headers.{sorted_header}
use Rattle.keep_monitor.specs.Steps.{count_after_at}
use Rattle.keep_monitor.proofs.counter.raise_loops.Given as goal

abbrev pub invariant-loop-header : goal.invariant-loop-header
invariant-loop-header l = record {
  done : (j : ℕ) → j < l.header-index → get_or l.most (sorted_header l.group j).number 0 ≡ max (get_or l.initial.most (sorted_header l.group j).number 0) (count_after_at l.notes l.group l.counts l.source j);
  rest : (k : ℕ) → ((j : ℕ) → j < l.header-index → (sorted_header l.group j).number ≢ k) → get_or l.most k 0 ≡ get_or l.initial.most k 0;
}
