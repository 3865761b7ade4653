use Rattle.std.proofs.Common.{◌≡◌, ℕ, ◌<◌, ◌≤◌, Bool, length, slice_index, Some}
use Rattle.code_graph.specs.Flow.{IsReturnPass, Waits, but_above, step_at, key_of}
use Rattle.code_graph.proofs.ChainLaws.{place}
use Rattle.code_graph.proofs.reach.returning.visit_sources.Given as goal

abbrev pub invariant-loop-next : goal.invariant-loop-next
invariant-loop-next l = record {
  pass : IsReturnPass l.steps l.found.flags.items l.found.queue.items;
  member : (s : ℕ) → l.next ≡ Some s → (s < length l.steps) × (key_of (step_at l.steps s) ≡ Some l.k);
  waits : (done : ℕ) (left : ℕ → Bool) → done ≤ length l.fn.found.queue.items → Waits l.steps l.fn.found.flags.items l.fn.found.queue.items done left → Waits l.steps l.found.flags.items l.found.queue.items done (but_above l.steps l.k l.next left);
  longer : length l.fn.found.queue.items ≤ length l.found.queue.items;
  front : (p : ℕ) → p < length l.fn.found.queue.items → slice_index l.found.queue.items p ≡ slice_index l.fn.found.queue.items p;
}

abbrev pub decreases-loop-next : goal.decreases-loop-next
decreases-loop-next l = place l.next
