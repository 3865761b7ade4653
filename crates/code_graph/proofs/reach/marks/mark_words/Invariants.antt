use Rattle.std.proofs.Common.{◌≡◌, ◌-◌, ◌*◌, ◌≤◌, length, Some}
use Rattle.code_graph.specs.Marks.{IsMarkPass, AllWait, Covers, mark_at, function_number}
use Rattle.code_graph.proofs.reach.marks.mark_words.Given as goal

abbrev pub invariant-loop-done : goal.invariant-loop-done
invariant-loop-done l = record {
  pass : IsMarkPass l.steps l.returning l.entry l.marking.marks.items l.marking.functions.items l.marking.numbers.items l.marking.queue.items;
  reached : l.done ≤ length l.marking.queue.items;
  waits : AllWait l.steps l.returning l.marking.marks.items l.marking.numbers.items l.marking.queue.items l.done;
  start : Covers (mark_at l.marking.marks.items l.entry) l.entry;
  first : function_number l.marking.numbers.items l.entry ≡ Some 0;
}

abbrev pub decreases-loop-done : goal.decreases-loop-done
decreases-loop-done l = 2 * length l.steps - l.done
