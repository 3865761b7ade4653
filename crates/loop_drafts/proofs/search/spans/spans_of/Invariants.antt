use Rattle.std.proofs.Common.{length, All}
use Rattle.loop_drafts.specs.Spans.{IsSpan}
use Rattle.loop_drafts.proofs.search.spans.spans_of.Given as goal

abbrev pub invariant-loop-node : goal.invariant-loop-node
invariant-loop-node l = All (IsSpan (length l.places)) l.spans.items
