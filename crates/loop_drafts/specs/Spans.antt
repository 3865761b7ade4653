-- Scaffold: spans of nodes.
use Rattle.std.specs.Prelude.{ℕ, ◌<◌}
use Rattle.loop_drafts.specs.declared.search.spans.Span.{Span}

-- both ends are nodes, of so many
abbrev pub IsSpan : ℕ → Span → Type 0
IsSpan count span = (span.first < count) × (span.last < count)
