use Rattle.std.proofs.Common.{◌≡◌}
use Rattle.keep_monitor.specs.Headers.{headers_of}
use Rattle.keep_monitor.proofs.headers.list_headers.Given as goal

abbrev pub invariant-loop-number : goal.invariant-loop-number
invariant-loop-number l = l.headers.items ≡ headers_of l.notes l.number
