use Rattle.std.proofs.Common.{◌≡◌, ◌++◌, take, string_bytes}
use Rattle.pace_tool.specs.Texts.{tally_lines}
use Rattle.pace_tool.proofs.texts.push_tallies.Given as goal

abbrev pub invariant-loop-header : goal.invariant-loop-header
invariant-loop-header l = string_bytes l.text ≡ string_bytes l.fn.text ++ tally_lines (take l.header-index l.headers)
