use Rattle.std.proofs.Common.{◌≡◌, ◌++◌, take, string_bytes}
use Rattle.pace_tool.specs.Texts.{switch_lines}
use Rattle.pace_tool.proofs.texts.push_sites.Given as goal

abbrev pub invariant-loop-site : goal.invariant-loop-site
invariant-loop-site l = string_bytes l.text ≡ string_bytes l.fn.text ++ switch_lines (take l.site-index l.sites)
