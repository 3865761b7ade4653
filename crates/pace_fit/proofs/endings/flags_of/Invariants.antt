use Rattle.std.proofs.Common.{◌≡◌, map, take}
use Rattle.pace_fit.specs.Endings.{is_counted}
use Rattle.pace_fit.proofs.endings.flags_of.Given as goal

abbrev pub invariant-loop-ending : goal.invariant-loop-ending
invariant-loop-ending l = l.flags.items ≡ map is_counted (take l.ending-index l.endings)
