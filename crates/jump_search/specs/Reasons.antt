-- Which jumps that aren't listed are open.
use Rattle.std.specs.Prelude.{Bool, true, false}
use Rattle.jump_search.specs.declared.reasons.Reason.{Reason}
use Rattle.jump_search.specs.declared.reasons.Reason.TheVariants.{NotReached, FarJump}

-- a user has something to do: the code leads to the jump, and it isn't a far jump that `lower` makes near
abbrev pub is_open : Reason → Bool
is_open NotReached = false
is_open FarJump = false
is_open reason = true
