-- That a command was done tells no want of memory.
use Rattle.std.proofs.Common.{◌≡◌, ℕ, true, false, subst}
use Rattle.std.specs.Prelude.{Option, Some, None, IsTrue}
use Rattle.scale_tool.specs.Command.{Command, Help, Hold, Rewrite, Report, Simulate, Make, Lower, Check, Survey, Tune, may_give}

never_four : (asked : Option Command) → IsTrue (may_give asked 4) → ⊥
never_four None h = let bad : false ≡ true = h in absurd cc
never_four (Some Help) h = let bad : false ≡ true = h in absurd cc
never_four (Some (Hold image machine loops out)) h = let bad : false ≡ true = h in absurd cc
never_four (Some (Rewrite image machine loops out)) h = let bad : false ≡ true = h in absurd cc
never_four (Some (Report image machine loops)) h = let bad : false ≡ true = h in absurd cc
never_four (Some (Simulate image machine input out loops)) h = let bad : false ≡ true = h in absurd cc
never_four (Some (Make number size prefix)) h = let bad : false ≡ true = h in absurd cc
never_four (Some (Lower image jumps out)) h = let bad : false ≡ true = h in absurd cc
never_four (Some (Check image foreign machine loops)) h = let bad : false ≡ true = h in absurd cc
never_four (Some (Survey image scaled machine loops inputs)) h = let bad : false ≡ true = h in absurd cc
never_four (Some (Tune image machine loops out inputs)) h = let bad : false ≡ true = h in absurd cc

-- a status that a command gives is no 4
pub given_not_four : (asked : Option Command) (status : ℕ) → IsTrue (may_give asked status) → status ≡ 4 → ⊥
given_not_four asked status may four = never_four asked (subst (λ s. IsTrue (may_give asked s)) four may)
