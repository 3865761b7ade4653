-- Costs of lists of marks.
use Rattle.std.proofs.Common.{◌≡◌, ◌+◌, true, List, [], ◌∷◌, arith}
use Rattle.power_model.specs.declared.power.Costs.{Costs}
use Rattle.scale_base.specs.declared.fragments.Mark.{Mark}
use Rattle.scale_base.specs.declared.fragments.Mark.TheVariants.{Switch, Exit, Reset, Count, Lowest, Tally}
use Rattle.scale_sites.specs.Weights.{switches, tail_of, extra_of, first_store}

-- a branch's edge with a switch: its jump to the stub and what comes up to the port store, and its tail
pub extra-splits : (costs : Costs) (ms : List Mark) → switches ms ≡ true → extra_of costs 2 ms ≡ costs.jump + first_store costs ms + tail_of costs ms
extra-splits costs [] h = let bad : ⊥ = cc in absurd bad
extra-splits costs (Switch ∷ ms) h = omega arith
extra-splits costs (Exit k ∷ ms) h = omega arith
extra-splits costs (Reset k ∷ ms) h = let bad : ⊥ = cc in absurd bad
extra-splits costs (Count k ∷ ms) h = let bad : ⊥ = cc in absurd bad
extra-splits costs (Lowest ∷ ms) h = omega arith
extra-splits costs (Tally k ∷ ms) h = omega arith
