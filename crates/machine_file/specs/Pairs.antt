-- Scaffold: what a file says of the costs of switches, as contracts see it.
use Rattle.std.specs.Prelude.{List, ℕ, Vec, map}
use Rattle.std.specs.declared.alloc.Global.{Global}
use Rattle.machine_file.specs.declared.pairs.SwitchCost as rust
use Rattle.machine_file.specs.declared.pairs.SwitchCost.TheVariants as variant
use Rattle.machine_file.specs.Machine.{SwitchCost, same, by_pair}

-- the numbers of some rows
abbrev pub rows_view : List (Vec ℕ Global) → List (List ℕ)
rows_view rows = map (λ (row : Vec ℕ Global). row.items) rows

abbrev pub cost_view : rust.SwitchCost → SwitchCost
cost_view (variant.Same n) = same n
cost_view (variant.ByPair rows) = by_pair (rows_view rows.items)
