-- What the steps of fragments and of ways cost.
use Rattle.std.specs.Prelude.{ℕ, ◌+◌, ◌*◌, List}
use Rattle.std.specs.List.{sum_by}
use Rattle.scale_base.specs.declared.stepping.Stepped.{Stepped}
use Rattle.scale_base.specs.declared.stepping.Class.{Class}
use Rattle.scale_base.specs.declared.stepping.Class.TheVariants as classes
use Rattle.scale_base.specs.declared.fragments.Fragment.{Fragment}
use Rattle.scale_base.specs.declared.fragments.Fragment.TheVariants.{Switch, Exit, Reset, Count, Lowest, Tally}

abbrev pub stepped_cycles : (Class → ℕ) → List Stepped → ℕ
stepped_cycles cost xs = sum_by (λ x. cost x.class) xs

abbrev pub fragment_cost : (Class → ℕ) → Fragment → ℕ
fragment_cost cost (Switch word) = 3 * cost classes.Store + 3 * cost classes.Load + 5 * cost classes.Alu
fragment_cost cost (Exit counter shift rows) = 4 * cost classes.Store + 5 * cost classes.Load + 7 * cost classes.Alu
fragment_cost cost (Reset counter) = cost classes.Store
fragment_cost cost (Count counter) = 2 * cost classes.Store + 2 * cost classes.Load + cost classes.Alu
fragment_cost cost (Lowest down) = cost classes.Store
fragment_cost cost (Tally counter shift from) = 3 * cost classes.Store + 2 * cost classes.Load + 5 * cost classes.Alu

-- what of a fragment lies behind its store at the port, where it stores there: the loads of the registers that it saved
abbrev pub fragment_tail : (Class → ℕ) → Fragment → ℕ
fragment_tail cost (Switch word) = 2 * cost classes.Load
fragment_tail cost (Exit counter shift rows) = 2 * cost classes.Load
fragment_tail cost (Reset counter) = 2 * cost classes.Load
fragment_tail cost (Count counter) = 2 * cost classes.Load
fragment_tail cost (Lowest down) = 0
fragment_tail cost (Tally counter shift from) = cost classes.Load
