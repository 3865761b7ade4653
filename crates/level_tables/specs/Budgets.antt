-- Switches within budgets: each level has a time by which a job that runs at it is to end, at most the deadline. A switch may use what the budget of the level behind it has
-- more than that of the level before it, and not only the slack of its own edge. With the deadline as the budget of each level it is the test of time of Tables.
use Rattle.std.specs.Prelude.{◌≡◌, ℕ, zero, suc, ◌+◌, ◌-◌, ◌*◌, ◌<◌, ◌≤◌, max, ◌==◌, Bool, true, cond, ◌&&◌, nat_le, nat_lt, List, [], ◌∷◌, All, length, if◌then◌else◌}
use Rattle.power_model.specs.Levels.{level}
use Rattle.power_model.specs.Numbers.{PowerModel}
use Rattle.power_model.specs.Price.{switch_time}
use Rattle.power_model.specs.Switches.{period}
use Rattle.level_tables.specs.declared.by_level.LevelBudgets.{LevelBudgets}
use Rattle.level_tables.specs.Tables.{pays}
use Rattle.level_tables.specs.declared.edge_numbers.EdgeNumbers.{EdgeNumbers}

-- The worst cycles are within the budget of the starting level, and no budget is later than the deadline.
pub record AreBudgets (power : PowerModel) (budget : ℕ → ℕ) (start worst : ℕ) : Type 0 where
  pub first : worst * period power start ≤ budget start
  pub within : (i : ℕ) → i < length power.levels → budget i ≤ power.deadline

-- A switch from level i to level l is within the budgets: what is left, at l, and the switch take no longer than what is left and the slack, at i, and what the budget of l
-- has more than that of i.
abbrev pub is_switch_in_budget : PowerModel → (budget : ℕ → ℕ) → EdgeNumbers → ℕ → ℕ → Bool
is_switch_in_budget power budget edge i l =
    nat_le (edge.left * (level power.levels l).period + switch_time power i l + budget i)
    ((edge.left + edge.slack) * (level power.levels i).period + budget l)

-- it pays, too
abbrev pub meets_in_budget : PowerModel → (budget : ℕ → ℕ) → EdgeNumbers → ℕ → ℕ → Bool
meets_in_budget power budget edge i l = is_switch_in_budget power budget edge i l && pays power edge.least i l

-- the budgets of levels, as they are handed in: the starting level has its own, and so has the lowest one
abbrev pub budget_at : LevelBudgets → ℕ → ℕ
budget_at budgets i =
    if i == budgets.start then budgets.first else
    (if i == 0 then budgets.lowest else
    (if nat_lt i budgets.start then budgets.between else budgets.above))

-- ---- the budgets of the first switch

-- The starting level has the time of the worst cycles there, and every other level the deadline: the first switch gets what the starting level leaves.
abbrev pub first_budgets : PowerModel → (start worst : ℕ) → ℕ → ℕ
first_budgets power start worst i = cond (i == start) (worst * period power start) power.deadline

-- ---- the least budgets

-- an entry of a table, on an edge with these numbers
pub record Entry : Type 0 where
  pub edge : EdgeNumbers
  pub from : ℕ
  pub to : ℕ

-- the least budget of the level behind it that it is within, by that of the level before it
abbrev pub need : PowerModel → (budget : ℕ → ℕ) → Entry → ℕ
need power budget x =
    x.edge.left * (level power.levels x.to).period + switch_time power x.from x.to + budget x.from - (x.edge.left + x.edge.slack) *
    (level power.levels x.from).period

-- the most that entries which lead to a level need
abbrev pub most_need : PowerModel → (budget : ℕ → ℕ) → List Entry → ℕ → ℕ
most_need power budget [] l = 0
most_need power budget (x ∷ xs) l = max (cond (x.to == l) (need power budget x) 0) (most_need power budget xs l)

-- the time of the worst cycles at the starting level, which its budget is at least
abbrev pub first_need : PowerModel → (start worst : ℕ) → ℕ → ℕ
first_need power start worst l = cond (l == start) (worst * period power start) 0

-- Budgets that are raised so often to what the entries need. A switch leads to a lower level, so the budgets of n levels are found behind n times.
abbrev pub raised : PowerModel → List Entry → (start worst : ℕ) → ℕ → ℕ → ℕ
raised power xs start worst zero = first_need power start worst
raised power xs start worst (suc n) = λ l. max (first_need power start worst l) (most_need power (raised power xs start worst n) xs l)

abbrev pub least_budgets : PowerModel → List Entry → (start worst : ℕ) → ℕ → ℕ
least_budgets power xs start worst = raised power xs start worst (length power.levels)

-- entries that lead from a level of the machine to a lower one
abbrev pub AreEntries : PowerModel → List Entry → Type 0
AreEntries power xs = All (λ x. (x.to < x.from) × (x.from < length power.levels)) xs

-- all entries are within the budgets, and so are the worst cycles
pub record AreKept (power : PowerModel) (budget : ℕ → ℕ) (xs : List Entry) (start worst : ℕ) : Type 0 where
  pub first : worst * period power start ≤ budget start
  pub entries : All (λ x. is_switch_in_budget power budget x.edge x.from x.to ≡ true) xs
