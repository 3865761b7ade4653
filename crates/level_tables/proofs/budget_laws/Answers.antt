use Rattle.level_tables.proofs.Budgets.{both_in_budget, both_in_time}
use Rattle.level_tables.proofs.Least.{first_are, least_are}
use Rattle.level_tables.proofs.Lowest.{tallies_safe, tallies_safe_in_time}
use Rattle.level_tables.proofs.budget_laws.Goals as goal

pub returns-clause-deadline : goal.returns-clause-deadline
returns-clause-deadline c = λ power edge i l. (both_in_budget power edge i l, both_in_time power edge i l)

pub returns-clause-first : goal.returns-clause-first
returns-clause-first c = first_are

pub returns-clause-least : goal.returns-clause-least
returns-clause-least c = least_are

pub returns-clause-tallies : goal.returns-clause-tallies
returns-clause-tallies c = tallies_safe

pub returns-clause-tallies_in_time : goal.returns-clause-tallies_in_time
returns-clause-tallies_in_time c = tallies_safe_in_time
