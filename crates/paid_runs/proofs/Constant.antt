-- Where each budget is the deadline, tables that keep budgets are those that keep time.
use Rattle.std.proofs.Common.{◌≡◌, ◌⊎◌, inl, inr, ℕ, Bool, List, arith}
use Rattle.power_model.specs.Numbers.{PowerModel}
use Rattle.cost_theory.specs.Graph.{Graph, Loops}
use Rattle.cost_theory.specs.Worst.{Numbers}
use Rattle.cost_theory.specs.Reached.{Code}
use Rattle.cycle_laws.specs.Charged.{Charged}
use Rattle.code_text.specs.Text.{Text}
use Rattle.stub_writer.specs.Stubs.{Site}
use Rattle.paid_runs.specs.Timely.{IsChosen, AreTablesOf}
use Rattle.paid_runs.specs.Budgets.{IsChosenWithin, AreTablesWithin}

chosen_within : (power : PowerModel) (g : Graph) (l : Loops) (w : ℕ → ℕ) (n : Numbers) (least : Charged) (counts : ℕ → ℕ) (e tail i j : ℕ) → (j ≡ i) ⊎ IsChosen power g l w n least counts e tail i j → (j ≡ i) ⊎ IsChosenWithin power (λ k. power.deadline) g l w n least counts e tail i j
chosen_within power g l w n least counts e tail i j (inl same) = inl same
chosen_within power g l w n least counts e tail i j (inr c) = inr (record { lower = c.lower; inside = c.inside; target = c.target; leads = c.leads; gone = c.gone; is_gone = c.is_gone; in_budget = (let time = c.in_time in omega (arith, time)); paying = c.paying })

chosen_in_time : (power : PowerModel) (g : Graph) (l : Loops) (w : ℕ → ℕ) (n : Numbers) (least : Charged) (counts : ℕ → ℕ) (e tail i j : ℕ) → (j ≡ i) ⊎ IsChosenWithin power (λ k. power.deadline) g l w n least counts e tail i j → (j ≡ i) ⊎ IsChosen power g l w n least counts e tail i j
chosen_in_time power g l w n least counts e tail i j (inl same) = inl same
chosen_in_time power g l w n least counts e tail i j (inr c) = inr (record { lower = c.lower; inside = c.inside; target = c.target; leads = c.leads; gone = c.gone; is_gone = c.is_gone; in_time = (let time = c.in_budget in omega (arith, time)); paying = c.paying })

pub tables_within : (power : PowerModel) (t : Text) (code : Code) (l : Loops) (sites : List Site) (is_of : ℕ → ℕ → Bool) (n : Numbers) (least : Charged) → AreTablesOf power t code l sites is_of n least → AreTablesWithin power (λ i. power.deadline) t code l sites is_of n least
tables_within power t code l sites is_of n least tables = record {
  chosen = λ e class lt is h counts j low within shown stored. chosen_within power _ l _ n least counts e _ h.level j (tables.chosen e class lt is h counts j low within shown stored);
}

pub tables_in_time : (power : PowerModel) (t : Text) (code : Code) (l : Loops) (sites : List Site) (is_of : ℕ → ℕ → Bool) (n : Numbers) (least : Charged) → AreTablesWithin power (λ i. power.deadline) t code l sites is_of n least → AreTablesOf power t code l sites is_of n least
tables_in_time power t code l sites is_of n least tables = record {
  chosen = λ e class lt is h counts j low within shown stored. chosen_in_time power _ l _ n least counts e _ h.level j (tables.chosen e class lt is h counts j low within shown stored);
}
