-- Why each return of a run goes back behind its call, and why calls are never too deep.
use Rattle.std.specs.Prelude.{◌≡◌, ◌≢◌, ℕ, ◌<◌, ◌≤◌, true, Some}
use Rattle.scale_base.specs.declared.instruction.Instr.{Instr}
use Rattle.scale_base.specs.declared.stepping.Move.TheVariants.{Return}
use Rattle.scale_base.specs.Step.{move_of}
use Rattle.cost_theory.specs.Graph.{Graph}
use Rattle.code_text.specs.Text.{Text, instr_at}
use Rattle.graph_runs.specs.KeptRuns.{most_returns}
use Rattle.bound_laws.specs.Turning.{Calls}
use Rattle.bound_laws.specs.Values.{Values}
use Rattle.stack_laws.specs.Stacks.{Stacks}
use Rattle.stack_laws.specs.Stacks.Name.{of_begin}

-- What the code has to say of returns. Each clause is about one instruction, or one call.
pub record ComesBack (t : Text) (g : Graph) (v : Values) (w : Stacks) : Type 0 where
  -- by number of a function, so many calls may be open in what it calls
  pub height : ℕ → ℕ
  -- at a return x1 is what it was when the function began, and it isn't the function in which a run begins
  pub links : (a : ℕ) (i : Instr) → instr_at t a ≡ Some i → move_of i ≡ Return → v.live a ≡ true → (w.name a 1 ≡ Some (of_begin 1 0)) ×
      (v.function a ≢ v.function t.entry)
  pub lower : (a b : ℕ) → Calls g a b → v.live a ≡ true → height (v.function b) < height (v.function a)
  pub top : height (v.function t.entry) ≤ most_returns
