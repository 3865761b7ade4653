-- Scaffold: the laws of counts that are kept on the edges, as statements for the contracts of functions.
use Rattle.std.specs.Prelude.{◌≡◌, ℕ, ◌<◌, ◌≤◌, Bool, true, List, Some}
use Rattle.cost_theory.specs.Graph.{Graph, Loops}
use Rattle.cost_theory.specs.Accepted.{IsProgram, AreAccepted}
use Rattle.cost_theory.specs.Steps.{Transition, AreKept, graph_start, state_after}
use Rattle.paid_runs.specs.Shadows.{AreCountable, AreShown, counted_moves}

-- Along a kept run that goes on they are the run's own for the loops that the run is in, and 0 for all others.
abbrev pub CountsAreShown : Type 0
CountsAreShown = (g : Graph) (l : Loops) (extent : ℕ → ℕ → Bool) (counted : ℕ → Bool) → IsProgram g → AreAccepted g l extent →
    AreCountable g l counted →
    (ms : List Transition) → AreKept g l (graph_start g) ms → (v : ℕ) → (state_after g l ms).node ≡ Some v →
    AreShown l counted (state_after g l ms) (counted_moves g l (λ k. 0) ms)

-- so they are within the loops' bounds
abbrev pub CountsAreWithin : Type 0
CountsAreWithin = (g : Graph) (l : Loops) (extent : ℕ → ℕ → Bool) (counted : ℕ → Bool) → IsProgram g → AreAccepted g l extent →
    AreCountable g l counted →
    (ms : List Transition) → AreKept g l (graph_start g) ms → (v : ℕ) → (state_after g l ms).node ≡ Some v → (k : ℕ) → k < l.loops →
    counted k ≡ true → counted_moves g l (λ k. 0) ms k ≤ l.bound k
