-- Counts that are kept on the edges alone: a back edge of a loop counts, and an edge that leaves the loop sets its count to 0.
-- A run's own counts are set to 0 where a loop is entered; these are set to 0 where it is left.
use Rattle.std.specs.Prelude.{◌≡◌, ℕ, ◌+◌, ◌<◌, Bool, true, false, cond, ◌||◌, List, [], ◌∷◌, Some}
use Rattle.std.specs.List.{list_any}
use Rattle.cost_theory.specs.Graph.{Graph, Loops, is_round, is_back, leaves}
use Rattle.cost_theory.specs.Steps.{GraphState, Transition}
use Rattle.cost_theory.specs.Steps.Transition.{Along, Call, Return, Exit}

-- the count of loop k behind an edge
abbrev pub count_over : Graph → Loops → ℕ → ℕ → ℕ → ℕ
count_over g l k e n = cond (is_back g l k e) (n + 1) (cond (leaves l k (g.source e) (g.target e)) 0 n)

-- the counts behind a move: calls, returns and exits change none
abbrev pub counted_move : Graph → Loops → (ℕ → ℕ) → Transition → ℕ → ℕ
counted_move g l counts (Along e) k = count_over g l k e (counts k)
counted_move g l counts (Call e f) k = counts k
counted_move g l counts (Return e) k = counts k
counted_move g l counts (Exit e) k = counts k

abbrev pub counted_moves : Graph → Loops → (ℕ → ℕ) → List Transition → ℕ → ℕ
counted_moves g l counts [] = counts
counted_moves g l counts (m ∷ ms) = counted_moves g l (counted_move g l counts m) ms

-- Loops that can be counted so: no edge by which a call comes back is a back edge of one or leaves it, and no return stands in one.
pub record AreCountable (g : Graph) (l : Loops) (counted : ℕ → Bool) : Type 0 where
  pub calls : (k e f v : ℕ) → k < l.loops → counted k ≡ true → e < g.edges → g.callee e ≡ Some f → g.target e ≡ Some v →
      (is_back g l k e ≡ false) × (leaves l k (g.source e) (Some v) ≡ false)
  pub returns : (k e : ℕ) → k < l.loops → counted k ≡ true → e < g.edges → g.returns e ≡ true → l.inside k (g.source e) ≡ false

-- loop k is round the node, or round the site of a suspended call
abbrev pub is_within_loop : Loops → ℕ → GraphState → Bool
is_within_loop l k s = is_round l k s.node || list_any (l.inside k) s.calls

-- the counts are the run's own for such loops, and 0 for all others
pub record AreShown (l : Loops) (counted : ℕ → Bool) (s : GraphState) (counts : ℕ → ℕ) : Type 0 where
  pub within : (k : ℕ) → k < l.loops → counted k ≡ true → is_within_loop l k s ≡ true → counts k ≡ s.counts k
  pub outside : (k : ℕ) → k < l.loops → counted k ≡ true → is_within_loop l k s ≡ false → counts k ≡ 0
