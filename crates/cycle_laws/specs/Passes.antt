-- Scaffold: how the numbers of an accepted program follow from one another over one edge at a time: the statements by which a pass over
-- the nodes, backwards along plain edges, finds them.
use Rattle.std.specs.Prelude.{◌≡◌, ◌≢◌, ℕ, ◌+◌, ◌<◌, ◌≤◌, Bool, true, false, ◌⊎◌, Option, Some, None}
use Rattle.cost_theory.specs.Graph.{Graph, Loops, IsPlain, is_back}
use Rattle.cost_theory.specs.Worst.{Numbers, cost, charged, all_of}
use Rattle.cost_theory.specs.Accepted.{IsNode}
use Rattle.cost_theory.specs.Laws.{IsAnalyzed}

-- CHARGES

-- An edge that leads to no header is charged its cost,
abbrev pub ChargedOn : Type 0
ChargedOn = (g : Graph) (l : Loops) (extent : ℕ → ℕ → Bool) (w : ℕ → ℕ) (n : Numbers) → IsAnalyzed g l extent w n →
    (e : ℕ) → e < g.edges → ((k : ℕ) → k < l.loops → g.target e ≢ Some (l.header k)) →
    charged g l n (cost g n w) e ≡ cost g n w e

-- a back edge too,
abbrev pub ChargedBack : Type 0
ChargedBack = (g : Graph) (l : Loops) (extent : ℕ → ℕ → Bool) (w : ℕ → ℕ) (n : Numbers) → IsAnalyzed g l extent w n →
    (e k : ℕ) → e < g.edges → k < l.loops → is_back g l k e ≡ true →
    charged g l n (cost g n w) e ≡ cost g n w e

-- and an edge that enters a loop from outside all turns of that loop with it.
abbrev pub ChargedInto : Type 0
ChargedInto = (g : Graph) (l : Loops) (extent : ℕ → ℕ → Bool) (w : ℕ → ℕ) (n : Numbers) → IsAnalyzed g l extent w n →
    (e k : ℕ) → e < g.edges → k < l.loops → g.target e ≡ Some (l.header k) → is_back g l k e ≡ false →
    charged g l n (cost g n w) e ≡ cost g n w e + all_of l n k

-- HEADERS

-- Different loops have different headers,
abbrev pub HeadersAreDifferent : Type 0
HeadersAreDifferent = (g : Graph) (l : Loops) (extent : ℕ → ℕ → Bool) (w : ℕ → ℕ) (n : Numbers) → IsAnalyzed g l extent w n →
    (j k : ℕ) → j < l.loops → k < l.loops → l.header j ≡ l.header k → j ≡ k

-- and a back edge leads to the header of its loop.
abbrev pub BackIsOfHeader : Type 0
BackIsOfHeader = (g : Graph) (l : Loops) (extent : ℕ → ℕ → Bool) (w : ℕ → ℕ) (n : Numbers) → IsAnalyzed g l extent w n →
    (e k : ℕ) → e < g.edges → k < l.loops → is_back g l k e ≡ true → g.target e ≡ Some (l.header k)

-- PLAIN PATHS

-- the greatest cost of a plain path from a place: nothing behind the end of a walk
abbrev pub plain_at : Numbers → Option ℕ → ℕ
plain_at n None = 0
plain_at n (Some u) = n.plain u

-- The greatest cost of a plain path from a node is the greatest over its plain edges of the edge and a path from behind it,
-- or 0.
pub record IsPlainOver (g : Graph) (l : Loops) (w : ℕ → ℕ) (n : Numbers) (v : ℕ) : Type 0 where
  pub most : (e : ℕ) → e < g.edges → g.source e ≡ v → IsPlain g l e →
      charged g l n (cost g n w) e + plain_at n (g.target e) ≤ n.plain v
  pub attained : (n.plain v ≡ 0) ⊎
      ((e : ℕ) × (e < g.edges) × (g.source e ≡ v) × IsPlain g l e ×
      (n.plain v ≡ charged g l n (cost g n w) e + plain_at n (g.target e)))

abbrev pub PlainOver : Type 0
PlainOver = (g : Graph) (l : Loops) (extent : ℕ → ℕ → Bool) (w : ℕ → ℕ) (n : Numbers) → IsAnalyzed g l extent w n →
    (v : ℕ) → IsNode g v → IsPlainOver g l w n v

-- ITERATIONS

-- Over an edge an iteration of loop k has a rest of cost b: the edge is a back edge of k, or it is plain and leads to a node of
-- the body from which the iteration has a rest.
abbrev pub IsRestOver : Graph → Loops → (ℕ → ℕ) → Numbers → ℕ → ℕ → ℕ → Type 0
IsRestOver g l w n k e b =
    ((is_back g l k e ≡ true) × (b ≡ charged g l n (cost g n w) e)) ⊎
    (IsPlain g l e × ((u : ℕ) × (more : ℕ) × (g.target e ≡ Some u) × (l.inside k u ≡ true) × (n.closing k u ≡ Some more) ×
    (b ≡ charged g l n (cost g n w) e + more)))

-- The rest of an iteration from a node of the body is the greatest over the node's edges, and is there where one of them has one.
pub record IsClosingOver (g : Graph) (l : Loops) (w : ℕ → ℕ) (n : Numbers) (k v : ℕ) : Type 0 where
  pub absent : n.closing k v ≡ None → (e b : ℕ) → e < g.edges → g.source e ≡ v → IsRestOver g l w n k e b → ⊥
  pub attained : (m : ℕ) → n.closing k v ≡ Some m → (e : ℕ) × (e < g.edges) × (g.source e ≡ v) × IsRestOver g l w n k e m
  pub most : (m : ℕ) → n.closing k v ≡ Some m → (e b : ℕ) → e < g.edges → g.source e ≡ v → IsRestOver g l w n k e b → b ≤ m

abbrev pub ClosingOver : Type 0
ClosingOver = (g : Graph) (l : Loops) (extent : ℕ → ℕ → Bool) (w : ℕ → ℕ) (n : Numbers) → IsAnalyzed g l extent w n →
    (k v : ℕ) → k < l.loops → l.inside k v ≡ true → IsClosingOver g l w n k v

-- An iteration is the rest of one from the header.
abbrev pub IterationIsClosing : Type 0
IterationIsClosing = (g : Graph) (l : Loops) (extent : ℕ → ℕ → Bool) (w : ℕ → ℕ) (n : Numbers) → IsAnalyzed g l extent w n →
    (k : ℕ) → k < l.loops → n.closing k (l.header k) ≡ Some (n.iteration k)

-- WORST CYCLES

-- The worst cycles of a function are a plain path from its entry, with all turns of the loop whose header the entry is.
abbrev pub WorstIsPlain : Type 0
WorstIsPlain = (g : Graph) (l : Loops) (extent : ℕ → ℕ → Bool) (w : ℕ → ℕ) (n : Numbers) → IsAnalyzed g l extent w n →
    (f : ℕ) → f < g.functions →
    (((k : ℕ) → k < l.loops → l.header k ≢ g.entry f) → n.worst f ≡ n.plain (g.entry f)) ×
    ((k : ℕ) → k < l.loops → l.header k ≡ g.entry f → n.worst f ≡ n.plain (g.entry f) + all_of l n k)

-- A plain path from any node costs at most the program's worst cycles.
abbrev pub PlainWithinWorst : Type 0
PlainWithinWorst = (g : Graph) (l : Loops) (extent : ℕ → ℕ → Bool) (w : ℕ → ℕ) (n : Numbers) → IsAnalyzed g l extent w n →
    (v : ℕ) → IsNode g v → n.plain v ≤ n.worst 0
