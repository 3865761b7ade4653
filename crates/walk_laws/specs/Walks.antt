-- Walks through the functions of a program, and how often their edges are taken.
-- Counts of edges stand for a longest path with bounded loops (Li and Malik, DAC 1995). Here they are those of a walk.
use Rattle.std.specs.Prelude.{◌≡◌, ℕ, ◌+◌, ◌*◌, ◌<◌, Bool, false, List, [], ◌∷◌, ◌++◌, nat_eq, Option, Some, None}
use Rattle.cost_theory.specs.Graph.{Graph, Loops, total, sum_below, only, enters, IsPlainPath, IsClosing}
use Rattle.cost_theory.specs.Worst.{IsBoundedWalk}
use Rattle.cost_theory.specs.Accepted.{IsProgram, AreAccepted}

-- what the called function goes through, by a table of the functions; nothing where none is called
abbrev pub called_edges : (ℕ → List ℕ) → Option ℕ → List ℕ
called_edges whole None = []
called_edges whole (Some f) = whole f

-- the edges of a walk, and behind each edge of a call those that the called function goes through
abbrev pub with_calls : Graph → (ℕ → List ℕ) → List ℕ → List ℕ
with_calls g whole [] = []
with_calls g whole (e ∷ es) = (e ∷ called_edges whole (g.callee e)) ++ with_calls g whole es

pub record Walks : Type 0 where
  -- by function, the edges of one call without those of the functions that it calls
  pub own : ℕ → List ℕ
  -- by function, all edges of one call, in the order in which they are taken
  pub whole : ℕ → List ℕ

-- Each call of a function goes the same walk from its entry, along which no loop takes more back edges than its bound between two entries.
pub record AreWalks (g : Graph) (l : Loops) (s : Walks) : Type 0 where
  pub bounded : (f : ℕ) → f < g.functions → IsBoundedWalk g l (g.entry f) (s.own f)
  pub whole : (f : ℕ) → f < g.functions → s.whole f ≡ with_calls g s.whole (s.own f)

-- whether a number is there, and is k
abbrev pub is_number : ℕ → Option ℕ → Bool
is_number k None = false
is_number k (Some j) = nat_eq j k

-- a sum over the edges of a program, each as often as it is taken
abbrev pub taken_total : Graph → (ℕ → ℕ) → (ℕ → ℕ) → ℕ
taken_total g x c = sum_below g.edges (λ e. x e * c e)

-- WHAT A WALK IS PUT TOGETHER OF

-- by function a plain path from its entry, and by loop one iteration
pub record AreParts (g : Graph) (l : Loops) (path turn : ℕ → List ℕ) : Type 0 where
  pub paths : (f : ℕ) → f < g.functions → IsPlainPath g l (Some (g.entry f)) (path f)
  pub turns : (k : ℕ) → k < l.loops → IsClosing g l k (Some (l.header k)) (turn k)

-- What their edges cost together, where each path is gone once a call, and each iteration as often as the loop's bound says between two entries.
abbrev pub parts_total : Graph → Loops → (ℕ → List ℕ) → (ℕ → List ℕ) → (ℕ → ℕ) → (ℕ → ℕ) → (ℕ → ℕ) → ℕ
parts_total g l path turn calls entries c =
    sum_below g.functions (λ f. calls f * total c (path f)) + sum_below l.loops (λ k. entries k * (l.bound k * total c (turn k)))

-- Counts that fit: each edge is taken as often as the parts have it; a function is called as often as the edges of its calls are taken, the
-- first once more; and a loop is entered as often as the edges into it are taken, and at each call of a function that begins in it.
pub record AreCounts (g : Graph) (l : Loops) (path turn : ℕ → List ℕ) (x calls entries : ℕ → ℕ) : Type 0 where
  pub taken : (c : ℕ → ℕ) → taken_total g x c ≡ parts_total g l path turn calls entries c
  pub called : (f : ℕ) → f < g.functions → calls f ≡ taken_total g x (λ e. only (is_number f (g.callee e)) 1) + only (nat_eq f 0) 1
  pub entered : (k : ℕ) → k < l.loops →
      entries k ≡ taken_total g x (λ e. only (enters l k (g.source e) (g.target e)) 1) + sum_below g.functions
      (λ f. calls f * only (l.inside k (g.entry f)) 1)

-- THE LAW

-- Counts that fit are those of a walk through the program: it takes each edge so often, so that what its edges cost together is the same
-- sum, whatever each costs.
abbrev pub CountsAreOfWalks : Type 0
CountsAreOfWalks = (g : Graph) (l : Loops) (extent : ℕ → ℕ → Bool) (path turn : ℕ → List ℕ) (x calls entries : ℕ → ℕ) →
    IsProgram g → AreAccepted g l extent → AreParts g l path turn → AreCounts g l path turn x calls entries →
    (s : Walks) × AreWalks g l s × ((c : ℕ → ℕ) → total c (s.whole 0) ≡ taken_total g x c)
