-- What the marks cost.
use Rattle.std.specs.Prelude.{◌≡◌, ℕ, ◌+◌, ◌*◌, Bool, true, false, cond, ◌&&◌, nat_eq, List, [], ◌∷◌}
use Rattle.power_model.specs.declared.power.Costs.{Costs}
use Rattle.cost_theory.specs.Graph.{Graph, any_below}
use Rattle.scale_base.specs.declared.fragments.Mark.{Mark}
use Rattle.scale_base.specs.declared.fragments.Mark.TheVariants.{Switch, Exit, Reset, Count, Lowest, Tally}

-- the cost of so many stores, loads and alu instructions
abbrev pub bill : Costs → ℕ → ℕ → ℕ → ℕ
bill costs stores loads alus = stores * costs.store + loads * costs.load + alus * costs.alu

-- the cost of a mark's fragment
abbrev pub mark_cost : Costs → Mark → ℕ
mark_cost costs Switch = bill costs 3 3 5
mark_cost costs (Exit k) = bill costs 4 5 7
mark_cost costs (Reset k) = bill costs 1 0 0
mark_cost costs (Count k) = bill costs 2 2 1
mark_cost costs Lowest = bill costs 1 0 0
mark_cost costs (Tally k) = bill costs 3 2 5

abbrev pub marks_cost : Costs → List Mark → ℕ
marks_cost costs [] = 0
marks_cost costs (m ∷ ms) = mark_cost costs m + marks_cost costs ms

-- a switching mark is the first of its edge
abbrev pub switches : List Mark → Bool
switches [] = false
switches (Switch ∷ ms) = true
switches (Exit k ∷ ms) = true
switches (Reset k ∷ ms) = false
switches (Count k ∷ ms) = false
switches (Lowest ∷ ms) = true
switches (Tally k ∷ ms) = true

abbrev pub behind_first : List Mark → List Mark
behind_first [] = []
behind_first (m ∷ ms) = ms

-- the cycles of a fragment behind its port store, where it has one
abbrev pub mark_tail : Costs → Mark → ℕ
mark_tail costs Switch = 2 * costs.load
mark_tail costs (Exit k) = 2 * costs.load
mark_tail costs (Reset k) = 2 * costs.load
mark_tail costs (Count k) = 2 * costs.load
mark_tail costs Lowest = 0
mark_tail costs (Tally k) = costs.load

abbrev pub first_tail : Costs → List Mark → ℕ
first_tail costs [] = 2 * costs.load
first_tail costs (m ∷ ms) = mark_tail costs m

-- the cycles behind the port store: those of the first mark, the marks that follow, and the closing jump
abbrev pub tail_of : Costs → List Mark → ℕ
tail_of costs ms = first_tail costs ms + marks_cost costs (behind_first ms) + costs.jump

-- the cycles of a switching fragment up to its port store
abbrev pub before_store : Costs → Mark → ℕ
before_store costs Switch = bill costs 3 1 5
before_store costs (Exit k) = bill costs 4 3 7
before_store costs (Reset k) = 0
before_store costs (Count k) = 0
before_store costs Lowest = bill costs 1 0 0
before_store costs (Tally k) = bill costs 3 1 5

abbrev pub first_store : Costs → List Mark → ℕ
first_store costs [] = 0
first_store costs (m ∷ ms) = before_store costs m

-- what a patched instruction's edge costs besides its own: its jumps, and its fragments
abbrev pub extra_of : Costs → ℕ → List Mark → ℕ
extra_of costs jumps ms = jumps * costs.jump + marks_cost costs ms

-- by edge: two jumps for a branch and one for a jump, where an edge of the instruction has a mark; else none
abbrev pub some_mark : List Mark → Bool
some_mark [] = false
some_mark (m ∷ ms) = true

abbrev pub is_patched : Graph → (ℕ → List Mark) → ℕ → Bool
is_patched g marks u = any_below g.edges (λ e. nat_eq (g.source e) u && some_mark (marks e))

abbrev pub jumps_of : Graph → (ℕ → Bool) → (ℕ → List Mark) → ℕ → ℕ
jumps_of g branch marks e = cond (is_patched g marks (g.source e)) (cond (branch e) 2 1) 0

-- the extra and the stored weights
abbrev pub extra_weight : Graph → Costs → (ℕ → Bool) → (ℕ → List Mark) → ℕ → ℕ
extra_weight g costs branch marks e = extra_of costs (jumps_of g branch marks e) (marks e)

-- The law: the extra cycles of a branch's edge with a switch are a jump, those up to the port store, and the tail.
abbrev pub ExtraSplits : Type 0
ExtraSplits = (costs : Costs) (ms : List Mark) → switches ms ≡ true → extra_of costs 2 ms ≡ costs.jump + first_store costs ms + tail_of
    costs ms
