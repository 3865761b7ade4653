-- The least cycles to a return, to an exit and to an end of the run, where loops turn at least so often before they are left. Upper bounds
-- of loops are ignored. A lower bound of a loop is a flow fact, as its upper bound is (Li and Malik, DAC 1995).
use Rattle.std.specs.Prelude.{◌≡◌, ℕ, ◌+◌, ◌-◌, ◌*◌, ◌<◌, Bool, true, false, not, ◌&&◌, ◌||◌, List, Option, Some, None, is_some, option_map}
use Rattle.cost_theory.specs.Graph.{Graph, Loops, total, sum_below, only, is_header, any_below}
use Rattle.cost_theory.specs.Least.{IsLeastIfAny, Least, least_cost, IsWay, way_cost}
use Rattle.cost_theory.specs.LeastTurns.{IsRun, turn_step, turn_last, least_charge}

-- By node the least charged cycles to a return, to an exit before it and to an end of the run; by loop those of one turn; and by loop and
-- node those of the rest of a turn, where there is one.
pub record Charged : Type 0 where
  pub least : Least
  pub turn : ℕ → ℕ
  pub closing : ℕ → ℕ → Option ℕ

-- ---- closed loops

-- a test of the function that an edge calls
abbrev pub calls_so : Option ℕ → (ℕ → Bool) → Bool
calls_so None test = false
calls_so (Some f) test = test f

-- an edge of a call of a function that may exit before it returns
abbrev pub calls_exit : Graph → Least → ℕ → Bool
calls_exit g n e = calls_so (g.callee e) (λ f. is_some (n.to_exit (g.entry f)))

-- A loop is closed where no node of its body has an edge that is an exit, and no call in its body may exit. That its extent has no other
-- nodes than its body's is told by its least trips, which are else 0.
abbrev pub is_closed : Graph → Loops → Least → ℕ → Bool
is_closed g l n k = not (any_below g.edges (λ e. l.inside k (g.source e) && (g.exits e || calls_exit g n e)))

-- how many turns a loop is charged with
abbrev pub charged_trips : Graph → Loops → Least → ℕ → ℕ
charged_trips g l n k = only (is_closed g l n k) (l.least_trips k)

-- ---- charged walks

-- the charge of an edge: of each loop that it enters from outside, all these turns at the least cost of one
abbrev pub charge_of : Graph → Loops → Charged → ℕ → ℕ
charge_of g l n e = least_charge g l (charged_trips g l n.least) n.turn e

-- The charged cost of an edge: its weight and its charge; of a completed call also the least to the callee's return, and of the End edge of a
-- call, as the last one of a walk to an exit, also the least to the callee's exit.
abbrev pub charged_cost : Graph → Loops → (ℕ → ℕ) → Charged → ℕ → ℕ
charged_cost g l w n e = least_cost g w n.least e + charge_of g l n e

-- an edge leads on in its function
abbrev pub leads_on : Graph → ℕ → Bool
leads_on g e = is_some (g.target e)

-- the last edge of a walk to an exit: an exit, or the End edge of a call in which the run may exit
abbrev pub ends_exit : Graph → Least → ℕ → Bool
ends_exit g n e = g.exits e || (not (is_some (g.target e)) && calls_exit g n e)

-- walks to a return, to an exit before a return, and round loop k to its header, with no header between
abbrev pub IsToReturn : Graph → ℕ → List ℕ → Type 0
IsToReturn g v = IsRun g false g.returns (leads_on g) (Some v)

abbrev pub IsToExit : Graph → Least → ℕ → List ℕ → Type 0
IsToExit g n v = IsRun g false (ends_exit g n) (leads_on g) (Some v)

abbrev pub IsToHeader : Graph → Loops → ℕ → ℕ → List ℕ → Type 0
IsToHeader g l k v = IsRun g false (turn_last g l k) (turn_step g l k) (Some v)

-- The numbers. A turn goes from the header within the body to the header. An end of the run is an exit before a return, or a return and then
-- an end behind a call of the function.
pub record AreCharged (g : Graph) (l : Loops) (w : ℕ → ℕ) (n : Charged) : Type 0 where
  pub to_return : (v : ℕ) → IsLeastIfAny (IsToReturn g v) (total (charged_cost g l w n)) (n.least.to_return v)
  pub to_exit : (v : ℕ) → IsLeastIfAny (IsToExit g n.least v) (total (charged_cost g l w n)) (n.least.to_exit v)
  pub to_end : (v : ℕ) → IsLeastIfAny (IsWay g n.least v) (way_cost g n.least v) (n.least.to_end v)
  pub closing : (k v : ℕ) → k < l.loops → IsLeastIfAny (IsToHeader g l k v) (total (charged_cost g l w n)) (n.closing k v)
  pub turn : (k : ℕ) → k < l.loops → n.closing k (l.header k) ≡ Some (n.turn k)

-- ---- behind an edge

abbrev pub end_behind : Charged → Option ℕ → ℕ → Option ℕ
end_behind n None least_charge = None
end_behind n (Some v) least_charge = option_map (λ z. z + least_charge) (n.least.to_end v)

-- the least cycles to an end of the run behind an edge: those from its target, and the edge's charge
abbrev pub to_end_after : Graph → Loops → Charged → ℕ → Option ℕ
to_end_after g l n e = end_behind n (g.target e) (charge_of g l n e)

-- What a run at a node owes with these counts: of the loop whose header the node is, the turns that it has yet to take.
abbrev pub owed : Graph → Loops → Charged → ℕ → (ℕ → ℕ) → ℕ
owed g l n v counts = sum_below l.loops (λ k. only (is_header l k (Some v)) ((charged_trips g l n.least k - counts k) * n.turn k))

-- What is so of the graph of reached code: a call comes back to one node, and nothing leads on from a return.
pub record HasPlainReturns (g : Graph) : Type 0 where
  pub one_return : (d e f u v : ℕ) → d < g.edges → e < g.edges → g.source d ≡ g.source e → g.callee d ≡ Some f → g.target d ≡ Some u →
      g.target e ≡ Some v → u ≡ v
  pub return_last : (d e : ℕ) → d < g.edges → e < g.edges → g.source d ≡ g.source e → g.returns d ≡ true → g.target e ≡ None
