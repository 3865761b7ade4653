-- Kept steps: each return goes back to its call, no loop takes more back edges than its bound since it was last entered, and none is
-- left before it has taken its least number of them. How deep the calls go is not asked here.
use Rattle.std.specs.Prelude.{ℕ, ◌-◌, ◌^◌, ◌&&◌, ◌||◌, nat_lt, Bool, false, List, [], ◌∷◌, Option, Some, None, if◌then◌else◌}
use Rattle.scale_base.specs.declared.stepping.Move.{Move}
use Rattle.scale_base.specs.declared.stepping.Move.TheVariants.{Local, Call, Return}
use Rattle.scale_base.specs.declared.stepping.Stepped.{Stepped}
use Rattle.scale_base.specs.Arith.{plus}
use Rattle.cost_theory.specs.Graph.{Loops, leaves, count_step, any_below}
use Rattle.graph_runs.specs.ReturnAddresses.{returns_after}

-- the loops with their extents, the addresses that their notes give, in place of their bodies
abbrev pub by_extents : Loops → (ℕ → ℕ → Bool) → Loops
by_extents l extent = record { loops = l.loops; header = l.header; bound = l.bound; least_trips = l.least_trips; inside = extent }

-- what is carried along: the return addresses, the last one first, and a count for each loop
pub record Carried : Type 0 where
  pub returns : List ℕ
  pub counts : ℕ → ℕ

-- the address of the call whose return address is the last one: 4 before it, modulo 2^32
abbrev pub call_of : List ℕ → Option ℕ
call_of [] = None
call_of (r ∷ rs) = Some (plus r (2 ^ 32 - 4))

-- the source of a step: its own address, of a return that of its call, and of a call none
abbrev pub source_of : Move → ℕ → List ℕ → Option ℕ
source_of Local pc returns = Some pc
source_of Call pc returns = None
source_of Return pc returns = call_of returns

-- The counts after a step. A step to a loop's header counts where its source is inside the loop, and else the count begins anew.
abbrev pub counts_after : Loops → Carried → Stepped → ℕ → ℕ
counts_after l c x = count_step l (source_of x.moved x.pc c.returns) (Some x.next) c.counts

-- Whether a step leaves a loop: a local step does, whose source is inside the loop and whose target isn't. A return never does, wherever
-- it comes back to.
abbrev pub leaves_by : Move → Loops → ℕ → ℕ → ℕ → Bool
leaves_by Local l pc next k = leaves l k pc (Some next)
leaves_by Call l pc next k = false
leaves_by Return l pc next k = false

-- Whether a step breaks the bounds of a loop, after which these are the counts: the count is above the bound, or the step leaves the loop
-- and the count is below the least.
abbrev pub breaks : Loops → (ℕ → ℕ) → Stepped → ℕ → Bool
breaks l counts x k = nat_lt (l.bound k) (counts k) || (leaves_by x.moved l x.pc x.next k && nat_lt (counts k) (l.least_trips k))

-- whether it breaks those of some loop
abbrev pub is_broken : Loops → (ℕ → ℕ) → Stepped → Bool
is_broken l counts x = any_below l.loops (breaks l counts x)

abbrev pub keeps_counts : Loops → (ℕ → ℕ) → Stepped → Option (List ℕ) → Option Carried
keeps_counts l counts x None = None
keeps_counts l counts x (Some rs) = if is_broken l counts x then None else Some (record { returns = rs; counts = counts })

-- what is carried after one step more that goes on. None where a step breaks a rule.
abbrev pub kept_more : Loops → Option Carried → Stepped → Option Carried
kept_more l None x = None
kept_more l (Some c) x = keeps_counts l (counts_after l c x) x (returns_after c.returns x)

-- no return address and no back edge yet
abbrev pub carried_first : Carried
carried_first = record { returns = []; counts = λ k. 0 }
