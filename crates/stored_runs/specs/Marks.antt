-- What the marks on an edge do: the cycles that they add to it, the level that they choose, and the shadow counters behind them.
-- An edge is told by a step over it: by its address and its class, since of a branch one edge is taken and one is not.
use Rattle.std.specs.Prelude.{ℕ, cond, ◌+◌, ◌*◌, ◌/◌, ◌^◌, ◌==◌, List, [], ◌∷◌, fold, slice_index, Option, Some, None, unwrap_or, if◌then◌else◌}
use Rattle.std.specs.List.{sum_by}
use Rattle.scale_base.specs.declared.fragments.Fragment.{Fragment}
use Rattle.scale_base.specs.declared.fragments.Fragment.TheVariants.{Switch, Exit, Reset, Count, Lowest, Tally}
use Rattle.scale_base.specs.declared.stepping.Class.{Class}
use Rattle.scale_base.specs.declared.stepping.Class.TheVariants as classes
use Rattle.scale_base.specs.declared.stepping.Stepped.{Stepped}
use Rattle.stub_writer.specs.Stubs.{Site, Way, Place, Forked, Straight}
use Rattle.stored_runs.specs.Meaning.{four_bits, is_due}
use Rattle.stored_runs.specs.Cycles.{fragment_cost, fragment_tail}

-- ---- which fragments stand on an edge

-- the marked instruction at an address
abbrev pub place_at : List Site → ℕ → Option Place
place_at [] at = None
place_at (site ∷ sites) at = if site.at == at then Some site.place else place_at sites at

-- the fragments of the way that a step of the class takes
abbrev pub forked_by : Class → Way → Way → List Fragment
forked_by classes.Taken untaken taken = taken.fragments
forked_by class untaken taken = untaken.fragments

abbrev pub fragments_of_class : Option Place → Class → List Fragment
fragments_of_class None class = []
fragments_of_class (Some (Forked op rs1 rs2 untaken taken)) class = forked_by class untaken taken
fragments_of_class (Some (Straight way)) class = way.fragments

abbrev pub fragments_over : List Site → Stepped → List Fragment
fragments_over sites x = fragments_of_class (place_at sites x.pc) x.class

-- ---- cycles

-- the jumps that a marked instruction takes more: a branch that to its stub and that back, a jump that back
abbrev pub jumps_by : Option Place → ℕ
jumps_by None = 0
jumps_by (Some (Forked op rs1 rs2 untaken taken)) = 2
jumps_by (Some (Straight way)) = 1

-- the cycles that an edge takes more in the stored image
abbrev pub extra_cycles : (Class → ℕ) → List Site → Stepped → ℕ
extra_cycles costs sites x = jumps_by (place_at sites x.pc) * costs classes.Jump + sum_by (fragment_cost costs) (fragments_over sites x)

-- the stored weight of an edge
abbrev pub stored_cycles : (Class → ℕ) → List Site → Stepped → ℕ
stored_cycles costs sites x = costs x.class + extra_cycles costs sites x

-- the cycles of an edge behind the store of its first fragment at the port: the rest of that, the fragments that follow, and the jump back
abbrev pub tail_cycles : (Class → ℕ) → List Fragment → ℕ
tail_cycles costs [] = 0
tail_cycles costs (f ∷ fs) = fragment_tail costs f + sum_by (fragment_cost costs) fs + costs classes.Jump

-- ---- the level and the shadow counters

-- a counter is known by the number of its word in the window
pub record Shadow : Type 0 where
  pub level : ℕ
  pub counters : ℕ → ℕ

-- at a level, with all counters 0
abbrev pub shadow_first : ℕ → Shadow
shadow_first level = record { level = level; counters = λ k. 0 }

-- the level that fragments store at the port, where they store one
abbrev pub level_stored : List Fragment → Shadow → Option ℕ
level_stored (Switch word ∷ fs) h = Some (four_bits word h.level)
level_stored (Exit counter shift rows ∷ fs) h = Some (four_bits (slice_index rows (h.counters counter / 2 ^ shift)) h.level)
level_stored (Lowest down ∷ fs) h = cond down (Some 0) None
level_stored (Tally counter shift from ∷ fs) h = cond (is_due shift from (h.counters counter)) (Some 0) None
level_stored fs h = None

-- the counters behind one fragment
abbrev pub counters_after : Fragment → (ℕ → ℕ) → ℕ → ℕ
counters_after (Switch word) c k = c k
counters_after (Exit counter shift rows) c k = if k == counter then 0 else c k
counters_after (Reset counter) c k = if k == counter then 0 else c k
counters_after (Count counter) c k = if k == counter then c k + 1 else c k
counters_after (Lowest down) c k = c k
counters_after (Tally counter shift from) c k = if k == counter then c k + 1 else c k

abbrev pub counters_behind : List Fragment → (ℕ → ℕ) → ℕ → ℕ
counters_behind [] c = c
counters_behind (f ∷ fs) c = counters_behind fs (counters_after f c)

-- the level and the counters behind an edge
abbrev pub shadow_behind : List Fragment → Shadow → Shadow
shadow_behind fs h = record { level = unwrap_or (level_stored fs h) h.level; counters = counters_behind fs h.counters }

abbrev pub shadow_more : List Site → Shadow → Stepped → Shadow
shadow_more sites h x = shadow_behind (fragments_over sites x) h

-- those after the steps of a run of the original image
abbrev pub shadow_after : List Site → Shadow → List Stepped → Shadow
shadow_after sites h xs = fold (shadow_more sites) h xs
