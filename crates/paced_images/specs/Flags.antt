-- Scaffold: the wanted edges and the tallied counters, as lists of flags.
use Rattle.std.specs.Prelude.{◌≡◌, ℕ, ◌<◌, nat_lt, ◌&&◌, ◌||◌, Bool, List, length, map, slice_get, Some}
use Rattle.flow_graph.specs.FlowGraph.{FlowGraph}
use Rattle.loop_forest.specs.Tree.{LoopView}
use Rattle.scale_sites.specs.Counters.{counted_loops}
use Rattle.scale_sites.specs.Sites.{flag_at}
use Rattle.paced_images.specs.declared.wanted.SwitchSite.{SwitchSite}
use Rattle.paced_images.specs.Wanted.{names_some, wanted_by, lowest_by, header_tallied}

-- of the first n edges
pub record AreFlags (v : FlowGraph) (sites : List SwitchSite) (n : ℕ) (flags : List Bool) : Type 0 where
  pub size : length flags ≡ n
  pub each : (e : ℕ) → e < n → slice_get flags e ≡ Some (wanted_by v sites e)

-- the flags with those raised of the edges below n that a site names
pub record AreRaised (v : FlowGraph) (site : SwitchSite) (n : ℕ) (old new : List Bool) : Type 0 where
  pub size : length new ≡ length old
  pub each : (e : ℕ) → e < length old → flag_at new e ≡ (flag_at old e || (nat_lt e n && names_some site (slice_get v.code.edges e)))

-- of the first n edges, those that are to go to the lowest level
pub record AreLowest (v : FlowGraph) (sites : List SwitchSite) (n : ℕ) (flags : List Bool) : Type 0 where
  pub size : length flags ≡ n
  pub each : (e : ℕ) → e < n → slice_get flags e ≡ Some (lowest_by v sites e)

-- by the places of the counted loops, which are tallied
abbrev pub AreTallied : FlowGraph → LoopView → (tallied : List ℕ) → List Bool → Type 0
AreTallied v t tallied flags = flags ≡ map (λ k. header_tallied v t tallied (Some k)) (counted_loops t)
