-- Scaffold: what the parts of a stored image are found to be, on the way from the marks to the file. What is wanted of the marks, and by which rule levels have budgets, are parameters.
use Rattle.std.specs.Prelude.{◌≡◌, ◌⊎◌, ℕ, ◌<◌, ◌≤◌, min, List, length, map, All, slice_get, slice_index, Option, Some, None, Result, Ok, Err}
use Rattle.scale_base.specs.declared.limits.TheConstants.{BLOCK_LIMIT, CYCLE_LIMIT, WORD_LIMIT}
use Rattle.scale_base.specs.declared.refusal.Refusal.{Refusal}
use Rattle.scale_base.specs.declared.refusal.Refusal.TheVariants.{DeadlineMissed, TooLong}
use Rattle.scale_base.specs.Image.{Image}
use Rattle.power_model.specs.Numbers.{PowerModel}
use Rattle.power_model.specs.Price.{time_at}
use Rattle.power_model.specs.Slowest.{slowest_of, fastest}
use Rattle.elf_patch.specs.Stored.{IsStubBase}
use Rattle.cost_theory.specs.Worst.{Numbers, AreNumbers}
use Rattle.cycle_laws.specs.Charged.{Charged, AreCharged}
use Rattle.flow_graph.specs.FlowGraph.{FlowGraph, graph, IsGraphOf}
use Rattle.code_text.specs.Text.{text_of}
use Rattle.level_tables.specs.Budgets.{meets_in_budget, budget_at}
use Rattle.loop_forest.specs.Tree.{LoopView, loops, IsTreeOf}
use Rattle.scale_sites.specs.Counters.{AreCounters, counted_loops}
use Rattle.scale_sites.specs.Sites.{SitesView, is_branch, marks_at_edge}
use Rattle.scale_sites.specs.Weights.{jumps_of}
use Rattle.stub_writer.specs.declared.site.StubBlock.{StubBlock}
use Rattle.stub_writer.specs.declared.site.StubSite.{StubSite}
use Rattle.stub_writer.specs.Block.{block_view, emitted}
use Rattle.stub_writer.specs.Sites.{IsSite, site_of}
use Rattle.stub_writer.specs.Stubs.{block_size, block_bytes, patches_from, out_of_reach}
use Rattle.loop_file.specs.declared.notes.LoopNote.{LoopNote}
use Rattle.rewritten_runs.specs.Stubs.{IsWeighedWith, HasStubsWith, extra_weights, stored_weights, fragments_with, AreSitesOf}
use Rattle.marked_images.specs.declared.stubs.Marking.{Marking}
use Rattle.marked_images.specs.declared.stubs.Marked.{Marked}
use Rattle.marked_images.specs.declared.scaling.Scaling.{Scaling}
use Rattle.marked_images.specs.Markings.{IsMarking, test_of}
use Rattle.marked_images.specs.Stored.{BudgetRule, IsStubbedProgram, rewritten_summary}
use Rattle.marked_images.specs.Wanted.{Wanted, ChoosesSites, marked_where}

-- ---- the marks

pub record HasMarks (v : FlowGraph) (t : LoopView) (wanted : Wanted) (s : SitesView) : Type 0 where
  pub kinds : ChoosesSites v wanted.switch
  pub size : length s.marks ≡ length v.code.edges
  pub marks : (e : ℕ) → e < length v.code.edges → marks_at_edge s e ≡ marked_where v t wanted e
  pub jumps : (e : ℕ) → e < length v.code.edges → slice_index s.jumps e ≡ jumps_of (graph v) (is_branch v) (marked_where v t wanted) e

-- ---- the starting level

abbrev pub starting_of : PowerModel → ℕ → Option ℕ → Result ℕ Refusal
starting_of power worst None = Err (DeadlineMissed (time_at power (fastest power) worst) power.deadline)
starting_of power worst (Some start) = Ok start

abbrev pub chosen_level : PowerModel → ℕ → Result ℕ Refusal
chosen_level power worst = starting_of power worst (slowest_of power worst)

-- ---- the numbers

pub record IsMarkedAt (power : PowerModel) (image : Image) (v : FlowGraph) (t : LoopView) (wanted : Wanted) (rule : BudgetRule)
    (stored : Numbers) (least : Charged) (m : Marking) (start : ℕ) : Type 0 where
  pub stored_are : AreNumbers (graph v) (loops v t) (stored_weights power image v (marked_where v t wanted)) stored
  pub least_are : AreCharged (graph v) (loops v t) (stored_weights power image v (marked_where v t wanted)) least
  pub marks : HasMarks v t wanted m.sites
  pub marking : IsMarking power image v t wanted stored least m
  pub short : stored.worst 0 ≤ CYCLE_LIMIT
  pub worst : slice_get m.worst.worst 0 ≡ Some (stored.worst 0)
  pub slow : slowest_of power (stored.worst 0) ≡ Some start
  pub budgets : (i : ℕ) → budget_at m.budgets i ≡ rule start (stored.worst 0) i

-- too many cycles under the stored weights, or too late
pub record IsUnfit (power : PowerModel) (image : Image) (v : FlowGraph) (t : LoopView) (wanted : Wanted) (stored : Numbers)
    (refusal : Refusal) : Type 0 where
  pub stored_are : AreNumbers (graph v) (loops v t) (stored_weights power image v (marked_where v t wanted)) stored
  pub why : ((CYCLE_LIMIT < stored.worst 0) × (refusal ≡ TooLong)) ⊎
      ((stored.worst 0 ≤ CYCLE_LIMIT) × (slowest_of power (stored.worst 0) ≡ None) ×
      (refusal ≡ DeadlineMissed (time_at power (fastest power) (stored.worst 0)) power.deadline))

abbrev pub IsMarkingFound : PowerModel → Image → FlowGraph → LoopView → Wanted → BudgetRule → Result (Marking × ℕ) Refusal → Type 0
IsMarkingFound power image v t wanted rule (Ok x) = (stored : Numbers) × (least : Charged) ×
    IsMarkedAt power image v t wanted rule stored least x.0 x.1
IsMarkingFound power image v t wanted rule (Err refusal) = (stored : Numbers) × IsUnfit power image v t wanted stored refusal

-- the graph and the loops of an image, whose counted loops can be counted, with its marking and its starting level
pub record IsMarked (power : PowerModel) (image : Image) (notes : List LoopNote) (wanted : Wanted) (rule : BudgetRule) (m : Marked)
    : Type 0 where
  pub code_is : IsGraphOf (text_of image) m.graph
  pub tree_is : IsTreeOf m.graph notes m.tree
  pub counters : AreCounters m.graph m.tree (Ok (counted_loops m.tree))
  pub found : IsMarkingFound power image m.graph m.tree wanted rule (Ok (m.marking, m.start))

-- ---- the stubs

-- the marked instructions, in the form that their code is written from
pub record AreStubsOf (power : PowerModel) (image : Image) (v : FlowGraph) (t : LoopView) (wanted : Wanted) (stored : Numbers)
    (least : Charged) (m : Marking) (stubs : List StubSite) : Type 0 where
  pub few : length stubs ≤ WORD_LIMIT
  pub each : All IsSite stubs
  pub are : AreSitesOf image v.code (fragments_with power (test_of power m) image v t (marked_where v t wanted) stored least)
      (map site_of stubs)

-- the marking of the program of an image
abbrev pub IsMarkedProgram : PowerModel → Image → FlowGraph → LoopView → Marking → Type 0
IsMarkedProgram power image v t m = (notes : List LoopNote) × (wanted : Wanted) × (stored : Numbers) × (least : Charged) ×
    IsWeighedWith power image notes v t (marked_where v t wanted) stored × IsMarking power image v t wanted stored least m

-- its stubs, whatever its numbers
abbrev pub AreStubsFound : PowerModel → Image → FlowGraph → LoopView → Marking → List StubSite → Type 0
AreStubsFound power image v t m stubs = (notes : List LoopNote) (wanted : Wanted) (stored : Numbers) (least : Charged) →
    IsWeighedWith power image notes v t (marked_where v t wanted) stored → IsMarking power image v t wanted stored least m →
    AreStubsOf power image v t wanted stored least m stubs

-- the block at its base, or that it is out of reach there
abbrev pub IsBlockGiven : Image → List StubSite → Result (StubBlock × ℕ) Refusal → Type 0
IsBlockGiven image stubs (Ok x) = IsStubBase image (min (block_size (map site_of stubs)) BLOCK_LIMIT) x.1 ×
    (emitted x.1 (map site_of stubs) ≡ Ok (block_view x.0))
IsBlockGiven image stubs (Err refusal) = (base : ℕ) × IsStubBase image (min (block_size (map site_of stubs)) BLOCK_LIMIT) base ×
    (emitted base (map site_of stubs) ≡ Err refusal)

-- ---- what stubs add

-- the marks are those of a program whose worst cycles are in range under the stored weights
abbrev pub IsInRange : PowerModel → FlowGraph → LoopView → SitesView → Type 0
IsInRange power v t s = (image : Image) × (notes : List LoopNote) × (wanted : Wanted) × (stored : Numbers) ×
    IsWeighedWith power image notes v t (marked_where v t wanted) stored × HasMarks v t wanted s × (stored.worst 0 ≤ CYCLE_LIMIT)

abbrev pub IsExtraFound : PowerModel → FlowGraph → LoopView → Wanted → Result ℕ Refusal → Type 0
IsExtraFound power v t wanted (Ok x) = (extra : Numbers) × AreNumbers (graph v) (loops v t)
    (extra_weights power v (marked_where v t wanted)) extra × (x ≡ extra.worst 0)
IsExtraFound power v t wanted (Err refusal) = ⊥

-- ---- together

-- what is stored of the program of an image besides its file
pub record IsScaled (power : PowerModel) (image : Image) (notes : List LoopNote) (v : FlowGraph) (t : LoopView) (wanted : Wanted)
    (rule : BudgetRule) (s : Scaling) : Type 0 where
  pub kinds : ChoosesSites v wanted.switch
  pub stored : Numbers
  pub extra : Numbers
  pub least : Charged
  pub weighed : IsWeighedWith power image notes v t (marked_where v t wanted) stored
  pub short : stored.worst 0 ≤ CYCLE_LIMIT
  pub slow : slowest_of power (stored.worst 0) ≡ Some s.summary.start
  pub stubs : HasStubsWith power (meets_in_budget power (rule s.summary.start (stored.worst 0))) image v t (marked_where v t wanted) stored
      extra least (map site_of s.stubs.items) s.base
  pub near : out_of_reach s.base (map site_of s.stubs.items) ≡ None
  pub bytes : s.block.bytes.items ≡ block_bytes s.base (map site_of s.stubs.items)
  pub patches : s.block.patches.items ≡ patches_from s.base (map site_of s.stubs.items)
  pub summary : s.summary ≡ rewritten_summary power v (marked_where v t wanted) s.summary.start (stored.worst 0) (extra.worst 0)
      (map site_of s.stubs.items)

-- or that a stub is out of reach
abbrev pub IsScalingFound : PowerModel → Image → List LoopNote → FlowGraph → LoopView → Wanted → BudgetRule → Result Scaling Refusal →
    Type 0
IsScalingFound power image notes v t wanted rule (Ok s) = IsScaled power image notes v t wanted rule s
IsScalingFound power image notes v t wanted rule (Err refusal) = IsStubbedProgram power image notes v t wanted rule (Err refusal)
