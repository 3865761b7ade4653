-- The stubs of a program: the marks that the slacks of its edges give them, what the marked edges cost, the levels that their switches go to, and the marked
-- instructions with their fragments.
-- The marks are chosen under the plain weights of the edges; all numbers behind the tables are those under the stored weights.
use Rattle.std.specs.Prelude.{◌≡◌, ◌≢◌, ℕ, zero, suc, ◌+◌, ◌-◌, ◌<◌, min, nat_lt, Bool, true, false, cond, List, [], ◌∷◌, map, length, All, slice_get, slice_index, slice_index_or, Some, option_map, Ok}
use Rattle.std.specs.List.{list_any}
use Rattle.scale_base.specs.declared.limits.TheConstants.{BLOCK_LIMIT}
use Rattle.scale_base.specs.declared.fragments.Fragment.{Fragment}
use Rattle.scale_base.specs.declared.fragments.Fragment.TheVariants as fragments
use Rattle.scale_base.specs.declared.stepping.Class.{Class}
use Rattle.scale_base.specs.Image.{Image, is_word_address}
use Rattle.loop_file.specs.declared.notes.LoopNote.{LoopNote}
use Rattle.elf_patch.specs.Stored.{stored_image, IsStubBase}
use Rattle.power_model.specs.Numbers.{PowerModel}
use Rattle.power_model.specs.Price.{cycles_of}
use Rattle.cost_theory.specs.Graph.{Loops, sum_below, only}
use Rattle.cost_theory.specs.Worst.{Numbers, AreNumbers}
use Rattle.cycle_laws.specs.Charged.{Charged, AreCharged, to_end_after}
use Rattle.cost_theory.specs.Reached.{Code, edge_at}
use Rattle.code_text.specs.Text.{text_of}
use Rattle.code_text.specs.EdgeCosts.{edge_class, weights}
use Rattle.flow_graph.specs.FlowGraph.{FlowGraph, graph, IsGraphOf}
use Rattle.loop_forest.specs.Tree.{LoopView, loops, IsTreeOf}
use Rattle.worst_cycles.specs.Worst.{slack_at, rest_at}
use Rattle.scale_base.specs.declared.fragments.Mark.{Mark}
use Rattle.scale_base.specs.declared.fragments.Mark.TheVariants as marks
use Rattle.scale_sites.specs.Counters.{counted_loops, AreCounters}
use Rattle.scale_sites.specs.Marks.{marks_of, first_counter}
use Rattle.scale_sites.specs.Sites.{is_branch}
use Rattle.scale_sites.specs.Weights.{extra_weight, tail_of}
use Rattle.level_tables.specs.Tables as tables
use Rattle.level_tables.specs.declared.edge_numbers.EdgeNumbers.{EdgeNumbers}
use Rattle.level_tables.specs.Budgets.{meets_in_budget}
use Rattle.stub_writer.specs.Stubs.{Site, block_size, block_bytes, patches_from}
use Rattle.stored_runs.specs.Marks.{place_at, fragments_of_class}
use Rattle.stored_runs.specs.Stubbed.{IsOfImage, AreAscending}

-- ---- weights and marks

-- what an edge costs in the original image: the cycles of the class of its instruction
abbrev pub plain_weights : PowerModel → Image → FlowGraph → ℕ → ℕ
plain_weights power image v = weights (text_of image) v.code (cycles_of power.costs)

-- How the levels of a program are chosen: what each edge gains by a switch, the least gain that marks an edge of a branch, and the test that an entry of a table meets.
pub record Rule : Type 0 where
  pub gain : ℕ → ℕ
  pub least_gain : ℕ
  pub test : EdgeNumbers → ℕ → ℕ → Bool

-- by edge, the marks that a rule gives it
abbrev pub marks_by : FlowGraph → LoopView → Rule → ℕ → List Mark
marks_by v t rule e = marks_of (graph v) (loops v t) (counted_loops t) (is_branch v e) (rule.gain e) rule.least_gain e

-- The rule of slacks: an edge gains its slack, where these are the numbers under the plain weights, and an entry is in time and pays.
abbrev pub by_slack : PowerModel → Image → FlowGraph → LoopView → Numbers → Rule
by_slack power image v t plain = record {
  gain = λ e. slack_at (graph v) (loops v t) (plain_weights power image v) plain e;
  least_gain = power.min_gain;
  test = λ told i j. tables.meets_both power told i j;
}

-- The rule of budgets: any edges of branches are chosen, and an entry is within the budgets and pays.
abbrev pub by_choice : PowerModel → (budget : ℕ → ℕ) → (chosen : ℕ → Bool) → Rule
by_choice power budget chosen = record {
  gain = λ e. cond (chosen e) 1 0;
  least_gain = 1;
  test = λ told i j. meets_in_budget power budget told i j;
}

abbrev pub marks_by_slack : PowerModel → Image → FlowGraph → LoopView → Numbers → ℕ → List Mark
marks_by_slack power image v t plain e = marks_by v t (by_slack power image v t plain) e

-- what an edge costs more in the stored image, by its own marks and those of its instruction, and what it costs there; 0 for a number that is none of an edge
abbrev pub extra_weights : PowerModel → FlowGraph → (ℕ → List Mark) → ℕ → ℕ
extra_weights power v marked e = only (nat_lt e (length v.code.edges)) (extra_weight (graph v) power.costs (is_branch v) marked e)

abbrev pub stored_weights : PowerModel → Image → FlowGraph → (ℕ → List Mark) → ℕ → ℕ
stored_weights power image v marked e = plain_weights power image v e + extra_weights power v marked e

-- ---- the tables of an edge

-- the cycles of an edge behind its store at the speed port
abbrev pub tail_at : PowerModel → (ℕ → List Mark) → ℕ → ℕ
tail_at power marked e = tail_of power.costs (marked e)

-- what an edge tells its switch, by the numbers and the least cycles under the stored weights
abbrev pub told_at : PowerModel → Image → FlowGraph → LoopView → (ℕ → List Mark) → Numbers → Charged → ℕ → EdgeNumbers
told_at power image v t marked n least e = record {
  slack = slack_at (graph v) (loops v t) (stored_weights power image v marked) n e;
  left = rest_at (graph v) (loops v t) n e + tail_at power marked e;
  least = option_map (λ z. z + tail_at power marked e) (to_end_after (graph v) (loops v t) least e);
}

-- the loop of a shadow counter
abbrev pub loop_of : List ℕ → ℕ → ℕ
loop_of counted counter = slice_index counted (counter - first_counter)

-- the fragment of a mark on an edge that tells its switch this, where the entries meet a test
abbrev pub fragment_by : PowerModel → (EdgeNumbers → ℕ → ℕ → Bool) → Loops → List ℕ → Numbers → EdgeNumbers → Mark → Fragment
fragment_by power test l counted n told marks.Switch = fragments.Switch (tables.word_by power test told)
fragment_by power test l counted n told (marks.Exit counter) =
    fragments.Exit counter (tables.shift_of (l.bound (loop_of counted counter)))
    (tables.all_rows_by power test (l.bound (loop_of counted counter)) (n.iteration (loop_of counted counter)) told)
fragment_by power test l counted n told (marks.Reset counter) = fragments.Reset counter
fragment_by power test l counted n told (marks.Count counter) = fragments.Count counter
fragment_by power test l counted n told marks.Lowest = fragments.Lowest (tables.goes_lowest power test told)
fragment_by power test l counted n told (marks.Tally counter) =
    fragments.Tally counter (tables.tally_shift (l.bound (loop_of counted counter)))
    (tables.tally_from power test (l.bound (loop_of counted counter)) (n.iteration (loop_of counted counter)) told)

abbrev pub fragment_of : PowerModel → Loops → List ℕ → Numbers → EdgeNumbers → Mark → Fragment
fragment_of power l counted n told mark = fragment_by power (tables.meets_both power) l counted n told mark

-- by edge, its fragments
abbrev pub fragments_with : PowerModel → (EdgeNumbers → ℕ → ℕ → Bool) → Image → FlowGraph → LoopView → (ℕ → List Mark) → Numbers →
    Charged → ℕ → List Fragment
fragments_with power test image v t marked n least e =
    map (fragment_by power test (loops v t) (counted_loops t) n (told_at power image v t marked n least e)) (marked e)

abbrev pub fragments_at : PowerModel → Image → FlowGraph → LoopView → (ℕ → List Mark) → Numbers → Charged → ℕ → List Fragment
fragments_at power image v t marked n least e = fragments_with power (tables.meets_both power) image v t marked n least e

-- ---- the marked instructions

-- The marked instructions, ascending. Each is the branch or the jump that stands at its address, and one of its edges has fragments. On each edge are its
-- fragments, and none at an instruction that isn't marked.
pub record AreSitesOf (image : Image) (code : Code) (fragments : ℕ → List Fragment) (sites : List Site) : Type 0 where
  pub ascending : AreAscending sites
  pub words : All (λ site. (is_word_address image site.at ≡ true) × IsOfImage image site.at site.place) sites
  pub some : All (λ site. (e : ℕ) × (e < length code.edges) × (edge_at (slice_get code.edges e) ≡ site.at) × (fragments e ≢ [])) sites
  pub ways : (e : ℕ) (class : Class) → e < length code.edges → edge_class (text_of image) (slice_get code.edges e) ≡ Some class
      → fragments_of_class (place_at sites (edge_at (slice_get code.edges e))) class ≡ fragments e

-- ---- what is counted

abbrev pub is_switch : Mark → Bool
is_switch marks.Switch = true
is_switch (marks.Exit counter) = false
is_switch (marks.Reset counter) = false
is_switch (marks.Count counter) = false
is_switch marks.Lowest = true
is_switch (marks.Tally counter) = true

abbrev pub is_exit_mark : Mark → Bool
is_exit_mark marks.Switch = false
is_exit_mark (marks.Exit counter) = true
is_exit_mark (marks.Reset counter) = false
is_exit_mark (marks.Count counter) = false
is_exit_mark marks.Lowest = false
is_exit_mark (marks.Tally counter) = false

abbrev pub is_count : Mark → Bool
is_count marks.Switch = false
is_count (marks.Exit counter) = false
is_count (marks.Reset counter) = false
is_count (marks.Count counter) = true
is_count marks.Lowest = false
is_count (marks.Tally counter) = true

-- how many edges have a mark of a kind
abbrev pub edges_with : (Mark → Bool) → FlowGraph → (ℕ → List Mark) → ℕ
edges_with is v marked = sum_below (length v.code.edges) (λ e. only (list_any is (marked e)) 1)

-- ---- counted loops

abbrev pub is_counted : LoopView → ℕ → Bool
is_counted t k = slice_index_or t.counted k false

-- how many of the first k flags are set
abbrev pub set_before : List Bool → ℕ → ℕ
set_before [] k = 0
set_before (flag ∷ flags) zero = 0
set_before (true ∷ flags) (suc k) = suc (set_before flags k)
set_before (false ∷ flags) (suc k) = set_before flags k

-- the shadow counter of a counted loop: they are given in the loops' order
abbrev pub counter_of : LoopView → ℕ → ℕ
counter_of t k = first_counter + set_before t.counted k

-- ---- a program with its numbers

-- The graph and the loops of an image, whose counted loops can be counted, with its numbers under the plain weights and under those with the marks of a rule.
pub record IsWeighedBy (power : PowerModel) (image : Image) (notes : List LoopNote) (v : FlowGraph) (t : LoopView) (rule : Rule)
    (plain stored : Numbers) : Type 0 where
  pub code_is : IsGraphOf (text_of image) v
  pub tree_is : IsTreeOf v notes t
  pub counters : AreCounters v t (Ok (counted_loops t))
  pub plain_are : AreNumbers (graph v) (loops v t) (plain_weights power image v) plain
  pub stored_are : AreNumbers (graph v) (loops v t) (stored_weights power image v (marks_by v t rule)) stored

-- The same where the marks are handed in, whatever chose them: there are no plain weights then.
pub record IsWeighedWith (power : PowerModel) (image : Image) (notes : List LoopNote) (v : FlowGraph) (t : LoopView)
    (marked : ℕ → List Mark) (stored : Numbers) : Type 0 where
  pub code_is : IsGraphOf (text_of image) v
  pub tree_is : IsTreeOf v notes t
  pub counters : AreCounters v t (Ok (counted_loops t))
  pub stored_are : AreNumbers (graph v) (loops v t) (stored_weights power image v marked) stored

-- by the rule of slacks
abbrev pub IsWeighed : PowerModel → Image → List LoopNote → FlowGraph → LoopView → (plain stored : Numbers) → Type 0
IsWeighed power image notes v t plain stored = IsWeighedBy power image notes v t (by_slack power image v t plain) plain stored

-- Its stubs, too: the least cycles under the stored weights, which the tables need, the numbers under the extra weights, and the marked instructions with the
-- place of their block. A block that is too long for any place is looked for one of 4,194,304 bytes: its last stub is out of reach.
pub record HasStubsWith (power : PowerModel) (test : EdgeNumbers → ℕ → ℕ → Bool) (image : Image) (v : FlowGraph) (t : LoopView)
    (marked : ℕ → List Mark) (stored extra : Numbers) (least : Charged) (sites : List Site) (base : ℕ) : Type 0 where
  pub least_are : AreCharged (graph v) (loops v t) (stored_weights power image v marked) least
  pub extra_are : AreNumbers (graph v) (loops v t) (extra_weights power v marked) extra
  pub sites_are : AreSitesOf image v.code (fragments_with power test image v t marked stored least) sites
  pub base_is : IsStubBase image (min (block_size sites) BLOCK_LIMIT) base

-- the marks and the test of a rule
abbrev pub HasStubsBy : PowerModel → Image → FlowGraph → LoopView → Rule → (stored extra : Numbers) → Charged → List Site → (base : ℕ) →
    Type 0
HasStubsBy power image v t rule stored extra least sites base = HasStubsWith power rule.test image v t (marks_by v t rule) stored extra
    least sites base

abbrev pub HasStubs : PowerModel → Image → FlowGraph → LoopView → (plain stored extra : Numbers) → Charged → List Site → (base : ℕ) → Type 0
HasStubs power image v t plain stored extra least sites base = HasStubsBy power image v t (by_slack power image v t plain) stored extra
    least sites base

-- ---- what is stored

-- the original file with the jumps to the stubs, and their block at the base
abbrev pub rewritten_file : Image → List Site → (base start : ℕ) → List ℕ
rewritten_file image sites base start = stored_image image.file (patches_from base sites) base (block_bytes base sites) start
