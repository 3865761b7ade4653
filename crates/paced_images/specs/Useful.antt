-- Which marks are of use. A site is, where its switch goes to a lower level from some level that a run may have there. A run begins at the starting level, and never raises it. A
-- switch to the lowest level does so only where its edge goes there from every level. A tallied loop is, where some tally on its back edges comes due within its bound.
use Rattle.std.specs.Prelude.{◌≡◌, ℕ, ◌/◌, ◌^◌, ◌==◌, nat_le, nat_lt, ◌<◌, ◌&&◌, Bool, true, false, List, length, slice_get, Some, Result, Ok, Err}
use Rattle.std.specs.List.{filter, list_any}
use Rattle.scale_base.specs.declared.refusal.Refusal.{Refusal}
use Rattle.scale_base.specs.declared.summary.Summary.{Summary}
use Rattle.scale_base.specs.declared.fragments.Mark.{Mark}
use Rattle.scale_base.specs.declared.fragments.Mark.TheVariants.{Switch, Exit, Reset, Count, Lowest, Tally}
use Rattle.scale_base.specs.Image.{Image, image_of}
use Rattle.power_model.specs.Numbers.{PowerModel}
use Rattle.power_model.specs.Slowest.{slowest_of}
use Rattle.machine_file.specs.Machine.{read_machine}
use Rattle.loop_file.specs.declared.notes.LoopNote.{LoopNote}
use Rattle.loop_file.specs.Loops.{read_loops}
use Rattle.cost_theory.specs.Graph.{any_below}
use Rattle.cost_theory.specs.Worst.{Numbers}
use Rattle.cycle_laws.specs.Charged.{Charged, AreCharged}
use Rattle.flow_graph.specs.FlowGraph.{FlowGraph, graph}
use Rattle.level_tables.specs.Tables.{entry_by, goes_lowest, tally_from, tally_shift}
use Rattle.level_tables.specs.declared.edge_numbers.EdgeNumbers.{EdgeNumbers}
use Rattle.loop_forest.specs.Tree.{LoopView, loops}
use Rattle.rewritten_runs.specs.Stubs.{IsWeighedWith, loop_of, stored_weights, told_at}
use Rattle.scale_sites.specs.Counters.{counted_loops}
use Rattle.marked_images.specs.declared.stubs.Marked.{Marked}
use Rattle.paced_images.specs.declared.wanted.SwitchSite.{SwitchSite}
use Rattle.marked_images.specs.Markings.{Whichever, test_of}
use Rattle.paced_images.specs.Paced.{IsPaced, paced_test}
use Rattle.paced_images.specs.Wanted.{notes_by, names_some, marked_at}
use Rattle.marked_images.specs.Wanted.{marked_where}

-- ---- what a switch lowers

-- a mark that a site gave its edge, and that stores a level: a switch does, and one to the lowest level where its edge goes there from every level
abbrev pub is_site_mark : PowerModel → (EdgeNumbers → ℕ → ℕ → Bool) → EdgeNumbers → Mark → Bool
is_site_mark power test told Switch = true
is_site_mark power test told (Exit counter) = false
is_site_mark power test told (Reset counter) = false
is_site_mark power test told (Count counter) = false
is_site_mark power test told Lowest = goes_lowest power test told
is_site_mark power test told (Tally counter) = false

-- from some level up to the starting one, a switch on an edge with these numbers goes to a lower one
abbrev pub lowers_some : PowerModel → (EdgeNumbers → ℕ → ℕ → Bool) → (start : ℕ) → EdgeNumbers → Bool
lowers_some power test start told = any_below (length power.levels) (λ i. nat_le i start && nat_lt (entry_by test told i) i)

-- an edge has such a mark, and that does
abbrev pub is_lowered : PowerModel → (EdgeNumbers → ℕ → ℕ → Bool) → (start : ℕ) → Image → FlowGraph → LoopView → (ℕ → List Mark) →
    Numbers → Charged → ℕ → Bool
is_lowered power test start image v t marked n least e =
    list_any (is_site_mark power test (told_at power image v t marked n least e)) (marked e) && lowers_some power test start
    (told_at power image v t marked n least e)

-- a site names such an edge
abbrev pub names_lowered : PowerModel → (EdgeNumbers → ℕ → ℕ → Bool) → (start : ℕ) → Image → FlowGraph → LoopView → (ℕ → List Mark) →
    Numbers → Charged → SwitchSite → ℕ → Bool
names_lowered power test start image v t marked n least site e = names_some site (slice_get v.code.edges e) && is_lowered power test start
    image v t marked n least e

abbrev pub is_useful : PowerModel → (EdgeNumbers → ℕ → ℕ → Bool) → (start : ℕ) → Image → FlowGraph → LoopView → (ℕ → List Mark) → Numbers →
    Charged → SwitchSite → Bool
is_useful power test start image v t marked n least site = any_below (length v.code.edges)
    (names_lowered power test start image v t marked n least site)

-- ---- what a tally lowers

-- A count of turns that the loop's bound allows is one from which on every level goes to the lowest; and the starting level isn't that.
abbrev pub comes_due : PowerModel → (EdgeNumbers → ℕ → ℕ → Bool) → (start bound iteration : ℕ) → EdgeNumbers → Bool
comes_due power test start bound iteration told = nat_lt 0 start && nat_le (tally_from power test bound iteration told)
    (bound / 2 ^ tally_shift bound)

-- a mark is the tally of the loop at an address, and comes due
abbrev pub is_due : PowerModel → (EdgeNumbers → ℕ → ℕ → Bool) → (start : ℕ) → FlowGraph → LoopView → Numbers → (header : ℕ) → EdgeNumbers →
    Mark → Bool
is_due power test start v t n header told Switch = false
is_due power test start v t n header told (Exit counter) = false
is_due power test start v t n header told (Reset counter) = false
is_due power test start v t n header told (Count counter) = false
is_due power test start v t n header told Lowest = false
is_due power test start v t n header told (Tally counter) =
    ((loops v t).header (loop_of (counted_loops t) counter) == header) && comes_due power test start
    ((loops v t).bound (loop_of (counted_loops t) counter)) (n.iteration (loop_of (counted_loops t) counter)) told

-- an edge has such a mark
abbrev pub is_due_at : PowerModel → (EdgeNumbers → ℕ → ℕ → Bool) → (start : ℕ) → Image → FlowGraph → LoopView → (ℕ → List Mark) → Numbers →
    Charged → (header : ℕ) → ℕ → Bool
is_due_at power test start image v t marked n least header e = list_any (is_due power test start v t n header
    (told_at power image v t marked n least e)) (marked e)

abbrev pub is_useful_loop : PowerModel → (EdgeNumbers → ℕ → ℕ → Bool) → (start : ℕ) → Image → FlowGraph → LoopView → (ℕ → List Mark) →
    Numbers → Charged → (header : ℕ) → Bool
is_useful_loop power test start image v t marked n least header = any_below (length v.code.edges)
    (is_due_at power test start image v t marked n least header)

-- ---- by a marked program

abbrev pub IsLoweredAt : PowerModel → Marked → ℕ → Bool → Type 0
IsLoweredAt power m e b = Whichever power m.graph m.tree m.marking (λ image wanted stored least.
    b ≡ is_lowered power (test_of power m.marking) m.start image m.graph m.tree (marked_where m.graph m.tree wanted) stored least e)

abbrev pub IsNamedAt : PowerModel → Marked → SwitchSite → ℕ → Bool → Type 0
IsNamedAt power m site e b = Whichever power m.graph m.tree m.marking (λ image wanted stored least.
    b ≡ names_lowered power (test_of power m.marking) m.start image m.graph m.tree (marked_where m.graph m.tree wanted) stored least site e)

-- of the edges below a number
abbrev pub NoneNamed : PowerModel → Marked → SwitchSite → ℕ → Type 0
NoneNamed power m site n = Whichever power m.graph m.tree m.marking (λ image wanted stored least. (e : ℕ) → e < n →
    names_lowered power (test_of power m.marking) m.start image m.graph m.tree (marked_where m.graph m.tree wanted) stored least site e ≡
    false)

abbrev pub IsUsefulAt : PowerModel → Marked → SwitchSite → Bool → Type 0
IsUsefulAt power m site b = Whichever power m.graph m.tree m.marking (λ image wanted stored least.
    b ≡ is_useful power (test_of power m.marking) m.start image m.graph m.tree (marked_where m.graph m.tree wanted) stored least site)

abbrev pub AreKeptBy : PowerModel → Marked → List SwitchSite → List SwitchSite → Type 0
AreKeptBy power m sites kept = Whichever power m.graph m.tree m.marking (λ image wanted stored least.
    kept ≡ filter (is_useful power (test_of power m.marking) m.start image m.graph m.tree (marked_where m.graph m.tree wanted) stored
    least) sites)

-- an edge has the tally of a counter
abbrev pub IsDueBy : PowerModel → Marked → (header : ℕ) → ℕ → (counter : ℕ) → Bool → Type 0
IsDueBy power m header e counter b = Whichever power m.graph m.tree m.marking (λ image wanted stored least.
    b ≡ is_due power (test_of power m.marking) m.start m.graph m.tree stored header
    (told_at power image m.graph m.tree (marked_where m.graph m.tree wanted) stored least e) (Tally counter))

abbrev pub IsDueAt : PowerModel → Marked → (header : ℕ) → ℕ → Bool → Type 0
IsDueAt power m header e b = Whichever power m.graph m.tree m.marking (λ image wanted stored least.
    b ≡ is_due_at power (test_of power m.marking) m.start image m.graph m.tree (marked_where m.graph m.tree wanted) stored least header e)

-- of the edges below a number
abbrev pub NoneDue : PowerModel → Marked → (header : ℕ) → ℕ → Type 0
NoneDue power m header n = Whichever power m.graph m.tree m.marking (λ image wanted stored least. (e : ℕ) → e < n →
    is_due_at power (test_of power m.marking) m.start image m.graph m.tree (marked_where m.graph m.tree wanted) stored least header e ≡
    false)

abbrev pub IsLoopUseful : PowerModel → Marked → (header : ℕ) → Bool → Type 0
IsLoopUseful power m header b = Whichever power m.graph m.tree m.marking (λ image wanted stored least.
    b ≡ is_useful_loop power (test_of power m.marking) m.start image m.graph m.tree (marked_where m.graph m.tree wanted) stored least
    header)

abbrev pub AreLoopsKeptBy : PowerModel → Marked → List ℕ → List ℕ → Type 0
AreLoopsKeptBy power m tallied kept = Whichever power m.graph m.tree m.marking (λ image wanted stored least.
    kept ≡ filter (is_useful_loop power (test_of power m.marking) m.start image m.graph m.tree (marked_where m.graph m.tree wanted) stored
    least) tallied)

-- ---- what the files give

-- sites, and tallied loops by the addresses of their headers
abbrev pub Marks : Type 0
Marks = List SwitchSite × List ℕ

-- the sites and the tallied loops that are of use, by the numbers of the program with all of them
pub record AreKept (image machine loop_file : List ℕ) (wanted : List SwitchSite) (counted : Bool) (tallied : List ℕ) (share : ℕ)
    (kept : Marks) : Type 0 where
  pub power : PowerModel
  pub original : Image
  pub notes : List LoopNote
  pub power_is : read_machine machine ≡ Ok power
  pub original_is : image_of image ≡ Ok original
  pub notes_are : read_loops original loop_file ≡ Ok notes
  pub code : FlowGraph
  pub tree : LoopView
  pub stored : Numbers
  pub least : Charged
  pub start : ℕ
  pub weighed : IsWeighedWith power original (notes_by counted tallied notes) code tree (marked_at code tree wanted tallied) stored
  pub least_are : AreCharged (graph code) (loops code tree) (stored_weights power original code (marked_at code tree wanted tallied)) least
  pub slow : slowest_of power (stored.worst 0) ≡ Some start
  pub sites_are : kept.0 ≡ filter (is_useful power (paced_test power start (stored.worst 0) share) start original code tree
      (marked_at code tree wanted tallied) stored least) wanted
  pub loops_are : kept.1 ≡ filter (is_useful_loop power (paced_test power start (stored.worst 0) share) start original code tree
      (marked_at code tree wanted tallied) stored least) tallied

-- where `pace` gives an image with all these marks, those of use; or what it refuses
abbrev pub AreUseful : (image machine loop_file : List ℕ) (wanted : List SwitchSite) (counted : Bool) (tallied : List ℕ) (share : ℕ) →
    Result Marks Refusal → Type 0
AreUseful image machine loop_file wanted counted tallied share (Ok kept) = (given : List ℕ × Summary) ×
    IsPaced image machine loop_file wanted counted tallied share (Ok given) ×
    AreKept image machine loop_file wanted counted tallied share kept
AreUseful image machine loop_file wanted counted tallied share (Err refusal) =
    IsPaced image machine loop_file wanted counted tallied share (Err refusal)
