-- What is wanted of a program. Switches: on the edges of branches and of jumps that a list of sites names, each by the address of its instruction and by its kind. And tallied
-- loops, by the addresses of their headers: a shadow counter counts their turns, and their back edges go to the lowest level from a count on.
use Rattle.std.specs.Prelude.{ℕ, ◌-◌, ◌==◌, ◌&&◌, ◌||◌, Bool, true, false, List, map, slice_get, Option, Some, None}
use Rattle.std.specs.List.{list_any}
use Rattle.scale_base.specs.declared.edges.Edge.{Edge}
use Rattle.scale_base.specs.declared.edges.EdgeKind.{EdgeKind}
use Rattle.scale_base.specs.declared.edges.EdgeKind.TheVariants.{Taken, Untaken, Jump, Next, CallNext, End}
use Rattle.scale_base.specs.declared.fragments.Mark.{Mark}
use Rattle.cost_theory.specs.Lists.{is_among}
use Rattle.flow_graph.specs.FlowGraph.{FlowGraph}
use Rattle.loop_file.specs.declared.notes.LoopNote.{LoopNote}
use Rattle.loop_forest.specs.Tree.{LoopView, loops}
use Rattle.scale_sites.specs.Counters.{counted_loops}
use Rattle.scale_sites.specs.Marks.{first_counter}
use Rattle.marked_images.specs.Wanted.{Wanted, marked_where}
use Rattle.paced_images.specs.declared.wanted.SwitchSite.{SwitchSite}

-- ---- what a site names

abbrev pub is_taken : EdgeKind → Bool
is_taken Taken = true
is_taken Untaken = false
is_taken Jump = false
is_taken Next = false
is_taken CallNext = false
is_taken End = false

abbrev pub is_untaken : EdgeKind → Bool
is_untaken Taken = false
is_untaken Untaken = true
is_untaken Jump = false
is_untaken Next = false
is_untaken CallNext = false
is_untaken End = false

abbrev pub is_jump : EdgeKind → Bool
is_jump Taken = false
is_jump Untaken = false
is_jump Jump = true
is_jump Next = false
is_jump CallNext = false
is_jump End = false

-- two kinds are the same one of a branch's two, or both a jump's
abbrev pub same_kind : EdgeKind → EdgeKind → Bool
same_kind Taken other = is_taken other
same_kind Untaken other = is_untaken other
same_kind Jump other = is_jump other
same_kind Next other = false
same_kind CallNext other = false
same_kind End other = false

abbrev pub names : SwitchSite → Edge → Bool
names site edge = (site.at == edge.at) && same_kind edge.kind site.kind

abbrev pub names_some : SwitchSite → Option Edge → Bool
names_some site None = false
names_some site (Some edge) = names site edge

abbrev pub any_names : List SwitchSite → Option Edge → Bool
any_names sites None = false
any_names sites (Some edge) = list_any (λ site. names site edge) sites

-- whether an edge of a graph is named by one of the sites
abbrev pub wanted_by : FlowGraph → List SwitchSite → ℕ → Bool
wanted_by v sites e = any_names sites (slice_get v.code.edges e)

-- whether one of the sites that name an edge wants the lowest level there: where several name it, one is enough
abbrev pub any_lowest : List SwitchSite → Option Edge → Bool
any_lowest sites None = false
any_lowest sites (Some edge) = list_any (λ site. names site edge && site.lowest) sites

abbrev pub lowest_by : FlowGraph → List SwitchSite → ℕ → Bool
lowest_by v sites e = any_lowest sites (slice_get v.code.edges e)

-- ---- which loops are counted, and which are tallied

-- The note of a loop with what is wanted of it: the loop at a tallied header is counted, whatever its note says; any other one is where `counted` and its note says so.
abbrev pub note_by : (counted : Bool) → (tallied : List ℕ) → LoopNote → LoopNote
note_by counted tallied note = record note { counted = is_among note.header tallied || (counted && note.counted) }

abbrev pub notes_by : (counted : Bool) → (tallied : List ℕ) → List LoopNote → List LoopNote
notes_by counted tallied notes = map (note_by counted tallied) notes

-- whether the header of a loop, if there is one, is tallied
abbrev pub header_tallied : FlowGraph → LoopView → (tallied : List ℕ) → Option ℕ → Bool
header_tallied v t tallied None = false
header_tallied v t tallied (Some k) = is_among ((loops v t).header k) tallied

-- whether the loop that a shadow counter counts is tallied: counters are numbered from 2 on, by the places of their loops among those that are counted
abbrev pub is_tallied : FlowGraph → LoopView → (tallied : List ℕ) → (counter : ℕ) → Bool
is_tallied v t tallied counter = header_tallied v t tallied (slice_get (counted_loops t) (counter - first_counter))

-- ---- the marks

-- what is wanted of them
abbrev pub wanted_of : FlowGraph → LoopView → List SwitchSite → (tallied : List ℕ) → Wanted
wanted_of v t sites tallied = record { switch = wanted_by v sites; lowest = lowest_by v sites; tallied = is_tallied v t tallied }

abbrev pub marked_at : FlowGraph → LoopView → List SwitchSite → (tallied : List ℕ) → ℕ → List Mark
marked_at v t sites tallied e = marked_where v t (wanted_of v t sites tallied) e
