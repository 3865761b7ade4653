use Rattle.std.proofs.Common.{◌≤◌, length, List}
use Rattle.cycle_laws.specs.Charged.{Charged}
use Rattle.cost_theory.specs.Worst.{Numbers}
use Rattle.loop_file.specs.declared.notes.LoopNote.{LoopNote}
use Rattle.rewritten_runs.specs.Stubs.{IsWeighedWith, fragments_with}
use Rattle.marked_images.specs.Wanted.{Wanted, marked_where}
use Rattle.marked_images.specs.Markings.{IsMarking, test_of}
use Rattle.marked_images.proofs.SiteLists.{AreStubsBelow}
use Rattle.marked_images.proofs.stubs.stub_sites.Given as goal

abbrev pub invariant-loop-k : goal.invariant-loop-k
invariant-loop-k l = (length l.stubs.items ≤ l.k) × ((notes : List LoopNote) (wanted : Wanted) (stored : Numbers) (least : Charged) → IsWeighedWith l.power l.view notes l.marked.graph l.marked.tree (marked_where l.marked.graph l.marked.tree wanted) stored → IsMarking l.power l.view l.marked.graph l.marked.tree wanted stored least l.marked.marking →
    AreStubsBelow l.view l.marked.graph (fragments_with l.power (test_of l.power l.marked.marking) l.view l.marked.graph l.marked.tree (marked_where l.marked.graph l.marked.tree wanted) stored least) l.k l.stubs.items)
