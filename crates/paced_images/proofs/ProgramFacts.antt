-- From the program of three files to what is stored of it.
use Rattle.std.proofs.Common.{◌≡◌, ℕ, Bool, List, map, Result, Ok, inr}
use Rattle.scale_base.specs.declared.refusal.Refusal.{Refusal}
use Rattle.scale_base.specs.declared.summary.Summary.{Summary}
use Rattle.scale_base.specs.Image.{Image}
use Rattle.power_model.specs.Numbers.{PowerModel}
use Rattle.flow_graph.specs.FlowGraph.{FlowGraph}
use Rattle.loop_file.specs.declared.notes.LoopNote.{LoopNote}
use Rattle.loop_forest.specs.Tree.{LoopView}
use Rattle.stub_writer.specs.Sites.{site_of}
use Rattle.rewritten_runs.specs.Stubs.{rewritten_file as stored_bytes}
use Rattle.marked_images.specs.declared.scaling.Program.{Program}
use Rattle.marked_images.specs.Stored.{IsStubbedProgram}
use Rattle.marked_images.proofs.Laws.{stubbed_of}
use Rattle.program_sources.specs.declared.reading.Sources.{Sources}
use Rattle.program_sources.proofs.Laws.{sources_are}
use Rattle.paced_images.specs.declared.wanted.SwitchSite.{SwitchSite}
use Rattle.paced_images.specs.Paced.{IsPaced, IsPacedProgram, paced_rule}
use Rattle.paced_images.specs.Programs.{IsProgramFrom}
use Rattle.paced_images.specs.Wanted.{notes_by, wanted_of}
use Rattle.paced_images.proofs.PacedFiles.{files_answer}

-- the program with its stubs
pub paced_with : (power : PowerModel) (image : Image) (notes : List LoopNote) (sites : List SwitchSite) (tallied : List ℕ) (share : ℕ) (v : FlowGraph) (t : LoopView) (answer : Result (List ℕ × Summary) Refusal) → IsStubbedProgram power image notes v t (wanted_of v t sites tallied) (paced_rule power share) answer
    → IsPacedProgram power image notes sites tallied share answer
paced_with power image notes sites tallied share v t answer h = inr (inr (inr (inr (inr (record {
  code = v;
  tree = t;
  stored = h.stored;
  extra = h.extra;
  least = h.least;
  sites = h.sites;
  base = h.base;
  start = h.start;
  weighed = h.weighed;
  short = h.short;
  slow = h.slow;
  stubs = h.stubs;
  answer_is = h.answer_is;
})))))

-- the file of its stubs, and its summary, are what is given for the files
pub files_given : (image machine loops : List ℕ) (sites : List SwitchSite) (counted : Bool) (tallied : List ℕ) (share : ℕ) (p : Program) (bytes : List ℕ) → IsProgramFrom image machine loops sites counted tallied share p → bytes ≡ stored_bytes p.view (map site_of p.scaling.stubs.items) p.scaling.base p.scaling.summary.start
    → IsPaced image machine loops sites counted tallied share (Ok ((bytes, p.scaling.summary)))
files_given image machine loops sites counted tallied share p bytes h e =
    let v = p.marked.graph in
    let t = p.marked.tree in
    let notes = notes_by counted tallied h.notes in
    let s : Sources = record { power = p.power; view = p.view; notes = h.notes } in
    let are = sources_are image machine loops s (record { power_is = h.power_is; view_is = h.view_is; unscaled = h.unscaled; notes_are = h.notes_are }) in
    files_answer image machine loops sites counted tallied share s (Ok ((bytes, p.scaling.summary))) are
    (paced_with p.power p.view notes sites tallied share v t (Ok ((bytes, p.scaling.summary))) (stubbed_of p.power p.view notes v t (wanted_of v t sites tallied) (paced_rule p.power share) p.scaling bytes h.scaled e))
