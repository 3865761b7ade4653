-- Scaffold: what the parts of `rewrite` find, on the way to what it gives.
use Rattle.std.specs.Prelude.{◌≡◌, ℕ, ◌<◌, ◌&&◌, nat_le, false, List, Result, Ok, Err}
use Rattle.scale_base.specs.declared.limits.TheConstants.{CYCLE_LIMIT}
use Rattle.scale_base.specs.declared.refusal.Refusal.{Refusal}
use Rattle.scale_base.specs.declared.refusal.Refusal.TheVariants.{TooLong}
use Rattle.scale_base.specs.Image.{Image, image_of}
use Rattle.power_model.specs.Numbers.{PowerModel, IsPowerModel}
use Rattle.cost_theory.specs.Worst.{Numbers, AreNumbers}
use Rattle.flow_graph.specs.FlowGraph.{FlowGraph, graph}
use Rattle.loop_file.specs.declared.notes.LoopNote.{LoopNote}
use Rattle.loop_file.specs.Loops.{read_loops}
use Rattle.loop_forest.specs.Tree.{LoopView, loops}
use Rattle.machine_file.specs.Machine.{read_machine}
use Rattle.scale_sites.specs.Sites.{SitesView, is_branch}
use Rattle.worst_cycles.specs.Worst.{slack_at}
use Rattle.rewritten_runs.specs.Stubs.{plain_weights}
use Rattle.answer_parts.specs.Parts.{unscaled}
use Rattle.marked_images.specs.declared.stubs.Marking.{Marking}
use Rattle.marked_images.specs.declared.stubs.Marked.{Marked}
use Rattle.marked_images.specs.declared.scaling.Program.{Program}
use Rattle.marked_images.specs.Scalings.{HasMarks, IsMarked, IsMarkingFound, IsScaled}
use Rattle.marked_images.specs.Stored.{by_deadline}
use Rattle.marked_images.specs.Wanted.{Wanted}
use Rattle.scaler.specs.Rewritten.{IsRewritten, IsRewrittenProgram}

-- ---- the marks

-- What is wanted of the marks by slack: a switch on each edge of a branch whose slack, under the plain weights, is at least the least gain; and no other form.
abbrev pub wanted_by_slack : PowerModel → Image → FlowGraph → LoopView → (plain : Numbers) → Wanted
wanted_by_slack power image v t plain = record {
  switch = λ e. is_branch v e && nat_le power.min_gain (slack_at (graph v) (loops v t) (plain_weights power image v) plain e);
  lowest = λ e. false;
  tallied = λ i. false;
}

abbrev pub ArePlain : PowerModel → Image → FlowGraph → LoopView → Numbers → Type 0
ArePlain power image v t plain = AreNumbers (graph v) (loops v t) (plain_weights power image v) plain

abbrev pub AreSitesFound : PowerModel → Image → FlowGraph → LoopView → Result SitesView Refusal → Type 0
AreSitesFound power image v t (Ok s) = (plain : Numbers) × ArePlain power image v t plain ×
    HasMarks v t (wanted_by_slack power image v t plain) s
AreSitesFound power image v t (Err refusal) = (refusal ≡ TooLong) × ((plain : Numbers) × ArePlain power image v t plain ×
    (CYCLE_LIMIT < plain.worst 0))

-- ---- the numbers

abbrev pub IsMarkingBySlack : PowerModel → Image → FlowGraph → LoopView → Result (Marking × ℕ) Refusal → Type 0
IsMarkingBySlack power image v t found = (plain : Numbers) × ArePlain power image v t plain ×
    IsMarkingFound power image v t (wanted_by_slack power image v t plain) (by_deadline power) found

-- the program of an image, with its marks by slack
abbrev pub IsMarkedBySlack : PowerModel → Image → List LoopNote → Marked → Type 0
IsMarkedBySlack power image notes m = (plain : Numbers) × ArePlain power image m.graph m.tree plain ×
    IsMarked power image notes (wanted_by_slack power image m.graph m.tree plain) (by_deadline power) m

abbrev pub IsMarkedFound : PowerModel → Image → List LoopNote → Result Marked Refusal → Type 0
IsMarkedFound power image notes (Ok m) = IsMarkedBySlack power image notes m
IsMarkedFound power image notes (Err refusal) = IsRewrittenProgram power image notes (Err refusal)

-- ---- the program of three files

-- what the bytes of an image, of a machine file and of a loop file are, with the marks and the stubs of the program
pub record IsProgramFrom (image machine loop_file : List ℕ) (p : Program) : Type 0 where
  pub power_is : read_machine machine ≡ Ok p.power
  pub in_range : IsPowerModel p.power
  pub view_is : image_of image ≡ Ok p.view
  pub unscaled : unscaled p.view.keyed_segment ≡ Ok tt
  pub notes : List LoopNote
  pub notes_are : read_loops p.view loop_file ≡ Ok notes
  pub plain : Numbers
  pub plain_are : ArePlain p.power p.view p.marked.graph p.marked.tree plain
  pub marked : IsMarked p.power p.view notes (wanted_by_slack p.power p.view p.marked.graph p.marked.tree plain) (by_deadline p.power)
      p.marked
  pub scaled : IsScaled p.power p.view notes p.marked.graph p.marked.tree (wanted_by_slack p.power p.view p.marked.graph p.marked.tree
      plain) (by_deadline p.power) p.scaling

abbrev pub IsProgramFound : List ℕ → List ℕ → List ℕ → Result Program Refusal → Type 0
IsProgramFound image machine loop_file (Ok p) = IsProgramFrom image machine loop_file p
IsProgramFound image machine loop_file (Err refusal) = IsRewritten image machine loop_file (Err refusal)
