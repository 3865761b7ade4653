-- Scaffold: the program of three files, with its marks and its stubs.
use Rattle.std.specs.Prelude.{◌≡◌, ℕ, Bool, List, Result, Ok, Err}
use Rattle.scale_base.specs.declared.refusal.Refusal.{Refusal}
use Rattle.scale_base.specs.Image.{Image, image_of}
use Rattle.power_model.specs.Numbers.{PowerModel, IsPowerModel}
use Rattle.machine_file.specs.Machine.{read_machine}
use Rattle.loop_file.specs.declared.notes.LoopNote.{LoopNote}
use Rattle.loop_file.specs.Loops.{read_loops}
use Rattle.answer_parts.specs.Parts.{unscaled}
use Rattle.marked_images.specs.declared.stubs.Marked.{Marked}
use Rattle.marked_images.specs.declared.scaling.Program.{Program}
use Rattle.marked_images.specs.Scalings.{IsMarked, IsScaled}
use Rattle.paced_images.specs.declared.wanted.SwitchSite.{SwitchSite}
use Rattle.paced_images.specs.Paced.{IsPaced, IsPacedProgram, paced_rule}
use Rattle.paced_images.specs.Wanted.{notes_by, wanted_of}

-- the marks of the program of an image, as they are wanted, with its numbers and its budgets
abbrev pub IsMarkedAs : PowerModel → Image → List LoopNote → List SwitchSite → (tallied : List ℕ) (share : ℕ) → Marked → Type 0
IsMarkedAs power image notes sites tallied share m = IsMarked power image notes (wanted_of m.graph m.tree sites tallied)
    (paced_rule power share) m

abbrev pub IsMarkedFound : PowerModel → Image → List LoopNote → List SwitchSite → (tallied : List ℕ) (share : ℕ) → Result Marked Refusal →
    Type 0
IsMarkedFound power image notes sites tallied share (Ok m) = IsMarkedAs power image notes sites tallied share m
IsMarkedFound power image notes sites tallied share (Err refusal) = IsPacedProgram power image notes sites tallied share (Err refusal)

-- what the bytes of an image, of a machine file and of a loop file are, with the marks and the stubs of the program
pub record IsProgramFrom (image machine loop_file : List ℕ) (sites : List SwitchSite) (counted : Bool) (tallied : List ℕ) (share : ℕ)
    (p : Program) : Type 0 where
  pub power_is : read_machine machine ≡ Ok p.power
  pub in_range : IsPowerModel p.power
  pub view_is : image_of image ≡ Ok p.view
  pub unscaled : unscaled p.view.keyed_segment ≡ Ok tt
  pub notes : List LoopNote
  pub notes_are : read_loops p.view loop_file ≡ Ok notes
  pub marked : IsMarkedAs p.power p.view (notes_by counted tallied notes) sites tallied share p.marked
  pub scaled : IsScaled p.power p.view (notes_by counted tallied notes) p.marked.graph p.marked.tree
      (wanted_of p.marked.graph p.marked.tree sites tallied) (paced_rule p.power share) p.scaling

abbrev pub IsProgramFound : (image machine loop_file : List ℕ) (sites : List SwitchSite) (counted : Bool) (tallied : List ℕ) (share : ℕ) →
    Result Program Refusal → Type 0
IsProgramFound image machine loop_file sites counted tallied share (Ok p) = IsProgramFrom image machine loop_file sites counted tallied
    share p
IsProgramFound image machine loop_file sites counted tallied share (Err refusal) =
    IsPaced image machine loop_file sites counted tallied share (Err refusal)
