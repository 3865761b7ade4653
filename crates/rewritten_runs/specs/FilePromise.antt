-- What a stored image promises, over the bytes of files.
use Rattle.std.specs.Prelude.{◌≡◌, ℕ, ◌≤◌, List, Some, Ok}
use Rattle.scale_base.specs.declared.ranges.Keyed.{Keyed}
use Rattle.scale_base.specs.Image.{Image, image_of}
use Rattle.power_model.specs.Numbers.{PowerModel}
use Rattle.power_model.specs.Price.{time_at}
use Rattle.machine_file.specs.Machine.{read_machine}
use Rattle.loop_file.specs.declared.notes.LoopNote.{LoopNote}
use Rattle.loop_file.specs.Loops.{read_loops}
use Rattle.rewritten_runs.specs.Promise.{KeepsThePromise}

-- The bytes of an image, of a machine file, of a loop file and of the stored image: the machine, the notes and the two images that they are. The stored image has the
-- original's text ranges, its key starts it at that level, where so many cycles take that time, which is in time, and it keeps the promise with so many added cycles.
pub record FilesKeepThePromise (image machine loop_file stored : List ℕ) (level cycles told_time added : ℕ) : Type 0 where
  pub power : PowerModel
  pub original : Image
  pub notes : List LoopNote
  pub rewritten : Image
  pub power_is : read_machine machine ≡ Ok power
  pub original_is : image_of image ≡ Ok original
  pub notes_are : read_loops original loop_file ≡ Ok notes
  pub rewritten_is : image_of stored ≡ Ok rewritten
  pub same_text : rewritten.text ≡ original.text
  pub key : Keyed
  pub keyed : rewritten.keyed_segment ≡ Some key
  pub starts : key.start ≡ level
  pub time : told_time ≡ time_at power level cycles
  pub in_time : told_time ≤ power.deadline
  pub promise : KeepsThePromise power original notes rewritten added
