-- Which of the files of a program is refused first: one order, by which every command goes that reads them.
use Rattle.std.specs.Prelude.{◌≡◌, ℕ, List, Result, Ok, Err}
use Rattle.scale_base.specs.declared.refusal.Refusal.{Refusal}
use Rattle.scale_base.specs.Image.{image_of}
use Rattle.table_keys.specs.Keys.{◌>>=◌}
use Rattle.machine_file.specs.Machine.{read_machine}
use Rattle.loop_file.specs.Loops.{read_loops}
use Rattle.answer_parts.specs.Parts.{unscaled}
use Rattle.program_sources.specs.declared.reading.OriginalImage.{OriginalImage}
use Rattle.program_sources.specs.declared.reading.Sources.{Sources}

-- The machine and the image that the bytes are, or the first refusal: of the machine file, of the image, of a keyed segment.
unfoldable pub original_of : (image machine : List ℕ) → Result OriginalImage Refusal
original_of image machine = do
  power ← read_machine machine
  view ← image_of image
  _ ← unscaled view.keyed_segment
  Ok (record { power = power; view = view })

-- The machine, the image and the notes that the bytes are, or the first refusal: of the first two, or of the loop file.
unfoldable pub sources_of : (image machine loop_file : List ℕ) → Result Sources Refusal
sources_of image machine loop_file = do
  original ← original_of image machine
  notes ← read_loops original.view loop_file
  Ok (record { power = original.power; view = original.view; notes = notes })

-- what each file is
pub record AreSources (image machine loop_file : List ℕ) (s : Sources) : Type 0 where
  pub power_is : read_machine machine ≡ Ok s.power
  pub view_is : image_of image ≡ Ok s.view
  pub unscaled : unscaled s.view.keyed_segment ≡ Ok tt
  pub notes_are : read_loops s.view loop_file ≡ Ok s.notes
