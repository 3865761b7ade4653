-- What `draw run` and `draw plan` give for their files.
use Rattle.std.specs.Prelude.{◌≡◌, ℕ, List, [], ◌∷◌, map, Result, Ok, Err}
use Rattle.scale_base.specs.declared.refusal.Refusal.{Refusal}
use Rattle.plan_graphs.specs.declared.plan.PlanGraph.{PlanGraph}
use Rattle.plan_graphs.specs.Program.{IsPlanDrawn}
use Rattle.plan_texts.specs.Dot.{plan_dot}
use Rattle.run_pictures.specs.declared.picture.DrawnFiles.{DrawnFiles}
use Rattle.run_pictures.specs.declared.picture.RunPicture.{RunPicture}
use Rattle.run_pictures.specs.Pictures.{AreRunsDrawn}
use Rattle.run_pictures.specs.PictureTexts.{picture_svg}

-- the names of an image and of an input, and their bytes
abbrev pub RunTexts : Type 0
RunTexts = List ℕ × List ℕ × List ℕ × List ℕ

abbrev pub file_texts : DrawnFiles → RunTexts
file_texts files = (files.image_name.now, files.input_name.now, files.image.now, files.input.now)

-- those of runs whose images and inputs have these names and bytes, by turns
abbrev pub run_texts : (names bytes : List (List ℕ)) → List RunTexts
run_texts (image_name ∷ input_name ∷ names) (image ∷ input ∷ bytes) = (image_name, input_name, image, input) ∷ run_texts names bytes
run_texts names bytes = []

-- the picture of runs, and the bytes that it is written as, or the refusal
abbrev pub AreDrawn : (machine : List ℕ) → List DrawnFiles → Result (List ℕ × RunPicture) Refusal → Type 0
AreDrawn machine files (Ok given) = AreRunsDrawn machine files (Ok given.1) × (given.0 ≡ picture_svg given.1)
AreDrawn machine files (Err refusal) = AreRunsDrawn machine files (Err refusal)

-- what `draw run` gives for a machine file, and for images and inputs with these names and bytes, by turns
pub record DrawsRuns (machine : List ℕ) (names bytes : List (List ℕ)) (given : Result (List ℕ × RunPicture) Refusal) : Type 0 where
  pub files : List DrawnFiles
  pub files_are : map file_texts files ≡ run_texts names bytes
  pub drawn : AreDrawn machine files given

-- what `draw plan` gives: the graph of a program, and the bytes that it is written as, or the refusal
abbrev pub DrawsPlan : (image machine loops : List ℕ) → Result (List ℕ × PlanGraph) Refusal → Type 0
DrawsPlan image machine loops (Ok given) = IsPlanDrawn image machine loops (Ok given.1) × (given.0 ≡ plan_dot given.1)
DrawsPlan image machine loops (Err refusal) = IsPlanDrawn image machine loops (Err refusal)
