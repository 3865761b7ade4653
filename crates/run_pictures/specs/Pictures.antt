-- What pairs of an image and an input give on a machine: their runs, drawn, or the first refusal as simulating them has it.
use Rattle.std.specs.Prelude.{◌≡◌, ℕ, List, [], ◌∷◌, length, None, Result, Ok, Err, string_bytes}
use Rattle.scale_base.specs.declared.refusal.Refusal.{Refusal}
use Rattle.scale_base.specs.Image.{Image, image_of}
use Rattle.scale_base.specs.Run.{run_of, starting_level}
use Rattle.power_model.specs.Numbers.{PowerModel}
use Rattle.power_model.specs.Report.{Report, report_view}
use Rattle.machine_file.specs.Machine.{read_machine}
use Rattle.table_keys.specs.Keys.{◌>>=◌}
use Rattle.speed_sim.specs.Simulated.{report_of, level_allowed, simulated}
use Rattle.run_stretches.specs.Stretches.{AreBarsOf}
use Rattle.run_pictures.specs.declared.picture.DrawnFiles.{DrawnFiles}
use Rattle.run_pictures.specs.declared.picture.PictureRun.{PictureRun}
use Rattle.run_pictures.specs.declared.picture.RunPicture.{RunPicture}

-- an image whose level the machine has
abbrev pub startable : PowerModel → List ℕ → Result Image Refusal
startable power image = do
  original ← image_of image
  _ ← level_allowed (length power.levels) original.keyed_segment
  Ok original

-- The run of an image with an input: the names of its files, the report of the run, and the bars of its completed steps.
pub record IsRunOf (power : PowerModel) (files : DrawnFiles) (run : PictureRun) : Type 0 where
  pub original : Image
  pub original_is : startable power files.image.now ≡ Ok original
  pub image_name : string_bytes run.image_name ≡ files.image_name.now
  pub input_name : string_bytes run.input_name ≡ files.input_name.now
  pub report : report_view run.report ≡ report_of power original files.input.now None
  pub bars :
      AreBarsOf power (starting_level (length power.levels) original.keyed_segment)
      (run_of original (length power.levels) files.input.now power.steps).steps run.bars.items

abbrev pub IsRunOn : PowerModel → DrawnFiles → Result PictureRun Refusal → Type 0
IsRunOn power files (Ok run) = IsRunOf power files run
IsRunOn power files (Err refusal) = startable power files.image.now ≡ Err refusal

-- a run for each pair, in their order
abbrev pub AreRunsOf : PowerModel → List DrawnFiles → List PictureRun → Type 0
AreRunsOf power [] [] = Unit {0}
AreRunsOf power [] (run ∷ runs) = ⊥
AreRunsOf power (one ∷ more) [] = ⊥
AreRunsOf power (one ∷ more) (run ∷ runs) = IsRunOf power one run × AreRunsOf power more runs

-- the first refusal of some images, if there is one
abbrev pub all_startable : PowerModel → List DrawnFiles → Result (Unit {0}) Refusal
all_startable power [] = Ok tt
all_startable power (one ∷ more) = startable power one.image.now >>= λ _. all_startable power more

abbrev pub AreRunsOn : PowerModel → List DrawnFiles → Result (List PictureRun) Refusal → Type 0
AreRunsOn power files (Ok runs) = AreRunsOf power files runs
AreRunsOn power files (Err refusal) = all_startable power files ≡ Err refusal

-- the machine, and a run on it for each pair
pub record IsPictureOf (machine : List ℕ) (files : List DrawnFiles) (picture : RunPicture) : Type 0 where
  pub power_is : read_machine machine ≡ Ok picture.power
  pub runs : AreRunsOf picture.power files picture.runs.items

-- The picture of pairs, or the first refusal: of the machine file, then of each pair that of its image or of its level.
abbrev pub AreRunsDrawn : List ℕ → List DrawnFiles → Result RunPicture Refusal → Type 0
AreRunsDrawn machine files (Ok picture) = IsPictureOf machine files picture
AreRunsDrawn machine files (Err refusal) = (read_machine machine >>= λ power. all_startable power files) ≡ Err refusal

-- ---- the laws

-- The law: what a run reports is what simulating its files gives, and an image is refused as simulating it is.
abbrev pub RunsAreSimulated : Type 0
RunsAreSimulated = (machine : List ℕ) (power : PowerModel) (files : DrawnFiles) (run : PictureRun) → read_machine machine ≡ Ok power →
    IsRunOf power files run
    → simulated files.image.now machine files.input.now None ≡ Ok (report_view run.report)

abbrev pub RefusalsAreSimulated : Type 0
RefusalsAreSimulated = (machine : List ℕ) (power : PowerModel) (files : DrawnFiles) (refusal : Refusal) → read_machine machine ≡ Ok power →
    startable power files.image.now ≡ Err refusal
    → simulated files.image.now machine files.input.now None ≡ Err refusal
