-- Runs on a machine, one after another, and what simulating their files gives.
use Rattle.std.proofs.Common.{◌≡◌, ℕ, ◌+◌, ◌<◌, ◌≤◌, List, [], ◌∷◌, ◌++◌, length, get_or, take, drop, Option, Some, None, Result, Ok, Err, refl, sym, ap, ◌∙◌, subst, arith, add-one, drop-cons}
use Rattle.std.proofs.lemmas.List.{take_more, take_all, drop_all}
use Rattle.scale_base.specs.declared.refusal.Refusal.{Refusal}
use Rattle.scale_base.specs.declared.refusal.Stop.{Stop}
use Rattle.scale_base.specs.declared.refusal.Stop.TheVariants.{Refused, Memory}
use Rattle.scale_base.specs.Answer.{AnswersBy, Stops}
use Rattle.scale_base.specs.declared.ranges.Keyed.{Keyed}
use Rattle.scale_base.specs.Run.{starting_level}
use Rattle.scale_base.specs.Image.{Image, image_of}
use Rattle.power_model.specs.Numbers.{PowerModel}
use Rattle.power_model.specs.Report.{Report, report_view}
use Rattle.machine_file.specs.Machine.{read_machine}
use Rattle.table_keys.specs.Keys.{◌>>=◌}
use Rattle.speed_sim.specs.Simulated.{report_of, level_allowed, loops_allowed, given_notes, simulated}
use Rattle.run_pictures.specs.declared.picture.DrawnFiles.{DrawnFiles}
use Rattle.run_pictures.specs.declared.picture.PictureRun.{PictureRun}
use Rattle.run_pictures.specs.declared.picture.RunPicture.{RunPicture}
use Rattle.run_pictures.specs.Pictures.{startable, IsRunOf, IsRunOn, AreRunsOf, AreRunsOn, AreRunsDrawn, all_startable, RunsAreSimulated, RefusalsAreSimulated}

-- ---- an image that may start

module _ (allowed : Image → Result (Unit {0}) Refusal) where
  abbrev starts : Result Image Refusal → Result Image Refusal
  starts read = read >>= λ original. allowed original >>= λ _. Ok original

  allowed_so : (original x : Image) (answer : Result (Unit {0}) Refusal) → allowed x ≡ answer → (answer >>= λ _. Ok x) ≡ Ok original → (x ≡ original) × (allowed original ≡ Ok tt)
  allowed_so original x (Err refusal) is h = absurd cc
  allowed_so original x (Ok u) is h = let e : x ≡ original = cc in (e, ap allowed (sym e) ∙ is)

  starts_so : (original : Image) (read : Result Image Refusal) → starts read ≡ Ok original → (read ≡ Ok original) × (allowed original ≡ Ok tt)
  starts_so original (Err refusal) h = absurd cc
  starts_so original (Ok x) h = let p = allowed_so original x (allowed x) refl h in (ap Ok p.0, p.1)

  -- what is reported or refused of one
  reports_so : (report : Image → Report) (original : Image) (read : Result Image Refusal) → read ≡ Ok original → allowed original ≡ Ok tt → (read >>= λ x. allowed x >>= λ _. Ok (report x)) ≡ Ok (report original)
  reports_so report original read is may = ap (λ (r : Result Image Refusal). r >>= λ x. allowed x >>= λ _. Ok (report x)) is ∙ ap (λ (r : Result (Unit {0}) Refusal). r >>= λ _. Ok (report original)) may

  stops_one : (report : Image → Report) (refusal : Refusal) (x : Image) (answer : Result (Unit {0}) Refusal) → (answer >>= λ _. Ok x) ≡ Err refusal → (answer >>= λ _. Ok (report x)) ≡ Err refusal
  stops_one report refusal x (Err other) h = let e : other ≡ refusal = cc in ap Err e
  stops_one report refusal x (Ok u) h = absurd cc

  stops_so : (report : Image → Report) (refusal : Refusal) (read : Result Image Refusal) → starts read ≡ Err refusal → (read >>= λ x. allowed x >>= λ _. Ok (report x)) ≡ Err refusal
  stops_so report refusal (Err other) h = let e : other ≡ refusal = cc in ap Err e
  stops_so report refusal (Ok x) h = stops_one report refusal x (allowed x) h

pub startable_so : (power : PowerModel) (image : List ℕ) (original : Image) → startable power image ≡ Ok original → (image_of image ≡ Ok original) × (level_allowed (length power.levels) original.keyed_segment ≡ Ok tt)
startable_so power image original h = starts_so (λ x. level_allowed (length power.levels) x.keyed_segment) original (image_of image) h

pub startable_is : (power : PowerModel) (image : List ℕ) (original : Image) → image_of image ≡ Ok original → level_allowed (length power.levels) original.keyed_segment ≡ Ok tt → startable power image ≡ Ok original
startable_is power image original is may =
    ap (λ (r : Result Image Refusal). r >>= λ x. level_allowed (length power.levels) x.keyed_segment >>= λ _. Ok x) is ∙ ap (λ (r : Result (Unit {0}) Refusal). r >>= λ _. Ok original) may

pub unread : (power : PowerModel) (image : List ℕ) (refusal : Refusal) → image_of image ≡ Err refusal → startable power image ≡ Err refusal
unread power image refusal is = ap (λ (r : Result Image Refusal). r >>= λ x. level_allowed (length power.levels) x.keyed_segment >>= λ _. Ok x) is

pub disallowed : (power : PowerModel) (image : List ℕ) (original : Image) (refusal : Refusal) → image_of image ≡ Ok original → level_allowed (length power.levels) original.keyed_segment ≡ Err refusal
    → startable power image ≡ Err refusal
disallowed power image original refusal is not =
    ap (λ (r : Result Image Refusal). r >>= λ x. level_allowed (length power.levels) x.keyed_segment >>= λ _. Ok x) is ∙ ap (λ (r : Result (Unit {0}) Refusal). r >>= λ _. Ok original) not

-- ---- simulating

simulated_on : (machine image input : List ℕ) (power : PowerModel) → read_machine machine ≡ Ok power
    → simulated image machine input None ≡ (image_of image >>= λ x. level_allowed (length power.levels) x.keyed_segment >>= λ _. Ok (report_of power x input None))
unfolding simulated
simulated_on machine image input power is =
    ap (λ (r : Result PowerModel Refusal). r >>= λ power. image_of image >>= λ original. loops_allowed None original.keyed_segment >>= λ _. level_allowed (length power.levels) original.keyed_segment
    >>= λ _. given_notes original None >>= λ notes. Ok (report_of power original input notes)) is

pub runs_simulated : RunsAreSimulated
runs_simulated machine power files run is of =
    let parts = startable_so power files.image.now of.original of.original_is in
    simulated_on machine files.image.now files.input.now power is
    ∙ reports_so (λ x. level_allowed (length power.levels) x.keyed_segment) (λ x. report_of power x files.input.now None) of.original (image_of files.image.now) parts.0 parts.1 ∙ ap Ok (sym of.report)

pub refusals_simulated : RefusalsAreSimulated
refusals_simulated machine power files refusal is not =
    simulated_on machine files.image.now files.input.now power is
    ∙ stops_so (λ x. level_allowed (length power.levels) x.keyed_segment) (λ x. report_of power x files.input.now None) refusal (image_of files.image.now) not

-- ---- one run more

runs_push : (power : PowerModel) (files : List DrawnFiles) (runs : List PictureRun) (one : DrawnFiles) (run : PictureRun) → AreRunsOf power files runs → IsRunOf power one run → AreRunsOf power (files ++ one ∷ []) (runs ++ run ∷ [])
runs_push power [] [] one run are is = (is, tt)
runs_push power [] (r ∷ rs) one run are is = absurd are
runs_push power (f ∷ fs) [] one run are is = absurd are
runs_push power (f ∷ fs) (r ∷ rs) one run are is = (are.0, runs_push power fs rs one run are.1 is)

-- the first so many have runs, and what is refused of all is what is refused of the others
pub record AreRunsSoFar (power : PowerModel) (files : List DrawnFiles) (i : ℕ) (runs : List PictureRun) : Type 0 where
  pub runs_are : AreRunsOf power (take i files) runs
  pub others : all_startable power files ≡ all_startable power (drop i files)

next_file : (files : List DrawnFiles) (i : ℕ) (d : DrawnFiles) → i < length files → drop i files ≡ get_or files i d ∷ drop (i + 1) files
next_file files i d lt = rw add-one (drop-cons files i d lt)

pub runs_more : (power : PowerModel) (files : List DrawnFiles) (i : ℕ) (d : DrawnFiles) (runs new : List PictureRun) (run : PictureRun) → i < length files → new ≡ runs ++ run ∷ []
    → IsRunOf power (get_or files i d) run → AreRunsSoFar power files i runs → AreRunsSoFar power files (i + 1) new
runs_more power files i d runs new run lt e is far = record {
  runs_are =
      subst (λ (fs : List DrawnFiles). AreRunsOf power fs new) (sym (take_more files i d lt))
      (subst (AreRunsOf power (take i files ++ get_or files i d ∷ [])) (sym e) (runs_push power (take i files) runs (get_or files i d) run far.runs_are is));
  others =
      far.others ∙ ap (all_startable power) (next_file files i d lt)
      ∙ ap (λ (r : Result Image Refusal). r >>= λ _. all_startable power (drop (i + 1) files)) is.original_is;
}

runs_stop : (power : PowerModel) (files : List DrawnFiles) (i : ℕ) (d : DrawnFiles) (runs : List PictureRun) (refusal : Refusal) → i < length files
    → startable power (get_or files i d).image.now ≡ Err refusal → AreRunsSoFar power files i runs → all_startable power files ≡ Err refusal
runs_stop power files i d runs refusal lt is far =
    far.others ∙ ap (all_startable power) (next_file files i d lt) ∙ ap (λ (r : Result Image Refusal). r >>= λ _. all_startable power (drop (i + 1) files)) is

pub runs_all : (power : PowerModel) (files : List DrawnFiles) (i : ℕ) (runs : List PictureRun) → length files ≤ i → AreRunsSoFar power files i runs → AreRunsOf power files runs
runs_all power files i runs le far = subst (λ (fs : List DrawnFiles). AreRunsOf power fs runs) (take_all i files le) far.runs_are

-- ---- what stops

abbrev pub RunAnswers : Result PictureRun Stop → (Result PictureRun Refusal → Type 0) → Type 0
RunAnswers result meant = AnswersBy (λ run. run) result meant

pub image_stops : (power : PowerModel) (files : DrawnFiles) (stop : Stop) → Stops stop (image_of files.image.now) → RunAnswers (Err stop) (IsRunOn power files)
image_stops power files (Refused refusal) h = unread power files.image.now refusal h
image_stops power files Memory h = tt

pub level_stops : (power : PowerModel) (files : DrawnFiles) (original : Image) (stop : Stop) → image_of files.image.now ≡ Ok original → Stops stop (level_allowed (length power.levels) original.keyed_segment)
    → RunAnswers (Err stop) (IsRunOn power files)
level_stops power files original (Refused refusal) is h = disallowed power files.image.now original refusal is h
level_stops power files original Memory is h = tt

-- where one of them stops, all do
pub run_stops : {X : Type 0} (view : X → List PictureRun) (power : PowerModel) (files : List DrawnFiles) (i : ℕ) (d : DrawnFiles) (runs : List PictureRun) (stop : Stop) → i < length files
    → RunAnswers (Err stop) (IsRunOn power (get_or files i d)) → AreRunsSoFar power files i runs → AnswersBy {X = X} {Y = List PictureRun} view (Err stop) (AreRunsOn power files)
run_stops view power files i d runs (Refused refusal) lt h far = runs_stop power files i d runs refusal lt h far
run_stops view power files i d runs Memory lt h far = tt

abbrev pub PictureAnswers : Result RunPicture Stop → (Result RunPicture Refusal → Type 0) → Type 0
PictureAnswers result meant = AnswersBy (λ picture. picture) result meant

pub machine_stops : (machine : List ℕ) (files : List DrawnFiles) (stop : Stop) → Stops stop (read_machine machine) → PictureAnswers (Err stop) (AreRunsDrawn machine files)
machine_stops machine files (Refused refusal) h = ap (λ (r : Result PowerModel Refusal). r >>= λ power. all_startable power files) h
machine_stops machine files Memory h = tt

pub runs_stop_all : {X : Type 0} (view : X → List PictureRun) (machine : List ℕ) (files : List DrawnFiles) (power : PowerModel) (stop : Stop) → read_machine machine ≡ Ok power
    → AnswersBy {X = X} {Y = List PictureRun} view (Err stop) (AreRunsOn power files) → PictureAnswers (Err stop) (AreRunsDrawn machine files)
runs_stop_all view machine files power (Refused refusal) is h = ap (λ (r : Result PowerModel Refusal). r >>= λ power. all_startable power files) is ∙ h
runs_stop_all view machine files power Memory is h = tt

-- ---- the level of an image, as it is asked for

pub allowed_stop : (n levels : ℕ) (k keyed : Option Keyed) (stop : Stop) → n ≡ levels → k ≡ keyed → Stops stop (level_allowed n k) → Stops stop (level_allowed levels keyed)
allowed_stop n levels k keyed stop e f h = subst (λ m. Stops stop (level_allowed m keyed)) e (subst (λ (o : Option Keyed). Stops stop (level_allowed n o)) f h)

pub allowed_ok : (n levels : ℕ) (k keyed : Option Keyed) → n ≡ levels → k ≡ keyed → level_allowed n k ≡ Ok tt → level_allowed levels keyed ≡ Ok tt
allowed_ok n levels k keyed e f h = ap (λ m. level_allowed m keyed) (sym e) ∙ ap (level_allowed n) (sym f) ∙ h

pub starts_at : (n levels start : ℕ) (k keyed : Option Keyed) → n ≡ levels → k ≡ keyed → start ≡ starting_level n k → start ≡ starting_level levels keyed
starts_at n levels start k keyed e f h = h ∙ ap (starting_level n) f ∙ ap (λ m. starting_level m keyed) e
