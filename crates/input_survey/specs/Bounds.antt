-- What the most of the loops says of bounds that might be noted: with them the runs break no bound, and with a lesser one some run does.
use Rattle.std.specs.Prelude.{◌≡◌, ℕ, ◌+◌, ◌-◌, ◌<◌, ◌≤◌, List, length, map, slice_index, slice_set, Contains, Ok}
use Rattle.std.specs.List.{range_with_len}
use Rattle.scale_base.specs.declared.endings.Kept.{Kept}
use Rattle.scale_base.specs.declared.endings.Kept.TheVariants.{BrokeBound, BrokeReturn, BrokeDepth}
use Rattle.scale_base.specs.declared.endings.Kept.TheVariants as kinds
use Rattle.scale_base.specs.Image.{Image, image_of}
use Rattle.power_model.specs.Numbers.{PowerModel}
use Rattle.machine_file.specs.Machine.{read_machine}
use Rattle.loop_file.specs.declared.notes.LoopNote.{LoopNote}
use Rattle.loop_file.specs.Kept.{note_at}
use Rattle.loop_file.specs.Loops.{read_loops}
use Rattle.keep_monitor.specs.Watch.{watched_at}

-- the notes with these bounds, of loops that need not turn before they are left
abbrev pub bounded_note : List LoopNote → List ℕ → ℕ → LoopNote
bounded_note notes bounds k = record (note_at notes k) { bound = slice_index bounds k; at_least = 0 }

abbrev pub bounded_notes : List LoopNote → List ℕ → List LoopNote
bounded_notes notes bounds = map (bounded_note notes bounds) (range_with_len 0 (length notes))

-- whether the run of an image on an input keeps these notes in as many steps as the machine file says, or what it breaks first
abbrev pub kept_by : PowerModel → Image → List LoopNote → List ℕ → Kept
kept_by power image notes input = (watched_at image (length power.levels) input notes power.steps).kept

-- no bound of a loop is broken
abbrev pub BreaksNoBound : Kept → Type 0
BreaksNoBound kinds.Kept = Unit {0}
BreaksNoBound (BrokeBound loop_no count) = ⊥
BreaksNoBound (BrokeReturn at to) = Unit {0}
BreaksNoBound (BrokeDepth at) = Unit {0}

-- with each bound replaced by its most each run breaks no bound, unless a most is above the greatest bound of a loop file
abbrev pub IsEnough : PowerModel → Image → List LoopNote → List (List ℕ) → List ℕ → Type 0
IsEnough power image notes inputs most =
    ((k : ℕ) → k < length notes → slice_index most k ≤ 1000000000) → (input : List ℕ) → Contains inputs input →
    BreaksNoBound (kept_by power image (bounded_notes notes most) input)

-- with any positive most less by one some run breaks that bound
abbrev pub IsEachNeeded : PowerModel → Image → List LoopNote → List (List ℕ) → List ℕ → Type 0
IsEachNeeded power image notes inputs most =
    (k : ℕ) → k < length notes → 0 < slice_index most k →
    (input : List ℕ) × Contains inputs input × (kept_by power image (bounded_notes notes (slice_set most k (slice_index most k - 1))) input
    ≡ BrokeBound (k + 1) (slice_index most k))

-- the same over the bytes of the files
abbrev pub OfFiles : (PowerModel → Image → List LoopNote → Type 0) → (image machine loops : List ℕ) → Type 0
OfFiles Says image machine loops = (power : PowerModel) (original : Image) (notes : List LoopNote) → read_machine machine ≡ Ok power →
    image_of image ≡ Ok original → read_loops original loops ≡ Ok notes → Says power original notes

abbrev pub MostIsEnough : (image machine loops : List ℕ) → List (List ℕ) → List ℕ → Type 0
MostIsEnough image machine loops inputs most = OfFiles (λ power original notes. IsEnough power original notes inputs most) image machine
    loops

abbrev pub MostIsNeeded : (image machine loops : List ℕ) → List (List ℕ) → List ℕ → Type 0
MostIsNeeded image machine loops inputs most = OfFiles (λ power original notes. IsEachNeeded power original notes inputs most) image
    machine loops
