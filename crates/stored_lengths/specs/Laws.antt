-- Scaffold: stored images are short: a command that takes one takes at most 8,388,608 bytes of it, and no stored image of a file that a command takes is longer.
use Rattle.std.specs.Prelude.{◌≡◌, ℕ, ◌≤◌, min, All, Bool, List, length, None, Ok}
use Rattle.scale_base.specs.declared.limits.TheConstants.{BLOCK_LIMIT, IMAGE_LIMIT, STORED_LIMIT}
use Rattle.scale_base.specs.declared.summary.Summary.{Summary}
use Rattle.scale_base.specs.declared.summary.Tuned.{Tuned}
use Rattle.scale_base.specs.Image.{Image, image_of}
use Rattle.elf_patch.specs.Stored.{IsStubBase}
use Rattle.stub_writer.specs.Stubs.{Site, block_size, out_of_reach}
use Rattle.stored_runs.specs.Stubbed.{IsSafeSite}
use Rattle.rewritten_runs.specs.Stubs.{rewritten_file}
use Rattle.scaler.specs.Held.{IsHeld}
use Rattle.scaler.specs.Rewritten.{IsRewritten}
use Rattle.scaler.specs.RewrittenAs.{IsRewrittenAs}
use Rattle.gain_tuner.specs.Choice.{IsTuning}

-- the file of an image with stubs at the place of their block, all in reach, whatever chose the stubs
abbrev pub StubbedFilesAreShort : Type 0
StubbedFilesAreShort = (image : Image) (levels : ℕ) (limits : ℕ → ℕ) (sites : List Site) (base start : ℕ)
    → image_of image.file ≡ Ok image → length image.file ≤ IMAGE_LIMIT → IsStubBase image (min (block_size sites) BLOCK_LIMIT) base
    → All (IsSafeSite image levels limits) sites → out_of_reach base sites ≡ None
    → length (rewritten_file image sites base start) ≤ STORED_LIMIT

-- what `hold` stores
abbrev pub HeldImagesAreShort : Type 0
HeldImagesAreShort = (image machine loops stored : List ℕ) (summary : Summary) → length image ≤ IMAGE_LIMIT
    → IsHeld image machine loops (Ok ((stored, summary))) → length stored ≤ STORED_LIMIT

-- what `rewrite` stores
abbrev pub RewrittenImagesAreShort : Type 0
RewrittenImagesAreShort = (image machine loops stored : List ℕ) (summary : Summary) → length image ≤ IMAGE_LIMIT
    → IsRewritten image machine loops (Ok ((stored, summary))) → length stored ≤ STORED_LIMIT

-- what `rewrite_as` stores
abbrev pub ImagesRewrittenAsAreShort : Type 0
ImagesRewrittenAsAreShort = (image machine loops : List ℕ) (min_gain : ℕ) (counters : Bool) (stored : List ℕ) (summary : Summary)
    → length image ≤ IMAGE_LIMIT → IsRewrittenAs image machine loops min_gain counters (Ok ((stored, summary)))
    → length stored ≤ STORED_LIMIT

-- what `tune` stores
abbrev pub TunedImagesAreShort : Type 0
TunedImagesAreShort = (image machine loops : List ℕ) (inputs : List (List ℕ)) (stored : List ℕ) (tuned : Tuned)
    → length image ≤ IMAGE_LIMIT → IsTuning image machine loops inputs (Ok ((stored, tuned))) → length stored ≤ STORED_LIMIT
