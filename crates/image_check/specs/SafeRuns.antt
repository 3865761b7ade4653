-- What a yes of `check` says of an image of other make, over the bytes of files.
use Rattle.std.specs.Prelude.{◌≡◌, ℕ, List}
use Rattle.scale_base.specs.declared.verdict.Checked.{Checked}
use Rattle.scale_base.specs.declared.verdict.Verdict.{Verdict}
use Rattle.scale_base.specs.declared.verdict.Verdict.TheVariants.{Yes, No}
use Rattle.rewritten_runs.specs.FilePromise.{FilesKeepThePromise}

-- The bytes of an image, of an image of other make, of a machine file and of a loop file: the other image has the original's text ranges, its key starts it at the
-- printed level, where the printed worst cycles take the printed time, which is in time, and it keeps the promise with the printed number of cycles. The printed deadline
-- is the machine's.
pub record IsCheckedSafely (image foreign machine loop_file : List ℕ) (checked : Checked) : Type 0 where
  pub files : FilesKeepThePromise image machine loop_file foreign checked.start checked.worst checked.time checked.stub_cycles
  pub deadline : checked.deadline ≡ files.power.deadline

-- on yes
abbrev pub IsSafeVerdict : (image foreign machine loops : List ℕ) → Verdict → Type 0
IsSafeVerdict image foreign machine loop_file (Yes checked) = IsCheckedSafely image foreign machine loop_file checked
IsSafeVerdict image foreign machine loop_file (No cause) = Unit {0}
