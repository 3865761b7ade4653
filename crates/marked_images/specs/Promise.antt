-- What a stored image promises with its printed numbers, over the bytes of files.
use Rattle.std.specs.Prelude.{◌≡◌, ℕ, List, Some}
use Rattle.scale_base.specs.declared.summary.Summary.{Summary}
use Rattle.power_model.specs.Slowest.{slowest_of}
use Rattle.rewritten_runs.specs.FilePromise.{FilesKeepThePromise}

-- For the machine and the notes of the files themselves, the stored image keeps the promise with the printed numbers, and the printed level is the slowest at which the
-- printed cycles are in time.
pub record IsStoredSafely (image machine loop_file stored : List ℕ) (summary : Summary) : Type 0 where
  pub files : FilesKeepThePromise image machine loop_file stored summary.start summary.worst summary.time summary.stub_cycles
  pub slow : slowest_of files.power summary.worst ≡ Some summary.start
