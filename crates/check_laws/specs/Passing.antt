-- What `rewrite` stores passes a check. As statements for the contracts of functions.
use Rattle.std.specs.Prelude.{◌≡◌, ℕ, ◌≤◌, List, length, Result, Ok}
use Rattle.scale_base.specs.declared.limits.TheConstants.{FILE_LIMIT, IMAGE_LIMIT}
use Rattle.scale_base.specs.declared.refusal.Refusal.{Refusal}
use Rattle.scale_base.specs.declared.summary.Summary.{Summary}
use Rattle.scale_base.specs.declared.verdict.Checked.{Checked}
use Rattle.scale_base.specs.declared.verdict.Verdict.{Verdict}
use Rattle.scale_base.specs.declared.verdict.Verdict.TheVariants.{Yes}
use Rattle.scaler.specs.Rewritten.{IsRewritten}
use Rattle.image_check.specs.Checked.{IsChecked}

-- what a check says of an image with these numbers
abbrev pub checked_as : Summary → Checked
checked_as summary = record {
  start = summary.start;
  worst = summary.worst;
  time = summary.time;
  deadline = summary.deadline;
  stub_cycles = summary.stub_cycles;
}

-- Yes is an answer that a check may give of what is stored, with the numbers that were printed.
abbrev pub RewrittenFilesAreChecked : Type 0
RewrittenFilesAreChecked = (image machine loop_file stored : List ℕ) (summary : Summary) → length image ≤ IMAGE_LIMIT →
    length machine ≤ FILE_LIMIT → length loop_file ≤ FILE_LIMIT
    → IsRewritten image machine loop_file (Ok ((stored, summary))) → IsChecked image stored machine loop_file
    (Ok (Yes (checked_as summary)))

-- The only answer of a check of what is stored, with the same three files, is yes with the printed numbers.
abbrev pub RewrittenImagesPass : Type 0
RewrittenImagesPass = (image machine loop_file stored : List ℕ) (summary : Summary) (answer : Result Verdict Refusal) →
    length image ≤ IMAGE_LIMIT → length machine ≤ FILE_LIMIT → length loop_file ≤ FILE_LIMIT
    → IsRewritten image machine loop_file (Ok ((stored, summary))) → IsChecked image stored machine loop_file answer →
    answer ≡ Ok (Yes (checked_as summary))
