-- What `check` answers of what `rewrite` stores.
use Rattle.std.specs.Prelude.{◌≡◌, ℕ, List, [], ◌∷◌, Option, IfSome, Ok}
use Rattle.scale_base.specs.declared.summary.Summary.{Summary}
use Rattle.scale_base.specs.declared.verdict.Verdict.TheVariants.{Yes}
use Rattle.scale_report.specs.Texts.{verdict_text}
use Rattle.scaler.specs.Rewritten.{IsRewritten}
use Rattle.check_laws.specs.Passing.{checked_as}
use Rattle.host_files.specs.HostState.{HostState}
use Rattle.host_runs.specs.Delivered.{IsDelivered}
use Rattle.host_runs.specs.Loading.{IfWhole, loading_of}
use Rattle.scale_tool.specs.Command.{Command, Check, wants_of}

-- Of `check`: where the image of other make is what `rewrite` stores of the same three files, with a summary, the status is 0, and a yes with the numbers of that summary
-- was printed.
abbrev pub PassesRewritten : Command → List (List ℕ) → ℕ → HostState → HostState → Type 0
PassesRewritten (Check image foreign machine loops) (i ∷ f ∷ m ∷ l ∷ []) status old new =
    (summary : Summary) → IsRewritten i m l (Ok ((f, summary))) → (status ≡ 0) ×
    IsDelivered [] (verdict_text (Yes (checked_as summary))) old new
PassesRewritten command files status old new = Unit {0}

-- the same where the files are told, and there is a command whose files are all there and within their limits
abbrev pub Passes : Option Command → ℕ → HostState → HostState → Type 0
Passes asked status old new =
    IfSome old.files (λ files. IfSome asked (λ command. IfWhole (loading_of (wants_of command) files)
    (λ loaded. PassesRewritten command loaded status old new)))
