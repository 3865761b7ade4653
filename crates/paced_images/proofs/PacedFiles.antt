-- From the files to the program whose switches are wanted on some edges: what stops, and what goes on.
use Rattle.std.proofs.Common.{◌≡◌, ℕ, Bool, List, Result, Ok, Err}
use Rattle.std.specs.Prelude.{Vec}
use Rattle.std.specs.declared.alloc.Global.{Global}
use Rattle.scale_base.specs.declared.refusal.Refusal.{Refusal}
use Rattle.scale_base.specs.declared.refusal.Stop.{Stop}
use Rattle.scale_base.specs.declared.summary.Summary.{Summary}
use Rattle.scale_base.specs.Answer.{Stops}
use Rattle.program_sources.specs.declared.reading.Sources.{Sources}
use Rattle.program_sources.specs.Sources.{sources_of}
use Rattle.program_sources.proofs.Laws.{answers_stop, then_is}
use Rattle.paced_images.specs.declared.wanted.SwitchSite.{SwitchSite}
use Rattle.paced_images.specs.Paced.{IsPaced, IsPacedProgram}
use Rattle.paced_images.specs.Wanted.{notes_by}
use Rattle.marked_images.proofs.Laws.{HoldAnswers}

module _ (image machine loops : List ℕ) (wanted : List SwitchSite) (counted : Bool) (tallied : List ℕ) (share : ℕ) where
  pub files_stop : (stop : Stop) → Stops stop (sources_of image machine loops) → HoldAnswers (Err stop) (IsPaced image machine loops wanted counted tallied share)
  unfolding IsPaced
  files_stop stop h = answers_stop {X = Vec ℕ Global × Summary} {B = List ℕ × Summary} (λ given. (given.0.items, given.1)) (sources_of image machine loops) _ stop h

  pub files_answer : (s : Sources) (answer : Result (List ℕ × Summary) Refusal) → sources_of image machine loops ≡ Ok s → IsPacedProgram s.power s.view (notes_by counted tallied s.notes) wanted tallied share answer
      → IsPaced image machine loops wanted counted tallied share answer
  unfolding IsPaced
  files_answer s answer e h = then_is (sources_of image machine loops) s _ answer e h
