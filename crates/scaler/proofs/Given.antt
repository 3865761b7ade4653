-- From the program of three files to what is given of them.
use Rattle.std.proofs.Common.{◌≡◌, ℕ, Bool, List, Result, Ok, Err}
use Rattle.std.specs.Prelude.{Vec}
use Rattle.std.specs.declared.alloc.Global.{Global}
use Rattle.scale_base.specs.declared.refusal.Refusal.{Refusal}
use Rattle.scale_base.specs.declared.refusal.Stop.{Stop}
use Rattle.scale_base.specs.declared.summary.Summary.{Summary}
use Rattle.scale_base.specs.Answer.{Stops}
use Rattle.program_sources.specs.declared.reading.Sources.{Sources}
use Rattle.program_sources.specs.Sources.{sources_of}
use Rattle.program_sources.proofs.Laws.{answers_go, answers_stop, then_is}
use Rattle.marked_images.proofs.Laws.{HoldAnswers}
use Rattle.scaler.specs.Held.{IsHeld, IsHeldProgram}
use Rattle.scaler.specs.Rewritten.{IsRewritten, IsRewrittenProgram}
use Rattle.scaler.specs.RewrittenAs.{IsRewrittenAs, with_gain, notes_with}

module _ (image machine loops : List ℕ) where
  pub held_stops : (stop : Stop) → Stops stop (sources_of image machine loops) → HoldAnswers (Err stop) (IsHeld image machine loops)
  unfolding IsHeld
  held_stops stop h = answers_stop {X = Vec ℕ Global × Summary} {B = List ℕ × Summary} (λ given. (given.0.items, given.1)) (sources_of image machine loops) _ stop h

  pub held_goes : (s : Sources) (result : Result (Vec ℕ Global × Summary) Stop) → sources_of image machine loops ≡ Ok s → HoldAnswers result (IsHeldProgram s.power s.view s.notes) → HoldAnswers result (IsHeld image machine loops)
  unfolding IsHeld
  held_goes s result a h = answers_go {X = Vec ℕ Global × Summary} {B = List ℕ × Summary} (λ given. (given.0.items, given.1)) (sources_of image machine loops) s _ result a h

  pub held_answer : (s : Sources) (answer : Result (List ℕ × Summary) Refusal) → sources_of image machine loops ≡ Ok s → IsHeldProgram s.power s.view s.notes answer → IsHeld image machine loops answer
  unfolding IsHeld
  held_answer s answer a h = then_is (sources_of image machine loops) s _ answer a h

  pub rewritten_stops : (stop : Stop) → Stops stop (sources_of image machine loops) → HoldAnswers (Err stop) (IsRewritten image machine loops)
  unfolding IsRewritten
  rewritten_stops stop h = answers_stop {X = Vec ℕ Global × Summary} {B = List ℕ × Summary} (λ given. (given.0.items, given.1)) (sources_of image machine loops) _ stop h

  pub rewritten_goes : (s : Sources) (result : Result (Vec ℕ Global × Summary) Stop) → sources_of image machine loops ≡ Ok s → HoldAnswers result (IsRewrittenProgram s.power s.view s.notes) → HoldAnswers result (IsRewritten image machine loops)
  unfolding IsRewritten
  rewritten_goes s result a h = answers_go {X = Vec ℕ Global × Summary} {B = List ℕ × Summary} (λ given. (given.0.items, given.1)) (sources_of image machine loops) s _ result a h

  pub rewritten_answer : (s : Sources) (answer : Result (List ℕ × Summary) Refusal) → sources_of image machine loops ≡ Ok s → IsRewrittenProgram s.power s.view s.notes answer → IsRewritten image machine loops answer
  unfolding IsRewritten
  rewritten_answer s answer a h = then_is (sources_of image machine loops) s _ answer a h

  module _ (min_gain : ℕ) (counters : Bool) where
    pub rewritten_as_stops : (stop : Stop) → Stops stop (sources_of image machine loops) → HoldAnswers (Err stop) (IsRewrittenAs image machine loops min_gain counters)
    unfolding IsRewrittenAs
    rewritten_as_stops stop h = answers_stop {X = Vec ℕ Global × Summary} {B = List ℕ × Summary} (λ given. (given.0.items, given.1)) (sources_of image machine loops) _ stop h

    pub rewritten_as_goes : (s : Sources) (result : Result (Vec ℕ Global × Summary) Stop) → sources_of image machine loops ≡ Ok s →
        HoldAnswers result (IsRewrittenProgram (with_gain s.power min_gain) s.view (notes_with counters s.notes)) → HoldAnswers result (IsRewrittenAs image machine loops min_gain counters)
    unfolding IsRewrittenAs
    rewritten_as_goes s result a h = answers_go {X = Vec ℕ Global × Summary} {B = List ℕ × Summary} (λ given. (given.0.items, given.1)) (sources_of image machine loops) s _ result a h
