-- What is stored of a tuning is safe, whichever candidate it is.
use Rattle.std.proofs.Common.{ℕ, ◌<◌, ◌≤◌, List, length, Ok, arith, inl, inr}
use Rattle.scale_base.specs.declared.summary.Summary.{Summary}
use Rattle.marked_images.specs.Promise.{IsStoredSafely}
use Rattle.scaler.proofs.Laws.{held_promise, rewritten_as_safe}
use Rattle.gain_tuner.specs.Candidates.{IsCandidate}
use Rattle.gain_tuner.specs.Safe.{TunedImagesAreSafe}

candidate_safe : (image machine loops : List ℕ) (c : ℕ) (stored : List ℕ) (summary : Summary) → length image ≤ 4194304 → length machine ≤ 1048576 → length loops ≤ 1048576 →
    IsCandidate image machine loops c (Ok ((stored, summary))) → IsStoredSafely image machine loops stored summary
candidate_safe image machine loops c stored summary si sm sl (inl h) = held_promise image machine loops stored summary si h.1
candidate_safe image machine loops c stored summary si sm sl (inr (inl g)) = rewritten_as_safe image machine loops _ _ stored summary si sm sl g.answer_is
candidate_safe image machine loops c stored summary si sm sl (inr (inr g)) = rewritten_as_safe image machine loops _ _ stored summary si sm sl g.answer_is

pub tuned_safe : TunedImagesAreSafe
tuned_safe image machine loops inputs stored tuned si sm sl h =
    let first : 0 < 33 = omega arith in
    record {
      safe = candidate_safe image machine loops tuned.candidate stored tuned.summary si sm sl h.cheapest.trial.answer_is;
      saves = h.cheapest.least 0 h.held h.held_summary tuned.hold_energy first h.hold;
    }
