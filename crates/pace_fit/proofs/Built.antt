-- The first proposal of which an image can be built, where no input counts.
use Rattle.std.proofs.Common.{◌≡◌, ℕ, ◌+◌, ◌<◌, ◌≤◌, List, [], ◌∷◌, length, Option, Some, None, refl, sym, subst, arith, inl, inr}
use Rattle.std.specs.Prelude.{slice_get}
use Rattle.std.proofs.lemmas.Bool.Decides.{eqb_tells}
use Rattle.scale_base.specs.declared.summary.Summary.{Summary}
use Rattle.gain_tuner.specs.declared.choosing.Files.{Files}
use Rattle.gain_tuner.specs.declared.choosing.Trial.{Trial}
use Rattle.gain_tuner.specs.Finding.{IsTrialOrOf}
use Rattle.gain_tuner.specs.Spending.{IsSpent}
use Rattle.gain_tuner.proofs.Laws.{none_spent}
use Rattle.paced_images.specs.declared.proposal.Proposal.{Proposal}
use Rattle.paced_images.specs.Proposed.{HasNoDeadMark}
use Rattle.pace_fit.specs.Fitting.{AreOut, Gives, IsCheapestFit, IsChosen, IsChosenUseful, IsFirstBuilt, IsProposed}
use Rattle.pace_fit.specs.Finding.{IsHeldTrial, IsProposalTried, counted_inputs, given_inputs}
use Rattle.pace_fit.proofs.Fits.{Stored, same_item}

module _ (files : Files) (none : counted_inputs files ≡ []) where
  spent_none : (stored : List ℕ) → IsSpent stored files.machine.now (counted_inputs files) 0
  spent_none stored = subst (λ xs. IsSpent stored files.machine.now xs 0) (sym none) (none_spent stored files.machine.now)

  pub no_energy : (stored : List ℕ) (energy : ℕ) → IsSpent stored files.machine.now (counted_inputs files) energy → energy ≡ 0
  no_energy stored energy h = (subst (λ xs. IsSpent stored files.machine.now xs energy) none h).sum

  -- nothing is given of a proposal that is out
  pub none_given : (proposal : Proposal) (c : ℕ) → IsProposalTried files proposal c None → IsProposed files.image.now files.machine.now files.loops.now proposal None
  none_given proposal c h = by h.given h.proposed h.tried_is
    where
      by : (given : Option Stored) → IsProposed files.image.now files.machine.now files.loops.now proposal given → IsTrialOrOf (λ k answer. Gives given answer) files.image.now files.machine.now files.loops.now (given_inputs files) c None
          → IsProposed files.image.now files.machine.now files.loops.now proposal None
      by (Some made) is out = absurd (out made.0 made.1 0 (record { answer_is = refl; spent = spent_none made.0 }))
      by None is out = is

  module _ (proposals : List Proposal) where
    pub out_more : (n : ℕ) (proposal : Proposal) → slice_get proposals n ≡ Some proposal → AreOut files.image.now files.machine.now files.loops.now proposals n → IsProposalTried files proposal (n + 1) None
        → AreOut files.image.now files.machine.now files.loops.now proposals (n + 1)
    out_more n proposal there h is = λ k other lt at. elim (eqb_tells k n) [
      | inl same ↦ (
          let item : proposal ≡ other = same_item proposals n proposal other there (subst (λ m. slice_get proposals m ≡ Some other) same.1 at) in
          subst (λ (p : Proposal). IsProposed files.image.now files.machine.now files.loops.now p None) item (none_given proposal (n + 1) is))
      | inr more ↦ h k other (apart k n lt more.1) at
    ]
      where
        apart : (k n : ℕ) → k < n + 1 → (k ≡ n → ⊥) → k < n
        apart k n lt other = omega (arith, lt, other)

    pub built_here : (n : ℕ) (proposal : Proposal) (t : Trial) → slice_get proposals n ≡ Some proposal → AreOut files.image.now files.machine.now files.loops.now proposals n → IsProposalTried files proposal (n + 1) (Some t)
        → IsFirstBuilt files.image.now files.machine.now files.loops.now proposals t.candidate t.stored.items t.summary
    built_here n proposal t there h is = inl (record {
      k = n;
      proposal = proposal;
      number = is.tried_is.candidate;
      there = there;
      built = subst (λ (o : Option Stored). IsProposed files.image.now files.machine.now files.loops.now proposal o) is.tried_is.trial.answer_is is.proposed;
      before = h;
    })

    pub held_only : (t : Trial) → IsHeldTrial files t → AreOut files.image.now files.machine.now files.loops.now proposals (length proposals)
        → IsFirstBuilt files.image.now files.machine.now files.loops.now proposals t.candidate t.stored.items t.summary
    held_only t h out = inr (record { number = h.candidate; held = h.held; out = out })

-- ---- by the inputs that count

pub none_of : (xs : List (List ℕ)) → length xs ≡ 0 → xs ≡ []
none_of [] e = refl
none_of (x ∷ xs) e = absurd (omega (arith, e))

module _ (image machine loops : List ℕ) (proposals : List Proposal) (c : ℕ) (stored : List ℕ) (summary : Summary) (energy : ℕ) where
  pub chosen_some : (xs : List (List ℕ)) → 1 ≤ length xs → IsCheapestFit image machine loops xs proposals c stored summary energy → IsChosen image machine loops xs proposals c stored summary energy
  chosen_some [] some h = absurd (omega (arith, some))
  chosen_some (x ∷ xs) some h = h

  pub chosen_none : (xs : List (List ℕ)) → length xs ≡ 0 → IsFirstBuilt image machine loops proposals c stored summary → energy ≡ 0 → IsChosen image machine loops xs proposals c stored summary energy
  chosen_none [] e h zero = (h, zero)
  chosen_none (x ∷ xs) e h zero = absurd (omega (arith, e))

-- ---- no mark of the choice is dead

module _ (image machine loops : List ℕ) (proposals : List Proposal) (c : ℕ) (stored : List ℕ) (summary : Summary) where
  no_dead : (proposal : Proposal) (o : Option Stored) → o ≡ Some (stored, summary) → IsProposed image machine loops proposal o → HasNoDeadMark image machine loops proposal
  no_dead proposal o e h = let given = subst (λ (q : Option Stored). IsProposed image machine loops proposal q) e h in given.1

  built_useful : IsFirstBuilt image machine loops proposals c stored summary → IsChosenUseful image machine loops proposals c
  built_useful (inl b) = λ k proposal number there.
      let place : b.k ≡ k = (let n = b.number in omega (arith, n, number)) in
      let item = same_item proposals k b.proposal proposal (subst (λ n. slice_get proposals n ≡ Some b.proposal) place b.there) there in
      subst (λ (p : Proposal). HasNoDeadMark image machine loops p) item (no_dead b.proposal (Some (stored, summary)) refl b.built)
  built_useful (inr h) = λ k proposal number there. absurd (let n = h.number in omega (arith, n, number))

  pub chosen_useful : (xs : List (List ℕ)) (energy : ℕ) → IsChosen image machine loops xs proposals c stored summary energy → IsChosenUseful image machine loops proposals c
  chosen_useful [] energy h = built_useful h.0
  chosen_useful (x ∷ xs) energy h = λ k proposal number there.
      let at = subst (λ n. h.given n ≡ Some (stored, summary)) number h.cheapest.trial.answer_is in
      no_dead proposal (h.given (k + 1)) at (h.candidates.proposed k proposal there)
