-- The cheapest of the image that runs at one level and those of the proposals so far.
use Rattle.std.proofs.Common.{◌≡◌, ℕ, ◌+◌, ◌<◌, ◌≤◌, Bool, true, false, cond, List, length, get_or, Option, Some, None, Ok, Err, refl, sym, ap, ◌∙◌, subst, arith, inl, inr}
use Rattle.std.specs.Prelude.{nat_eq, nat_lt, slice_get}
use Rattle.std.proofs.lemmas.Bool.{ltb-true}
use Rattle.std.proofs.lemmas.Bool.Decides.{eqb_tells}
use Rattle.std.proofs.lemmas.Option.{slice_get_read, slice_get_within}
use Rattle.scale_base.specs.declared.summary.Summary.{Summary}
use Rattle.scaler.specs.Held.{IsHeld}
use Rattle.gain_tuner.specs.declared.choosing.Files.{Files}
use Rattle.gain_tuner.specs.declared.choosing.Trial.{Trial}
use Rattle.gain_tuner.specs.Choice.{IsTrialOf}
use Rattle.gain_tuner.specs.Finding.{IsSafeChoiceOf, IsTrialOrOf, cheaper_of}
use Rattle.gain_tuner.proofs.Laws.{Answer, IsOne, first_choice, next_choice}
use Rattle.paced_images.specs.declared.proposal.Proposal.{Proposal}
use Rattle.pace_fit.specs.Fitting.{Gives, IsCheapestFit, IsProposed}
use Rattle.pace_fit.specs.Finding.{IsHeldTrial, IsProposalTried, counted_inputs, given_inputs}

abbrev pub Stored : Type 0
Stored = List ℕ × Summary

-- a family of one answer a number
abbrev pub GivenBy : (ℕ → Option Stored) → ℕ → Answer → Type 0
GivenBy given k answer = Gives (given k) answer

same_made : (one other : Stored) (o : Option Stored) → o ≡ Some one → o ≡ Some other → one ≡ other
same_made one other o e e' = let both : Some one ≡ Some other = sym e ∙ e' in cc

pub not_made : {A : Type 0} (made : Stored) (o : Option Stored) → o ≡ None → o ≡ Some made → A
not_made made o e e' = let both : Some made ≡ None = sym e' ∙ e in let never : ⊥ = cc in absurd never

pub given_one : (given : ℕ → Option Stored) → IsOne (GivenBy given)
given_one given c (Ok one) made h h' = ap (λ (m : Stored). Ok m) (same_made one made (given c) h h')
given_one given c (Err refusal) made h h' = not_made made (given c) h h'

pub slice_get_item : (proposals : List Proposal) (k : ℕ) (p : Proposal) → k < length proposals → p ≡ get_or proposals k p → slice_get proposals k ≡ Some p
slice_get_item proposals k p lt is = slice_get_read proposals (length proposals) k p refl lt is

pub same_item : (proposals : List Proposal) (k : ℕ) (p p' : Proposal) → slice_get proposals k ≡ Some p → slice_get proposals k ≡ Some p' → p ≡ p'
same_item proposals k p p' e e' = let both : Some p ≡ Some p' = sym e ∙ e' in cc

module _ (files : Files) (proposals : List Proposal) where
  -- what is given of hold's image and of the first n proposals, and the cheapest of them
  pub record IsCheapestSo (n : ℕ) (best : Trial) : Type 0 where
    pub given : ℕ → Option Stored
    pub held : (stored : List ℕ) × (summary : Summary) × (given 0 ≡ Some ((stored, summary))) × IsHeld files.image.now files.machine.now files.loops.now (Ok ((stored, summary)))
    pub proposed : (k : ℕ) (proposal : Proposal) → k < n → slice_get proposals k ≡ Some proposal → IsProposed files.image.now files.machine.now files.loops.now proposal (given (k + 1))
    pub choice : IsSafeChoiceOf (GivenBy given) files.image.now files.machine.now files.loops.now (given_inputs files) (n + 1) best

  pub first_so : (t : Trial) → IsHeldTrial files t → IsCheapestSo 0 t
  first_so t h =
      let given : ℕ → Option Stored = λ _. Some (t.stored.items, t.summary) in
      record {
        given = given;
        held = (t.stored.items, t.summary, refl, h.held);
        proposed = λ k proposal lt there. absurd (omega (arith, lt));
        choice = first_choice (GivenBy given) (given_one given) files.image.now files.machine.now files.loops.now (given_inputs files) t
            (record { candidate = h.candidate; trial = record { answer_is = refl; spent = h.spent }; safe = h.safe });
      }

  -- ---- one proposal more

  module _ (n : ℕ) (best : Trial) (so : IsCheapestSo n best) (proposal : Proposal) (tried : Option Trial) (there : slice_get proposals n ≡ Some proposal) (is : IsProposalTried files proposal (n + 1) tried) where
    abbrev given : ℕ → Option Stored
    given k = cond (nat_eq k (n + 1)) is.given (so.given k)

    before : (k : ℕ) → k < n + 1 → given k ≡ so.given k
    before k lt = elim (eqb_tells k (n + 1)) [
      | inl same ↦ absurd (omega (arith, lt, same.1))
      | inr other ↦ ap (λ b. cond b is.given (so.given k)) other.0
    ]

    here : given (n + 1) ≡ is.given
    here = elim (eqb_tells (n + 1) (n + 1)) [
      | inl same ↦ ap (λ b. cond b is.given (so.given (n + 1))) same.0
      | inr other ↦ absurd (other.1 refl)
    ]

    forth : (d : ℕ) (stored : List ℕ) (s : Summary) (e : ℕ) → d < n + 1 → IsTrialOf (GivenBy so.given) files.machine.now (counted_inputs files) d stored s e → IsTrialOf (GivenBy given) files.machine.now (counted_inputs files) d stored s e
    forth d stored s e lt t = record { answer_is = before d lt ∙ t.answer_is; spent = t.spent }

    back : (d : ℕ) (stored : List ℕ) (s : Summary) (e : ℕ) → d < n + 1 → IsTrialOf (GivenBy given) files.machine.now (counted_inputs files) d stored s e → IsTrialOf (GivenBy so.given) files.machine.now (counted_inputs files) d stored s e
    back d stored s e lt t = record { answer_is = sym (before d lt) ∙ t.answer_is; spent = t.spent }

    moved : IsSafeChoiceOf (GivenBy given) files.image.now files.machine.now files.loops.now (given_inputs files) (n + 1) best
    moved =
        let c = so.choice.cheapest in
        record {
          cheapest = record {
            below = c.below;
            trial = forth best.candidate best.stored.items best.summary best.energy c.below c.trial;
            least = λ d stored s e lt t. c.least d stored s e lt (back d stored s e lt t);
            first = λ d stored s e lt t. c.first d stored s e lt (back d stored s e (omega (arith, lt, c.below)) t);
          };
          safe = so.choice.safe;
        }

    proposed : (k : ℕ) (other : Proposal) → k < n + 1 → slice_get proposals k ≡ Some other → IsProposed files.image.now files.machine.now files.loops.now other (given (k + 1))
    proposed k other lt at = elim (eqb_tells k n) [
      | inl same ↦ (
          let item : proposal ≡ other = same_item proposals n proposal other there (subst (λ m. slice_get proposals m ≡ Some other) same.1 at) in
          let one = subst (λ (p : Proposal). IsProposed files.image.now files.machine.now files.loops.now p is.given) item is.proposed in
          let two = subst (λ (a : Option Stored). IsProposed files.image.now files.machine.now files.loops.now other a) (sym here) one in
          subst (λ m. IsProposed files.image.now files.machine.now files.loops.now other (given (m + 1))) (sym same.1) two)
      | inr more ↦ (
          let less : k < n = apart k n lt more.1 in
          let early : k + 1 < n + 1 = omega (arith, less) in
          subst (λ (a : Option Stored). IsProposed files.image.now files.machine.now files.loops.now other a) (sym (before (k + 1) early)) (so.proposed k other less at))
    ]
      where
        apart : (k n : ℕ) → k < n + 1 → (k ≡ n → ⊥) → k < n
        apart k n lt other = omega (arith, lt, other)

    tried_here : (o : Option Trial) → IsTrialOrOf (λ k answer. Gives is.given answer) files.image.now files.machine.now files.loops.now (given_inputs files) (n + 1) o
        → IsTrialOrOf (GivenBy given) files.image.now files.machine.now files.loops.now (given_inputs files) (n + 1) o
    tried_here None out = λ stored summary energy t. out stored summary energy (record { answer_is = sym here ∙ t.answer_is; spent = t.spent })
    tried_here (Some t) h = record { candidate = h.candidate; trial = record { answer_is = here ∙ h.trial.answer_is; spent = h.trial.spent }; safe = h.safe }

    pub next_so : IsCheapestSo (n + 1) (cheaper_of best tried)
    next_so = record {
      given = given;
      held = (so.held.0, so.held.1, before 0 (omega arith) ∙ so.held.2, so.held.3);
      proposed = proposed;
      choice = next_choice (GivenBy given) (given_one given) files.image.now files.machine.now files.loops.now (given_inputs files) (n + 1) best tried moved (tried_here tried is.tried_is);
    }

  -- ---- all of them

  pub all_so : (best : Trial) → IsCheapestSo (length proposals) best →
      IsCheapestFit files.image.now files.machine.now files.loops.now (counted_inputs files) proposals best.candidate best.stored.items best.summary best.energy
  all_so best so = record {
    given = so.given;
    candidates = record { held = so.held; proposed = λ k proposal there. so.proposed k proposal (slice_get_within proposals k proposal there) there };
    cheapest = so.choice.cheapest;
  }

pub cheaper_saves : (best : Trial) (tried : Option Trial) (most : ℕ) → best.energy ≤ most → (cheaper_of best tried).energy ≤ most
cheaper_saves best None most le = le
cheaper_saves best (Some t) most le = go (nat_lt t.energy best.energy) refl
  where
    go : (b : Bool) → nat_lt t.energy best.energy ≡ b → (cond b t best).energy ≤ most
    go true e = let lt = ltb-true t.energy best.energy e in omega (arith, lt, le)
    go false e = le
