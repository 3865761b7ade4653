-- Two tunings that may be given for the same files are the same.
use Rattle.std.proofs.Common.{◌≡◌, ℕ, ◌+◌, ◌<◌, ◌≤◌, inl, inr, List, length, Ok, Err, refl, sym, ap, ◌∙◌, subst, arith}
use Rattle.std.proofs.lemmas.Bool.{cases_order}
use Rattle.scale_base.specs.declared.refusal.Refusal.{Refusal}
use Rattle.scale_base.specs.declared.summary.Summary.{Summary}
use Rattle.scale_base.specs.declared.summary.Tuned.{Tuned}
use Rattle.scaler.specs.Held.{IsHeld}
use Rattle.scaler.proofs.Laws.{held_answers}
use Rattle.gain_tuner.specs.Agreeing.{TuningsAgree}
use Rattle.gain_tuner.specs.Candidates.{IsCandidate}
use Rattle.gain_tuner.specs.Choice.{IsCheapest, IsChoice, IsTrial}
use Rattle.gain_tuner.specs.Spending.{counting}
use Rattle.gain_tuner.proofs.Numbered.{candidates_alike}
use Rattle.gain_tuner.proofs.Trials.{candidates_one, refused_out, same_energy}

abbrev tuned_by : (candidate : ℕ) (summary : Summary) (inputs left_out energy hold_energy : ℕ) → Tuned
tuned_by candidate summary inputs left_out energy hold_energy =
    record { candidate = candidate; summary = summary; inputs = inputs; left_out = left_out; energy = energy; hold_energy = hold_energy }

module _ (image machine loops : List ℕ) (given : List (List ℕ)) where
  energies : (c : ℕ) (one other : List ℕ) (m m' : Summary) (e e' : ℕ) → IsTrial image machine loops given c one m e → IsTrial image machine loops given c other m' e' → e ≡ e'
  energies c = same_energy (IsCandidate image machine loops) (candidates_one image machine loops) machine (counting image machine loops given) c

  -- of two candidates that are the cheapest neither is the first
  not_before : (n c c' : ℕ) (one other : List ℕ) (m m' : Summary) (e e' : ℕ) → IsCheapest image machine loops given n c one m e → IsCheapest image machine loops given n c' other m' e' → c < c' → ⊥
  not_before n c c' one other m m' e e' h h' before =
      let less : e' < e = h'.first c one m e before h.trial in
      let least : e ≤ e' = h.least c' other m' e' h'.below h'.trial in
      omega (arith, less, least)

  same_candidate : (n c c' : ℕ) (one other : List ℕ) (m m' : Summary) (e e' : ℕ) → IsCheapest image machine loops given n c one m e → IsCheapest image machine loops given n c' other m' e' → c ≡ c'
  same_candidate n c c' one other m m' e e' h h' = elim (cases_order c c') [
    | inl same ↦ same
    | inr (inl before) ↦ absurd (not_before n c c' one other m m' e e' h h' before)
    | inr (inr after) ↦ absurd (not_before n c' c other one m' m e' e h' h after)
  ]

  same_left : (inputs left inputs' left' all : ℕ) → inputs ≡ inputs' → inputs + left ≡ all → inputs' + left' ≡ all → left ≡ left'
  same_left inputs left inputs' left' all e s s' = omega (arith, e, s, s')

  same_choice : (one other : List ℕ × Tuned) → IsChoice image machine loops given one.0 one.1 → IsChoice image machine loops given other.0 other.1 → one ≡ other
  same_choice (stored, t) (stored', t') h h' =
      let candidate : t.candidate ≡ t'.candidate = same_candidate 33 t.candidate t'.candidate stored stored' t.summary t'.summary t.energy t'.energy h.cheapest h'.cheapest in
      let there : IsTrial image machine loops given t'.candidate stored t.summary t.energy = subst (λ c. IsTrial image machine loops given c stored t.summary t.energy) candidate h.cheapest.trial in
      let answer : (stored, t.summary) ≡ (stored', t'.summary) =
      candidates_alike image machine loops t'.candidate (Ok (stored, t.summary)) (Ok (stored', t'.summary)) there.answer_is h'.cheapest.trial.answer_is in
      let energy : t.energy ≡ t'.energy = energies t'.candidate stored stored' t.summary t'.summary t.energy t'.energy there h'.cheapest.trial in
      let hold : t.hold_energy ≡ t'.hold_energy = energies 0 h.held h'.held h.held_summary h'.held_summary t.hold_energy t'.hold_energy h.hold h'.hold in
      let inputs : t.inputs ≡ t'.inputs = h.inputs ∙ sym h'.inputs in
      let left : t.left_out ≡ t'.left_out = same_left t.inputs t.left_out t'.inputs t'.left_out (length given) inputs h.left_out h'.left_out in
      ap (λ (g : List ℕ × Summary). (g.0, tuned_by t.candidate g.1 t.inputs t.left_out t.energy t.hold_energy)) answer
      ∙ (ap (λ c. (stored', tuned_by c t'.summary t.inputs t.left_out t.energy t.hold_energy)) candidate
      ∙ (ap (λ n. (stored', tuned_by t'.candidate t'.summary n t.left_out t.energy t.hold_energy)) inputs
      ∙ (ap (λ n. (stored', tuned_by t'.candidate t'.summary t'.inputs n t.energy t.hold_energy)) left
      ∙ (ap (λ e. (stored', tuned_by t'.candidate t'.summary t'.inputs t'.left_out e t.hold_energy)) energy
      ∙ ap (λ e. (stored', tuned_by t'.candidate t'.summary t'.inputs t'.left_out t'.energy e)) hold))))

  -- a choice has an image that runs at one level, and a refusal says that there is none
  not_refused : (stored : List ℕ) (tuned : Tuned) (refusal : Refusal) → IsChoice image machine loops given stored tuned → IsHeld image machine loops (Err refusal) → ⊥
  not_refused stored tuned refusal h refused = refused_out image machine loops given 0 refusal (inl (refl, refused)) h.held h.held_summary tuned.hold_energy h.hold

pub tuned_answers : TuningsAgree
tuned_answers image machine loops given (Ok one) (Ok other) h h' = same_choice image machine loops given one other h h'
tuned_answers image machine loops given (Ok one) (Err refusal) h h' = not_refused image machine loops given one.0 one.1 refusal h h'
tuned_answers image machine loops given (Err refusal) (Ok other) h h' = not_refused image machine loops given other.0 other.1 refusal h' h
tuned_answers image machine loops given (Err refusal) (Err refusal') h h' = held_answers image machine loops (Err refusal) (Err refusal') h h'
