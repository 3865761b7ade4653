-- Two trials of one candidate are the same, in a family that has one of each number.
use Rattle.std.proofs.Common.{◌≡◌, ℕ, List, Ok, Err, refl, sym, ap, ◌∙◌, subst}
use Rattle.scale_base.specs.declared.refusal.Refusal.{Refusal}
use Rattle.scale_base.specs.declared.summary.Summary.{Summary}
use Rattle.gain_tuner.specs.Candidates.{IsCandidate}
use Rattle.gain_tuner.specs.Choice.{IsTrial, IsTrialOf}
use Rattle.gain_tuner.specs.Finding.{Made}
use Rattle.gain_tuner.specs.Spending.{IsSpent}
use Rattle.gain_tuner.proofs.Numbered.{Answer, candidates_alike}

-- what is made of a number is the one answer that the family has of it
abbrev pub IsOne : (ℕ → Answer → Type 0) → Type 0
IsOne Candidate = (c : ℕ) (answer : Answer) (made : List ℕ × Summary) → Candidate c answer → Candidate c (Ok made) → answer ≡ Ok made

same_made : (answer : Answer) (one other : List ℕ × Summary) → answer ≡ Ok one → answer ≡ Ok other → one ≡ other
same_made answer one other e e' = let both : Ok one ≡ Ok other = sym e ∙ e' in cc

module _ (Candidate : ℕ → Answer → Type 0) (is_one : IsOne Candidate) (machine : List ℕ) (inputs : List (List ℕ)) (c : ℕ) where
  pub same_energy : (one other : List ℕ) (m m' : Summary) (e e' : ℕ) → IsTrialOf Candidate machine inputs c one m e → IsTrialOf Candidate machine inputs c other m' e' → e ≡ e'
  same_energy one other m m' e e' t t' =
      let same = same_made (Ok (one, m)) (one, m) (other, m') refl (is_one c (Ok (one, m)) (other, m') t.answer_is t'.answer_is) in
      let there : IsSpent other machine inputs e = subst (λ (file : List ℕ). IsSpent file machine inputs e) (ap (λ (g : List ℕ × Summary). g.0) same) t.spent in
      there.sum ∙ sym t'.spent.sum

-- ---- the families

pub made_one : (made : Answer) → IsOne (Made made)
made_one made c answer given e e' = e ∙ sym e'

module _ (image machine loops : List ℕ) where
  one_by : (c : ℕ) (answer : Answer) (made : List ℕ × Summary) → IsCandidate image machine loops c answer → IsCandidate image machine loops c (Ok made) → answer ≡ Ok made
  one_by c (Ok one) made h h' = ap (λ (g : List ℕ × Summary). Ok g) (candidates_alike image machine loops c (Ok one) (Ok made) h h')
  one_by c (Err refusal) made h h' = absurd (candidates_alike image machine loops c (Err refusal) (Ok made) h h')

  pub candidates_one : IsOne (IsCandidate image machine loops)
  candidates_one = one_by

  -- a refused candidate has no trial
  pub refused_out : (given : List (List ℕ)) (c : ℕ) (refusal : Refusal) → IsCandidate image machine loops c (Err refusal) → (stored : List ℕ) (summary : Summary) (energy : ℕ) → IsTrial image machine loops given c stored summary energy → ⊥
  refused_out given c refusal h stored summary energy t = candidates_alike image machine loops c (Err refusal) (Ok (stored, summary)) h t.answer_is
