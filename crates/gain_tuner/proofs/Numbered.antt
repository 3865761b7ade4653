-- The candidates by their numbers: what is given of one agrees.
use Rattle.std.proofs.Common.{◌≡◌, ◌≢◌, ℕ, zero, suc, ◌+◌, ◌-◌, ◌*◌, ◌/◌, ◌%◌, ◌^◌, ◌<◌, ◌≤◌, Bool, true, false, List, Result, Ok, Err, refl, sym, ◌∙◌, subst, arith, inl, inr, lit<}
use Rattle.std.specs.Prelude.{nat_eq, Vec}
use Rattle.std.specs.declared.alloc.Global.{Global}
use Rattle.std.proofs.Math.Nat.{pow-le-pow_right}
use Rattle.std.proofs.lemmas.Bool.Decides.{eqb_tells}
use Rattle.scale_base.specs.declared.refusal.Refusal.{Refusal}
use Rattle.scale_base.specs.declared.refusal.Stop.{Stop}
use Rattle.scale_base.specs.declared.refusal.Stop.TheVariants.{Refused, Memory}
use Rattle.scale_base.specs.declared.summary.Summary.{Summary}
use Rattle.scale_base.specs.Answer.{AnswersBy}
use Rattle.scaler.specs.Agree.{AreAlikeAnswers}
use Rattle.scaler.specs.RewrittenAs.{IsRewrittenAs}
use Rattle.scaler.proofs.Laws.{held_answers, rewritten_as_answers}
use Rattle.gain_tuner.specs.Candidates.{IsCandidate, IsGained}

abbrev pub Answer : Type 0
Answer = Result (List ℕ × Summary) Refusal

-- ---- the numbers

pub gain_fits : (k : ℕ) → k < 16 → 4 ^ k < 2 ^ 32
gain_fits k small =
    let le : k ≤ 15 = omega arith in
    let most : 4 ^ k ≤ 4 ^ 15 = pow-le-pow_right {n = 4} (lit< tt) le in
    let top : 4 ^ 15 < 2 ^ 32 = lit< tt in
    omega (arith, most, top)

pub gain_below : (number : ℕ) → 1 ≤ number → number < 33 → (number - 1) / 2 < 16
gain_below number from to = omega arith

odd : (number : ℕ) → 1 ≤ number → number % 2 ≡ 1 → number ≡ 1 + 2 * ((number - 1) / 2)
odd number from e = omega arith

even : (number : ℕ) → 1 ≤ number → number % 2 ≢ 1 → number ≡ 2 + 2 * ((number - 1) / 2)
even number from ne =
    let two : number % 2 < 2 = omega arith in
    let none : number % 2 ≡ 0 = zero_or (number % 2) two ne in
    omega arith
  where
    zero_or : (r : ℕ) → r < 2 → r ≢ 1 → r ≡ 0
    zero_or zero lt other = refl
    zero_or (suc zero) lt other = absurd (other refl)
    zero_or (suc (suc r)) lt other = absurd (omega (arith, lt))

-- ---- what is given of a number

module _ (image machine loops : List ℕ) where
  gained : (number : ℕ) → 1 ≤ number → number < 33 → (answer : Answer) → IsRewrittenAs image machine loops (4 ^ ((number - 1) / 2)) (nat_eq (number % 2) 1) answer → IsCandidate image machine loops number answer
  gained number from to answer h = elim (eqb_tells (number % 2) 1) [
    | inl one ↦ inr (inl (record {
      k = (number - 1) / 2;
      few = gain_below number from to;
      number = odd number from one.1;
      answer_is = subst (λ b. IsRewrittenAs image machine loops (4 ^ ((number - 1) / 2)) b answer) one.0 h;
    }))
    | inr other ↦ inr (inr (record {
      k = (number - 1) / 2;
      few = gain_below number from to;
      number = even number from other.1;
      answer_is = subst (λ b. IsRewrittenAs image machine loops (4 ^ ((number - 1) / 2)) b answer) other.0 h;
    }))
  ]

  pub candidate_given : (number gain : ℕ) → 1 ≤ number → number < 33 → gain ≡ 4 ^ ((number - 1) / 2) → (result : Result (Vec ℕ Global × Summary) Stop) →
      AnswersBy (λ given. (given.0.items, given.1)) result (IsRewrittenAs image machine loops gain (nat_eq (number % 2) 1)) →
      AnswersBy (λ given. (given.0.items, given.1)) result (IsCandidate image machine loops number)
  candidate_given number gain from to e (Ok given) h = gained number from to (Ok (given.0.items, given.1)) (subst (λ g. IsRewrittenAs image machine loops g (nat_eq (number % 2) 1) (Ok (given.0.items, given.1))) e h)
  candidate_given number gain from to e (Err (Refused refusal)) h = gained number from to (Err refusal) (subst (λ g. IsRewrittenAs image machine loops g (nat_eq (number % 2) 1) (Err refusal)) e h)
  candidate_given number gain from to e (Err Memory) h = tt

  -- ---- two answers of one number

  same_gain : (first k k' : ℕ) → first + 2 * k ≡ first + 2 * k' → k ≡ k'
  same_gain first k k' e = omega arith

  gained_alike : (first : ℕ) (counters : Bool) (c : ℕ) (one other : Answer) → IsGained image machine loops first counters c one → IsGained image machine loops first counters c other → AreAlikeAnswers one other
  gained_alike first counters c one other g g' = rewritten_as_answers image machine loops (4 ^ g.k) counters one other g.answer_is
      (subst (λ k. IsRewrittenAs image machine loops (4 ^ k) counters other) (sym (same_gain first g.k g'.k (sym g.number ∙ g'.number))) g'.answer_is)

  apart : (k k' : ℕ) → 1 + 2 * k ≡ 2 + 2 * k' → ⊥
  apart k k' e = omega arith

  none : (first k c : ℕ) → 1 ≤ first → c ≡ 0 → c ≡ first + 2 * k → ⊥
  none first k c some is e = omega arith

  one_some : 1 ≤ 1
  one_some = omega arith

  two_some : 1 ≤ 2
  two_some = omega arith

  pub candidates_alike : (c : ℕ) (one other : Answer) → IsCandidate image machine loops c one → IsCandidate image machine loops c other → AreAlikeAnswers one other
  candidates_alike c one other (inl h) (inl h') = held_answers image machine loops one other h.1 h'.1
  candidates_alike c one other (inl h) (inr (inl g')) = absurd (none 1 g'.k c one_some h.0 g'.number)
  candidates_alike c one other (inl h) (inr (inr g')) = absurd (none 2 g'.k c two_some h.0 g'.number)
  candidates_alike c one other (inr (inl g)) (inl h') = absurd (none 1 g.k c one_some h'.0 g.number)
  candidates_alike c one other (inr (inr g)) (inl h') = absurd (none 2 g.k c two_some h'.0 g.number)
  candidates_alike c one other (inr (inl g)) (inr (inl g')) = gained_alike 1 true c one other g g'
  candidates_alike c one other (inr (inr g)) (inr (inr g')) = gained_alike 2 false c one other g g'
  candidates_alike c one other (inr (inl g)) (inr (inr g')) = absurd (apart g.k g'.k (sym g.number ∙ g'.number))
  candidates_alike c one other (inr (inr g)) (inr (inl g')) = absurd (apart g'.k g.k (sym g'.number ∙ g.number))
