-- The cheapest of the candidates of a family so far.
use Rattle.std.proofs.Common.{◌≡◌, ℕ, ◌+◌, ◌<◌, ◌≤◌, Bool, true, false, cond, List, Option, Some, None, Result, Ok, Err, refl, sym, subst, arith, ◌⊎◌, inl, inr}
use Rattle.std.specs.Prelude.{nat_lt, IfOk, Vec}
use Rattle.std.specs.declared.alloc.Global.{Global}
use Rattle.std.proofs.lemmas.Bool.{ltb-true, ltb-false}
use Rattle.scale_base.specs.declared.refusal.Stop.{Stop}
use Rattle.scale_base.specs.declared.refusal.Stop.TheVariants.{Refused, Memory}
use Rattle.scale_base.specs.declared.summary.Summary.{Summary}
use Rattle.scale_base.specs.Answer.{AnswersBy}
use Rattle.gain_tuner.specs.declared.choosing.Trial.{Trial}
use Rattle.gain_tuner.specs.Choice.{IsTrialOf}
use Rattle.gain_tuner.specs.Finding.{IsSafeTrialOf, IsTrialOrOf, IsTried, IsSafeChoiceOf, Made, cheaper_of}
use Rattle.gain_tuner.specs.Spending.{counting}
use Rattle.gain_tuner.proofs.Numbered.{Answer}
use Rattle.gain_tuner.proofs.Trials.{IsOne, same_energy}

module _ (Candidate : ℕ → Answer → Type 0) (is_one : IsOne Candidate) (image machine loops : List ℕ) (given : List (List ℕ)) where
  abbrev TrialOf : ℕ → List ℕ → Summary → ℕ → Type 0
  TrialOf c stored summary energy = IsTrialOf Candidate machine (counting image machine loops given) c stored summary energy

  moved : (c d : ℕ) (stored : List ℕ) (summary : Summary) (energy : ℕ) → c ≡ d → TrialOf c stored summary energy → TrialOf d stored summary energy
  moved c d stored summary energy e t = subst (λ n. TrialOf n stored summary energy) e t

  energies : (c : ℕ) (one other : List ℕ) (m m' : Summary) (e e' : ℕ) → TrialOf c one m e → TrialOf c other m' e' → e ≡ e'
  energies c = same_energy Candidate is_one machine (counting image machine loops given) c

  -- ---- a trial of what was made of a candidate

  pub tried_safe : (answer : Answer) (c : ℕ) (t : Trial) → Candidate c answer → IsSafeTrialOf (Made answer) image machine loops given c t → IsSafeTrialOf Candidate image machine loops given c t
  tried_safe answer c t h is = record {
    candidate = is.candidate;
    trial = record { answer_is = subst (λ (a : Answer). Candidate c a) (sym is.trial.answer_is) h; spent = is.trial.spent };
    safe = is.safe;
  }

  pub tried_or : (answer : Answer) (c : ℕ) (tried : Option Trial) → Candidate c answer → IsTrialOrOf (Made answer) image machine loops given c tried → IsTrialOrOf Candidate image machine loops given c tried
  tried_or answer c None h out = λ stored summary energy t. out stored summary energy (record { answer_is = sym (is_one c answer (stored, summary) h t.answer_is); spent = t.spent })
  tried_or answer c (Some t) h is = tried_safe answer c t h is

  pub tried_given : (made : Result (Vec ℕ Global × Summary) Stop) (c : ℕ) (tried : Option Trial) → AnswersBy (λ g. (g.0.items, g.1)) made (Candidate c) → IsTried image machine loops given c made tried
      → IsTrialOrOf Candidate image machine loops given c tried
  tried_given (Ok made) c tried h is = tried_or (Ok (made.0.items, made.1)) c tried h is
  tried_given (Err (Refused refusal)) c tried h is = tried_or (Err refusal) c tried h is
  tried_given (Err Memory) c tried h is = absurd is

  pub tried_result : {E : Type 0} (made : Result (Vec ℕ Global × Summary) Stop) (c : ℕ) (result : Result (Option Trial) E) → AnswersBy (λ g. (g.0.items, g.1)) made (Candidate c) → IfOk result (IsTried image machine loops given c made)
      → IfOk result (IsTrialOrOf Candidate image machine loops given c)
  tried_result made c (Ok tried) h is = tried_given made c tried h is
  tried_result made c (Err stop) h is = tt

  -- ---- the choice

  -- the first of them
  pub first_choice : (t : Trial) → IsSafeTrialOf Candidate image machine loops given 0 t → IsSafeChoiceOf Candidate image machine loops given 1 t
  first_choice t h = record {
    cheapest = record {
      below = omega (arith, h.candidate);
      trial = moved 0 t.candidate t.stored.items t.summary t.energy (sym h.candidate) h.trial;
      least = λ d other s e lt is.
          let zero : d ≡ 0 = omega (arith, lt) in
          let equal : t.energy ≡ e = energies 0 t.stored.items other t.summary s t.energy e h.trial (moved d 0 other s e zero is) in
          omega (arith, equal);
      first = λ d other s e lt is. absurd (omega (arith, lt, h.candidate));
    };
    safe = h.safe;
  }

  below_or : (d n : ℕ) → d < n + 1 → (d < n) ⊎ (d ≡ n)
  below_or d n lt = go (nat_lt d n) refl
    where
      go : (b : Bool) → nat_lt d n ≡ b → (d < n) ⊎ (d ≡ n)
      go true e = inl (ltb-true d n e)
      go false e = let ge : n ≤ d = ltb-false d n e in inr (omega (arith, lt, ge))

  -- a candidate that is out changes nothing
  kept_out : (n : ℕ) (best : Trial) → IsSafeChoiceOf Candidate image machine loops given n best → ((stored : List ℕ) (summary : Summary) (energy : ℕ) → TrialOf n stored summary energy → ⊥) → IsSafeChoiceOf Candidate image machine loops given (n + 1) best
  kept_out n best h out = record {
    cheapest = record {
      below = omega (arith, h.cheapest.below);
      trial = h.cheapest.trial;
      least = λ d other s e lt is. elim (below_or d n lt) [
        | inl less ↦ h.cheapest.least d other s e less is
        | inr same ↦ absurd (out other s e (moved d n other s e same is))
      ];
      first = h.cheapest.first;
    };
    safe = h.safe;
  }

  -- nor does one that takes as much
  kept_same : (n : ℕ) (best t : Trial) → IsSafeChoiceOf Candidate image machine loops given n best → IsSafeTrialOf Candidate image machine loops given n t → best.energy ≤ t.energy → IsSafeChoiceOf Candidate image machine loops given (n + 1) best
  kept_same n best t h is le = record {
    cheapest = record {
      below = omega (arith, h.cheapest.below);
      trial = h.cheapest.trial;
      least = λ d other s e lt it. elim (below_or d n lt) [
        | inl less ↦ h.cheapest.least d other s e less it
        | inr same ↦ (let eq : t.energy ≡ e = energies n t.stored.items other t.summary s t.energy e is.trial (moved d n other s e same it) in omega (arith, eq, le))
      ];
      first = h.cheapest.first;
    };
    safe = h.safe;
  }

  -- one that takes less is the choice
  taken : (n : ℕ) (best t : Trial) → IsSafeChoiceOf Candidate image machine loops given n best → IsSafeTrialOf Candidate image machine loops given n t → t.energy < best.energy → IsSafeChoiceOf Candidate image machine loops given (n + 1) t
  taken n best t h is lt = record {
    cheapest = record {
      below = omega (arith, is.candidate);
      trial = moved n t.candidate t.stored.items t.summary t.energy (sym is.candidate) is.trial;
      least = λ d other s e below it. elim (below_or d n below) [
        | inl less ↦ (let le : best.energy ≤ e = h.cheapest.least d other s e less it in omega (arith, le, lt))
        | inr same ↦ (let eq : t.energy ≡ e = energies n t.stored.items other t.summary s t.energy e is.trial (moved d n other s e same it) in omega (arith, eq))
      ];
      first = λ d other s e below it. (let le : best.energy ≤ e = h.cheapest.least d other s e (omega (arith, below, is.candidate)) it in omega (arith, le, lt));
    };
    safe = is.safe;
  }

  pub next_choice : (n : ℕ) (best : Trial) (other : Option Trial) → IsSafeChoiceOf Candidate image machine loops given n best → IsTrialOrOf Candidate image machine loops given n other → IsSafeChoiceOf Candidate image machine loops given (n + 1) (cheaper_of best other)
  next_choice n best None h out = kept_out n best h out
  next_choice n best (Some t) h is = go (nat_lt t.energy best.energy) refl
    where
      go : (b : Bool) → nat_lt t.energy best.energy ≡ b → IsSafeChoiceOf Candidate image machine loops given (n + 1) (cond b t best)
      go true e = taken n best t h is (ltb-true t.energy best.energy e)
      go false e = kept_same n best t h is (ltb-false t.energy best.energy e)
