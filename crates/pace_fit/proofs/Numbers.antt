-- The numbers of a fitting, and its refusal.
use Rattle.std.proofs.Common.{◌≡◌, ℕ, ◌-◌, ◌+◌, ◌≤◌, List, length, Option, Some, None, Result, Ok, Err, refl, sym, subst, arith}
use Rattle.std.proofs.lemmas.List.{length-map}
use Rattle.std.specs.Prelude.{count_by, option_map, IfOk, Vec}
use Rattle.std.specs.declared.alloc.Global.{Global}
use Rattle.scale_base.specs.declared.refusal.Stop.{Stop}
use Rattle.scale_base.specs.declared.refusal.Stop.TheVariants.{Refused, Memory}
use Rattle.scale_base.specs.declared.summary.Summary.{Summary}
use Rattle.scale_base.specs.Answer.{AnswersBy, Stops}
use Rattle.machine_file.specs.Machine.{read_machine}
use Rattle.scaler.specs.Held.{IsHeld}
use Rattle.scaler.specs.Rewritten.{IsRewritten}
use Rattle.program_sources.proofs.Laws.{machine_stops as machine_refused, original_stops}
use Rattle.scaler.proofs.Laws.{held_stops as files_stop}
use Rattle.gain_tuner.specs.declared.choosing.Files.{Files}
use Rattle.gain_tuner.specs.declared.choosing.Trial.{Trial}
use Rattle.gain_tuner.specs.Finding.{IsSafeTrialOf, IsTrialOrOf, IsTried, Made}
use Rattle.gain_tuner.proofs.Laws.{Answer, AreCounted, counted_flags, tried_or}
use Rattle.paced_images.specs.declared.proposal.Proposal.{Proposal}
use Rattle.paced_images.specs.Proposed.{IsProposalPaced}
use Rattle.pace_fit.specs.declared.preparing.Prepared.{Prepared}
use Rattle.pace_fit.specs.Fitting.{Gives, HasEnergy, HasEnergyIfAny, IsHoldEnergy, IsProposed, IsRewriteEnergy}
use Rattle.pace_fit.specs.Finding.{AreLoaded, IsHeldTrial, IsPreparing, IsProposalTried, counted_inputs, given_inputs}
use Rattle.pace_fit.proofs.Fits.{GivenBy, Stored, given_one, not_made}

-- ---- results

pub if_ok : {A E : Type 0} {P Q : A → Type 0} (result : Result A E) → ((a : A) → P a → Q a) → IfOk result P → IfOk result Q
if_ok (Ok a) f h = f a h
if_ok (Err e) f h = tt

pub if_ok_both : {A E : Type 0} {P Q R : A → Type 0} (result : Result A E) → ((a : A) → P a → Q a → R a) → IfOk result P → IfOk result Q → IfOk result R
if_ok_both (Ok a) f h h' = f a h h'
if_ok_both (Err e) f h h' = tt

-- the first refusal of all is that of the machine file
machine_stops : (image machine loops : List ℕ) (stop : Stop) → Stops stop (read_machine machine) → AnswersBy {X = Vec ℕ Global × Summary} {Y = List ℕ × Summary} (λ given. (given.0.items, given.1)) (Err stop) (IsHeld image machine loops)
machine_stops image machine loops stop h = files_stop image machine loops stop (original_stops image machine loops stop (machine_refused image machine stop h))

pub held_stops : (image machine loops : List ℕ) (inputs : List (List ℕ)) (stop : Stop) → AnswersBy {X = Vec ℕ Global × Summary} {Y = List ℕ × Summary} (λ given. (given.0.items, given.1)) (Err stop) (IsHeld image machine loops) →
    AnswersBy {X = Prepared} {Y = Prepared} (λ p. p) (Err stop) (IsPreparing image machine loops inputs)
held_stops image machine loops inputs (Refused refusal) h = h
held_stops image machine loops inputs Memory h = tt

pub preparing_stops : (image machine loops : List ℕ) (inputs : List (List ℕ)) (stop : Stop) → Stops stop (read_machine machine) → AnswersBy {X = Prepared} {Y = Prepared} (λ p. p) (Err stop) (IsPreparing image machine loops inputs)
preparing_stops image machine loops inputs stop h = held_stops image machine loops inputs stop (machine_stops image machine loops stop h)

module _ (files : Files) where
  -- ---- trials

  made_is : (made : Stored) (c : ℕ) (tried : Option Trial) → IsTrialOrOf (Made (Ok made)) files.image.now files.machine.now files.loops.now (given_inputs files) c tried
      → IsTrialOrOf (λ k answer. Gives (Some made) answer) files.image.now files.machine.now files.loops.now (given_inputs files) c tried
  made_is made c tried h = tried_or (GivenBy (λ _. Some made)) (given_one (λ _. Some made)) files.image.now files.machine.now files.loops.now (given_inputs files) (Ok made) c tried refl h

  -- what a call made of a proposal
  pub image_made : (proposal : Proposal) (result : Result (Option (Vec ℕ Global × Summary)) Stop) (made : Vec ℕ Global × Summary) → result ≡ Ok (Some made) →
      AnswersBy (option_map (λ given. (given.0.items, given.1))) result (IsProposalPaced files.image.now files.machine.now files.loops.now proposal) → IsProposalPaced files.image.now files.machine.now files.loops.now proposal (Ok (Some (made.0.items, made.1)))
  image_made proposal result made e h =
      subst (λ (r : Result (Option (Vec ℕ Global × Summary)) Stop). AnswersBy {X = Option (Vec ℕ Global × Summary)} {Y = Option Stored} (option_map (λ given. (given.0.items, given.1))) r (IsProposalPaced files.image.now files.machine.now files.loops.now proposal)) e h

  -- the trial of its image
  pub proposal_tried : {E : Type 0} (proposal : Proposal) (c : ℕ) (result : Result (Option Trial) E) (made : Vec ℕ Global × Summary) →
      IsProposalPaced files.image.now files.machine.now files.loops.now proposal (Ok (Some (made.0.items, made.1))) → IfOk result (IsTried files.image.now files.machine.now files.loops.now (given_inputs files) c (Ok made))
      → IfOk result (IsProposalTried files proposal c)
  proposal_tried proposal c (Ok tried) made h is = record { given = Some (made.0.items, made.1); proposed = h; tried_is = made_is (made.0.items, made.1) c tried is }
  proposal_tried proposal c (Err stop) made h is = tt

  -- none of a proposal of which nothing is given
  pub proposal_out : (proposal : Proposal) (c : ℕ) → IsProposed files.image.now files.machine.now files.loops.now proposal None → IsProposalTried files proposal c None
  proposal_out proposal c h = record { given = None; proposed = h; tried_is = λ stored summary energy t. not_made (stored, summary) None refl t.answer_is }

  -- ---- energies

  abbrev energy_of : Option Trial → Option ℕ
  energy_of tried = option_map (λ t. t.energy) tried

  has_energy : (answer : Answer) (t : Trial) → IsSafeTrialOf (Made answer) files.image.now files.machine.now files.loops.now (given_inputs files) 0 t → HasEnergy files.machine.now (counted_inputs files) answer t.energy
  has_energy answer t is = record { stored = t.stored.items; summary = t.summary; made_is = sym is.trial.answer_is; spent = is.trial.spent }

  has_if_any : (answer : Answer) (tried : Option Trial) → IsTrialOrOf (Made answer) files.image.now files.machine.now files.loops.now (given_inputs files) 0 tried → HasEnergyIfAny files.machine.now (counted_inputs files) answer (energy_of tried)
  has_if_any answer (Some t) is = has_energy answer t is
  has_if_any answer None out = λ energy e. out e.stored e.summary energy (record { answer_is = sym e.made_is; spent = e.spent })

  pub rewrite_found : (made : Result (Vec ℕ Global × Summary) Stop) (tried : Option Trial) → AnswersBy (λ given. (given.0.items, given.1)) made (IsRewritten files.image.now files.machine.now files.loops.now) →
      IsTried files.image.now files.machine.now files.loops.now (given_inputs files) 0 made tried → IsRewriteEnergy files.image.now files.machine.now files.loops.now (counted_inputs files) (energy_of tried)
  rewrite_found (Ok made) tried h is = (Ok (made.0.items, made.1), h, has_if_any (Ok (made.0.items, made.1)) tried is)
  rewrite_found (Err (Refused refusal)) tried h is = (Err refusal, h, has_if_any (Err refusal) tried is)
  rewrite_found (Err Memory) tried h is = absurd is

  pub hold_found : (held : List ℕ × Summary) (t : Trial) → IsHeld files.image.now files.machine.now files.loops.now (Ok held) → IsSafeTrialOf (Made (Ok held)) files.image.now files.machine.now files.loops.now (given_inputs files) 0 t →
      IsHoldEnergy files.image.now files.machine.now files.loops.now (counted_inputs files) t.energy
  hold_found held t h is = (Ok held, h, has_energy (Ok held) t is)

  pub held_trial_is : (held : List ℕ × Summary) (t : Trial) → IsHeld files.image.now files.machine.now files.loops.now (Ok held) → IsSafeTrialOf (Made (Ok held)) files.image.now files.machine.now files.loops.now (given_inputs files) 0 t → IsHeldTrial files t
  held_trial_is held t h is = record {
    candidate = is.candidate;
    held = subst (λ (a : Answer). IsHeld files.image.now files.machine.now files.loops.now a) (sym is.trial.answer_is) h;
    spent = is.trial.spent;
    safe = is.safe;
  }

  -- ---- counts

  pub counted : AreLoaded files → AreCounted files.image.now files.machine.now files.loops.now files.inputs.now files.flags.now
  counted h = counted_flags files.image.now files.machine.now files.loops.now files.inputs.now files.flags.now h.flags

  pub flags_few : AreLoaded files → length files.flags.now ≤ 64
  flags_few h =
      let size : length files.flags.now ≡ length (given_inputs files) = (counted h).size in
      let same : length (given_inputs files) ≡ length files.inputs.now = length-map files.inputs.now (λ (v : Vec ℕ Global). v.items) in
      omega (arith, size, same, h.few)

  pub left_of : AreLoaded files → (inputs left : ℕ) → inputs ≡ count_by (λ b. b) files.flags.now → left ≡ length files.flags.now - count_by (λ b. b) files.flags.now → inputs + left ≡ length (given_inputs files)
  left_of h inputs left e e' =
      let a = counted h in
      omega (arith, a.size, a.most, e, e')
