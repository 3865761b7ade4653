-- Two surveys that may be given for the same files are the same.
use Rattle.std.proofs.Common.{◌≡◌, ◌↔◌, ℕ, ◌<◌, ◌≤◌, Bool, true, false, List, [], ◌∷◌, length, slice_index, Option, Some, None, Result, Ok, Err, refl, sym, ap, ◌∙◌, subst, arith, ⊎_elim}
use Rattle.std.specs.Prelude.{IsTrue}
use Rattle.std.proofs.Math.Nat.{le_antisymm}
use Rattle.std.proofs.lemmas.List.{ext_get_or}
use Rattle.scale_base.specs.declared.endings.End.{End}
use Rattle.scale_base.specs.declared.endings.Kept.{Kept}
use Rattle.scale_base.specs.declared.refusal.Refusal.{Refusal}
use Rattle.scale_base.specs.Image.{Image, image_of}
use Rattle.power_model.specs.declared.survey.Totals.{Totals}
use Rattle.power_model.specs.Numbers.{PowerModel, RunPrice}
use Rattle.power_model.specs.Report.{Report}
use Rattle.power_model.specs.Survey.{Surveyed, Survey}
use Rattle.machine_file.specs.Machine.{read_machine}
use Rattle.loop_file.specs.declared.notes.LoopNote.{LoopNote}
use Rattle.loop_file.specs.Loops.{read_loops}
use Rattle.speed_sim.specs.Simulated.{report_of, level_allowed}
use Rattle.answer_parts.specs.Parts.{Then}
use Rattle.program_sources.specs.Sources.{original_of}
use Rattle.input_survey.specs.Agreeing.{SurveysAgree}
use Rattle.input_survey.specs.Most.{IsMost}
use Rattle.input_survey.specs.Surveyed.{IsLineOf, AreLines, IsSurvey, IsSurveyAnswer, IsSurveyed, totals_of}

-- ---- the lines

-- two flags that hold where one thing does
same_flag : (P : Type 0) (a b : Bool) → IsTrue a ↔ P → IsTrue b ↔ P → a ≡ b
same_flag P true b h h' = sym (h'.1 (h.0 refl))
same_flag P false true h h' = h.1 (h'.0 refl)
same_flag P false false h h' = refl

same_kept : (a b : Kept) (given : Option Kept) → Some a ≡ given → Some b ≡ given → a ≡ b
same_kept a b given e e' = let both : Some a ≡ Some b = e ∙ sym e' in let same : a ≡ b = cc in same

abbrev line : (end : End) (kept : Kept) (paid : RunPrice) (scaled_end : End) (scaled_paid : RunPrice) (held : ℕ) (same : Bool) → Surveyed
line end kept paid scaled_end scaled_paid held same = record { end = end; kept = kept; paid = paid; scaled_end = scaled_end; scaled_paid = scaled_paid; held = held; same = same }

same_line : (original scaled : Report) (one other : Surveyed) → IsLineOf original scaled one → IsLineOf original scaled other → one ≡ other
same_line original scaled one other h h' =
    ap (λ e. line e one.kept one.paid one.scaled_end one.scaled_paid one.held one.same) (h.end ∙ sym h'.end)
    ∙ (ap (λ k. line other.end k one.paid one.scaled_end one.scaled_paid one.held one.same) (same_kept one.kept other.kept original.kept h.kept h'.kept)
    ∙ (ap (λ p. line other.end other.kept p one.scaled_end one.scaled_paid one.held one.same) (h.paid ∙ sym h'.paid)
    ∙ (ap (λ e. line other.end other.kept other.paid e one.scaled_paid one.held one.same) (h.scaled_end ∙ sym h'.scaled_end)
    ∙ (ap (λ p. line other.end other.kept other.paid other.scaled_end p one.held one.same) (h.scaled_paid ∙ sym h'.scaled_paid)
    ∙ (ap (λ n. line other.end other.kept other.paid other.scaled_end other.scaled_paid n one.same) (h.held ∙ sym h'.held)
    ∙ ap (λ s. line other.end other.kept other.paid other.scaled_end other.scaled_paid other.held s)
    (same_flag ((original.end ≡ scaled.end) × (original.output ≡ scaled.output)) one.same other.same h.same h'.same))))))

module _ (power : PowerModel) (original scaled : Image) (notes : List LoopNote) where
  same_lines : (inputs : List (List ℕ)) (one other : List Surveyed) → AreLines power original scaled notes inputs one → AreLines power original scaled notes inputs other → one ≡ other
  same_lines [] [] [] h h' = refl
  same_lines [] [] (l' ∷ ls') h h' = absurd h'
  same_lines [] (l ∷ ls) other h h' = absurd h
  same_lines (input ∷ inputs) [] other h h' = absurd h
  same_lines (input ∷ inputs) (l ∷ ls) [] h h' = absurd h'
  same_lines (input ∷ inputs) (l ∷ ls) (l' ∷ ls') h h' =
      ap (λ x. x ∷ ls) (same_line (report_of power original input (Some notes)) (report_of power scaled input None) l l' h.0 h'.0) ∙ ap (λ xs. l' ∷ xs) (same_lines inputs ls ls' h.1 h'.1)

  -- ---- the most of each loop

  most_within : (inputs : List (List ℕ)) (k one other : ℕ) → IsMost power original notes inputs k one → IsMost power original notes inputs k other → one ≤ other
  most_within inputs k one other h h' = ⊎_elim (λ none. omega (arith, none)) (λ reached. h'.bound one reached) h.reached

  same_most : (inputs : List (List ℕ)) (one other : List ℕ) → length one ≡ length notes → length other ≡ length notes →
      ((k : ℕ) → k < length notes → IsMost power original notes inputs k (slice_index one k)) → ((k : ℕ) → k < length notes → IsMost power original notes inputs k (slice_index other k)) → one ≡ other
  same_most inputs one other size size' are are' = ext_get_or 0 one other (size ∙ sym size') (λ k kl.
      let low : k < length notes = subst (λ n. k < n) size kl in
      le_antisymm (most_within inputs k (slice_index one k) (slice_index other k) (are k low) (are' k low)) (most_within inputs k (slice_index other k) (slice_index one k) (are' k low) (are k low)))

  -- ---- the survey

  abbrev survey_of : List Surveyed → List ℕ → Totals → Survey
  survey_of lines most totals = record { lines = lines; most = most; totals = totals }

  same_surveys : (inputs : List (List ℕ)) (one other : Survey) → IsSurvey power original scaled notes inputs one → IsSurvey power original scaled notes inputs other → one ≡ other
  same_surveys inputs one other h h' =
      let lines = same_lines inputs one.lines other.lines h.lines h'.lines in
      let totals : one.totals ≡ other.totals = h.totals ∙ (ap (totals_of power) lines ∙ sym h'.totals) in
      ap (λ ls. survey_of ls one.most one.totals) lines
      ∙ (ap (λ ms. survey_of other.lines ms one.totals) (same_most inputs one.most other.most h.loops h'.loops h.most h'.most) ∙ ap (survey_of other.lines other.most) totals)

  same_answers : (inputs : List (List ℕ)) (one other : Result Survey Refusal) → IsSurveyAnswer power original scaled notes inputs one → IsSurveyAnswer power original scaled notes inputs other → one ≡ other
  same_answers inputs one other h h' = h.answer_is ∙ (ap {B = Result Survey Refusal} (λ s. Ok s) (same_surveys inputs h.survey h'.survey h.is h'.is) ∙ sym h'.answer_is)

-- ---- the files

-- what follows a part that may refuse
then_same : {A : Type 0} (part : Result A Refusal) (next : A → Result Survey Refusal → Type 0) → ((a : A) (one other : Result Survey Refusal) → next a one → next a other → one ≡ other) →
    (one other : Result Survey Refusal) → Then part next one → Then part next other → one ≡ other
then_same (Err refusal) next same one other e e' = e ∙ sym e'
then_same (Ok a) next same one other h h' = same a one other h h'

pub surveyed_answers : SurveysAgree
unfolding IsSurveyed
surveyed_answers image scaled machine loops inputs =
    then_same (original_of image machine) _ (λ original.
    then_same (image_of scaled) _ (λ other.
    then_same (level_allowed (length original.power.levels) other.keyed_segment) _ (λ _.
    then_same (read_loops original.view loops) _ (λ notes. same_answers original.power original.view other notes inputs))))
