-- What a survey went through.
use Rattle.std.proofs.Common.{◌≡◌, ℕ, List, length, Result, Ok, Err, refl, sym, ◌∙◌, subst}
use Rattle.scale_base.specs.declared.refusal.Refusal.{Refusal}
use Rattle.scale_base.specs.Image.{Image, image_of}
use Rattle.power_model.specs.Numbers.{PowerModel}
use Rattle.power_model.specs.Survey.{Survey}
use Rattle.machine_file.specs.Machine.{read_machine}
use Rattle.loop_file.specs.declared.notes.LoopNote.{LoopNote}
use Rattle.loop_file.specs.Loops.{read_loops}
use Rattle.speed_sim.specs.Simulated.{level_allowed}
use Rattle.program_sources.specs.Sources.{original_of}
use Rattle.program_sources.proofs.Laws.{original_parts, then_ok}
use Rattle.input_survey.specs.Surveyed.{IsSurvey, IsSurveyAnswer, IsSurveyed}

abbrev given : {A : Type 0} → A → Result A Refusal
given x = Ok x

pub record WentThrough (image scaled machine loops : List ℕ) (inputs : List (List ℕ)) (survey : Survey) : Type 0 where
  pub power : PowerModel
  pub original : Image
  pub other : Image
  pub notes : List LoopNote
  pub power_is : read_machine machine ≡ Ok power
  pub original_is : image_of image ≡ Ok original
  pub other_is : image_of scaled ≡ Ok other
  pub notes_are : read_loops original loops ≡ Ok notes
  pub surveyed : IsSurvey power original other notes inputs survey

pub went_through : (image scaled machine loops : List ℕ) (inputs : List (List ℕ)) (survey : Survey) → IsSurveyed image scaled machine loops inputs (Ok survey) → WentThrough image scaled machine loops inputs survey
unfolding IsSurveyed
went_through image scaled machine loops inputs survey h =
    let a = then_ok (original_of image machine) _ survey h in
    let o = original_parts image machine a.0 a.1 in
    let d = then_ok (image_of scaled) _ survey a.2 in
    let e = then_ok (level_allowed (length a.0.power.levels) d.0.keyed_segment) _ survey d.2 in
    let f = then_ok (read_loops a.0.view loops) _ survey e.2 in
    let answer : IsSurveyAnswer a.0.power a.0.view d.0 f.0 inputs (Ok survey) = f.2 in
    let same : answer.survey ≡ survey = some_same answer.survey survey answer.answer_is in
    record {
      power = a.0.power;
      original = a.0.view;
      other = d.0;
      notes = f.0;
      power_is = o.power_is;
      original_is = o.view_is;
      other_is = d.1;
      notes_are = f.1;
      surveyed = subst (λ s. IsSurvey a.0.power a.0.view d.0 f.0 inputs s) same answer.is;
    }
  where
    some_same : (s t : Survey) → given t ≡ given s → s ≡ t
    some_same s t e = let r : s ≡ t = cc in r

pub same_ok : {A : Type 0} (r : Result A Refusal) (x y : A) → r ≡ Ok x → r ≡ Ok y → x ≡ y
same_ok r x y a b = let c : given x ≡ given y = sym a ∙ b in let d : x ≡ y = cc in d
