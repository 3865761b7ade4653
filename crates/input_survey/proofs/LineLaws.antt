-- The lines of a survey, one after another, and what they come to.
use Rattle.std.proofs.Common.{◌≡◌, ◌↔◌, ℕ, Bool, List, [], ◌∷◌, ◌++◌, length, Some, None, refl, sym, ap, ◌∙◌, subst}
use Rattle.std.specs.Prelude.{IsTrue}
use Rattle.scale_base.specs.declared.endings.Kept.{Kept}
use Rattle.scale_base.specs.Image.{Image}
use Rattle.scale_base.specs.Run.{run_of, starting_level}
use Rattle.power_model.specs.Numbers.{PowerModel}
use Rattle.power_model.specs.Price.{held_energy}
use Rattle.power_model.specs.Report.{Report}
use Rattle.power_model.specs.Survey.{Surveyed}
use Rattle.power_model.proofs.Laws.{start-price}
use Rattle.loop_file.specs.declared.notes.LoopNote.{LoopNote}
use Rattle.speed_sim.specs.Simulated.{report_of}
use Rattle.input_survey.specs.Surveyed.{IsLineOf, IsLine, AreLines}

pub lines_more : (power : PowerModel) (original scaled : Image) (notes : List LoopNote) (inputs : List (List ℕ)) (lines : List Surveyed) (input : List ℕ) (line : Surveyed) →
    AreLines power original scaled notes inputs lines → IsLine power original scaled notes input line → AreLines power original scaled notes (inputs ++ input ∷ []) (lines ++ line ∷ [])
lines_more power original scaled notes [] [] input line are is = (is, tt)
lines_more power original scaled notes [] (l ∷ ls) input line are is = absurd are
lines_more power original scaled notes (i ∷ is) [] input line are it = absurd are
lines_more power original scaled notes (i ∷ is) (l ∷ ls) input line are it = (are.0, lines_more power original scaled notes is ls input line are.1 it)

-- ---- a line from the reports of its runs

pub line_made : (o s run other : Report) (kept : Kept) (same : Bool) (held : ℕ) → run ≡ o → other ≡ s → run.kept ≡ Some kept → held ≡ s.held →
    IsTrue same ↔ ((run.end ≡ other.end) × (run.output ≡ other.output)) →
    IsLineOf o s (record { end = run.end; kept = kept; paid = run.paid; scaled_end = other.end; scaled_paid = other.paid; held = held; same = same })
line_made o s run other kept same held a b k h both =
    let line : Surveyed = record { end = run.end; kept = kept; paid = run.paid; scaled_end = other.end; scaled_paid = other.paid; held = held; same = same } in
    let first : IsLineOf run s line = subst (λ q. IsLineOf run q line) b (record {
      end = refl;
      kept = sym k;
      paid = refl;
      scaled_end = refl;
      scaled_paid = refl;
      held = h ∙ sym (ap (λ (q : Report). q.held) b);
      same = both;
    }) in
    subst (λ q. IsLineOf q s line) a first

-- the run of an image starts at the level that its report says
pub report_start : (power : PowerModel) (image : Image) (input : List ℕ) (r : Report) → r ≡ report_of power image input None → r.paid.start ≡ starting_level (length power.levels) image.keyed_segment
unfolding report_of
report_start power image input r e =
    let levels = length power.levels in
    ap (λ (q : Report). q.paid.start) e ∙ start-price power (starting_level levels image.keyed_segment) (run_of image levels input power.steps).steps

pub report_held : (power : PowerModel) (image : Image) (input : List ℕ) (r : Report) (held : ℕ) → r ≡ report_of power image input None → held ≡ held_energy power r.paid → held ≡ (report_of power image input None).held
unfolding report_of
report_held power image input r held e h = h ∙ ap (λ (q : Report). held_energy power q.paid) e
