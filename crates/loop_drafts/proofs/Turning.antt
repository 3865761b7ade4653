-- What is shown of a loop's bound says nothing of how often it has to turn.
use Rattle.std.proofs.Common.{◌≡◌, ℕ, ◌≤◌, ◌⊎◌, Bool, [], ◌∷◌, List, Option, ⊎_elim, inl, inr, refl, sym, subst, ◌∙◌}
use Rattle.std.specs.Prelude.{◌/◌}
use Rattle.cost_theory.specs.Graph.{Graph, Loops, with_trips}
use Rattle.cost_theory.specs.Reached.{Code}
use Rattle.code_text.specs.Text.{Text, text_of}
use Rattle.code_text.specs.TextGraph.{text_graph}
use Rattle.scale_base.specs.Image.{Image}
use Rattle.loop_file.specs.declared.notes.LoopNote.{LoopNote}
use Rattle.loop_file.specs.Kept.{note_at, noted_loops}
use Rattle.bound_laws.specs.Values.{Values}
use Rattle.stack_laws.specs.Stacks.{Stacks}
use Rattle.stack_laws.specs.Counting as counting
use Rattle.stack_laws.specs.Counting.{IsStackCertificate, IsWithin}
use Rattle.walk_areas.specs.Walking.{IsWalkCertificate, IsWalkShown}
use Rattle.turn_laws.specs.Relating.{IsShown, IsTurnCertificate, IsTurnShown}
use Rattle.loop_drafts.specs.Bounds.{IsBoundShown, turning_by}

-- Two loops with the same header, the same extent and the same bound: what shows the bound of the one shows that of the other.
module _ (t : Text) (g : Graph) (v : Values) (w : Stacks) (most : Option ℕ) (l m : Loops) (k j : ℕ) (header : l.header k ≡ m.header j) (inside : l.inside k ≡ m.inside j) (bound : l.bound k ≡ m.bound j) where
  at_header : (P : ℕ → (ℕ → Bool) → Type 0) → P (l.header k) (l.inside k) → P (m.header j) (m.inside j)
  at_header P p = subst (λ (e : ℕ → Bool). P (m.header j) e) inside (subst (λ h. P h (l.inside k)) header p)

  pub shown_as : IsShown t g v w most l k → IsShown t g v w most m j
  shown_as shown = ⊎_elim
      (λ (s : counting.IsShown t g v w l k). inl (record {
        certificate = s.certificate;
        is = at_header (λ h e. IsStackCertificate t g v w h e s.certificate) s.is;
        within = subst (IsWithin v w s.certificate.width s.certificate.counter) header s.within;
        positive = s.positive;
        enough = subst (λ n. s.certificate.width / s.certificate.least ≤ n) bound s.enough;
      }))
      (λ (others : IsTurnShown t g v w most l k ⊎ IsWalkShown t g v w l k). inr (⊎_elim
      (λ (s : IsTurnShown t g v w most l k). inl (record {
        certificate = s.certificate;
        is = at_header (λ h e. IsTurnCertificate t g v w most h e s.certificate) s.is;
        positive = s.positive;
        enough = subst (λ n. s.certificate.width / s.certificate.least ≤ n) bound s.enough;
      }))
      (λ (s : IsWalkShown t g v w l k). inr (record {
        certificate = s.certificate;
        is = at_header (λ h e. IsWalkCertificate t g v w h e s.certificate) s.is;
        positive = s.positive;
        enough = subst (λ n. s.certificate.width / s.certificate.least ≤ n) bound s.enough;
      })) others)) shown

-- the bound of a loop is shown for other least turns
pub shown_too : (t : Text) (g : Graph) (v : Values) (w : Stacks) (most : Option ℕ) (l : Loops) (trips : ℕ → ℕ) (k : ℕ) → IsShown t g v w most l k → IsShown t g v w most (with_trips l trips) k
shown_too t g v w most l trips k shown = shown_as t g v w most l (with_trips l trips) k k refl refl refl shown

-- that of a note alone, and of the note among others
abbrev IsShownAlone : Text → Graph → Values → Stacks → Option ℕ → LoopNote → Type 0
IsShownAlone t g v w most note = IsShown t g v w most (noted_loops (note ∷ [])) 0

among : (t : Text) (g : Graph) (v : Values) (w : Stacks) (most : Option ℕ) (notes : List LoopNote) (k : ℕ) → IsShownAlone t g v w most (note_at notes k) → IsShown t g v w most (noted_loops notes) k
among t g v w most notes k shown = shown_as t g v w most (noted_loops (note_at notes k ∷ [])) (noted_loops notes) 0 k refl refl refl shown

alone : (t : Text) (g : Graph) (v : Values) (w : Stacks) (most : Option ℕ) (note : LoopNote) (least : ℕ) → IsShownAlone t g v w most note → IsShownAlone t g v w most (turning_by least note)
alone t g v w most note least shown = shown_as t g v w most (noted_loops (note ∷ [])) (noted_loops (turning_by least note ∷ [])) 0 0 refl refl refl shown

-- the bound of a note is shown where it has other least turns
pub turning_shown : (image : Image) (code : Code) (v : Values) (w : Stacks) (most : Option ℕ) (note other : LoopNote) (least : ℕ) → other ≡ turning_by least note → IsBoundShown image code v w most note → IsBoundShown image code v w most other
turning_shown image code v w most note other least is shown notes k same =
    let t = text_of image in
    let g = text_graph t code in
    among t g v w most notes k (subst (IsShownAlone t g v w most) (sym (same ∙ is)) (alone t g v w most note least (shown (note ∷ []) 0 refl)))
