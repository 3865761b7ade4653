-- One more of the lines that are numbered.
use Rattle.std.proofs.Common.{◌≡◌, ℕ, ◌+◌, ◌<◌, ◌≤◌, List, [], ◌∷◌, ◌++◌, length, get_or, map, take, append_assoc, refl, sym, ap, ◌∙◌, arith}
use Rattle.std.proofs.lemmas.List.{append-nil, take_more, map_more, length-take-le, length-map}
use Rattle.power_model.specs.declared.survey.SurveyLine.{SurveyLine}
use Rattle.power_model.specs.Survey.{line_view}
use Rattle.scale_report.specs.Texts.{numbered_lines, input_line, most_line}

module _ {A : Type 0} (line : ℕ → A → List ℕ) where
  one-more : (k : ℕ) (items : List A) (item : A) → numbered_lines line k (items ++ item ∷ []) ≡ numbered_lines line k items ++ line (k + length items) item
  unfolding numbered_lines
  one-more k [] item = append-nil (line k item) ∙ ap (λ (n : ℕ). line n item) (let e : k ≡ k + 0 = omega arith in e)
  one-more k (first ∷ items) item =
      let rest = one-more (k + 1) items item in
      let number : k + 1 + length items ≡ k + length (first ∷ items) = omega arith in
      ap (λ (text : List ℕ). line k first ++ text) rest
      ∙ sym (append_assoc (line k first) (numbered_lines line (k + 1) items) (line (k + 1 + length items) item))
      ∙ ap (λ (n : ℕ). (line k first ++ numbered_lines line (k + 1) items) ++ line n item) number

  -- the line of the item behind these, which are k
  behind : (items : List A) (k : ℕ) (item : A) → length items ≡ k → numbered_lines line 1 items ++ line (k + 1) item ≡ numbered_lines line 1 (items ++ item ∷ [])
  behind items k item e =
      let number : k + 1 ≡ 1 + length items = omega arith in
      ap (λ (n : ℕ). numbered_lines line 1 items ++ line n item) number ∙ sym (one-more 1 items item)

  none : [] ≡ numbered_lines line 1 []
  unfolding numbered_lines
  none = refl

-- no line yet
pub no-loops : [] ≡ numbered_lines most_line 1 []
no-loops = none most_line

pub no-inputs : [] ≡ numbered_lines input_line 1 []
no-inputs = none input_line

pub loops-more : (most : List ℕ) (k : ℕ) → k < length most
    → numbered_lines most_line 1 (take k most) ++ most_line (k + 1) (get_or most k 0) ≡ numbered_lines most_line 1 (take (k + 1) most)
loops-more most k h =
    let within : k ≤ length most = omega arith in
    behind most_line (take k most) k (get_or most k 0) (length-take-le k most within)
    ∙ ap (λ (items : List ℕ). numbered_lines most_line 1 items) (sym (take_more most k 0 h))

pub inputs-more : (lines : List SurveyLine) (k : ℕ) (item : SurveyLine) → k < length lines → item ≡ get_or lines k item
    → numbered_lines input_line 1 (map line_view (take k lines)) ++ input_line (k + 1) (line_view item) ≡ numbered_lines input_line 1 (map line_view (take (k + 1) lines))
inputs-more lines k item h e =
    let within : k ≤ length lines = omega arith in
    behind input_line (map line_view (take k lines)) k (line_view item) (length-map (take k lines) line_view ∙ length-take-le k lines within)
    ∙ ap (numbered_lines input_line 1) (ap (λ (x : SurveyLine). map line_view (take k lines) ++ line_view x ∷ []) e ∙ sym (map_more line_view lines k item h))
