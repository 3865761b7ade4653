-- The most of a loop over one input more.
use Rattle.std.proofs.Common.{◌≡◌, ℕ, ◌<◌, ◌≤◌, ◌⊎◌, inl, inr, ⊎_elim, List, [], ◌∷◌, ◌++◌, refl, sym, ap, ◌∙◌, subst, arith, get_or}
use Rattle.std.specs.List.{Contains}
use Rattle.std.proofs.lemmas.List.Elements.{Contains-append_left, Contains-append_right, Contains-append_cases}
use Rattle.scale_base.specs.Image.{Image}
use Rattle.power_model.specs.Numbers.{PowerModel}
use Rattle.loop_file.specs.declared.notes.LoopNote.{LoopNote}
use Rattle.input_survey.specs.Most.{ReachesAt, IsCountReached, IsMost}

-- an input of one input
pub contains_one : (x y : List ℕ) → Contains (x ∷ []) y → y ≡ x
contains_one x y (k, low, is) = let zero : k ≡ 0 = omega arith in sym is ∙ ap (λ i. get_or (x ∷ []) i y) zero

pub here_one : (x : List ℕ) → Contains (x ∷ []) x
here_one x = (0, omega arith, refl)

pub most_more : (power : PowerModel) (image : Image) (notes : List LoopNote) (inputs : List (List ℕ)) (input : List ℕ) (k old new : ℕ) → IsMost power image notes inputs k old → old ≤ new →
    ((j count : ℕ) → j < power.steps → ReachesAt power image notes input j k count → count ≤ new) →
    (new ≡ old) ⊎ ((j : ℕ) × (j < power.steps) × ReachesAt power image notes input j k new) →
    IsMost power image notes (inputs ++ input ∷ []) k new
most_more power image notes inputs input k old new is grown bound one = record { bound = bounded; reached = reached one }
  where
    bounded : (count : ℕ) → IsCountReached power image notes (inputs ++ input ∷ []) k count → count ≤ new
    bounded count r = ⊎_elim
        (λ before. let low = is.bound count (record { input = r.input; listed = before; after = r.after; before = r.before; reaches = r.reaches }) in omega arith)
        (λ last. bound r.after count r.before (subst (λ i. ReachesAt power image notes i r.after k count) (contains_one input r.input last) r.reaches))
        (Contains-append_cases inputs (input ∷ []) r.input r.listed)

    earlier : IsCountReached power image notes inputs k old → IsCountReached power image notes (inputs ++ input ∷ []) k old
    earlier r = record { input = r.input; listed = Contains-append_left inputs (input ∷ []) r.input r.listed; after = r.after; before = r.before; reaches = r.reaches }

    reached : (new ≡ old) ⊎ ((j : ℕ) × (j < power.steps) × ReachesAt power image notes input j k new) → (new ≡ 0) ⊎ IsCountReached power image notes (inputs ++ input ∷ []) k new
    reached (inl same) = ⊎_elim
        (λ none. inl (same ∙ none))
        (λ r. inr (subst (λ m. IsCountReached power image notes (inputs ++ input ∷ []) k m) (sym same) (earlier r)))
        is.reached
    reached (inr r) = inr (record { input = input; listed = Contains-append_right inputs (input ∷ []) input (here_one input); after = r.0; before = r.1; reaches = r.2 })
