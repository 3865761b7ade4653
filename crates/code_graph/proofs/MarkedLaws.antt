-- The places of functions, and the marks of all words.
use Rattle.std.proofs.Common.{◌≡◌, ℕ, zero, suc, ◌<◌, ◌↔◌, Bool, List, [], ◌∷◌, length, replicate, Option, Some, None, refl, sym, ap, ◌∙◌, subst}
use Rattle.std.specs.Prelude.{slice_get, slice_index}
use Rattle.std.proofs.lemmas.Option.{slice_get_within, slice_get-get_or, get_or_from_slice_get}
use Rattle.code_graph.specs.declared.reach.step.Step.{Step}
use Rattle.code_graph.specs.declared.reach.marks.Mark.{Mark}
use Rattle.code_graph.specs.declared.reach.marks.Mark.TheVariants.{Unreached, Owner, Shared}
use Rattle.code_graph.specs.Marks.{mark_at, function_number, ReachedAt, IsReachedTwice}
use Rattle.code_graph.specs.Marks.ReachedAt.{enters, jumps, goes, calls}
use Rattle.code_graph.specs.Steps.{AreReachMarks}

some_same : {X : Type 0} (x y : X) → Some x ≡ Some y → x ≡ y
some_same x y e = cc

-- ---- a number where none is by default
pub number_is : (numbers : List (Option ℕ)) (k i : ℕ) → (slice_get numbers k ≡ Some (Some i)) ↔ (function_number numbers k ≡ Some i)
number_is numbers k i = (λ e. get_or_from_slice_get numbers k (Some i) None e, from numbers k)
  where
    from : (xs : List (Option ℕ)) (j : ℕ) → function_number xs j ≡ Some i → slice_get xs j ≡ Some (Some i)
    from [] j e = let r : ⊥ = cc in absurd r
    from (x ∷ xs) zero e = ap Some e
    from (x ∷ xs) (suc j) e = from xs j e

none_get : {X : Type 0} (n k : ℕ) (x y : X) → slice_get (replicate n x) k ≡ Some y → x ≡ y
none_get zero k x y e = let r : ⊥ = cc in absurd r
none_get (suc n) zero x y e = some_same x y e
none_get (suc n) (suc k) x y e = none_get n k x y e

length_all : {X : Type 0} (n : ℕ) (x : X) → length (replicate n x) ≡ n
length_all zero x = refl
length_all (suc n) x = ap suc (length_all n x)

-- where the program begins at no word
pub none_is : (steps : List Step) (returns : List Bool) (marks : List Mark) (functions : List ℕ) (numbers : List (Option ℕ)) → marks ≡ replicate (length steps) Unreached → functions ≡ [] → numbers ≡ replicate (length steps) None →
    AreReachMarks steps returns None marks functions numbers
none_is steps returns marks functions numbers em ef en = record {
  marks_size = ap length em ∙ length_all (length steps) Unreached;
  numbers_size = ap length en ∙ length_all (length steps) None;
  unreached = λ v f m r. r;
  owner = λ v f m. (let bad : Unreached ≡ Owner f = none_get (length steps) v Unreached (Owner f) (sym (ap (λ xs. slice_get xs v) em) ∙ m) in let r : ⊥ = cc in absurd r);
  shared = λ v m. (let bad : Unreached ≡ Shared = none_get (length steps) v Unreached Shared (sym (ap (λ xs. slice_get xs v) em) ∙ m) in let r : ⊥ = cc in absurd r);
  listed = λ h. (λ w. nothing h w.0 w.1, λ r. absurd r);
  listed_within = λ h i e. absurd (nothing h i e);
  first = λ e s. (let r : ⊥ = cc in absurd r);
  placed = λ h i. (
    λ e. (let bad : None ≡ Some i = none_get (length steps) h None (Some i) (sym (ap (λ xs. slice_get xs h) en) ∙ e) in let r : ⊥ = cc in absurd r),
    λ e. absurd (nothing h i e),
  );
}
  where
    nothing : (h i : ℕ) → slice_get functions i ≡ Some h → ⊥
    nothing h i e = let bad : None ≡ Some h = sym (ap (λ xs. slice_get xs i) ef) ∙ e in cc

-- ---- the marks of all words
module _ (steps : List Step) (returns : List Bool) (first : ℕ) where
  reached_within : (f v : ℕ) → ReachedAt steps returns first f v → v < length steps
  reached_within f v (enters ef ev lt) = subst (λ x. x < length steps) (sym ev) lt
  reached_within f v (jumps u r j lt) = lt
  reached_within f v (goes u r j e lt) = lt
  reached_within f v (calls g u r j e lt) = subst (λ x. x < length steps) (sym e) lt

  module _ (functions : List ℕ) (numbers : List (Option ℕ)) (listed : (h i : ℕ) → (function_number numbers h ≡ Some i) ↔ ((i < length functions) × (slice_index functions i ≡ h))) where
    place_of : (h i : ℕ) → slice_get functions i ≡ Some h → function_number numbers h ≡ Some i
    place_of h i e = (listed h i).1 (slice_get_within functions i h e, get_or_from_slice_get functions i h 0 e)

    of_place : (h i : ℕ) → function_number numbers h ≡ Some i → slice_get functions i ≡ Some h
    of_place h i e = let p = (listed h i).0 e in slice_get-get_or functions i 0 p.0 ∙ ap Some p.1

    module _ (called : (h : ℕ) → ((i : ℕ) × (function_number numbers h ≡ Some i)) ↔ ReachedAt steps returns first h h) where
      listed_within : (h i : ℕ) → slice_get functions i ≡ Some h → h < length steps
      listed_within h i e = reached_within h h ((called h).0 (i, place_of h i e))

      pub marked_is : (marks : List Mark) → length marks ≡ length steps → length numbers ≡ length steps →
          ((v f : ℕ) → (mark_at marks v ≡ Owner f) ↔ (ReachedAt steps returns first f v × ((g : ℕ) → ReachedAt steps returns first g v → g ≡ f))) →
          ((v : ℕ) → (mark_at marks v ≡ Shared) ↔ IsReachedTwice steps returns first v) →
          ((v : ℕ) → (mark_at marks v ≡ Unreached) ↔ ((f : ℕ) → ReachedAt steps returns first f v → ⊥)) →
          function_number numbers first ≡ Some 0 →
          AreReachMarks steps returns (Some first) marks functions numbers
      marked_is marks marks_size numbers_size owner shared unreached begins = record {
        marks_size = marks_size;
        numbers_size = numbers_size;
        unreached = λ v f m r. (unreached v).0 (get_or_from_slice_get marks v Unreached Unreached m) f r;
        owner = λ v f m. (owner v f).0 (get_or_from_slice_get marks v (Owner f) Unreached m);
        shared = λ v m. (shared v).0 (get_or_from_slice_get marks v Shared Unreached m);
        listed = λ h. (λ w. (called h).0 (w.0, place_of h w.0 w.1), λ r. let w = (called h).1 r in (w.0, of_place h w.0 w.1));
        listed_within = listed_within;
        first = λ e s. (let same : first ≡ e = some_same first e s in of_place first 0 begins ∙ ap Some same);
        placed = λ h i. let is = number_is numbers h i in (λ e. of_place h i (is.0 e), λ e. is.1 (place_of h i e));
      }
