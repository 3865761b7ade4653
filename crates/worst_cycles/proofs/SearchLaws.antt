-- Numbers that are sorted, and searches in them.
use Rattle.std.proofs.Common.{◌≡◌, ◌≢◌, ℕ, ◌<◌, ◌≤◌, List, length, get_or, Some, Err, refl, sym, ap, ◌∙◌, subst, arith, ⊎_elim}
use Rattle.std.specs.List.{Contains}
use Rattle.std.specs.List.Sorted.{IsPermutation, IsSortedByKey, IsBinarySearchResult}
use Rattle.std.specs.Ordering.{nat_cmp}
use Rattle.std.proofs.lemmas.Bool.{cases_lt}
use Rattle.std.proofs.lemmas.List.Sorted.{searched, Contains-permutation, IsPermutation-sym, IsNonDecreasingBy-from_sort}
use Rattle.std.proofs.lemmas.Option.{slice_get-get_or, get_or_from_slice_get}
use Rattle.graph_algorithms.specs.Arcs.{number_in_place}
use Rattle.worst_cycles.specs.Rests.{AreBodyPlaces}

-- what a list has at an index, whatever it gives past its end
pub value_at : {X : Type 0} (xs : List X) (i : ℕ) (x d : X) → i < length xs → x ≡ get_or xs i x → get_or xs i d ≡ x
value_at xs i x d lt is = get_or_from_slice_get xs i x d (slice_get-get_or xs i x lt ∙ ap Some (sym is))

moved : (xs ys : List ℕ) (x i : ℕ) → IsPermutation xs ys → i < length xs → number_in_place xs i ≡ x → (k : ℕ) × (k < length ys) × (number_in_place ys k ≡ x)
moved xs ys x i moves lt at =
    let there : Contains ys x = Contains-permutation xs ys x moves (i, lt, get_or_from_slice_get xs i x x (slice_get-get_or xs i 0 lt ∙ ap Some at)) in
    (there.0, there.1, value_at ys there.0 x 0 there.1 (sym there.2))

pub places_sorted : (body places steps sorted : List ℕ) → length steps ≡ length body → ((i : ℕ) → i < length body → number_in_place steps i ≡ number_in_place places (number_in_place body i)) → IsPermutation steps sorted →
    IsSortedByKey (λ (x : ℕ). x) nat_cmp sorted → AreBodyPlaces body places sorted
places_sorted body places steps sorted size each moves order = record {
  rise = λ i j le lt. IsNonDecreasingBy-from_sort (λ x. x) sorted order i j 0 le lt;
  each = λ m ml.
      let i = moved sorted steps (number_in_place sorted m) m (IsPermutation-sym steps sorted moves) ml refl in
      let low = i.1 in
      let within : i.0 < length body = omega arith in
      (i.0, within, sym i.2 ∙ each i.0 within);
  whole = λ i il.
      let low : i < length steps = omega arith in
      moved steps sorted (number_in_place places (number_in_place body i)) i moves low (each i il);
}

-- a search that fails says that the number is none of them
pub not_among : (xs ys : List ℕ) (x i : ℕ) → xs ≡ ys → IsBinarySearchResult (λ y. nat_cmp y x) xs (Err i) → ((i j : ℕ) → i ≤ j → j < length ys → number_in_place ys i ≤ number_in_place ys j) → (m : ℕ) → m < length ys → number_in_place ys m ≢ x
not_among xs ys x i same is rise m ml at =
    let s = searched ys x (Err i) (subst (λ (zs : List ℕ). IsBinarySearchResult (λ y. nat_cmp y x) zs (Err i)) same is) rise in
    ⊎_elim
    (λ (low : m < i). let less : number_in_place ys m < x = s.1 m low in let bad : ⊥ = omega arith in bad)
    (λ (high : i ≤ m). let more : x < number_in_place ys m = s.2 m high ml in let bad : ⊥ = omega arith in bad)
    (cases_lt m i)
