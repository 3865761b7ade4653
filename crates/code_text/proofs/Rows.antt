-- One word or one range more, at a step of a loop.
use Rattle.std.proofs.Common.{◌≡◌, ℕ, ◌+◌, ◌<◌, ◌≤◌, List, [], ◌∷◌, ◌++◌, length, get_or, take, map, sym, ap, ◌∙◌, arith, add-one, append_assoc}
use Rattle.std.specs.Prelude.{◌==◌, ◌||◌}
use Rattle.std.specs.List.{range_with_len, flat_map, list_any}
use Rattle.std.proofs.Math.Seq.{take-suc}
use Rattle.std.proofs.lemmas.List.{map-append, append-nil, take_all}
use Rattle.std.proofs.lemmas.List.FromFn.{map-range_with_len_more}
use Rattle.std.proofs.lemmas.Grind.{flat_map-append}
use Rattle.std.proofs.lemmas.List.Sorted.{list_any-IsPermutation, IsNonDecreasingBy-from_sort}
use Rattle.std.specs.List.Sorted.{IsPermutation, IsSorted}
use Rattle.std.specs.Ordering.{nat_cmp}
use Rattle.scale_base.specs.declared.ranges.Range.{Range}
use Rattle.code_text.specs.Text.{Text, is_target, jumps_from}
use Rattle.code_text.specs.Walk.{AreTargetsOf, Rise}

pub next_word : {X : Type 0} (f : ℕ → X) (old : List X) (k : ℕ) → (old ++ map f (range_with_len 0 k)) ++ f k ∷ [] ≡ old ++ map f (range_with_len 0 (k + 1))
next_word f old k = append_assoc old (map f (range_with_len 0 k)) (f k ∷ []) ∙ ap (λ xs. old ++ xs) (sym (map-range_with_len_more f 0 k k (omega arith)))

-- a word's value more
pub next_kind : {X : Type 0} (f : ℕ → ℕ) (g : ℕ → X) (old : List X) (k : ℕ) → (old ++ map g (map f (range_with_len 0 k))) ++ g (f k) ∷ [] ≡ old ++ map g (map f (range_with_len 0 (k + 1)))
next_kind f g old k =
    append_assoc old (map g (map f (range_with_len 0 k))) (g (f k) ∷ [])
    ∙ ap (λ xs. old ++ xs) (sym (ap (map g) (map-range_with_len_more f 0 k k (omega arith)) ∙ map-append g (map f (range_with_len 0 k)) (f k ∷ [])))

single : {X : Type 0} (f : Range → List X) (r : Range) → flat_map f (r ∷ []) ≡ f r
single f r = append-nil (f r)

pub next_range : {X : Type 0} (f : Range → List X) (ranges : List Range) (i : ℕ) (d : Range) → i < length ranges →
    flat_map f (take i ranges) ++ f (get_or ranges i d) ≡ flat_map f (take (i + 1) ranges)
next_range f ranges i d lt =
    ap (λ xs. flat_map f (take i ranges) ++ xs) (sym (single f (get_or ranges i d))) ∙ sym (flat_map-append f (take i ranges) (get_or ranges i d ∷ [])) ∙ ap (flat_map f) (sym (rw add-one (take-suc ranges i d lt)))

-- those of a whole walk, in any order
pub all_put : (t : Text) (text : List Range) (xs ys : List ℕ) (i : ℕ) → text ≡ t.ranges → length text ≤ i →
    ((v : ℕ) → list_any (λ u. u == v) xs ≡ ((v == t.entry) || list_any (jumps_from t v) (take i text))) → IsPermutation xs ys → AreTargetsOf t ys
unfolding is_target
all_put t text xs ys i same all h moved v =
    ap (λ rs. (v == t.entry) || list_any (jumps_from t v) rs) (sym (take_all i text all ∙ same)) ∙ sym (h v) ∙ list_any-IsPermutation (λ u. u == v) xs ys moved

pub sorted_rise : (xs : List ℕ) → IsSorted nat_cmp xs → Rise xs
sorted_rise xs h i j le lt = IsNonDecreasingBy-from_sort (λ x. x) xs h i j 0 le lt
