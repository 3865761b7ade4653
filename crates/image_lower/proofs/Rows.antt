-- One word or one note more, at a step of a loop.
use Rattle.std.proofs.Common.{◌≡◌, ℕ, ◌+◌, ◌<◌, ◌≤◌, Bool, List, [], ◌∷◌, ◌++◌, length, get_or, take, map, Option, sym, ap, ◌∙◌, arith, append_assoc}
use Rattle.std.specs.Prelude.{◌==◌, ◌||◌, filter_map}
use Rattle.std.specs.List.{range_with_len, list_any, cons_option}
use Rattle.std.specs.List.Sorted.{IsPermutation}
use Rattle.std.proofs.lemmas.List.Sorted.{list_any-IsPermutation}
use Rattle.std.proofs.lemmas.List.{take_all}
use Rattle.std.proofs.lemmas.List.FromFn.{map-range_with_len_more}
use Rattle.std.proofs.lemmas.List.Elements.{filter_map-append}
use Rattle.scale_base.specs.declared.ranges.Range.{Range}
use Rattle.code_text.specs.Table.{word_addresses, all_addresses}
use Rattle.code_text.proofs.Laws.{next_range}
use Rattle.jump_lists.specs.declared.notes.JumpNote.{JumpNote}
use Rattle.image_lower.specs.FarJumps.{is_noted}

-- ---- words that a function keeps

more : {Y : Type 0} (f : ℕ → ℕ) (g : ℕ → Option Y) (k : ℕ) → filter_map g (map f (range_with_len 0 (k + 1))) ≡ filter_map g (map f (range_with_len 0 k)) ++ filter_map g (f k ∷ [])
more f g k = ap (filter_map g) (map-range_with_len_more f 0 k k (omega arith)) ∙ filter_map-append g (map f (range_with_len 0 k)) (f k ∷ [])

-- the words of one range more
pub next_words : {Y : Type 0} (g : ℕ → Option Y) (ranges : List Range) (i : ℕ) (d : Range) (before new : List Y) → i < length ranges → before ≡ filter_map g (all_addresses (take i ranges)) → new ≡ before ++ filter_map g (word_addresses (get_or ranges i d)) →
    new ≡ filter_map g (all_addresses (take (i + 1) ranges))
next_words g ranges i d before new lt was added =
    added ∙ (ap (λ xs. xs ++ filter_map g (word_addresses (get_or ranges i d))) was
    ∙ (sym (filter_map-append g (all_addresses (take i ranges)) (word_addresses (get_or ranges i d))) ∙ ap (filter_map g) (next_range word_addresses ranges i d lt)))

-- ---- notes

-- those of all notes, in any order
pub all_noted : (first : ℕ → Bool) (notes : List JumpNote) (xs ys : List ℕ) (i : ℕ) → length notes ≤ i → ((v : ℕ) → (first v || is_noted (take i notes) v) ≡ list_any (λ u. u == v) xs) → IsPermutation xs ys →
    (v : ℕ) → (first v || is_noted notes v) ≡ list_any (λ u. u == v) ys
all_noted first notes xs ys i all h moved v =
    ap (λ ns. first v || is_noted ns v) (sym (take_all i notes all)) ∙ (h v ∙ list_any-IsPermutation (λ u. u == v) xs ys moved)

-- what a function makes of one word more
pub next_some : {Y : Type 0} (f : ℕ → ℕ) (g : ℕ → Option Y) (old before new : List Y) (k : ℕ) (o : Option Y) → o ≡ g (f k) → before ≡ old ++ filter_map g (map f (range_with_len 0 k)) → new ≡ before ++ cons_option o [] →
    new ≡ old ++ filter_map g (map f (range_with_len 0 (k + 1)))
next_some f g old before new k o same was added =
    added ∙ (ap (λ xs. xs ++ cons_option o []) was ∙ (append_assoc old (filter_map g (map f (range_with_len 0 k))) (cons_option o [])
    ∙ ap (λ xs. old ++ xs) (ap (λ p. filter_map g (map f (range_with_len 0 k)) ++ cons_option p []) same ∙ sym (more f g k))))
