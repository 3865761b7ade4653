-- Each address of a text lies before the end of its last range.
use Rattle.std.proofs.Common.{◌≡◌, ℕ, suc, ◌-◌, ◌<◌, ◌≤◌, true, List, [], ◌∷◌, map, length, slice_get, Ok, sym, ap, ◌∙◌, subst, arith, ⊎_elim}
use Rattle.std.specs.Prelude.{All, nat_lt, nat_le, fold}
use Rattle.std.specs.List.{list_any}
use Rattle.std.proofs.lemmas.Bool.{cond_both, and_parts, and_from, cases_lt, or_cases, or_left}
use Rattle.std.proofs.lemmas.Bool.Decides.{nat_tests}
use Rattle.std.proofs.lemmas.List.Elements.{All-nil, All-cons}
use Rattle.scale_base.specs.declared.ranges.Range.{Range}
use Rattle.scale_base.specs.Image.{Image, image_of, contents, is_in, insert_range, ascending, text_ranges, range_of, text_parts, loaded_headers}
use Rattle.scale_base.proofs.Laws.{contents-are}
use Rattle.elf_patch.specs.Stored.{text_end, end_in}
use Rattle.machine_laws.proofs.Laws.{text_ranges_kept}
use Rattle.code_text.specs.Text.{AreApart}
use Rattle.code_text.proofs.Laws.{ranges_apart}

-- ---- the ranges stand by their first addresses

abbrev AreSorted : List Range → Type 0
AreSorted [] = Unit {0}
AreSorted (r ∷ rs) = All (λ q. r.from ≤ q.from) rs × AreSorted rs

all_inserted : (P : Range → Type 0) (rs : List Range) (r : Range) → All P rs → P r → All P (insert_range rs r)
all_inserted P [] r h p = All-cons P r [] p (All-nil P)
all_inserted P (x ∷ rs) r h p =
    cond_both (nat_lt r.from x.from) _ _ (All P) (λ _. All-cons P r (x ∷ rs) p h)
    (λ _. All-cons P x (insert_range rs r) (h 0 x (omega arith)) (all_inserted P rs r (λ k d lt. h (suc k) d (omega arith)) p))

sorted_inserted : (rs : List Range) (r : Range) → AreSorted rs → AreSorted (insert_range rs r)
sorted_inserted [] r h = (All-nil (λ q. r.from ≤ q.from), tt)
sorted_inserted (x ∷ rs) r h =
    cond_both (nat_lt r.from x.from) _ _ AreSorted
    (λ e. let lt : r.from < x.from = grind (arith, nat_tests) in
    (All-cons (λ q. r.from ≤ q.from) x rs (omega arith) (λ k d q. let up = h.0 k d q in omega (arith, up, lt)), h))
    (λ e. let ge : x.from ≤ r.from = grind (arith, nat_tests) in
    (all_inserted (λ q. x.from ≤ q.from) rs r h.0 ge, sorted_inserted rs r h.1))

sorted_folded : (rs xs : List Range) → AreSorted rs → AreSorted (fold insert_range rs xs)
sorted_folded rs [] h = h
sorted_folded rs (x ∷ xs) h = sorted_folded (insert_range rs x) xs (sorted_inserted rs x h)

contents_sorted : (file : List ℕ) → AreSorted (contents file).text
unfolding contents text_ranges ascending
contents_sorted file = sorted_folded [] (map range_of (text_parts file (loaded_headers file))) tt

-- ---- addresses in them

in_range : (a : ℕ) (r : Range) → r.from ≤ a → a < r.to → is_in a r ≡ true
in_range a r low high = and_from (nat_le r.from a) (nat_lt a r.to) (grind (arith, nat_tests)) (grind (arith, nat_tests))

before_to : (a : ℕ) (r : Range) → is_in a r ≡ true → a < r.to
before_to a r h = let p = and_parts (nat_le r.from a) (nat_lt a r.to) h in grind (arith, nat_tests)

end_of_more : (r q : Range) (rs : List Range) → text_end (r ∷ q ∷ rs) ≡ text_end (q ∷ rs)
end_of_more r q rs = let e : length (r ∷ q ∷ rs) - 1 ≡ suc (length (q ∷ rs) - 1) = omega arith in ap (λ i. end_in (slice_get (r ∷ q ∷ rs) i)) e

before_end : (rs : List Range) (a : ℕ) → AreSorted rs → AreApart rs → All (λ r. r.from < r.to) rs → list_any (is_in a) rs ≡ true → a < text_end rs
before_end [] a sorted apart some on = let never : ⊥ = cc in absurd never
before_end (r ∷ []) a sorted apart some on = ⊎_elim (λ here. before_to a r here) (λ later. let never : ⊥ = cc in absurd never) (or_cases (is_in a r) (list_any (is_in a) []) on)
before_end (r ∷ q ∷ rs) a sorted apart some on =
    let rest = λ (b : ℕ) (there : list_any (is_in b) (q ∷ rs) ≡ true).
    before_end (q ∷ rs) b sorted.1 (λ k d lt. λ j c lj. apart (suc k) d (omega arith) (suc j) c (omega arith)) (λ k d lt. some (suc k) d (omega arith)) there in
    let up = sorted.0 0 q (omega arith) in
    let some_q = some 1 q (omega arith) in
    let first_q : is_in q.from q ≡ true = in_range q.from q (omega arith) some_q in
    let far : q.from < text_end (q ∷ rs) = rest q.from (or_left (is_in q.from q) (list_any (is_in q.from) rs) first_q) in
    let here : is_in a r ≡ true → a < text_end (q ∷ rs) = λ h.
    let low = before_to a r h in
    ⊎_elim
    (λ (over : q.from < r.to).
    let same : r ≡ q = apart 0 r (omega arith) 1 q (omega arith) q.from (in_range q.from r up over) first_q in
    let h2 : is_in a q ≡ true = ap (is_in a) (sym same) ∙ h in
    rest a (or_left (is_in a q) (list_any (is_in a) rs) h2))
    (λ (under : r.to ≤ q.from). omega (arith, under, low, far))
    (cases_lt q.from r.to) in
    let all : a < text_end (q ∷ rs) = ⊎_elim here (λ later. rest a later) (or_cases (is_in a r) (list_any (is_in a) (q ∷ rs)) on) in
    subst (λ n. a < n) (sym (end_of_more r q rs)) all

-- each address of the text of an image lies before the end of the text
pub text_below : (file : List ℕ) (image : Image) (a : ℕ) → image_of file ≡ Ok image → list_any (is_in a) image.text ≡ true → a < text_end image.text
text_below file image a e on =
    let kept = text_ranges_kept file image e in
    let sorted = subst (λ (i : Image). AreSorted i.text) (contents-are file image e) (contents_sorted file) in
    before_end image.text a sorted (ranges_apart file image e) (λ k d lt. (kept k d lt).nonempty) on
