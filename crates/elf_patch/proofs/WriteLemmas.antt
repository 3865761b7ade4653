-- Bytes that are put in their place, and the entries of the table one at a time.
use Rattle.std.proofs.Common.{◌≡◌, ℕ, zero, suc, ◌+◌, ◌-◌, ◌<◌, ◌≤◌, Bool, true, false, not, ◌&&◌, List, [], ◌∷◌, ◌++◌, length, map, take, take_all, drop, refl, sym, ap, ◌∙◌, append_assoc, arith, inl, inr}
use Rattle.std.specs.Prelude.{nat_le}
use Rattle.std.specs.List.{range_with_len, prefix_len}
use Rattle.std.proofs.lemmas.Bool.{cases_lt}
use Rattle.std.proofs.lemmas.List.{append-nil, drop_all, drop-drop, length-drop}
use Rattle.std.proofs.lemmas.Grind.{flat_map-append}
use Rattle.std.proofs.lemmas.List.FromFn.{map-range_with_len_more}
use borrow.Rule.Slice.PartMut.{put_mid}
use Rattle.scale_base.specs.Elf.{e_phnum, program_header, program_headers}
use Rattle.scale_base.specs.Image.{is_load}
use Rattle.elf_patch.specs.Stored.{put, entries, kept_entry, keyed_number}

-- what a write at the front of a tail leaves
pub put-is : (xs bytes new : List ℕ) (at n : ℕ) → n ≡ length bytes → at ≤ length xs → new ≡ bytes ++ drop n (take (length xs - at) (drop at xs)) → put_mid at (length xs - at) xs new ≡ put xs at bytes
put-is xs bytes new at n len le is =
    let whole : take (length xs - at) (drop at xs) ≡ drop at xs = take_all (length xs - at) (drop at xs) (omega (arith, length-drop at xs)) in
    let gone : drop (length xs - at) (drop at xs) ≡ [] = drop_all (length xs - at) (drop at xs) (omega (arith, length-drop at xs)) in
    let rest : drop n (take (length xs - at) (drop at xs)) ≡ drop (at + length bytes) xs = ap (drop n) whole ∙ drop-drop n at xs ∙ ap (λ (k : ℕ). drop (at + k) xs) len in
    let tail : new ++ drop (length xs - at) (drop at xs) ≡ bytes ++ drop (at + length bytes) xs = ap (λ (t : List ℕ). new ++ t) gone ∙ append-nil new ∙ is ∙ ap (λ (t : List ℕ). bytes ++ t) rest in
    ap (λ (t : List ℕ). take at xs ++ t) tail

range-more : (a n : ℕ) → range_with_len a (n + 1) ≡ range_with_len a n ++ (a + n) ∷ []
range-more a n = sym (map-same (range_with_len a (n + 1))) ∙ map-range_with_len_more (λ k. k) a n (a + n) refl ∙ ap (λ (ks : List ℕ). ks ++ (a + n) ∷ []) (map-same (range_with_len a n))
  where
    map-same : (xs : List ℕ) → map (λ x. x) xs ≡ xs
    map-same [] = refl
    map-same (x ∷ xs) = ap (λ (ys : List ℕ). x ∷ ys) (map-same xs)

-- one more entry
pub entries-more : (file old new first : List ℕ) (from k : ℕ) → from ≤ k → old ≡ first ++ entries file from (k - from) → new ≡ old ++ kept_entry file k → new ≡ first ++ entries file from (k + 1 - from)
entries-more file old new first from k le before added =
    let n : k + 1 - from ≡ k - from + 1 = omega arith in
    let at : from + (k - from) ≡ k = omega arith in
    let more : entries file from (k + 1 - from) ≡ entries file from (k - from) ++ kept_entry file k =
    rw (n, range-more from (k - from), at) (flat_map-append (kept_entry file) (range_with_len from (k - from)) (k ∷ []) ∙ ap (λ (t : List ℕ). entries file from (k - from) ++ t) (append-nil (kept_entry file k))) in
    added ∙ ap (λ (t : List ℕ). t ++ kept_entry file k) before ∙ append_assoc first (entries file from (k - from)) (kept_entry file k) ∙ ap (λ (t : List ℕ). first ++ t) (sym more)

prefix_from : {A : Type 0} (p : A → Bool) (f : ℕ → A) (a n k : ℕ) → a ≤ k → k ≤ a + n → ((j : ℕ) → a ≤ j → j < k → p (f j) ≡ true) → (k < a + n → p (f k) ≡ false) → prefix_len p (map f (range_with_len a n)) ≡ k - a
prefix_from p f a zero k low high before here = omega arith
prefix_from p f a (suc n) k low high before here =
    elim (cases_lt a k) [
      | inl lt ↦ rw (before a (omega arith) lt) (let go = prefix_from p f (a + 1) n k (omega arith) (omega arith) (λ j l h. before j (omega arith) h) (λ h. here (omega arith)) in rw go (omega arith))
      | inr le ↦ let e : k ≡ a = omega arith in
          let off : p (f a) ≡ false = ap (λ (i : ℕ). p (f i)) (sym e) ∙ here (omega arith) in
          rw off (omega arith)
    ]

not_false : (b : Bool) → b ≡ false → not b ≡ true
not_false true e = absurd cc
not_false false e = refl

not_true : (b : Bool) → b ≡ true → not b ≡ false
not_true true e = refl
not_true false e = absurd cc

pub keyed_number-at : (file : List ℕ) (base k : ℕ) → k ≤ e_phnum file → ((j : ℕ) → j < k → (is_load (program_header file j) && nat_le base (program_header file j).p_vaddr) ≡ false)
    → (k < e_phnum file → (is_load (program_header file k) && nat_le base (program_header file k).p_vaddr) ≡ true) → k ≡ keyed_number file base
unfolding program_headers
keyed_number-at file base k le before here =
    let e = prefix_from (λ h. not (is_load h && nat_le base h.p_vaddr)) (program_header file) 0 (e_phnum file) k (omega arith) (omega arith)
    (λ j l h. not_false _ (before j h)) (λ h. not_true _ (here (omega arith))) in
    sym (e ∙ (let z : k - 0 ≡ k = omega arith in z))
