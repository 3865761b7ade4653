-- The sections of a file, one at a time.
use Rattle.std.proofs.Common.{◌≡◌, ℕ, zero, suc, ◌+◌, ◌<◌, ◌≤◌, Bool, true, false, List, length, map, get_or, drop, Some, None, refl, sym, ap, ◌∙◌, arith, add-one, drop-cons}
use Rattle.std.specs.Prelude.{slice_get}
use Rattle.std.specs.List.{find, range_with_len}
use Rattle.std.proofs.lemmas.List.{drop_all}
use Rattle.std.proofs.lemmas.List.FromFn.{length-map-range_with_len, get_or-map-range_with_len}
use Rattle.scale_base.specs.declared.headers.SectionHeader.{SectionHeader}
use Rattle.scale_base.specs.Elf.{e_shnum, section_header, section_headers}

get_from : {A : Type 0} (f : ℕ → A) (a n k : ℕ) → k < n → slice_get (map f (range_with_len a n)) k ≡ Some (f (a + k))
get_from f a zero k lt = absurd (omega arith)
get_from f a (suc n) zero lt = ap (λ (i : ℕ). Some (f i)) (let e : a ≡ a + 0 = omega arith in e)
get_from f a (suc n) (suc k) lt = get_from f (a + 1) n k (omega arith) ∙ ap (λ (i : ℕ). Some (f i)) (let e : a + 1 + k ≡ a + suc k = omega arith in e)

get_past : {A : Type 0} (f : ℕ → A) (a n k : ℕ) → n ≤ k → slice_get (map f (range_with_len a n)) k ≡ None
get_past f a zero k le = refl
get_past f a (suc n) zero le = absurd (omega arith)
get_past f a (suc n) (suc k) le = get_past f (a + 1) n k (omega arith)

pub section_at-in : (file : List ℕ) (k : ℕ) → k < e_shnum file → Some (section_header file k) ≡ slice_get (section_headers file) k
unfolding section_headers
section_at-in file k lt = sym (get_from (section_header file) 0 (e_shnum file) k lt ∙ ap (λ (i : ℕ). Some (section_header file i)) (let e : 0 + k ≡ k = omega arith in e))

pub section_at-past : (file : List ℕ) (k : ℕ) → e_shnum file ≤ k → None ≡ slice_get (section_headers file) k
unfolding section_headers
section_at-past file k le = sym (get_past (section_header file) 0 (e_shnum file) k le)

-- ---- the first symbol table

pub find-drop_no : {A : Type 0} (p : A → Bool) (xs : List A) (k : ℕ) (d : A) → k < length xs → p (get_or xs k d) ≡ false → find p (drop k xs) ≡ find p (drop (k + 1) xs)
find-drop_no p xs k d lt e = rw (drop-cons xs k d, add-one) (rw e refl)

pub find-drop_yes : {A : Type 0} (p : A → Bool) (xs : List A) (k : ℕ) (d : A) → k < length xs → p (get_or xs k d) ≡ true → find p (drop k xs) ≡ Some (get_or xs k d)
find-drop_yes p xs k d lt e = rw (drop-cons xs k d) (rw e refl)

pub length-sections : (file : List ℕ) → length (section_headers file) ≡ e_shnum file
unfolding section_headers
length-sections file = length-map-range_with_len (section_header file) 0 (e_shnum file)

pub section-is : (file : List ℕ) (k : ℕ) (d : SectionHeader) → k < e_shnum file → get_or (section_headers file) k d ≡ section_header file k
unfolding section_headers
section-is file k d lt = get_or-map-range_with_len (section_header file) 0 (e_shnum file) k k d lt (omega arith)

-- a search through the sections: section k is taken, is passed, and none is left
pub section_taken : (file : List ℕ) (p : SectionHeader → Bool) (k : ℕ) (s : SectionHeader) → k < e_shnum file → s ≡ section_header file k → p s ≡ true → Some s ≡ find p (drop k (section_headers file))
section_taken file p k s lt is e =
    let at : get_or (section_headers file) k s ≡ s = section-is file k s lt ∙ sym is in
    sym (find-drop_yes p (section_headers file) k s (omega (arith, length-sections file)) (rw at e) ∙ ap (λ (x : SectionHeader). Some x) at)

pub section_passed : (file : List ℕ) (p : SectionHeader → Bool) (k : ℕ) (s : SectionHeader) → k < e_shnum file → s ≡ section_header file k → p s ≡ false → find p (drop (k + 1) (section_headers file)) ≡ find p (drop k (section_headers file))
section_passed file p k s lt is e =
    let at : get_or (section_headers file) k s ≡ s = section-is file k s lt ∙ sym is in
    sym (find-drop_no p (section_headers file) k s (omega (arith, length-sections file)) (rw at e))

pub sections_done : (file : List ℕ) (p : SectionHeader → Bool) (k : ℕ) → e_shnum file ≤ k → None ≡ find p (drop k (section_headers file))
sections_done file p k le = rw (drop_all k (section_headers file) (omega (arith, length-sections file))) refl
