-- Numbers in lists of bytes that were put together.
use Rattle.std.proofs.Common.{◌≡◌, ℕ, zero, suc, ◌+◌, ◌*◌, ◌-◌, ◌^◌, ◌<◌, ◌≤◌, List, [], ◌∷◌, ◌++◌, length, map, get_or, take, drop, refl, ap, ◌∙◌, arith, add-zero, inl, inr, ◌⊎◌}
use Rattle.std.specs.Prelude.{slice_range}
use Rattle.std.specs.List.{range_with_len, flat_map}
use Rattle.std.proofs.lemmas.List.{length-take-le, length-take, length-drop, length-append, get_or-take, get_or-drop, get_or_append_left, get_or-append-add}
use Rattle.scale_base.specs.Bytes.{list_half_at, list_word_at}
use Rattle.elf_patch.specs.Stored.{little, put}

-- ---- numbers of bytes that agree

pub half-same : (xs ys : List ℕ) (a b : ℕ) → get_or xs a 0 ≡ get_or ys b 0 → get_or xs (a + 1) 0 ≡ get_or ys (b + 1) 0 → list_half_at xs a ≡ list_half_at ys b
unfolding list_half_at
half-same xs ys a b e f = rw (e, f) refl

pub word-same : (xs ys : List ℕ) (a b : ℕ) → ((i : ℕ) → i < 4 → get_or xs (a + i) 0 ≡ get_or ys (b + i) 0) → list_word_at xs a ≡ list_word_at ys b
unfolding list_word_at
word-same xs ys a b h =
    let e0 : get_or xs a 0 ≡ get_or ys b 0 = rw (add-zero, add-zero) at (h 0 (omega arith)) in
    let a3 : a + 2 + 1 ≡ a + 3 = omega arith in
    let b3 : b + 2 + 1 ≡ b + 3 = omega arith in
    let e3 : get_or xs (a + 2 + 1) 0 ≡ get_or ys (b + 2 + 1) 0 = rw (a3, b3) (h 3 (omega arith)) in
    rw (half-same xs ys a b e0 (h 1 (omega arith)), half-same xs ys (a + 2) (b + 2) (h 2 (omega arith)) e3) refl

pub word_little : (x : ℕ) → x < 2 ^ 32 → list_word_at (little 4 x) 0 ≡ x
unfolding list_word_at list_half_at
word_little x lt = omega arith

pub half_little : (x : ℕ) → x < 65536 → list_half_at (little 2 x) 0 ≡ x
unfolding list_half_at
half_little x lt = omega arith

-- ---- bytes put in a place

pub length-put : (xs bytes : List ℕ) (at : ℕ) → at + length bytes ≤ length xs → length (put xs at bytes) ≡ length xs
length-put xs bytes at le =
    omega (arith, length-append (take at xs) (bytes ++ drop (at + length bytes) xs), length-append bytes (drop (at + length bytes) xs), length-take at xs, length-drop (at + length bytes) xs)

pub put-inside : (xs bytes : List ℕ) (at i : ℕ) → at + length bytes ≤ length xs → i < length bytes → get_or (put xs at bytes) (at + i) 0 ≡ get_or bytes i 0
put-inside xs bytes at i le lt =
    let len : length (take at xs) ≡ at = length-take-le at xs (omega arith) in
    let back = get_or-append-add (take at xs) (bytes ++ drop (at + length bytes) xs) i 0 in
    rw len at back ∙ get_or_append_left bytes (drop (at + length bytes) xs) 0 i lt

pub put-outside : (xs bytes : List ℕ) (at i : ℕ) → at + length bytes ≤ length xs → (i < at) ⊎ (at + length bytes ≤ i) → get_or (put xs at bytes) i 0 ≡ get_or xs i 0
put-outside xs bytes at i le (inl lt) =
    let len : length (take at xs) ≡ at = length-take-le at xs (omega arith) in
    get_or_append_left (take at xs) (bytes ++ drop (at + length bytes) xs) 0 i (omega (arith, len)) ∙ get_or-take at xs i 0 lt
put-outside xs bytes at i le (inr past) =
    let len : length (take at xs) ≡ at = length-take-le at xs (omega arith) in
    let j = i - (at + length bytes) in
    let is : at + (length bytes + j) ≡ i = omega arith in
    let is-2 : at + length bytes + j ≡ i = omega arith in
    let back = get_or-append-add (take at xs) (bytes ++ drop (at + length bytes) xs) (length bytes + j) 0 in
    let front : get_or (put xs at bytes) i 0 ≡ get_or (bytes ++ drop (at + length bytes) xs) (length bytes + j) 0 = rw (len, is) at back in
    let rest : get_or (drop (at + length bytes) xs) j 0 ≡ get_or xs i 0 = rw is-2 at (get_or-drop (at + length bytes) xs j 0) in
    front ∙ get_or-append-add bytes (drop (at + length bytes) xs) j 0 ∙ rest

-- ---- bytes behind others

pub get_or-behind : (xs ys : List ℕ) (n i : ℕ) → length xs ≡ n → get_or (xs ++ ys) (n + i) 0 ≡ get_or ys i 0
get_or-behind xs ys n i len = rw len at (get_or-append-add xs ys i 0)

-- ---- rows of 32 bytes

pub flat_map-map : {A : Type 0} (f : A → List ℕ) (xs : List A) → flat_map (λ r. r) (map f xs) ≡ flat_map f xs
flat_map-map f [] = refl
flat_map-map f (x ∷ xs) = ap (λ (ys : List ℕ). f x ++ ys) (flat_map-map f xs)

-- each has 32 bytes
abbrev pub Are32 : List (List ℕ) → Type 0
Are32 rows = (j : ℕ) → j < length rows → length (get_or rows j []) ≡ 32

pub row-byte : (rows : List (List ℕ)) (j m : ℕ) → Are32 rows → j < length rows → m < 32 → get_or (flat_map (λ r. r) rows) (32 * j + m) 0 ≡ get_or (get_or rows j []) m 0
row-byte [] j m h lt low = absurd (omega arith)
row-byte (row ∷ rows) zero m h lt low =
    let at : 32 * 0 + m ≡ m = omega arith in
    rw at (get_or_append_left row (flat_map (λ r. r) rows) 0 m (omega (arith, h 0 (omega arith))))
row-byte (row ∷ rows) (suc j) m h lt low =
    let at : 32 * suc j + m ≡ 32 + (32 * j + m) = omega arith in
    rw at (get_or-behind row (flat_map (λ r. r) rows) 32 (32 * j + m) (h 0 (omega arith)) ∙ row-byte rows j m (λ i l. h (suc i) (omega arith)) (omega arith) low)

-- ---- lists by the index

map-range-from : {A B : Type 0} (f : ℕ → A) (g : B → A) (a : ℕ) (xs : List B) (d : B) → ((j : ℕ) → j < length xs → f (a + j) ≡ g (get_or xs j d)) → map f (range_with_len a (length xs)) ≡ map g xs
map-range-from f g a [] d h = refl
map-range-from f g a (x ∷ xs) d h =
    let first : f a ≡ g x = rw add-zero at (h 0 (omega arith)) in
    let rest = map-range-from f g (a + 1) xs d (λ j lt. ap f (let e : a + 1 + j ≡ a + suc j = omega arith in e) ∙ h (suc j) (omega arith)) in
    rw (first, rest) refl

pub map-range : {A B : Type 0} (f : ℕ → A) (g : B → A) (xs : List B) (d : B) → ((j : ℕ) → j < length xs → f j ≡ g (get_or xs j d)) → map f (range_with_len 0 (length xs)) ≡ map g xs
map-range f g xs d h = map-range-from f g 0 xs d (λ j lt. ap f (let e : 0 + j ≡ j = omega arith in e) ∙ h j lt)

-- a part of a list, by the index
pub get_or-slice_range : (xs : List ℕ) (a n i : ℕ) → i < n → get_or (slice_range xs a (a + n)) i 0 ≡ get_or xs (a + i) 0
get_or-slice_range xs a n i lt =
    let len : a + n - a ≡ n = omega arith in
    rw len (get_or-take n (drop a xs) i 0 lt ∙ get_or-drop a xs i 0)

pub length-slice_range : (xs : List ℕ) (a n : ℕ) → a + n ≤ length xs → length (slice_range xs a (a + n)) ≡ n
length-slice_range xs a n le =
    let len : a + n - a ≡ n = omega arith in
    rw len (length-take-le n (drop a xs) (omega (arith, length-drop a xs)))
