-- The plain image of some words is an image that holds them.
use Rattle.std.proofs.Common.{All, ◌≡◌, ◌≤◌, ℕ, zero, suc, ◌+◌, ◌*◌, ◌^◌, ◌<◌, List, [], ◌∷◌, ◌++◌, length, get_or, Some, refl, ap, ◌∙◌, arith, add-zero}
use Rattle.std.proofs.lemmas.List.{length-append, get_or_append_left, get_or-append-add}
use Rattle.scale_base.specs.Bytes.{list_half_at, list_word_at}
use Rattle.scale_base.specs.Elf.{program_header, program_headers}
use Rattle.scale_base.proofs.Laws.{accepted}
use Rattle.image_maker.specs.PlainImage.{little_bytes, file_header, words, plain_image, START}
use Rattle.image_maker.specs.PlainImage as plain
use Rattle.image_maker.specs.HoldsWords.{HoldsWords}
use Rattle.image_maker.proofs.PlainFacts.{Facts, Fine, segment, rules-kept, contents-entry, contents-text, contents-keyed, word-of}

-- ---- words as bytes

word_little : (x : ℕ) → x < 2 ^ 32 → list_word_at (little_bytes 4 x) 0 ≡ x
unfolding list_word_at list_half_at
word_little x lt = omega arith

half-same : (xs ys : List ℕ) (a b : ℕ) → get_or xs a 0 ≡ get_or ys b 0 → get_or xs (a + 1) 0 ≡ get_or ys (b + 1) 0 → list_half_at xs a ≡ list_half_at ys b
unfolding list_half_at
half-same xs ys a b e f = rw (e, f) refl

word-same : (xs ys : List ℕ) (a b : ℕ) → ((i : ℕ) → i < 4 → get_or xs (a + i) 0 ≡ get_or ys (b + i) 0) → list_word_at xs a ≡ list_word_at ys b
unfolding list_word_at
word-same xs ys a b h =
    let e0 : get_or xs a 0 ≡ get_or ys b 0 = rw (add-zero, add-zero) at (h 0 (omega arith)) in
    let a3 : a + 2 + 1 ≡ a + 3 = omega arith in
    let b3 : b + 2 + 1 ≡ b + 3 = omega arith in
    let e3 : get_or xs (a + 2 + 1) 0 ≡ get_or ys (b + 2 + 1) 0 = rw (a3, b3) (h 3 (omega arith)) in
    rw (half-same xs ys a b e0 (h 1 (omega arith)), half-same xs ys (a + 2) (b + 2) (h 2 (omega arith)) e3) refl

length-words : (text : List ℕ) → length (words text) ≡ 4 * length text
length-words [] = refl
length-words (x ∷ xs) = let rest = length-words xs in let both = length-append (little_bytes 4 x) (words xs) in omega arith

-- byte i of word k
word-byte : (text : List ℕ) (k i : ℕ) → k < length text → i < 4 → get_or (words text) (4 * k + i) 0 ≡ get_or (little_bytes 4 (get_or text k 0)) i 0
word-byte [] k i h low = absurd (omega arith)
word-byte (x ∷ xs) zero i h low = let at : 4 * 0 + i ≡ i = omega arith in rw at (get_or_append_left (little_bytes 4 x) (words xs) 0 i low)
word-byte (x ∷ xs) (suc k) i h low =
    let at : 4 * suc k + i ≡ 4 + (4 * k + i) = omega arith in
    rw at (get_or-append-add (little_bytes 4 x) (words xs) (4 * k + i) 0 ∙ word-byte xs k i (omega arith) low)

-- ---- the file

abbrev front : List ℕ → List ℕ
front text = file_header ++ plain.made_program_header (4 * length text)

pub file-length : (text : List ℕ) → length (plain_image text) ≡ 84 + 4 * length text
file-length text = let both = length-append (front text) (words text) in let rest = length-words text in omega arith

facts : (text : List ℕ) → 4 * length text < 2 ^ 32 → Facts (plain_image text) (4 * length text)
unfolding list_half_at list_word_at program_headers program_header
facts text lt = record {
  magic = refl;
  size = file-length text;
  class = refl;
  encoding = refl;
  ident = refl;
  version = refl;
  type = refl;
  machine = refl;
  entry = refl;
  phoff = refl;
  shoff = refl;
  flags = refl;
  phentsize = refl;
  phnum = refl;
  headers = ap (λ (n : ℕ). segment n ∷ []) (word_little (4 * length text) lt);
}

word-there : (text : List ℕ) (k : ℕ) → k < length text → get_or text k 0 < 2 ^ 32 → list_word_at (plain_image text) (84 + 4 * k) ≡ get_or text k 0
word-there text k lt fits =
    word-same (plain_image text) (little_bytes 4 (get_or text k 0)) (84 + 4 * k) 0
    (λ i low.
    let at : 84 + 4 * k + i ≡ 84 + (4 * k + i) = omega arith in
    let none : 0 + i ≡ i = omega arith in
    rw (at, none) (get_or-append-add (front text) (words text) (4 * k + i) 0 ∙ word-byte text k i lt low))
    ∙ word_little (get_or text k 0) fits

pub plain-law : (text : List ℕ) → 0 < length text → length text ≤ 131072 → All (λ word. word < 2 ^ 32) text → HoldsWords text (plain_image text)
plain-law text some few fits =
    let small : 4 * length text < 2 ^ 32 = omega arith in
    let f = facts text small in
    let fine : Fine (4 * length text) = record { some = omega arith; whole = omega arith; few = omega arith } in
    record {
      image = accepted (plain_image text) (rules-kept (plain_image text) (4 * length text) f fine);
      entry = contents-entry (plain_image text) (4 * length text) f;
      text = contents-text (plain_image text) (4 * length text) f fine;
      keyed = contents-keyed (plain_image text) (4 * length text) f;
      each = λ k lt. word-of (plain_image text) (4 * length text) k f fine (omega arith) ∙ ap (λ (w : ℕ). Some w) (word-there text k lt (fits k 0 lt));
    }
