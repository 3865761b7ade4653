-- The stored file byte by byte: its header, its section headers, its block and its table.
use Rattle.std.proofs.Common.{◌≡◌, ℕ, zero, suc, ◌+◌, ◌*◌, ◌-◌, ◌^◌, ◌<◌, ◌≤◌, true, List, [], ◌∷◌, ◌++◌, length, map, replicate, get_or, take, drop, refl, ap, ◌∙◌, append_assoc, arith, Some, inl, inr, ◌⊎◌}
use Rattle.std.specs.Prelude.{All, slice_range}
use Rattle.std.specs.List.{range_with_len}
use Rattle.std.proofs.Math.Seq.{take-append_seam, drop-append_seam}
use Rattle.std.proofs.lemmas.List.{length-append, length-replicate, get_or_append_left}
use Rattle.scale_base.specs.declared.ranges.Patch.{Patch}
use Rattle.scale_base.specs.declared.headers.SectionHeader.{SectionHeader}
use Rattle.scale_base.specs.Bytes.{list_half_at, list_word_at}
use Rattle.scale_base.specs.Elf.{e_type, e_machine, e_version, e_entry, e_phoff, e_phnum, e_shoff, e_flags, e_phentsize, e_shentsize, e_shnum, has_sections, section_header, section_headers}
use Rattle.scale_base.specs.Image.{file_place}
use Rattle.elf_patch.specs.Stored.{little, put, patched, block_start, changed, stored_table, stored_image}
use Rattle.elf_patch.proofs.Laws.{page_at-le}
use Rattle.stored_laws.proofs.Bytes.{half-same, word-same, word_little, half_little, length-put, put-inside, put-outside, get_or-behind}
use Rattle.stored_laws.proofs.Patched.{Away, length-patched, patched-away, TextPlace}

-- where each patched word stands
abbrev pub Places : List ℕ → List Patch → Type 0
Places file patches = All (λ p. (q : ℕ) → file_place file p.at ≡ Some q → TextPlace file q) patches

-- what the bytes of a stored file are, whose table begins at a place
pub record IsStored (file stored table block : List ℕ) (patches : List Patch) (at : ℕ) : Type 0 where
  pub size : length stored ≡ at + length table
  pub at_is : at ≡ block_start file + length block
  pub above : length file ≤ block_start file
  pub same : (i : ℕ) → i < length file → (i < 28) ⊎ (32 ≤ i) → (i < 44) ⊎ (46 ≤ i) → get_or stored i 0 ≡ get_or (patched file patches) i 0
  pub low : (i : ℕ) → i < length file → (i < 28) ⊎ (32 ≤ i) → (i < 44) ⊎ (46 ≤ i) → All (Away file i) patches → get_or stored i 0 ≡ get_or file i 0
  pub phoff : e_phoff stored ≡ at
  pub phnum : e_phnum stored ≡ e_phnum file + 1
  pub behind : (m : ℕ) → get_or stored (at + m) 0 ≡ get_or table m 0
  pub block_is : slice_range stored (block_start file) (block_start file + length block) ≡ block

fits : (file : List ℕ) (patches : List Patch) → Places file patches → All (λ p. (q : ℕ) → file_place file p.at ≡ Some q → q + 4 ≤ length file) patches
fits file patches h = λ k d lt q e. (h k d lt q e).within

record Changed (file patched-file new : List ℕ) (at n : ℕ) : Type 0 where
  size : length new ≡ length file
  low : (i : ℕ) → (i < 28) ⊎ (32 ≤ i) → (i < 44) ⊎ (46 ≤ i) → get_or new i 0 ≡ get_or patched-file i 0
  phoff : (j : ℕ) → j < 4 → get_or new (28 + j) 0 ≡ get_or (little 4 at) j 0
  phnum : (j : ℕ) → j < 2 → get_or new (44 + j) 0 ≡ get_or (little 2 n) j 0

changed-is : (file base : List ℕ) (at n : ℕ) → length base ≡ length file → 52 ≤ length file → Changed file base (put (put base 28 (little 4 at)) 44 (little 2 n)) at n
changed-is file base at n len long =
    let first = length-put base (little 4 at) 28 (omega (arith, len, long)) in
    let second = length-put (put base 28 (little 4 at)) (little 2 n) 44 (omega (arith, len, long, first)) in
    record {
      size = second ∙ first ∙ len;
      low = λ i a b. put-outside (put base 28 (little 4 at)) (little 2 n) 44 i (omega (arith, len, long, first)) b ∙ put-outside base (little 4 at) 28 i (omega (arith, len, long)) a;
      phoff = λ j lt. put-outside (put base 28 (little 4 at)) (little 2 n) 44 (28 + j) (omega (arith, len, long, first)) (inl (omega arith)) ∙ put-inside base (little 4 at) 28 j (omega (arith, len, long)) lt;
      phnum = λ j lt. put-inside (put base 28 (little 4 at)) (little 2 n) 44 j (omega (arith, len, long, first)) lt;
    }

word-from : (xs : List ℕ) (at x : ℕ) → x < 2 ^ 32 → ((j : ℕ) → j < 4 → get_or xs (at + j) 0 ≡ get_or (little 4 x) j 0) → list_word_at xs at ≡ x
word-from xs at x lt h = word-same xs (little 4 x) at 0 (λ i low. h i low ∙ ap (λ (k : ℕ). get_or (little 4 x) k 0) (let e : i ≡ 0 + i = omega arith in e)) ∙ word_little x lt

half-from : (xs : List ℕ) (at x : ℕ) → x < 65536 → get_or xs at 0 ≡ get_or (little 2 x) 0 0 → get_or xs (at + 1) 0 ≡ get_or (little 2 x) 1 0 → list_half_at xs at ≡ x
half-from xs at x lt e f = half-same xs (little 2 x) at 0 e f ∙ half_little x lt

pub stored-is : (file : List ℕ) (patches : List Patch) (base start : ℕ) (block : List ℕ) → 52 ≤ length file → length file ≤ 4194304 → e_phnum file ≤ 64 → length block ≤ 4194304 → Places file patches
    → IsStored file (stored_image file patches base block start) (stored_table file (block_start file) base start (length block)) block patches (block_start file + length block)
unfolding stored_image
stored-is file patches base start block long short few small places =
    let at = block_start file + length block in
    let table = stored_table file (block_start file) base start (length block) in
    let front = changed file patches at in
    let zeros : List ℕ = replicate (block_start file - length file) 0 in
    let c = changed-is file (patched file patches) at (e_phnum file + 1) (length-patched file patches (fits file patches places)) long in
    let above = page_at-le (length file) in
    let zeros-len : length zeros ≡ block_start file - length file = length-replicate (block_start file - length file) 0 in
    let first : length (front ++ zeros) ≡ block_start file = omega (arith, length-append front zeros, c.size, zeros-len, above) in
    let whole : length (front ++ zeros ++ block) ≡ at = omega (arith, length-append (front ++ zeros) block, first) in
    let limit : at < 2 ^ 32 = omega arith in
    let in_front = λ (i : ℕ) (lt : i < length file). get_or_append_left (front ++ zeros ++ block) table 0 i (omega (arith, whole, above)) ∙ get_or_append_left (front ++ zeros) block 0 i (omega (arith, first, above)) ∙ get_or_append_left front zeros 0 i (omega (arith, c.size)) in
    let split : front ++ zeros ++ block ++ table ≡ (front ++ zeros) ++ (block ++ table) = append_assoc (front ++ zeros) block table in
    let tail : drop (block_start file) (front ++ zeros ++ block ++ table) ≡ block ++ table = rw split (rw first at (drop-append_seam (front ++ zeros) (block ++ table))) in
    let len : block_start file + length block - block_start file ≡ length block = omega arith in
    record {
      size = length-append (front ++ zeros ++ block) table ∙ ap (λ (n : ℕ). n + length table) whole;
      at_is = refl;
      above = above;
      same = λ i lt a b. in_front i lt ∙ c.low i a b;
      low = λ i lt a b away. in_front i lt ∙ c.low i a b ∙ patched-away file patches i away;
      phoff = word-from (front ++ zeros ++ block ++ table) 28 at limit (λ j lt. in_front (28 + j) (omega arith) ∙ c.phoff j lt);
      phnum = half-from (front ++ zeros ++ block ++ table) 44 (e_phnum file + 1) (omega arith) (in_front 44 (omega arith) ∙ c.phnum 0 (omega arith)) (in_front 45 (omega arith) ∙ c.phnum 1 (omega arith));
      behind = λ m. get_or-behind (front ++ zeros ++ block) table at m whole;
      block_is = rw len (ap (take (length block)) tail ∙ take-append_seam block table);
    }

-- ---- the header

away : (file : List ℕ) (patches : List Patch) (i : ℕ) → Places file patches → i < 52 → All (Away file i) patches
away file patches i h lt = λ k d l q e. let p = h k d l q e in (p.within, inl (omega (arith, p.behind, lt)))

take-same : (n : ℕ) (xs ys : List ℕ) → n ≤ length xs → n ≤ length ys → ((i : ℕ) → i < n → get_or xs i 0 ≡ get_or ys i 0) → take n xs ≡ take n ys
take-same zero xs ys a b h = refl
take-same (suc n) [] ys a b h = absurd (omega arith)
take-same (suc n) (x ∷ xs) [] a b h = absurd (omega arith)
take-same (suc n) (x ∷ xs) (y ∷ ys) a b h =
    let first : x ≡ y = h 0 (omega arith) in
    rw first (ap (λ (zs : List ℕ). y ∷ zs) (take-same n xs ys (omega arith) (omega arith) (λ i lt. h (suc i) (omega arith))))

-- the fields of the header that are the original's
pub record SameHeader (file stored : List ℕ) : Type 0 where
  pub magic : take 4 stored ≡ take 4 file
  pub class : get_or stored 4 0 ≡ get_or file 4 0
  pub encoding : get_or stored 5 0 ≡ get_or file 5 0
  pub ident : get_or stored 6 0 ≡ get_or file 6 0
  pub type : e_type stored ≡ e_type file
  pub machine : e_machine stored ≡ e_machine file
  pub version : e_version stored ≡ e_version file
  pub entry : e_entry stored ≡ e_entry file
  pub shoff : e_shoff stored ≡ e_shoff file
  pub flags : e_flags stored ≡ e_flags file
  pub phentsize : e_phentsize stored ≡ e_phentsize file
  pub shentsize : e_shentsize stored ≡ e_shentsize file
  pub shnum : e_shnum stored ≡ e_shnum file

pub same_header : (file stored table block : List ℕ) (patches : List Patch) (at : ℕ) → IsStored file stored table block patches at → 52 ≤ length file → Places file patches → SameHeader file stored
same_header file stored table block patches at s long places =
    let low = λ (i : ℕ) (lt : i < 52) (a : (i < 28) ⊎ (32 ≤ i)) (b : (i < 44) ⊎ (46 ≤ i)). s.low i (omega arith) a b (away file patches i places lt) in
    record {
      magic = take-same 4 stored file (omega (arith, s.size, s.at_is, s.above)) (omega arith) (λ i lt. low i (omega arith) (inl (omega arith)) (inl (omega arith)));
      class = low 4 (omega arith) (inl (omega arith)) (inl (omega arith));
      encoding = low 5 (omega arith) (inl (omega arith)) (inl (omega arith));
      ident = low 6 (omega arith) (inl (omega arith)) (inl (omega arith));
      type = half-same stored file 16 16 (low 16 (omega arith) (inl (omega arith)) (inl (omega arith))) (low 17 (omega arith) (inl (omega arith)) (inl (omega arith)));
      machine = half-same stored file 18 18 (low 18 (omega arith) (inl (omega arith)) (inl (omega arith))) (low 19 (omega arith) (inl (omega arith)) (inl (omega arith)));
      version = word-same stored file 20 20 (λ i lt. low (20 + i) (omega arith) (inl (omega arith)) (inl (omega arith)));
      entry = word-same stored file 24 24 (λ i lt. low (24 + i) (omega arith) (inl (omega arith)) (inl (omega arith)));
      shoff = word-same stored file 32 32 (λ i lt. low (32 + i) (omega arith) (inr (omega arith)) (inl (omega arith)));
      flags = word-same stored file 36 36 (λ i lt. low (36 + i) (omega arith) (inr (omega arith)) (inl (omega arith)));
      phentsize = half-same stored file 42 42 (low 42 (omega arith) (inr (omega arith)) (inl (omega arith))) (low 43 (omega arith) (inr (omega arith)) (inl (omega arith)));
      shentsize = half-same stored file 46 46 (low 46 (omega arith) (inr (omega arith)) (inr (omega arith))) (low 47 (omega arith) (inr (omega arith)) (inr (omega arith)));
      shnum = half-same stored file 48 48 (low 48 (omega arith) (inr (omega arith)) (inr (omega arith))) (low 49 (omega arith) (inr (omega arith)) (inr (omega arith)));
    }

-- ---- the section headers

-- the section header table lies behind the changed bytes of the file's header, in the file, and no patched word is in it
pub record HasTable (file : List ℕ) : Type 0 where
  pub behind : 46 ≤ e_shoff file
  pub within : e_shoff file + 40 * e_shnum file ≤ length file

away-table : (file : List ℕ) (patches : List Patch) (i : ℕ) → Places file patches → has_sections file ≡ true → e_shoff file ≤ i → i < e_shoff file + 40 * e_shnum file → All (Away file i) patches
away-table file patches i h on low high = λ k d l q e.
    let p = h k d l q e in
    (p.within, elim (p.off_table on).1 [ inl before ↦ inr (omega (arith, before, low)) | inr past ↦ inl (omega (arith, past, high)) ])

section-same : (file stored table block : List ℕ) (patches : List Patch) (at k : ℕ) → IsStored file stored table block patches at → Places file patches → has_sections file ≡ true → HasTable file → e_shoff stored ≡ e_shoff file → k < e_shnum file
    → section_header stored k ≡ section_header file k
unfolding section_header
section-same file stored table block patches at k s places on t same lt =
    let from = e_shoff file + 40 * k in
    let byte = λ (c : ℕ) (lt-c : c < 40). s.low (from + c) (omega (arith, t.within)) (inr (omega (arith, t.behind))) (inr (omega (arith, t.behind))) (away-table file patches (from + c) places on (omega arith) (omega arith)) in
    let word = λ (c : ℕ) (lt-c : c + 4 ≤ 40). word-same stored file (from + c) (from + c) (λ i lt-i. let e : from + c + i ≡ from + (c + i) = omega arith in rw e (byte (c + i) (omega arith))) in
    rw (same, word 4 (omega arith), word 8 (omega arith), word 12 (omega arith), word 16 (omega arith), word 20 (omega arith), word 24 (omega arith)) refl

sections-from : (f g : ℕ → SectionHeader) (a n : ℕ) → ((k : ℕ) → a ≤ k → k < a + n → f k ≡ g k) → map f (range_with_len a n) ≡ map g (range_with_len a n)
sections-from f g a zero h = refl
sections-from f g a (suc n) h =
    rw (h a (omega arith) (omega arith), sections-from f g (a + 1) n (λ k low high. h k (omega arith) (omega arith))) refl

pub same_sections : (file stored table block : List ℕ) (patches : List Patch) (at : ℕ) → IsStored file stored table block patches at → Places file patches → SameHeader file stored → has_sections file ≡ true → HasTable file
    → section_headers stored ≡ section_headers file
unfolding section_headers
same_sections file stored table block patches at s places h on t =
    rw h.shnum (sections-from (section_header stored) (section_header file) 0 (e_shnum file) (λ k low high. section-same file stored table block patches at k s places on t h.shoff (omega arith)))
