-- The program headers and the section headers of a file with a block added. Its table differs from that of an image that is stored with the same
-- block in the flags and the alignment of the block's entry alone.
use Rattle.std.proofs.Common.{◌≡◌, ◌≢◌, ℕ, zero, suc, ◌+◌, ◌*◌, ◌-◌, ◌^◌, ◌<◌, ◌≤◌, Bool, true, false, cond, List, [], ◌∷◌, ◌++◌, length, map, get_or, take, drop, refl, sym, ap, ◌∙◌, arith, add-zero, inl, inr, ◌⊎◌}
use Rattle.std.specs.Prelude.{slice_range, ◌==◌, if◌then◌else◌, nat_le, ◌&&◌, not}
use Rattle.std.specs.List.{range_with_len}
use Rattle.std.proofs.lemmas.Bool.{cases_lt}
use Rattle.std.proofs.lemmas.List.{length-append, length-drop, get_or-take, get_or_append_left, length-map, length-take-le}
use Rattle.std.proofs.lemmas.List.FromFn.{map-range_with_len_more}
use Rattle.std.proofs.lemmas.List.Sums.{prefix_len-le-length}
use Rattle.std.proofs.lemmas.List.Concat.{flat_map-cons}
use Rattle.scale_base.specs.declared.headers.ProgramHeader.{ProgramHeader}
use Rattle.scale_base.specs.declared.headers.SectionHeader.{SectionHeader}
use Rattle.scale_base.specs.declared.ranges.Patch.{Patch}
use Rattle.scale_base.specs.Bytes.{list_half_at, list_word_at}
use Rattle.scale_base.specs.Elf.{e_phoff, e_phnum, e_shoff, e_shnum, has_sections, program_header, program_headers, section_header, section_headers}
use Rattle.scale_base.specs.Image.{is_load}
use Rattle.elf_patch.specs.Stored.{entry_bytes, kept_entry, entries, block_entry, keyed_number, stored_table}
use Rattle.elf_patch.specs.Added.{code_entry, code_table, code_section, code_sections}
use Rattle.elf_view.proofs.Laws.{length-headers}
use Rattle.stored_laws.proofs.Laws.{get_or-slice_range, length-slice_range, word-same, word_little, get_or-behind, IsStored, keyed_header, kept_header, stored-headers}
use Rattle.image_lower.proofs.AddedBytes.{IsAdded}

-- the header of the block's segment
abbrev pub code_header : ℕ → ℕ → ℕ → ProgramHeader
code_header place base len = record { p_type = 1; p_offset = place; p_vaddr = base; p_paddr = base; p_filesz = len; p_memsz = len; p_flags = 5 }

-- ---- the entries before the block's

number_fits : (file : List ℕ) (base : ℕ) → keyed_number file base ≤ e_phnum file
number_fits file base = omega (arith, prefix_len-le-length (λ (h : ProgramHeader). not (is_load h && nat_le base h.p_vaddr)) (program_headers file), length-headers file)

length-entry : (file : List ℕ) (j : ℕ) → e_phoff file + 32 * e_phnum file ≤ length file → j < e_phnum file → length (kept_entry file j) ≡ 32
length-entry file j table lt =
    let whole : length (entry_bytes file j) ≡ 32 = length-slice_range file (e_phoff file + 32 * j) 32 (omega arith) in
    by ((program_header file j).p_type == 6) whole
  where
    by : (b : Bool) → length (entry_bytes file j) ≡ 32 → length (cond b (0 ∷ 0 ∷ 0 ∷ 0 ∷ drop 4 (entry_bytes file j)) (entry_bytes file j)) ≡ 32
    by true whole = omega (arith, whole, length-drop 4 (entry_bytes file j))
    by false whole = whole

length-entries : (file : List ℕ) (a n : ℕ) → e_phoff file + 32 * e_phnum file ≤ length file → a + n ≤ e_phnum file → length (entries file a n) ≡ 32 * n
length-entries file a zero table le = refl
length-entries file a (suc n) table le =
    let rest = length-entries file (a + 1) n table (omega (arith, le)) in
    let one = length-entry file a table (omega (arith, le)) in
    ap (λ (xs : List ℕ). length xs) (flat_map-cons (kept_entry file) a (range_with_len (a + 1) n)) ∙ omega (arith, length-append (kept_entry file a) (entries file (a + 1) n), rest, one)

-- ---- the two tables

module _ (file : List ℕ) (place base len : ℕ) (in_file : e_phoff file + 32 * e_phnum file ≤ length file) where
  abbrev k : ℕ
  k = keyed_number file base

  abbrev head : List ℕ
  head = entries file 0 k

  abbrev tail : List ℕ
  tail = entries file k (e_phnum file - k)

  abbrev new : List ℕ
  new = code_entry place base len

  abbrev old : List ℕ
  old = block_entry place base base len

  head_len : length head ≡ 32 * k
  head_len = let low = number_fits file base in length-entries file 0 k in_file (omega (arith, low))

  tail_len : length tail ≡ 32 * (e_phnum file - k)
  tail_len = let low = number_fits file base in length-entries file k (e_phnum file - k) in_file (omega (arith, low))

  new_is : code_table file place base len ≡ head ++ new ++ tail
  unfolding code_table
  new_is = refl

  old_is : stored_table file place base base len ≡ head ++ old ++ tail
  unfolding stored_table
  old_is = refl

  pub length-table : length (code_table file place base len) ≡ 32 * (e_phnum file + 1)
  length-table =
      let low = number_fits file base in
      let new_len : length new ≡ 32 = refl in
      ap (λ (xs : List ℕ). length xs) new_is ∙ omega (arith, length-append (head ++ new) tail, length-append head new, head_len, tail_len, new_len, low)

  first_same : (c : ℕ) → c < 24 → get_or new c 0 ≡ get_or old c 0
  first_same c lt =
      let same : take 24 new ≡ take 24 old = refl in
      sym (get_or-take 24 new c 0 lt) ∙ (ap (λ (xs : List ℕ). get_or xs c 0) same ∙ get_or-take 24 old c 0 lt)

  middle : (mid : List ℕ) (c : ℕ) → length mid ≡ 32 → c < 32 → get_or (head ++ mid ++ tail) (32 * k + c) 0 ≡ get_or mid c 0
  middle mid c size lt =
      let two : length (head ++ mid) ≡ 32 * k + 32 = omega (arith, length-append head mid, head_len, size) in
      get_or_append_left (head ++ mid) tail 0 (32 * k + c) (omega (arith, two, lt)) ∙ get_or-behind head mid (32 * k) c head_len

  -- outside the last words of the block's entry the tables have the same bytes
  bytes_same : (m : ℕ) → (m < 32 * k + 24) ⊎ (32 * k + 32 ≤ m) → get_or (head ++ new ++ tail) m 0 ≡ get_or (head ++ old ++ tail) m 0
  bytes_same m (inr past) =
      let j = m - (32 * k + 32) in
      let is : 32 * k + 32 + j ≡ m = omega (arith, past) in
      let a : length (head ++ new) ≡ 32 * k + 32 = let e : length new ≡ 32 = refl in omega (arith, length-append head new, head_len, e) in
      let b : length (head ++ old) ≡ 32 * k + 32 = let e : length old ≡ 32 = refl in omega (arith, length-append head old, head_len, e) in
      ap (λ (i : ℕ). get_or (head ++ new ++ tail) i 0) (sym is) ∙ (get_or-behind (head ++ new) tail (32 * k + 32) j a
      ∙ (sym (get_or-behind (head ++ old) tail (32 * k + 32) j b) ∙ ap (λ (i : ℕ). get_or (head ++ old ++ tail) i 0) is))
  bytes_same m (inl low) = elim (cases_lt m (32 * k)) [
    | inl before ↦
        let a : m < length (head ++ new) = omega (arith, length-append head new, head_len, before) in
        let b : m < length (head ++ old) = omega (arith, length-append head old, head_len, before) in
        let c : m < length head = omega (arith, head_len, before) in
        get_or_append_left (head ++ new) tail 0 m a ∙ (get_or_append_left head new 0 m c
        ∙ (sym (get_or_append_left head old 0 m c) ∙ sym (get_or_append_left (head ++ old) tail 0 m b)))
    | inr from ↦
        let c = m - 32 * k in
        let is : 32 * k + c ≡ m = omega (arith, from) in
        let lt : c < 24 = omega (arith, from, low) in
        ap (λ (i : ℕ). get_or (head ++ new ++ tail) i 0) (sym is) ∙ (middle new c refl (omega (arith, lt)) ∙ (first_same c lt
        ∙ (sym (middle old c refl (omega (arith, lt))) ∙ ap (λ (i : ℕ). get_or (head ++ old ++ tail) i 0) is)))
  ]

pub all_same : {A : Type 0} (f g : ℕ → A) (a n : ℕ) → ((j : ℕ) → a ≤ j → j < a + n → f j ≡ g j) → map f (range_with_len a n) ≡ map g (range_with_len a n)
all_same f g a zero h = refl
all_same f g a (suc n) h =
    ap (λ y. y ∷ map f (range_with_len (a + 1) n)) (h a (omega arith) (omega arith))
    ∙ ap (λ (zs : List _). g a ∷ zs) (all_same f g (a + 1) n (λ j low high. h j (omega (arith, low)) (omega (arith, high))))

-- one of numbered elements changes
one_changed : {A : Type 0} (f g : ℕ → A) (a n : ℕ) (xs ys : List A) (x : A) → map g (range_with_len a n) ≡ xs ++ x ∷ ys → ((j : ℕ) → a ≤ j → j < a + n → j ≢ a + length xs → f j ≡ g j)
    → (map f (range_with_len a n) ≡ xs ++ f (a + length xs) ∷ ys) × (g (a + length xs) ≡ x)
one_changed f g a zero [] ys x e h = absurd cc
one_changed f g a zero (z ∷ xs) ys x e h = absurd cc
one_changed f g a (suc n) [] ys x e h =
    let none : a + 0 ≡ a = omega arith in
    let first : g a ≡ x = cc in
    let rest : map g (range_with_len (a + 1) n) ≡ ys = cc in (
      ap (λ i. f i ∷ map f (range_with_len (a + 1) n)) (sym none) ∙ ap (λ (zs : List _). f (a + 0) ∷ zs) (all_same f g (a + 1) n (λ j low high. h j (omega (arith, low)) (omega (arith, high)) (omega (arith, low))) ∙ rest),
      ap g none ∙ first,
    )
one_changed f g a (suc n) (z ∷ xs) ys x e h =
    let first : g a ≡ z = cc in
    let rest : map g (range_with_len (a + 1) n) ≡ xs ++ x ∷ ys = cc in
    let moved : a + 1 + length xs ≡ a + length (z ∷ xs) = omega arith in
    let later = one_changed f g (a + 1) n xs ys x rest (λ j low high off. h j (omega (arith, low)) (omega (arith, high)) (omega (arith, off))) in
    let here : f a ≡ z = h a (omega arith) (omega arith) (omega arith) ∙ first in
    (ap (λ y. y ∷ map f (range_with_len (a + 1) n)) here ∙ ap (λ (zs : List _). z ∷ zs) (later.0 ∙ ap (λ i. xs ++ f i ∷ ys) moved), ap g (sym moved) ∙ later.1)

-- ---- the program headers

-- headers by their words
pub header_same : (xs ys : List ℕ) (j : ℕ) → e_phoff xs ≡ e_phoff ys → ((c : ℕ) → c + 4 ≤ 28 → list_word_at xs (e_phoff xs + 32 * j + c) ≡ list_word_at ys (e_phoff xs + 32 * j + c)) → program_header xs j ≡ program_header ys j
unfolding program_header
header_same xs ys j e h =
    let first : list_word_at xs (e_phoff xs + 32 * j) ≡ list_word_at ys (e_phoff xs + 32 * j) = ap (list_word_at xs) (sym (add-zero (e_phoff xs + 32 * j))) ∙ (h 0 (omega arith) ∙ ap (list_word_at ys) (add-zero (e_phoff xs + 32 * j))) in
    rw (first, h 4 (omega arith), h 8 (omega arith), h 12 (omega arith), h 16 (omega arith), h 20 (omega arith), h 24 (omega arith), e) refl

flags_differ : (xs ys : List ℕ) (j flags : ℕ) → e_phoff xs ≡ e_phoff ys → ((c : ℕ) → c + 4 ≤ 24 → list_word_at xs (e_phoff xs + 32 * j + c) ≡ list_word_at ys (e_phoff xs + 32 * j + c)) → list_word_at xs (e_phoff xs + 32 * j + 24) ≡ flags
    → program_header xs j ≡ record (program_header ys j) { p_flags = flags }
unfolding program_header
flags_differ xs ys j flags e h f =
    let first : list_word_at xs (e_phoff xs + 32 * j) ≡ list_word_at ys (e_phoff xs + 32 * j) = ap (list_word_at xs) (sym (add-zero (e_phoff xs + 32 * j))) ∙ (h 0 (omega arith) ∙ ap (list_word_at ys) (add-zero (e_phoff xs + 32 * j))) in
    rw (first, h 4 (omega arith), h 8 (omega arith), h 12 (omega arith), h 16 (omega arith), h 20 (omega arith), f, e) refl

flags_five : (place base len : ℕ) → list_word_at (code_entry place base len) 24 ≡ 5
unfolding list_word_at list_half_at
flags_five place base len = refl

pub added-headers : (file made sections block : List ℕ) (patches : List Patch) (place base len at : ℕ) → IsAdded file made (code_table file place base len) sections block patches at → e_phoff file + 32 * e_phnum file ≤ length file
    → (stored : List ℕ) → IsStored file stored (stored_table file place base base len) block patches at → place < 2 ^ 32 → base < 2 ^ 32 → len < 2 ^ 32
    → program_headers made ≡ map kept_header (take (keyed_number file base) (program_headers file)) ++ code_header place base len ∷ map kept_header (drop (keyed_number file base) (program_headers file))
unfolding program_headers
added-headers file made sections block patches place base len at a in_file stored s small low short =
    let n = keyed_number file base in
    let fits = number_fits file base in
    let before = map kept_header (take n (program_headers file)) in
    let behind = map kept_header (drop n (program_headers file)) in
    let table = code_table file place base len in
    let size = length-table file place base len in_file in
    let count = length-headers file in
    let before_len : length before ≡ n = length-map (take n (program_headers file)) kept_header ∙ length-take-le n (program_headers file) (omega (arith, fits, count)) in
    let olds = stored-headers file stored block patches place base base len at s in_file small low low short in
    let byte = λ (m : ℕ) (lt : m < 32 * (e_phnum file + 1)) (off : (m < 32 * n + 24) ⊎ (32 * n + 32 ≤ m)).
    a.table_is m (omega (arith, size, lt)) ∙ (ap (λ (t : List ℕ). get_or t m 0) (new_is file place base len in_file) ∙ (bytes_same file place base len in_file m off
    ∙ (ap (λ (t : List ℕ). get_or t m 0) (sym (old_is file place base len in_file)) ∙ sym (s.behind m)))) in
    let offsets : e_phoff made ≡ e_phoff stored = a.phoff ∙ sym s.phoff in
    let word = λ (j c : ℕ) (lt : j < e_phnum file + 1) (low : c + 4 ≤ 32) (off : (32 * j + c + 4 ≤ 32 * n + 24) ⊎ (32 * n + 32 ≤ 32 * j + c)).
    word-same made stored (e_phoff made + 32 * j + c) (e_phoff made + 32 * j + c) (λ i l.
    let from : e_phoff made + 32 * j + c + i ≡ at + (32 * j + c + i) = omega (arith, a.phoff) in
    ap (λ (m : ℕ). get_or made m 0) from ∙ (byte (32 * j + c + i) (omega (arith, lt, low, l)) (within (32 * j + c) i n l off) ∙ ap (λ (m : ℕ). get_or stored m 0) (sym from))) in
    let others = λ (j : ℕ) (low : 0 ≤ j) (high : j < 0 + (e_phnum file + 1)) (off : j ≢ 0 + length before).
    header_same made stored j offsets (λ c l. word j c (omega (arith, high)) (omega (arith, l)) (apart j n c l (omega (arith, off, before_len)))) in
    let counts : e_phnum made ≡ e_phnum file + 1 = a.phnum in
    let counts_too : e_phnum stored ≡ e_phnum file + 1 = s.phnum in
    let olds2 : map (program_header stored) (range_with_len 0 (e_phnum file + 1)) ≡ before ++ keyed_header place base base len ∷ behind = ap (λ (m : ℕ). map (program_header stored) (range_with_len 0 m)) (sym counts_too) ∙ olds in
    let changed = one_changed (program_header made) (program_header stored) 0 (e_phnum file + 1) before behind (keyed_header place base base len) olds2 others in
    let zero_n : 0 + length before ≡ n = omega (arith, before_len) in
    let flags : list_word_at made (e_phoff made + 32 * n + 24) ≡ 5 =
    word-same made (code_entry place base len) (e_phoff made + 32 * n + 24) 24 (λ i l.
    let from : e_phoff made + 32 * n + 24 + i ≡ at + (32 * n + (24 + i)) = omega (arith, a.phoff) in
    ap (λ (m : ℕ). get_or made m 0) from ∙ (a.table_is (32 * n + (24 + i)) (omega (arith, size, l, fits)) ∙ (ap (λ (t : List ℕ). get_or t (32 * n + (24 + i)) 0) (new_is file place base len in_file)
    ∙ middle file place base len in_file (code_entry place base len) (24 + i) refl (omega (arith, l))))) ∙ flags_five place base len in
    let its = flags_differ made stored n 5 offsets (λ c l. word n c (omega (arith, fits)) (omega (arith, l)) (inl (omega (arith, l)))) flags in
    let is : program_header made (0 + length before) ≡ code_header place base len =
    ap (program_header made) zero_n ∙ (its ∙ ap (λ (h : ProgramHeader). record h { p_flags = 5 }) (ap (program_header stored) (sym zero_n) ∙ changed.1)) in
    ap (λ (m : ℕ). map (program_header made) (range_with_len 0 m)) counts ∙ (changed.0 ∙ ap (λ (h : ProgramHeader). before ++ h ∷ behind) is)
  where
    within : (from i n : ℕ) → i < 4 → (from + 4 ≤ 32 * n + 24) ⊎ (32 * n + 32 ≤ from) → (from + i < 32 * n + 24) ⊎ (32 * n + 32 ≤ from + i)
    within from i n l (inl h) = inl (omega (arith, l, h))
    within from i n l (inr h) = inr (omega (arith, h))

    apart : (j n c : ℕ) → c + 4 ≤ 28 → j ≢ n → (32 * j + c + 4 ≤ 32 * n + 24) ⊎ (32 * n + 32 ≤ 32 * j + c)
    apart j n c l off = elim (cases_lt j n) [
      | inl less ↦ inl (omega (arith, less, l))
      | inr more ↦ inr (omega (arith, more, off))
    ]

-- ---- the section headers

abbrev pub code_section_header : ℕ → ℕ → ℕ → SectionHeader
code_section_header place base len = record { sh_type = 1; sh_flags = 6; sh_addr = base; sh_offset = place; sh_size = len; sh_link = 0 }

pub section_same : (xs ys : List ℕ) (j from : ℕ) → e_shoff xs + 40 * j ≡ from → (at : ℕ) → e_shoff ys + 40 * j ≡ at → ((c : ℕ) → c < 40 → get_or xs (from + c) 0 ≡ get_or ys (at + c) 0) → section_header xs j ≡ section_header ys j
unfolding section_header
section_same xs ys j from e at g h =
    let word = λ (c : ℕ) (low : c + 4 ≤ 40). word-same xs ys (from + c) (at + c) (λ i l.
    let a : from + c + i ≡ from + (c + i) = omega arith in
    let b : at + c + i ≡ at + (c + i) = omega arith in
    ap (λ (m : ℕ). get_or xs m 0) a ∙ (h (c + i) (omega (arith, low, l)) ∙ ap (λ (m : ℕ). get_or ys m 0) (sym b))) in
    rw (e, g, word 4 (omega arith), word 8 (omega arith), word 12 (omega arith), word 16 (omega arith), word 20 (omega arith), word 24 (omega arith)) refl

four : (place base len : ℕ) → list_word_at (code_section place base len) 4 ≡ 1
unfolding list_word_at list_half_at
four place base len = refl

eight : (place base len : ℕ) → list_word_at (code_section place base len) 8 ≡ 6
unfolding list_word_at list_half_at
eight place base len = refl

twelve : (place base len : ℕ) → base < 2 ^ 32 → list_word_at (code_section place base len) 12 ≡ base
unfolding list_word_at list_half_at
twelve place base len lt = word_little base lt

sixteen : (place base len : ℕ) → place < 2 ^ 32 → list_word_at (code_section place base len) 16 ≡ place
unfolding list_word_at list_half_at
sixteen place base len lt = word_little place lt

twenty : (place base len : ℕ) → len < 2 ^ 32 → list_word_at (code_section place base len) 20 ≡ len
unfolding list_word_at list_half_at
twenty place base len lt = word_little len lt

twenty_four : (place base len : ℕ) → list_word_at (code_section place base len) 24 ≡ 0
unfolding list_word_at list_half_at
twenty_four place base len = refl

last_section : (xs : List ℕ) (j from place base len : ℕ) → e_shoff xs + 40 * j ≡ from → place < 2 ^ 32 → base < 2 ^ 32 → len < 2 ^ 32 → ((c : ℕ) → c < 40 → get_or xs (from + c) 0 ≡ get_or (code_section place base len) c 0)
    → section_header xs j ≡ code_section_header place base len
unfolding section_header
last_section xs j from place base len e small low short h =
    let word = λ (c v : ℕ) (fits : c + 4 ≤ 40) (is : list_word_at (code_section place base len) c ≡ v). word-same xs (code_section place base len) (from + c) c (λ i l.
    let a : from + c + i ≡ from + (c + i) = omega arith in
    ap (λ (m : ℕ). get_or xs m 0) a ∙ h (c + i) (omega (arith, fits, l))) ∙ is in
    rw (e, word 4 1 (omega arith) (four place base len), word 8 6 (omega arith) (eight place base len), word 12 base (omega arith) (twelve place base len low), word 16 place (omega arith) (sixteen place base len small), word 20 len (omega arith) (twenty place base len short), word 24 0 (omega arith) (twenty_four place base len)) refl

sections_are : (file : List ℕ) (place base len : ℕ) → has_sections file ≡ true → code_sections file place base len ≡ slice_range file (e_shoff file) (e_shoff file + 40 * e_shnum file) ++ code_section place base len
unfolding code_sections
sections_are file place base len on = ap (λ (b : Bool). if b then slice_range file (e_shoff file) (e_shoff file + 40 * e_shnum file) ++ code_section place base len else []) on

pub added-sections : (file made table block : List ℕ) (patches : List Patch) (place base len at : ℕ) → IsAdded file made table (code_sections file place base len) block patches at → has_sections file ≡ true → e_shoff file + 40 * e_shnum file ≤ length file
    → place < 2 ^ 32 → base < 2 ^ 32 → len < 2 ^ 32 → section_headers made ≡ section_headers file ++ code_section_header place base len ∷ []
unfolding section_headers
added-sections file made table block patches place base len at a on in_file small low short =
    let n = e_shnum file in
    let olds = slice_range file (e_shoff file) (e_shoff file + 40 * n) in
    let so = at + length table in
    let size : length olds ≡ 40 * n = length-slice_range file (e_shoff file) (40 * n) in_file in
    let is : code_sections file place base len ≡ olds ++ code_section place base len = sections_are file place base len on in
    let byte = λ (m : ℕ). a.sections_are m ∙ ap (λ (t : List ℕ). get_or t m 0) is in
    let from = a.shoff on in
    let each = λ (j : ℕ) (low : 0 ≤ j) (high : j < 0 + n).
    section_same made file j (so + 40 * j) (ap (λ (m : ℕ). m + 40 * j) from) (e_shoff file + 40 * j) refl (λ c lt.
    let one : so + 40 * j + c ≡ so + (40 * j + c) = omega arith in
    let two : e_shoff file + (40 * j + c) ≡ e_shoff file + 40 * j + c = omega arith in
    ap (λ (m : ℕ). get_or made m 0) one ∙ (byte (40 * j + c) ∙ (get_or_append_left olds (code_section place base len) 0 (40 * j + c) (omega (arith, size, high, lt))
    ∙ (get_or-slice_range file (e_shoff file) (40 * n) (40 * j + c) (omega (arith, high, lt)) ∙ ap (λ (m : ℕ). get_or file m 0) two)))) in
    let last = last_section made n (so + 40 * n) place base len (ap (λ (m : ℕ). m + 40 * n) from) small low short (λ c lt.
    let one : so + 40 * n + c ≡ so + (40 * n + c) = omega arith in
    ap (λ (m : ℕ). get_or made m 0) one ∙ (byte (40 * n + c) ∙ get_or-behind olds (code_section place base len) (40 * n) c size)) in
    ap (λ (m : ℕ). map (section_header made) (range_with_len 0 m)) (a.shnum on)
    ∙ (map-range_with_len_more (section_header made) 0 n n (omega arith)
    ∙ (ap (λ (zs : List SectionHeader). zs ++ section_header made n ∷ []) (all_same (section_header made) (section_header file) 0 n each)
    ∙ ap (λ (h : SectionHeader). map (section_header file) (range_with_len 0 n) ++ h ∷ []) last))
