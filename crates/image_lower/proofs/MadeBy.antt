-- The files that are made: with a block added, and with patched words alone.
use Rattle.std.proofs.Common.{◌≡◌, ℕ, ◌+◌, ◌-◌, ◌*◌, ◌%◌, ◌^◌, ◌<◌, ◌≤◌, Bool, true, false, not, ◌||◌, List, [], ◌∷◌, ◌++◌, length, map, take, drop, get_or, Some, None, Ok, refl, sym, ap, subst, ◌∙◌, arith, inl, inr, ◌⊎◌}
use Rattle.std.specs.Prelude.{nat_lt, ◌==◌, if◌then◌else◌, All, filter_map, Option}
use Rattle.std.specs.List.{list_any, range_with_len, cons_option}
use Rattle.std.proofs.lemmas.Bool.{lt-ltb, cases_lt, both_ways}
use Rattle.std.proofs.lemmas.Bool.Decides.{nat_tests}
use Rattle.std.proofs.lemmas.List.Elements.{filter-append, filter_map-append}
use Rattle.std.proofs.lemmas.List.Folds.{list_any-append}
use Rattle.scale_base.specs.declared.headers.ProgramHeader.{ProgramHeader}
use Rattle.scale_base.specs.declared.headers.SectionHeader.{SectionHeader}
use Rattle.scale_base.specs.declared.ranges.Patch.{Patch}
use Rattle.scale_base.specs.declared.ranges.TextPart.{TextPart}
use Rattle.scale_base.specs.Bytes.{list_half_at, list_word_at}
use Rattle.scale_base.specs.Rules.{AllHold}
use Rattle.scale_base.specs.Spans.{overlap}
use Rattle.scale_base.specs.Elf.{e_entry, e_phoff, e_phnum, e_shoff, e_shnum, has_sections, program_header, program_headers, section_header, section_headers}
use Rattle.scale_base.specs.Image.{image_of, contents, image_rules, load_headers, is_load, loaded_headers, file_place, text_of_section, text_of_segment, text_start_of, text_end_of, text_parts, text_ranges, range_of, is_in}
use Rattle.elf_patch.specs.Stored.{patched, block_start, keyed_number, stored_image}
use Rattle.elf_patch.specs.Added.{added_file, code_table, code_sections}
use Rattle.elf_patch.proofs.Laws.{sections_in_file, page_at-le}
use Rattle.stored_laws.proofs.Laws.{half-same, word-same, Known, known, Away, length-patched, patched-away, Places, stored-is, kept_header, loads-kept, loads-split}
use Rattle.machine_laws.proofs.Laws.{list_any-ranges_of}
use Rattle.image_lower.specs.FarJumps.{touches_table, is_in_table}
use Rattle.image_lower.specs.Meets.{in_block}
use Rattle.image_lower.proofs.AddedBytes.{IsLoaded, IsAdded, added-is}
use Rattle.image_lower.proofs.CodeTable.{code_header, code_section_header, length-table, added-headers, added-sections, header_same, section_same, all_same}
use Rattle.image_lower.proofs.MadeImage.{or_false}
use Rattle.image_lower.proofs.MadeMemory.{IsMade, empty_block}

-- ---- the block as a part of the text

abbrev part_of_block : ℕ → ℕ → ℕ → TextPart
part_of_block place base len = record { span = record { from = base; len = len }; place = place }

section_part : (place base len : ℕ) → 0 < len → text_of_section (code_section_header place base len) ≡ Some (part_of_block place base len)
section_part place base len some = rw (lt-ltb 0 len some) refl

segment_by : (place base len start end : ℕ) → 0 < len → start ≡ base → end ≡ base + len →
    (if nat_lt start end then Some (record { span = record { from = start; len = end - start }; place = place + (start - base) }) else None) ≡ Some (part_of_block place base len)
segment_by place base len start end some e f =
    let long : base + len - base ≡ len = omega arith in
    let here : place + (base - base) ≡ place = omega arith in
    let lt : nat_lt base (base + len) ≡ true = lt-ltb base (base + len) (omega (arith, some)) in
    rw (e, f, lt, long, here) refl

segment_part : (place base len : ℕ) → 0 < len → base % 4 ≡ 0 → len % 4 ≡ 0 → 52 ≤ place → text_of_segment (code_header place base len) ≡ Some (part_of_block place base len)
segment_part place base len some even whole behind =
    segment_by place base len (text_start_of (code_header place base len)) (text_end_of (code_header place base len)) some (omega (arith, even, behind)) (omega (arith, even, whole))

-- one more part
any_more : {A : Type 0} (P : TextPart → Bool) (f : A → Option TextPart) (xs ys : List A) (x : A) (part : TextPart) → f x ≡ Some part →
    list_any P (filter_map f (xs ++ x ∷ ys)) ≡ (list_any P (filter_map f (xs ++ ys)) || P part)
any_more P f xs ys x part e =
    let front = filter_map f xs in
    let back = filter_map f ys in
    ap (list_any P) (filter_map-append f xs (x ∷ ys)) ∙ (list_any-append P front (filter_map f (x ∷ ys))
    ∙ (ap (λ o. list_any P front || list_any P (cons_option o back)) e
    ∙ (moved (list_any P front) (P part) (list_any P back)
    ∙ ap (λ b. b || P part) (sym (list_any-append P front back) ∙ ap (list_any P) (sym (filter_map-append f xs ys))))))
  where
    moved : (a b c : Bool) → (a || (b || c)) ≡ ((a || c) || b)
    moved true b c = refl
    moved false true true = refl
    moved false true false = refl
    moved false false true = refl
    moved false false false = refl

-- ---- a file with a block added

pub record IsMadeFile (file made : List ℕ) (patches : List Patch) (base : ℕ) (block : List ℕ) : Type 0 where
  pub is : IsMade file made patches base block
  pub entry : e_entry made ≡ e_entry file

away : (file : List ℕ) (patches : List Patch) (i : ℕ) → Places file patches → i < 52 → All (Away file i) patches
away file patches i h lt = λ k d l q e. let p = h k d l q e in let behind = p.behind in (p.within, inl (omega (arith, behind, lt)))

not_zero : (n : ℕ) → 0 < n → not (n == 0) ≡ true
not_zero n lt = grind (arith, nat_tests)

module _ (file : List ℕ) (patches : List Patch) (base : ℕ) (block : List ℕ) (read : image_of file ≡ Ok (contents file)) (rules : AllHold (image_rules file)) (short : length file ≤ 4194304) (short_block : length block ≤ 4194304) (some : 0 < length block) (whole : length block % 4 ≡ 0)
    (page : base % 4096 ≡ 0) (low : base < 2 ^ 32) (room : has_sections file ≡ true → e_shnum file < 65535) (places : Places file patches) where
  abbrev len : ℕ
  len = length block

  abbrev place : ℕ
  place = block_start file

  abbrev at : ℕ
  at = place + len

  abbrev made : List ℕ
  made = added_file file patches base block

  abbrev hs : List ProgramHeader
  hs = program_headers file

  k : Known file
  k = known file rules

  a : IsAdded file made (code_table file place base len) (code_sections file place base len) block patches at
  a = added-is file patches base block k.long short k.few short_block places room (length-table file place base len k.table)

  place_low : place < 2 ^ 32
  place_low = omega (arith, short)

  len_low : len < 2 ^ 32
  len_low = omega (arith, short_block)

  behind : 52 ≤ place
  behind = let above = page_at-le (length file) in let long = k.long in omega (arith, above, long)

  loaded : loaded_headers made ≡ load_headers (take (keyed_number file base) hs) ++ code_header place base len ∷ load_headers (drop (keyed_number file base) hs)
  loaded =
      let n = keyed_number file base in
      let s = stored-is file patches base base block k.long short k.few short_block places in
      let new = added-headers file made (code_sections file place base len) block patches place base len at a k.table (stored_image file patches base block base) s place_low low len_low in
      ap load_headers new ∙ (filter-append is_load (map kept_header (take n hs)) (code_header place base len ∷ map kept_header (drop n hs)) ∙ rw (loads-kept (take n hs), loads-kept (drop n hs)) refl)

  low_byte : (i : ℕ) → i < 52 → IsLoaded i → get_or made i 0 ≡ get_or file i 0
  low_byte i lt h = let long = k.long in a.same i (omega (arith, lt, long)) h ∙ patched-away file patches i (away file patches i places lt)

  has_on : has_sections file ≡ true → has_sections made ≡ true
  has_on on =
      let one : not (e_shoff made == 0) ≡ true = ap (λ n. not (n == 0)) (a.shoff on) ∙ not_zero (at + length (code_table file place base len)) (omega (arith, behind)) in
      let two : not (e_shnum made == 0) ≡ true = ap (λ n. not (n == 0)) (a.shnum on) ∙ not_zero (e_shnum file + 1) (omega arith) in
      rw (one, two) refl

  has_off : has_sections file ≡ false → has_sections made ≡ has_sections file
  has_off off =
      let long = k.long in
      let byte = λ (i : ℕ) (lt : i < 52) (x : (i < 28) ⊎ (32 ≤ i)) (y : (i < 44) ⊎ (46 ≤ i)). a.kept off i (omega (arith, lt, long)) x y ∙ patched-away file patches i (away file patches i places lt) in
      let shoff : e_shoff made ≡ e_shoff file = word-same made file 32 32 (λ i lt. byte (32 + i) (omega (arith, lt)) (inr (omega arith)) (inl (omega (arith, lt)))) in
      let shnum : e_shnum made ≡ e_shnum file = half-same made file 48 48 (byte 48 (omega arith) (inr (omega arith)) (inr (omega arith))) (byte 49 (omega arith) (inr (omega arith)) (inr (omega arith))) in
      rw (shoff, shnum) refl

  parts_any : (P : TextPart → Bool) → list_any P (text_parts made (loaded_headers made)) ≡ (list_any P (text_parts file (loaded_headers file)) || P (part_of_block place base len))
  unfolding text_parts
  parts_any P = by (has_sections file) refl
    where
      with_sections : has_sections file ≡ true → list_any P (if has_sections made then filter_map text_of_section (section_headers made) else filter_map text_of_segment (loaded_headers made)) ≡ (list_any P (filter_map text_of_section (section_headers file)) || P (part_of_block place base len))
      with_sections on =
          let sections = added-sections file made (code_table file place base len) block patches place base len at a on (sections_in_file file (contents file) read on) place_low low len_low in
          ap (λ (b : Bool). list_any P (if b then filter_map text_of_section (section_headers made) else filter_map text_of_segment (loaded_headers made))) (has_on on)
          ∙ (ap (λ (xs : List SectionHeader). list_any P (filter_map text_of_section xs)) sections
          ∙ (any_more P text_of_section (section_headers file) [] (code_section_header place base len) (part_of_block place base len) (section_part place base len some)
          ∙ ap (λ (xs : List SectionHeader). list_any P (filter_map text_of_section xs) || P (part_of_block place base len)) (append_nil (section_headers file))))
        where
          append_nil : (xs : List SectionHeader) → xs ++ [] ≡ xs
          append_nil [] = refl
          append_nil (x ∷ xs) = ap (λ (ys : List SectionHeader). x ∷ ys) (append_nil xs)

      without : has_sections file ≡ false → list_any P (if has_sections made then filter_map text_of_section (section_headers made) else filter_map text_of_segment (loaded_headers made)) ≡ (list_any P (filter_map text_of_segment (loaded_headers file)) || P (part_of_block place base len))
      without off =
          let n = keyed_number file base in
          ap (λ (b : Bool). list_any P (if b then filter_map text_of_section (section_headers made) else filter_map text_of_segment (loaded_headers made))) (has_off off ∙ off)
          ∙ (ap (λ (xs : List ProgramHeader). list_any P (filter_map text_of_segment xs)) loaded
          ∙ (any_more P text_of_segment (load_headers (take n hs)) (load_headers (drop n hs)) (code_header place base len) (part_of_block place base len) (segment_part place base len some (omega (arith, page)) whole behind)
          ∙ ap (λ (xs : List ProgramHeader). list_any P (filter_map text_of_segment xs) || P (part_of_block place base len)) (sym (loads-split hs n))))

      by : (b : Bool) → has_sections file ≡ b → list_any P (if has_sections made then filter_map text_of_section (section_headers made) else filter_map text_of_segment (loaded_headers made))
          ≡ (list_any P (if has_sections file then filter_map text_of_section (section_headers file) else filter_map text_of_segment (loaded_headers file)) || P (part_of_block place base len))
      by true e = with_sections e ∙ sym (ap (λ (b : Bool). list_any P (if b then filter_map text_of_section (section_headers file) else filter_map text_of_segment (loaded_headers file)) || P (part_of_block place base len)) e)
      by false e = without e ∙ sym (ap (λ (b : Bool). list_any P (if b then filter_map text_of_section (section_headers file) else filter_map text_of_segment (loaded_headers file)) || P (part_of_block place base len)) e)

  text_is : (v : ℕ) → list_any (is_in v) (text_ranges made) ≡ (list_any (is_in v) (text_ranges file) || in_block base len v)
  unfolding text_ranges
  text_is v =
      list_any-ranges_of (is_in v) (text_parts made (loaded_headers made))
      ∙ (parts_any (λ part. is_in v (range_of part))
      ∙ ap (λ (b : Bool). b || in_block base len v) (sym (list_any-ranges_of (is_in v) (text_parts file (loaded_headers file)))))

  pub made_added : IsMadeFile file made patches base block
  made_added =
      let n = keyed_number file base in
      let size = a.size in
      let at_is = a.at_is in
      let above = a.above in
      record {
        is = record {
          before = load_headers (take n hs);
          behind = load_headers (drop n hs);
          extra = code_header place base len ∷ [];
          old = loads-split hs n;
          new = loaded;
          longer = omega (arith, size, above);
          same = a.same;
          text = text_is;
          extra_is = inr refl;
          block_is = a.block_is;
        };
        entry = word-same made file 24 24 (λ i lt. low_byte (24 + i) (omega (arith, lt)) (record { tables = inl (omega (arith, lt)); phnum = inl (omega (arith, lt)); shnum = inl (omega (arith, lt)) }));
      }

-- ---- a file with patched words alone

-- the patched words lie outside the program header table
abbrev pub AreOffTable : List ℕ → List Patch → Type 0
AreOffTable file patches = All (λ p. is_in_table file p.at ≡ false) patches

share_byte : (q from len i : ℕ) → q ≤ i → i < q + 4 → from ≤ i → i < from + len → overlap (record { from = q; len = 4 }) (record { from = from; len = len }) ≡ true
share_byte q from len i a b c d = grind (arith, nat_tests)

share_none : (q from len i : ℕ) → overlap (record { from = q; len = 4 }) (record { from = from; len = len }) ≡ false → from ≤ i → i < from + len → (i < q) ⊎ (q + 4 ≤ i)
share_none q from len i e low high = elim (cases_lt i q) [
  | inl before ↦ inl before
  | inr above ↦ elim (cases_lt i (q + 4)) [
    | inl inside ↦ absurd (both_ways _ e (share_byte q from len i above inside low high))
    | inr behind ↦ inr behind
  ]
]

module _ (file : List ℕ) (patches : List Patch) (base : ℕ) (read : image_of file ≡ Ok (contents file)) (rules : AllHold (image_rules file)) (places : Places file patches) (off_table : AreOffTable file patches) where
  abbrev new : List ℕ
  new = patched file patches

  fits : All (λ p. (q : ℕ) → file_place file p.at ≡ Some q → q + 4 ≤ length file) patches
  fits = λ k d lt q e. (places k d lt q e).within

  header_byte : (i : ℕ) → i < 52 → get_or new i 0 ≡ get_or file i 0
  header_byte i lt = patched-away file patches i (away file patches i places lt)

  same_word : (i : ℕ) → i + 4 ≤ 52 → list_word_at new i ≡ list_word_at file i
  same_word i le = word-same new file i i (λ j lt. header_byte (i + j) (omega (arith, le, lt)))

  same_half : (i : ℕ) → i + 2 ≤ 52 → list_half_at new i ≡ list_half_at file i
  same_half i le = half-same new file i i (header_byte i (omega (arith, le))) (header_byte (i + 1) (omega (arith, le)))

  same_phoff : e_phoff new ≡ e_phoff file
  same_phoff = same_word 28 (omega arith)

  same_phnum : e_phnum new ≡ e_phnum file
  same_phnum = same_half 44 (omega arith)

  same_shoff : e_shoff new ≡ e_shoff file
  same_shoff = same_word 32 (omega arith)

  same_shnum : e_shnum new ≡ e_shnum file
  same_shnum = same_half 48 (omega arith)

  same_has : has_sections new ≡ has_sections file
  same_has = rw (same_shoff, same_shnum) refl

  -- a byte of the program header table
  entry_byte : (i : ℕ) → e_phoff file ≤ i → i < e_phoff file + 32 * e_phnum file → get_or new i 0 ≡ get_or file i 0
  entry_byte i low high = patched-away file patches i (λ k d lt q e.
      ((places k d lt q e).within, share_none q (e_phoff file) (32 * e_phnum file) i (subst (λ o. touches_table file o ≡ false) e (off_table k d lt)) low high))

  -- a byte of the section header table
  section_byte : (i : ℕ) → has_sections file ≡ true → e_shoff file ≤ i → i < e_shoff file + 40 * e_shnum file → get_or new i 0 ≡ get_or file i 0
  section_byte i on low high = patched-away file patches i (λ k d lt q e. let p = places k d lt q e in (p.within, by q (p.off_table on).1))
    where
      by : (q : ℕ) → (q + 4 ≤ e_shoff file) ⊎ (e_shoff file + 40 * e_shnum file ≤ q) → (i < q) ⊎ (q + 4 ≤ i)
      by q (inl before) = inr (omega (arith, before, low))
      by q (inr past) = inl (omega (arith, past, high))

  same_headers : program_headers new ≡ program_headers file
  unfolding program_headers
  same_headers =
      ap (λ (n : ℕ). map (program_header new) (range_with_len 0 n)) same_phnum
      ∙ all_same (program_header new) (program_header file) 0 (e_phnum file) (λ j low high. header_same new file j same_phoff (λ c le.
      word-same new file (e_phoff new + 32 * j + c) (e_phoff new + 32 * j + c) (λ i lt.
      entry_byte (e_phoff new + 32 * j + c + i) (omega (arith, same_phoff)) (omega (arith, same_phoff, high, le, lt)))))

  same_sections : has_sections file ≡ true → section_headers new ≡ section_headers file
  unfolding section_headers
  same_sections on =
      ap (λ (n : ℕ). map (section_header new) (range_with_len 0 n)) same_shnum
      ∙ all_same (section_header new) (section_header file) 0 (e_shnum file) (λ j low high.
      section_same new file j (e_shoff file + 40 * j) (ap (λ n. n + 40 * j) same_shoff) (e_shoff file + 40 * j) refl (λ c lt.
      section_byte (e_shoff file + 40 * j + c) on (omega arith) (omega (arith, high, lt))))

  same_loaded : loaded_headers new ≡ loaded_headers file
  same_loaded = ap load_headers same_headers

  same_parts : text_parts new (loaded_headers new) ≡ text_parts file (loaded_headers file)
  unfolding text_parts
  same_parts =
      ap (λ (b : Bool). if b then filter_map text_of_section (section_headers new) else filter_map text_of_segment (loaded_headers new)) same_has
      ∙ by (has_sections file) refl
    where
      by : (b : Bool) → has_sections file ≡ b → (if b then filter_map text_of_section (section_headers new) else filter_map text_of_segment (loaded_headers new)) ≡ (if b then filter_map text_of_section (section_headers file) else filter_map text_of_segment (loaded_headers file))
      by true on = ap (filter_map text_of_section) (same_sections on)
      by false off = ap (filter_map text_of_segment) same_loaded

  same_text : (v : ℕ) → list_any (is_in v) (text_ranges new) ≡ (list_any (is_in v) (text_ranges file) || in_block base 0 v)
  unfolding text_ranges
  same_text v =
      list_any-ranges_of (is_in v) (text_parts new (loaded_headers new))
      ∙ (ap (list_any (λ part. is_in v (range_of part))) same_parts
      ∙ (sym (list_any-ranges_of (is_in v) (text_parts file (loaded_headers file)))
      ∙ (sym (or_false (list_any (is_in v) (text_ranges file))) ∙ ap (λ (b : Bool). list_any (is_in v) (text_ranges file) || b) (sym (empty_block base 0 v refl)))))

  pub made_patched : IsMadeFile file new patches base []
  made_patched = record {
    is = record {
      before = [];
      behind = loaded_headers file;
      extra = [];
      old = refl;
      new = same_loaded;
      longer = let size = length-patched file patches fits in omega (arith, size);
      same = λ i lt h. refl;
      text = same_text;
      extra_is = inl (refl, refl);
      block_is = λ j lt. absurd (omega (arith, lt));
    };
    entry = same_word 24 (omega arith);
  }
