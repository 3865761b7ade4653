-- What the memory of a made image holds, and what may be done with it.
use Rattle.std.proofs.Common.{◌≡◌, ◌≢◌, ℕ, ◌+◌, ◌-◌, ◌%◌, ◌<◌, ◌≤◌, Bool, true, false, not, cond, ◌&&◌, ◌||◌, List, [], ◌∷◌, ◌++◌, length, map, get_or, Option, Some, None, Ok, refl, sym, ap, subst, ◌∙◌, arith, inl, inr, ◌⊎◌}
use Rattle.std.specs.Prelude.{nat_lt, nat_le, ◌==◌, find, option_map, All, slice_range}
use Rattle.std.specs.List.{list_any}
use Rattle.std.proofs.Math.Path.{fun_ext}
use Rattle.std.proofs.lemmas.Bool.{le-leb, lt-ltb, leb-true, ltb-true, cases_lt, and_parts, and_from, or_left, or_from, or_cases, both_ways, not-true, false_from_ne_true, eqb-true}
use Rattle.scale_base.specs.declared.headers.ProgramHeader.{ProgramHeader}
use Rattle.scale_base.specs.declared.ranges.Span.{Span}
use Rattle.scale_base.specs.declared.ranges.Patch.{Patch}
use Rattle.scale_base.specs.Bytes.{byte_at}
use Rattle.scale_base.specs.Elf.{has}
use Rattle.scale_base.specs.Spans.{in_span, overlap, ends_by}
use Rattle.scale_base.specs.Image.{image_of, contents, segment_of, addresses_of, covers, segment_byte, byte_in, loaded_byte, loaded_headers, is_zeroed, memory_range, file_part, header_has_word, file_place, is_fit, is_word_address, is_in, text_ranges, stack, has_key, keyed_of}
use Rattle.scale_base.specs.Layout.{Layout, Part, layout_of, in_text, in_option, is_keyed, in_stack, may_read, may_write, reads_byte, can_fetch}
use Rattle.scale_base.proofs.Laws.{rules_kept, has_table, rules_of}
use Rattle.elf_patch.specs.Stored.{little, patched, block_start, is_free, window}
use Rattle.elf_patch.proofs.Laws.{page_at-le}
use Rattle.stored_laws.proofs.Laws.{length-slice_range, get_or-slice_range, Away, text_place, patched-away, Places}
use Rattle.machine_laws.proofs.Laws.{find-map, list_any-map, mapped_from, found_passes, found_keeps, found_from_any, any_from_found, SegmentsKept, segments_of, one_covers, loaded_byte-is, file_fits, part_word, in_part, share_address}
use Rattle.machine_laws.proofs.Laws as bytes
use Rattle.code_text.specs.Text.{text_of}
use Rattle.graph_runs.specs.TextStates.{IsTextOf}
use Rattle.graph_runs.proofs.Laws.{text_of_layout, text_off_stack}
use Rattle.stored_runs.proofs.Laws.{IsOff, SeeAlike, hidden}
use Rattle.image_lower.specs.Meets.{in_block}
use Rattle.image_lower.proofs.AddedBytes.{IsLoaded, off_zeroed}
use Rattle.image_lower.proofs.CodeTable.{code_header}
use Rattle.image_lower.proofs.MadeImage.{find_mid, find_new, any_mid, or_false, place_off, put_here, fetched_text, text_fetched, allows, any_allows, allowed_covers}
use Rattle.scale_base.specs.Run.{setting_of}

-- off the block its segment counts for nothing, and in it the old segments do
off_the_block : (i t old new : Bool) → (i ≡ true → old ≡ false) → (i ≡ false → new ≡ false) → ((old || new) && not (t || i)) ≡ (old && not t)
off_the_block true true true new h g = let bad = h refl in let never : ⊥ = cc in absurd never
off_the_block true true false true h g = refl
off_the_block true true false false h g = refl
off_the_block true false true new h g = let bad = h refl in let never : ⊥ = cc in absurd never
off_the_block true false false true h g = refl
off_the_block true false false false h g = refl
off_the_block false t old true h g = let bad = g refl in let never : ⊥ = cc in absurd never
off_the_block false true true false h g = refl
off_the_block false false true false h g = refl
off_the_block false t false false h g = refl

-- A made file: the patched original with other tables, and a block as one more segment and one more range of text, where there is one.
pub record IsMade (file made : List ℕ) (patches : List Patch) (base : ℕ) (block : List ℕ) : Type 0 where
  pub before : List ProgramHeader
  pub behind : List ProgramHeader
  pub extra : List ProgramHeader
  pub old : loaded_headers file ≡ before ++ behind
  pub new : loaded_headers made ≡ before ++ (extra ++ behind)
  pub longer : length file ≤ length made
  pub same : (i : ℕ) → i < length file → IsLoaded i → get_or made i 0 ≡ get_or (patched file patches) i 0
  pub text : (a : ℕ) → list_any (is_in a) (text_ranges made) ≡ (list_any (is_in a) (text_ranges file) || in_block base (length block) a)
  pub extra_is : ((length block ≡ 0) × (extra ≡ [])) ⊎ (extra ≡ code_header (block_start file) base (length block) ∷ [])
  pub block_is : (j : ℕ) → j < length block → get_or made (block_start file + j) 0 ≡ get_or block j 0

pub empty_block : (base len a : ℕ) → len ≡ 0 → in_block base len a ≡ false
empty_block base len a e = false_from_ne_true (in_block base len a) (λ on.
    let p = and_parts (nat_le base a) (nat_lt a (base + len)) on in
    let low = leb-true base a p.0 in
    let high = ltb-true a (base + len) p.1 in
    omega (arith, low, high, e))

block_has_word : (place base len at : ℕ) → header_has_word at (code_header place base len) ≡ true → in_block base len at ≡ true
block_has_word place base len at e =
    let p = and_parts (nat_le base at) (nat_le (at + 4) (base + len)) e in
    let high = leb-true (at + 4) (base + len) p.1 in
    and_from (nat_le base at) (nat_lt at (base + len)) p.0 (lt-ltb at (base + len) (omega (arith, high)))

off_word : (at pc j : ℕ) → at % 4 ≡ 0 → pc % 4 ≡ 0 → at ≢ pc → j < 4 → IsOff at (pc + j)
off_word at pc j even word other lt = elim (cases_lt (pc + j) at) [
  | inl before ↦ inl before
  | inr from ↦ elim (cases_lt (pc + j) (at + 4)) [
    | inl inside ↦ absurd (other (omega (arith, even, word, from, inside, lt)))
    | inr behind ↦ inr behind
  ]
]

segment_same : (file made : List ℕ) (h : ProgramHeader) (a : ℕ) → h.p_offset + h.p_filesz ≤ length file → length file ≤ length made
    → (a - h.p_vaddr < h.p_filesz → is_zeroed (h.p_offset + (a - h.p_vaddr)) ≡ false → byte_at made (h.p_offset + (a - h.p_vaddr)) ≡ byte_at file (h.p_offset + (a - h.p_vaddr)))
    → segment_byte a (segment_of made h) ≡ segment_byte a (segment_of file h)
segment_same file made h a fits longer same =
    let j = a - h.p_vaddr in
    let old_length : length (slice_range file h.p_offset (h.p_offset + h.p_filesz)) ≡ h.p_filesz = length-slice_range file h.p_offset h.p_filesz fits in
    let new_length : length (slice_range made h.p_offset (h.p_offset + h.p_filesz)) ≡ h.p_filesz = length-slice_range made h.p_offset h.p_filesz (omega (arith, fits, longer)) in
    rw (old_length, new_length)
    (value_same (nat_lt j h.p_filesz) (is_zeroed (h.p_offset + j)) _ _ (λ lt z.
    let low = ltb-true j h.p_filesz lt in
    get_or-slice_range made h.p_offset h.p_filesz j low ∙ (same low z ∙ sym (get_or-slice_range file h.p_offset h.p_filesz j low))))
  where
    value_same : (b z : Bool) (x y : ℕ) → (b ≡ true → z ≡ false → x ≡ y) → cond (b && not z) x 0 ≡ cond (b && not z) y 0
    value_same true true x y h = refl
    value_same true false x y h = h refl refl
    value_same false z x y h = refl

module _ (file made : List ℕ) (patches : List Patch) (base : ℕ) (block : List ℕ) (e : image_of file ≡ Ok (contents file)) (e2 : image_of made ≡ Ok (contents made))
    (words : All (λ p. is_word_address (contents file) p.at ≡ true) patches) (free : is_free (contents file) (length block) base ≡ true) (no_key : (contents file).keyed_segment ≡ None) (m : IsMade file made patches base block) where
  abbrev hs : List ProgramHeader
  hs = loaded_headers file

  abbrev key : Span
  key = record { from = base; len = length block }

  abbrev inside : ℕ → Bool
  inside a = in_block base (length block) a

  kept : SegmentsKept file
  kept = segments_of file (contents file) e

  kept_too : SegmentsKept made
  kept_too = segments_of made (contents made) e2

  -- ---- the block shares no address with the segments

  spare : list_any (overlap key) (map addresses_of (map (segment_of file) hs)) ≡ false
  unfolding contents
  spare = three (overlap key stack) (overlap key window) (list_any (overlap key) (map addresses_of (map (segment_of file) hs))) free
    where
      three : (a b c : Bool) → not (a || (b || c)) ≡ true → c ≡ false
      three true b c g = let never : ⊥ = cc in absurd never
      three false true c g = let never : ⊥ = cc in absurd never
      three false false c g = not-true c g

  abbrev found_at : ℕ → Option ProgramHeader
  found_at a = find (λ k. in_span (memory_range k) a) hs

  covered : (a : ℕ) → list_any (λ k. in_span (memory_range k) a) hs ≡ true → inside a ≡ false
  covered a any = false_from_ne_true (inside a) (λ on.
      let g = found_from_any (λ k. in_span (memory_range k) a) hs any in
      let shares = share_address key (memory_range g.0) a on (found_passes (λ k. in_span (memory_range k) a) hs g.0 g.1) in
      let off : list_any (λ k. overlap key (memory_range k)) hs ≡ false = sym (list_any-map (λ x. overlap key (addresses_of x)) (segment_of file) hs) ∙ (sym (list_any-map (overlap key) addresses_of (map (segment_of file) hs)) ∙ spare) in
      both_ways (list_any (λ k. overlap key (memory_range k)) hs) off (any_from_found (λ k. in_span (memory_range k) a) (λ k. overlap key (memory_range k)) hs g.0 g.1 shares))

  any_of : (a : ℕ) (g : ProgramHeader) → found_at a ≡ Some g → list_any (λ k. in_span (memory_range k) a) hs ≡ true
  any_of a g found = any_from_found (λ k. in_span (memory_range k) a) (λ k. in_span (memory_range k) a) hs g found (found_passes (λ k. in_span (memory_range k) a) hs g found)

  pub text_off : (a : ℕ) → list_any (is_in a) (text_ranges file) ≡ true → inside a ≡ false
  text_off a on =
      let t = bytes.in_text file a kept (rules_of file (rules_kept file (contents file) e)).text on in
      covered a (any_of a t.segment t.covers)

  extra_covers : (a : ℕ) → list_any (λ h. in_span (memory_range h) a) m.extra ≡ inside a
  extra_covers a = elim m.extra_is [
    | inl none ↦ ap (λ (xs : List ProgramHeader). list_any (λ h. in_span (memory_range h) a) xs) none.1 ∙ sym (empty_block base (length block) a none.0)
    | inr one ↦ ap (λ (xs : List ProgramHeader). list_any (λ h. in_span (memory_range h) a) xs) one ∙ or_false (inside a)
  ]

  extra_words : (at : ℕ) → inside at ≡ false → list_any (header_has_word at) m.extra ≡ false
  extra_words at off = elim m.extra_is [
    | inl none ↦ ap (λ (xs : List ProgramHeader). list_any (header_has_word at) xs) none.1
    | inr one ↦ ap (λ (xs : List ProgramHeader). list_any (header_has_word at) xs) one ∙ (or_false (header_has_word at (code_header (block_start file) base (length block)))
        ∙ false_from_ne_true (header_has_word at (code_header (block_start file) base (length block))) (λ has. both_ways (inside at) off (block_has_word (block_start file) base (length block) at has)))
  ]

  -- what is found in the made image's segments off the block
  found_same : (p : ProgramHeader → Bool) → list_any p m.extra ≡ false → find p (loaded_headers made) ≡ find p hs
  found_same p off = ap (find p) m.new ∙ (find_mid p m.before m.extra m.behind off ∙ ap (find p) (sym m.old))

  -- ---- patches

  places : Places file patches
  places = λ k d lt q f. text_place file (get_or patches k d).at q (rules_kept file (contents file) e) (words k d lt) f

  pub word_in : (pc : ℕ) → is_word_address (contents file) pc ≡ true → (pc % 4 ≡ 0) × (list_any (is_in pc) (text_ranges file) ≡ true)
  unfolding contents
  word_in pc word = let a = and_parts (pc % 4 == 0) (list_any (is_in pc) (text_ranges file)) word in (eqb-true (pc % 4) 0 a.0, a.1)

  has_place : (pc : ℕ) → is_word_address (contents file) pc ≡ true → (h : ProgramHeader) × (find (header_has_word pc) hs ≡ Some h)
  has_place pc word =
      let w = word_in pc word in
      let t = bytes.in_text file pc kept (rules_of file (rules_kept file (contents file) e)).text w.1 in
      let last = in_part (pc + 3) t.part (part_word t.part pc 3 t.placed.first t.placed.size w.0 (omega arith) t.inside) in
      let first = in_part pc t.part t.inside in
      let low = t.holds.low in
      let high = t.holds.high in
      let has : header_has_word pc t.segment ≡ true =
      and_from (nat_le t.segment.p_vaddr pc) (nat_le (pc + 4) (t.segment.p_vaddr + t.segment.p_filesz))
      (le-leb t.segment.p_vaddr pc (omega (arith, first.0, low))) (le-leb (pc + 4) (t.segment.p_vaddr + t.segment.p_filesz) (omega (arith, last.1, high))) in
      found_from_any (header_has_word pc) hs (any_from_found (λ x. in_span (memory_range x) pc) (header_has_word pc) hs t.segment t.covers has)

  abbrev place_in : ℕ → ProgramHeader → ℕ
  place_in a h = h.p_offset + (a - h.p_vaddr)

  patch_even : (k : ℕ) (d : Patch) → k < length patches → (get_or patches k d).at % 4 ≡ 0
  patch_even k d lt = (word_in (get_or patches k d).at (words k d lt)).0

  low_of : (a : ℕ) (g : ProgramHeader) → found_at a ≡ Some g → g.p_vaddr ≤ a
  low_of a g found = leb-true g.p_vaddr a (and_parts (nat_le g.p_vaddr a) (nat_lt a (g.p_vaddr + g.p_memsz)) (found_passes (λ k. in_span (memory_range k) a) hs g found)).0

  -- a byte off a patched word is away from its place
  away : (a : ℕ) (g : ProgramHeader) (p : Patch) → found_at a ≡ Some g → a - g.p_vaddr < g.p_filesz → ((q : ℕ) → file_place file p.at ≡ Some q → q + 4 ≤ length file) → IsOff p.at a → Away file (place_in a g) p
  away a g p found below within off = λ q f.
      let o = mapped_from (λ k. k.p_offset + (p.at - k.p_vaddr)) (find (header_has_word p.at) hs) q f in
      let r = place_off hs a p.at g o.0 kept.apart found o.1 (low_of a g found) below off in
      (within q f, subst (λ r. (place_in a g < r) ⊎ (r + 4 ≤ place_in a g)) o.2 r)

  -- ---- a byte that stays

  inside_file : (a : ℕ) (g : ProgramHeader) → found_at a ≡ Some g → g.p_offset + g.p_filesz ≤ length file
  inside_file a g found = leb-true (g.p_offset + g.p_filesz) (length file) (found_keeps (λ k. in_span (memory_range k) a) (λ k. ends_by (length file) (file_part k)) hs g found kept.inside)

  same_by : (a : ℕ) (o : Option ProgramHeader) → found_at a ≡ o → All (λ p. IsOff p.at a) patches → byte_in a (option_map (segment_of made) o) ≡ byte_in a (option_map (segment_of file) o)
  same_by a None found off = refl
  same_by a (Some g) found off =
      let fit = inside_file a g found in
      segment_same file made g a fit m.longer (λ below z.
      m.same (place_in a g) (omega (arith, below, fit)) (off_zeroed (place_in a g) z)
      ∙ patched-away file patches (place_in a g) (λ k d lt. away a g (get_or patches k d) found below (λ q f. (places k d lt q f).within) (off k d lt)))

  pub byte_same : (a : ℕ) → inside a ≡ false → All (λ p. IsOff p.at a) patches → loaded_byte (contents made) a ≡ loaded_byte (contents file) a
  unfolding loaded_byte contents
  byte_same a out off =
      ap (byte_in a) (find-map (covers a) (segment_of made) (loaded_headers made) ∙ ap (option_map (segment_of made)) (found_same (λ k. in_span (memory_range k) a) (extra_covers a ∙ out)))
      ∙ (same_by a (found_at a) refl off ∙ sym (ap (byte_in a) (find-map (covers a) (segment_of file) hs)))

  pub plain_byte : (pc j : ℕ) → is_word_address (contents file) pc ≡ true → All (λ p. p.at ≢ pc) patches → j < 4 → loaded_byte (contents made) (pc + j) ≡ loaded_byte (contents file) (pc + j)
  plain_byte pc j word off lt =
      let w = word_in pc word in
      let on = bytes.word_in_text file pc j (rules_of file (rules_kept file (contents file) e)).text w.0 lt w.1 in
      byte_same (pc + j) (text_off (pc + j) on) (λ k d below. off_word (get_or patches k d).at pc j (patch_even k d below) w.0 (off k d below) lt)

  -- ---- a byte of a patched word

  word_found : (pc j : ℕ) (g : ProgramHeader) → find (header_has_word pc) hs ≡ Some g → j < 4 → found_at (pc + j) ≡ Some g
  word_found pc j g found lt = one_covers (header_has_word pc) (pc + j) hs g (λ k has fit. in_memory k has fit) kept.fit kept.apart found
    where
      in_memory : (k : ProgramHeader) → header_has_word pc k ≡ true → is_fit k ≡ true → in_span (memory_range k) (pc + j) ≡ true
      in_memory k has fit =
          let w = and_parts (nat_le k.p_vaddr pc) (nat_le (pc + 4) (k.p_vaddr + k.p_filesz)) has in
          let from = leb-true k.p_vaddr pc w.0 in
          let to = leb-true (pc + 4) (k.p_vaddr + k.p_filesz) w.1 in
          let small = file_fits k fit in
          and_from (nat_le k.p_vaddr (pc + j)) (nat_lt (pc + j) (k.p_vaddr + k.p_memsz)) (le-leb k.p_vaddr (pc + j) (omega (arith, from))) (lt-ltb (pc + j) (k.p_vaddr + k.p_memsz) (omega (arith, to, small, lt)))

  pub patched_byte : (pc w j : ℕ) → is_word_address (contents file) pc ≡ true → All (λ p. p.at ≡ pc → p.word ≡ w) patches → list_any (λ (p : Patch). p.at == pc) patches ≡ true → j < 4 → loaded_byte (contents made) (pc + j) ≡ get_or (little 4 w) j 0
  patched_byte pc w j word same some lt =
      let a = word_in pc word in
      let h = has_place pc word in
      let g = h.0 in
      let q = place_in pc g in
      let place : file_place file pc ≡ Some q = ap (option_map (λ x. x.p_offset + (pc - x.p_vaddr))) h.1 in
      let text = text_place file pc q (rules_kept file (contents file) e) word place in
      let behind = text.behind in
      let within = text.within in
      let has = and_parts (nat_le g.p_vaddr pc) (nat_le (pc + 4) (g.p_vaddr + g.p_filesz)) (found_passes (header_has_word pc) hs g h.1) in
      let from = leb-true g.p_vaddr pc has.0 in
      let to = leb-true (pc + 4) (g.p_vaddr + g.p_filesz) has.1 in
      let on : list_any (is_in pc) (text_ranges made) ≡ true = m.text pc ∙ or_left (list_any (is_in pc) (text_ranges file)) (inside pc) a.1 in
      let found = found_same (header_has_word pc) (extra_words pc (text_off pc a.1)) ∙ h.1 in
      let moved : place_in (pc + j) g ≡ q + j = omega (arith, from) in
      let loaded : IsLoaded (q + j) = record { tables = inr (omega (arith, behind)); phnum = inr (omega (arith, behind)); shnum = inr (omega (arith, behind)) } in
      bytes.byte_loaded made pc j g kept_too (rules_of made (rules_kept made (contents made) e2)).text a.0 lt on found
      ∙ (m.same (q + j) (omega (arith, within, lt)) loaded
      ∙ put_here file file patches pc w q j refl places place lt same
      (λ k d l other. subst (λ i. Away file i (get_or patches k d)) moved (away (pc + j) g (get_or patches k d) (word_found pc j g h.1 lt) (omega (arith, from, to, lt)) (λ r f. (places k d l r f).within) (off_word (get_or patches k d).at pc j (patch_even k d l) a.0 other lt)))
      (inr some))

  -- ---- a byte of the block

  pub block_byte : (j : ℕ) → j < length block → loaded_byte (contents made) (base + j) ≡ get_or block j 0
  block_byte j lt = elim m.extra_is [
    | inl none ↦ let zero_long = none.0 in absurd (omega (arith, lt, zero_long))
    | inr one ↦
        let a = base + j in
        let header = code_header (block_start file) base (length block) in
        let on : inside a ≡ true = and_from (nat_le base a) (nat_lt a (base + length block)) (le-leb base a (omega arith)) (lt-ltb a (base + length block) (omega (arith, lt))) in
        let none : found_at a ≡ None = none_at a (found_at a) refl on in
        let split : find (λ k. in_span (memory_range k) a) (m.before ++ m.behind) ≡ None = ap (find (λ k. in_span (memory_range k) a)) (sym m.old) ∙ none in
        let found : find (λ k. in_span (memory_range k) a) (loaded_headers made) ≡ Some header =
        ap (find (λ k. in_span (memory_range k) a)) (m.new ∙ ap (λ (xs : List ProgramHeader). m.before ++ (xs ++ m.behind)) one) ∙ find_new (λ k. in_span (memory_range k) a) m.before m.behind header on split in
        let above = page_at-le (length file) in
        let long = (has_table file (contents file) e).long in
        let back : base + j - base ≡ j = omega arith in
        loaded_byte-is made header a kept_too found (omega (arith, lt, back)) (omega (arith, above, long))
        ∙ (ap (λ i. byte_at made (block_start file + i)) back ∙ m.block_is j lt)
  ]
    where
      none_at : (a : ℕ) (o : Option ProgramHeader) → found_at a ≡ o → inside a ≡ true → o ≡ None
      none_at a None found on = refl
      none_at a (Some g) found on = absurd (both_ways (inside a) (covered a (any_of a g found)) on)

  -- ---- the layout

  abbrev k : Layout
  k = layout_of (contents file)

  abbrev l : Layout
  l = layout_of (contents made)

  pub text_is : (a : ℕ) → in_text l a ≡ (in_text k a || inside a)
  unfolding layout_of contents
  text_is a = m.text a

  parts_of : (f : Part → Bool) (a : ℕ) → list_any (λ p. f p && in_span p.span a) k.parts ≡ list_any (allows file f a) hs
  unfolding layout_of contents
  parts_of f a = any_allows file f a hs

  parts_too : (f : Part → Bool) (a : ℕ) → list_any (λ p. f p && in_span p.span a) l.parts ≡ (list_any (allows file f a) hs || list_any (allows file f a) m.extra)
  unfolding layout_of contents
  parts_too f a =
      any_allows made f a (loaded_headers made)
      ∙ (ap (list_any (allows file f a)) m.new ∙ (any_mid (allows file f a) m.before m.extra m.behind ∙ ap (λ (xs : List ProgramHeader). list_any (allows file f a) xs || list_any (allows file f a) m.extra) (sym m.old)))

  -- the block's segment allows nothing off the block
  extra_allows : (f : Part → Bool) (a : ℕ) → inside a ≡ false → list_any (allows file f a) m.extra ≡ false
  extra_allows f a off = false_from_ne_true (list_any (allows file f a) m.extra) (λ on. both_ways (inside a) off (sym (extra_covers a) ∙ allowed_covers file f a m.extra on))

  old_allows : (f : Part → Bool) (a : ℕ) → inside a ≡ true → list_any (allows file f a) hs ≡ false
  old_allows f a on = false_from_ne_true (list_any (allows file f a) hs) (λ any. both_ways (inside a) (covered a (allowed_covers file f a hs any)) on)

  -- what may be done with the bytes that aren't text is the same
  same_use : (f : Part → Bool) (a : ℕ) → (list_any (λ p. f p && in_span p.span a) l.parts && not (in_text l a)) ≡ (list_any (λ p. f p && in_span p.span a) k.parts && not (in_text k a))
  same_use f a =
      let any_k = list_any (λ p. f p && in_span p.span a) k.parts in
      let old = list_any (allows file f a) hs in
      let new = list_any (allows file f a) m.extra in
      ap (λ x. x && not (in_text l a)) (parts_too f a)
      ∙ (ap (λ t. (old || new) && not t) (text_is a)
      ∙ (off_the_block (inside a) (in_text k a) old new (old_allows f a) (extra_allows f a)
      ∙ ap (λ x. x && not (in_text k a)) (sym (parts_of f a))))

  -- ---- no key

  unkeyed : (a : ℕ) → is_keyed k a ≡ false
  unfolding layout_of
  unkeyed a = ap (λ o. in_option a (option_map (λ k. k.range) o)) no_key

  extra_keys : list_any has_key m.extra ≡ false
  extra_keys = elim m.extra_is [
    | inl none ↦ ap (λ (xs : List ProgramHeader). list_any has_key xs) none.1
    | inr one ↦ ap (λ (xs : List ProgramHeader). list_any has_key xs) one
  ]

  pub no_key_too : (contents made).keyed_segment ≡ None
  unfolding contents
  no_key_too = ap (option_map keyed_of) (found_same has_key extra_keys) ∙ no_key

  unkeyed_too : (a : ℕ) → is_keyed l a ≡ false
  unfolding layout_of
  unkeyed_too a = ap (λ o. in_option a (option_map (λ k. k.range) o)) no_key_too

  -- ---- the layouts are alike

  reads_same : (pc : ℕ) → reads_byte l pc ≡ reads_byte k pc
  unfolding may_read
  reads_same pc = fun_ext (λ a.
      ap (λ key. may_read l a || (key && is_keyed l a)) (unkeyed_too pc)
      ∙ (ap (λ b. (in_stack a || b) || false) (same_use (λ p. p.readable) a)
      ∙ sym (ap (λ key. may_read k a || (key && is_keyed k a)) (unkeyed pc))))

  writes_same : may_write l ≡ may_write k
  unfolding may_write
  writes_same = fun_ext (λ a. ap (λ b. in_stack a || b) (same_use (λ p. p.writable) a))

  seen_if : (a : ℕ) → in_text l a ≡ false → hidden (contents made) a ≡ false
  seen_if a text = or_from (in_text l a) (is_keyed l a) text (unkeyed_too a)

  stack_seen : (a : ℕ) → in_stack a ≡ true → in_text l a ≡ false
  unfolding layout_of
  stack_seen a on = false_from_ne_true (in_text l a) (λ text. both_ways (in_stack a) (text_off_stack made (contents made) e2 a text) on)

  use_seen : (f : Part → Bool) (a : ℕ) → (in_stack a || (list_any (λ p. f p && in_span p.span a) k.parts && not (in_text k a))) ≡ true → hidden (contents made) a ≡ false
  use_seen f a on = elim (or_cases (in_stack a) (list_any (λ p. f p && in_span p.span a) k.parts && not (in_text k a)) on) [
    | inl here ↦ seen_if a (stack_seen a here)
    | inr there ↦
        let both = and_parts (list_any (λ p. f p && in_span p.span a) k.parts) (not (in_text k a)) there in
        let off = covered a (allowed_covers file f a hs (sym (parts_of f a) ∙ both.0)) in
        seen_if a (text_is a ∙ or_from (in_text k a) (inside a) (not-true (in_text k a) both.1) off)
  ]

  read_seen : (pc a : ℕ) → reads_byte k pc a ≡ true → hidden (contents made) a ≡ false
  unfolding may_read
  read_seen pc a on = elim (or_cases (may_read k a) (is_keyed k pc && is_keyed k a) on) [
    | inl here ↦ use_seen (λ p. p.readable) a here
    | inr there ↦ absurd (both_ways (is_keyed k pc) (unkeyed pc) (and_parts (is_keyed k pc) (is_keyed k a) there).0)
  ]

  write_seen : (a : ℕ) → may_write k a ≡ true → hidden (contents made) a ≡ false
  unfolding may_write
  write_seen a on = use_seen (λ p. p.writable) a on

  pub alike : (pc : ℕ) → SeeAlike k l (hidden (contents made)) pc
  alike pc = record { reads = reads_same pc; writes = writes_same; left = unkeyed pc; right = unkeyed_too pc; read_seen = read_seen pc; write_seen = write_seen }

  -- ---- what may be fetched

  text_of_made : (levels : ℕ) (input : List ℕ) → IsTextOf (text_of (contents made)) (setting_of (contents made) levels input)
  text_of_made levels input = text_of_layout made (contents made) levels input e2

  text_of_file : (levels : ℕ) (input : List ℕ) → IsTextOf (text_of (contents file)) (setting_of (contents file) levels input)
  text_of_file levels input = text_of_layout file (contents file) levels input e

  pub fetched_too : (pc : ℕ) → pc % 4 ≡ 0 → in_text l pc ≡ true → can_fetch l pc ≡ true
  unfolding layout_of
  fetched_too pc even on = fetched_text (text_of (contents made)) (setting_of (contents made) 0 []) (text_of_made 0 []) pc even on

  pub unfetched : (pc : ℕ) → inside pc ≡ false → can_fetch k pc ≡ false → can_fetch l pc ≡ false
  unfolding layout_of
  unfetched pc off none = false_from_ne_true (can_fetch l pc) (λ on.
      let p = text_fetched l pc (unkeyed_too pc) on in
      let text : in_text k pc ≡ true = only (in_text k pc) (inside pc) off (sym (text_is pc) ∙ p.1) in
      both_ways (can_fetch k pc) none (fetched_text (text_of (contents file)) (setting_of (contents file) 0 []) (text_of_file 0 []) pc p.0 text))
    where
      only : (a b : Bool) → b ≡ false → (a || b) ≡ true → a ≡ true
      only true b off h = refl
      only false b off h = let never : ⊥ = cc in absurd never

  pub is_unkeyed : (a : ℕ) → is_keyed k a ≡ false
  is_unkeyed = unkeyed

  pub is_unkeyed_too : (a : ℕ) → is_keyed l a ≡ false
  is_unkeyed_too = unkeyed_too
