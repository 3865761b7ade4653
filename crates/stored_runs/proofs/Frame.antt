-- What of an image and its stored image the laws of runs need: layouts, bytes, patches, block and start.
use Rattle.std.proofs.Common.{◌≡◌, ℕ, suc, ◌+◌, ◌*◌, ◌-◌, ◌%◌, ◌<◌, ◌≤◌, Bool, true, false, not, cond, ◌&&◌, ◌||◌, List, [], ◌∷◌, length, map, get_or, Some, None, Ok, refl, sym, ap, subst, ◌∙◌, arith, inl, inr}
use Rattle.std.specs.Prelude.{nat_lt, nat_le, ◌==◌, filter, option_map, All}
use Rattle.std.specs.List.{list_any}
use Rattle.std.proofs.Math.Path.{fun_ext}
use Rattle.std.proofs.lemmas.Bool.{le-leb, lt-ltb, cases_lt, and_parts, and_from, or_left, or_right, or_from, or_cases, both_ways, not-true, false_from_ne_true, eqb-true, eqb-false}
use Rattle.std.proofs.lemmas.List.Elements.{All-nil, All-cons}
use Rattle.scale_base.specs.declared.ranges.Span.{Span}
use Rattle.scale_base.specs.declared.ranges.Patch.{Patch}
use Rattle.scale_base.specs.Spans.{in_span, overlap}
use Rattle.scale_base.specs.Image.{Image, LoadSegment, image_of, contents, segment_of, addresses_of, covers, loaded_byte, loaded_headers, memory_range, header_has_word, file_place, is_word_address, is_in, stack}
use Rattle.scale_base.specs.Layout.{Layout, Part, layout_of, part_of, is_plain_segment, in_text, in_option, is_keyed, in_stack, may_read, may_write, may_fetch, each_byte, reads_byte, fetches_byte, can_fetch}
use Rattle.scale_base.specs.Run.{setting_of, starting_level}
use Rattle.scale_base.specs.Word.{word_of}
use Rattle.scale_base.proofs.Laws.{rules_kept, contents-are, rules_of, each_byte_none, each_byte_more}
use Rattle.elf_patch.specs.Stored.{little, stored_image, window}
use Rattle.elf_patch.proofs.Laws.{some_place}
use Rattle.stored_laws.specs.StoredView.{IsStorable, over_file, insert_segment, block_segment, stored_view}
use Rattle.stored_laws.proofs.Laws.{text_place, law}
use Rattle.machine_laws.proofs.Laws.{found_from_any, any_from_found, list_any-map, segments_of, part_word, in_part}
use Rattle.machine_laws.proofs.Laws as texts
use Rattle.code_text.specs.Text.{text_of}
use Rattle.graph_runs.specs.TextStates.{IsTextOf}
use Rattle.graph_runs.proofs.Laws.{text_of_layout, word_within}
use Rattle.stub_writer.specs.Stubs.{Site, jump, stub_len, patches_from, block_bytes}
use Rattle.stored_runs.specs.Held.{KeyedFrom, BytesLie}
use Rattle.stored_runs.specs.Marks.{place_at}
use Rattle.stored_runs.specs.Stubbed.{AreAscending}
use Rattle.stored_runs.proofs.SameStep.{SeeAlike}
use Rattle.stored_runs.proofs.StoredBytes as memory
use Rattle.stored_runs.proofs.StoredBytes.{IsOff, word_for, ArePatchesApart}

-- the text and the keyed segment of a stored image
abbrev pub hidden : Image → ℕ → Bool
hidden stored a = in_text (layout_of stored) a || is_keyed (layout_of stored) a

-- what a stored image with a block of stubs is
pub record IsBlockFrame (image stored : Image) (levels : ℕ) (input : List ℕ) (sites : List Site) (base start : ℕ) : Type 0 where
  pub text : IsTextOf (text_of image) (setting_of image levels input)
  pub same_text : (layout_of stored).text ≡ image.text
  pub parts : (layout_of stored).parts ≡ (layout_of image).parts
  pub alike : (pc : ℕ) → list_any (is_in pc) image.text ≡ true → SeeAlike (layout_of image) (layout_of stored) (hidden stored) pc
  pub fetched : (pc : ℕ) → is_word_address image pc ≡ true → can_fetch (layout_of image) pc ≡ true
  pub fetched_too : (pc : ℕ) → is_word_address image pc ≡ true → can_fetch (layout_of stored) pc ≡ true
  pub keyed : KeyedFrom (setting_of stored levels input) base (base + length (block_bytes base sites))
  pub high : base + length (block_bytes base sites) ≤ 0xFFFFF800
  pub block : BytesLie (loaded_byte stored) base (block_bytes base sites)
  pub plain : (pc j : ℕ) → is_word_address image pc ≡ true → place_at sites pc ≡ None → j < 4 → loaded_byte stored (pc + j) ≡ loaded_byte image (pc + j)
  pub patched : (pc w j : ℕ) → is_word_address image pc ≡ true → word_for (patches_from base sites) pc ≡ Some w → j < 4 → loaded_byte stored (pc + j) ≡ get_or (little 4 w) j 0
  pub outside : (a : ℕ) → hidden stored a ≡ false → loaded_byte stored a ≡ loaded_byte image a
  pub entry : stored.entry ≡ image.entry
  pub start_is : starting_level levels stored.keyed_segment ≡ start

-- ---- patches of sites

patch_above : (x at : ℕ) (sites : List Site) → All (λ later. x < later.at) sites → All (λ p. x < p.at) (patches_from at sites)
patch_above x at [] h = All-nil (λ p. x < p.at)
patch_above x at (site ∷ sites) h =
    All-cons (λ p. x < p.at) (record { at = site.at; word = word_of (jump site.at at) }) (patches_from (at + 4 * stub_len site) sites)
    (h 0 site (omega arith)) (patch_above x (at + 4 * stub_len site) sites (λ k d lt. h (suc k) d (omega arith)))

patches_apart : (at : ℕ) (sites : List Site) → AreAscending sites → ArePatchesApart (patches_from at sites)
patches_apart at [] h = tt
patches_apart at (site ∷ sites) h = (patch_above site.at (at + 4 * stub_len site) sites h.0, patches_apart (at + 4 * stub_len site) sites h.1)

-- no patch is at an address where no site is
none_there : (at pc : ℕ) (sites : List Site) → place_at sites pc ≡ None → All (λ p. p.at ≡ pc → ⊥) (patches_from at sites)
none_there at pc [] h = All-nil (λ p. p.at ≡ pc → ⊥)
none_there at pc (site ∷ sites) h =
    let parts = split (site.at == pc) refl h in
    All-cons (λ p. p.at ≡ pc → ⊥) (record { at = site.at; word = word_of (jump site.at at) }) (patches_from (at + 4 * stub_len site) sites) parts.0 (none_there (at + 4 * stub_len site) pc sites parts.1)
  where
    split : (b : Bool) → (site.at == pc) ≡ b → cond b (Some site.place) (place_at sites pc) ≡ None → (site.at ≡ pc → ⊥) × (place_at sites pc ≡ None)
    split true e f = let never : ⊥ = cc in absurd never
    split false e f = (eqb-false site.at pc e, f)

off_word : (at pc j : ℕ) → at % 4 ≡ 0 → pc % 4 ≡ 0 → (at ≡ pc → ⊥) → j < 4 → IsOff at (pc + j)
off_word at pc j even word other lt = elim (cases_lt (pc + j) at) [
  | inl before ↦ inl before
  | inr from ↦ elim (cases_lt (pc + j) (at + 4)) [
    | inl inside ↦ absurd (other (omega (arith, even, word, from, inside, lt)))
    | inr behind ↦ inr behind
  ]
]

-- ---- layouts

plain_out : (xs : List LoadSegment) (s : LoadSegment) → is_plain_segment s ≡ false → filter is_plain_segment (insert_segment xs s) ≡ filter is_plain_segment xs
plain_out [] s e = rw e refl
plain_out (x ∷ xs) s e = plain_step (nat_le s.from x.from) (plain_out xs s e)
  where
    plain_step : (b : Bool) → filter is_plain_segment (insert_segment xs s) ≡ filter is_plain_segment xs
        → filter is_plain_segment (cond b (s ∷ x ∷ xs) (x ∷ insert_segment xs s)) ≡ cond (is_plain_segment x) (x ∷ filter is_plain_segment xs) (filter is_plain_segment xs)
    plain_step true go = rw e refl
    plain_step false go = rw go refl

plain_parts : (s : List ℕ) (xs : List LoadSegment) → map part_of (filter is_plain_segment (map (over_file s) xs)) ≡ map part_of (filter is_plain_segment xs)
plain_parts s [] = refl
plain_parts s (x ∷ xs) = parts_step (is_plain_segment x) (plain_parts s xs)
  where
    parts_step : (b : Bool) → map part_of (filter is_plain_segment (map (over_file s) xs)) ≡ map part_of (filter is_plain_segment xs)
        → map part_of (cond b (over_file s x ∷ filter is_plain_segment (map (over_file s) xs)) (filter is_plain_segment (map (over_file s) xs))) ≡ map part_of (cond b (x ∷ filter is_plain_segment xs) (filter is_plain_segment xs))
    parts_step true go = rw go refl
    parts_step false go = go

layout_is : (image : Image) (s : List ℕ) (base : ℕ) (block : List ℕ) (start : ℕ) → layout_of (stored_view image s base block start) ≡ record (layout_of image) { keyed = Some (record { from = base; to = base + length block }) }
unfolding layout_of stored_view
layout_is image s base block start =
    rw (plain_out (map (over_file s) image.segments) (block_segment image.file base block) refl, plain_parts s image.segments) refl

-- a part that has the address is a segment that does
any_part : (f : Part → Bool) (a : ℕ) (xs : List LoadSegment) → list_any (λ p. f p && in_span p.span a) (map part_of (filter is_plain_segment xs)) ≡ true → list_any (covers a) xs ≡ true
any_part f a [] e = absurd cc
any_part f a (x ∷ xs) e = step (is_plain_segment x) e (any_part f a xs)
  where
    step : (b : Bool) → list_any (λ p. f p && in_span p.span a) (map part_of (cond b (x ∷ filter is_plain_segment xs) (filter is_plain_segment xs))) ≡ true
        → (list_any (λ p. f p && in_span p.span a) (map part_of (filter is_plain_segment xs)) ≡ true → list_any (covers a) xs ≡ true) → (covers a x || list_any (covers a) xs) ≡ true
    step true g go = elim (or_cases (f (part_of x) && in_span (addresses_of x) a) (list_any (λ p. f p && in_span p.span a) (map part_of (filter is_plain_segment xs))) g) [
      | inl here ↦ or_left (covers a x) (list_any (covers a) xs) (and_parts (f (part_of x)) (in_span (addresses_of x) a) here).1
      | inr later ↦ or_right (covers a x) (list_any (covers a) xs) (go later)
    ]
    step false g go = or_right (covers a x) (list_any (covers a) xs) (go g)

-- ---- the frame

module _ (file : List ℕ) (sites : List Site) (base start levels : ℕ) (input : List ℕ) (e : image_of file ≡ Ok (contents file)) (h : IsStorable (contents file) (patches_from base sites) base (block_bytes base sites) start) (ascending : AreAscending sites) where
  abbrev patches : List Patch
  patches = patches_from base sites

  abbrev block : List ℕ
  block = block_bytes base sites

  abbrev stored : Image
  stored = stored_view (contents file) (stored_image file patches base block start) base block start

  abbrev k : Layout
  k = layout_of (contents file)

  abbrev key : Span
  key = record { from = base; len = length block }

  l_is : layout_of stored ≡ record k { keyed = Some (record { from = base; to = base + length block }) }
  l_is = layout_is (contents file) (stored_image file patches base block start) base block start

  keyed_is : (a : ℕ) → is_keyed (layout_of stored) a ≡ in_span key a
  keyed_is a = ap (λ (l : Layout). is_keyed l a) l_is

  text_is : (a : ℕ) → in_text (layout_of stored) a ≡ in_text k a
  text_is a = ap (λ (l : Layout). in_text l a) l_is

  unkeyed : (a : ℕ) → is_keyed k a ≡ false
  unfolding layout_of
  unkeyed a = ap (λ o. in_option a (option_map (λ k. k.range) o)) h.no_key

  -- a segment that has an address isn't the key
  off_key : (a : ℕ) → list_any (covers a) (contents file).segments ≡ true → in_span key a ≡ false
  unfolding contents
  off_key a any =
      let g = found_from_any (λ x. covers a (segment_of file x)) (loaded_headers file) (sym (list_any-map (covers a) (segment_of file) (loaded_headers file)) ∙ any) in
      false_from_ne_true (in_span key a) (λ on. memory.covered file patches base block start e h a g.0 g.1 on)

  stack_off_key : (a : ℕ) → in_stack a ≡ true → in_span key a ≡ false
  stack_off_key a on =
      let free = first_off (overlap key stack) (list_any (overlap key) (window ∷ map addresses_of (contents file).segments)) h.place.place.free in
      false_from_ne_true (in_span key a) (λ here. memory.sharing key stack a free here on)
    where
      first_off : (a b : Bool) → not (a || b) ≡ true → a ≡ false
      first_off true b g = let never : ⊥ = cc in absurd never
      first_off false b g = refl

  text_off_key : (a : ℕ) → in_text k a ≡ true → in_span key a ≡ false
  unfolding layout_of contents
  text_off_key a on =
      let t = texts.in_text file a (segments_of file (contents file) e) (rules_of file (rules_kept file (contents file) e)).text on in
      false_from_ne_true (in_span key a) (λ here. memory.covered file patches base block start e h a t.segment t.covers here)

  seen_if : (a : ℕ) → in_text k a ≡ false → in_span key a ≡ false → hidden stored a ≡ false
  seen_if a text off = or_from (in_text (layout_of stored) a) (is_keyed (layout_of stored) a) (text_is a ∙ text) (keyed_is a ∙ off)

  layout_text : IsTextOf (text_of (contents file)) (setting_of (contents file) levels input)
  layout_text = text_of_layout file (contents file) levels input e

  stack_seen : (a : ℕ) → in_stack a ≡ true → hidden stored a ≡ false
  unfolding layout_of
  stack_seen a on = seen_if a (false_from_ne_true (in_text k a) (λ here. both_ways (in_stack a) (layout_text.no_stack a here) on)) (stack_off_key a on)

  may_be_seen : (f : Part → Bool) (a : ℕ) → (in_stack a || (list_any (λ p. f p && in_span p.span a) k.parts && not (in_text k a))) ≡ true → hidden stored a ≡ false
  unfolding layout_of
  may_be_seen f a on = elim (or_cases (in_stack a) (list_any (λ p. f p && in_span p.span a) k.parts && not (in_text k a)) on) [
    | inl here ↦ stack_seen a here
    | inr there ↦
        let both = and_parts (list_any (λ p. f p && in_span p.span a) k.parts) (not (in_text k a)) there in
        seen_if a (not-true (in_text k a) both.1) (off_key a (any_part f a (contents file).segments both.0))
  ]

  reads_same : (pc : ℕ) → in_text k pc ≡ true → reads_byte (layout_of stored) pc ≡ reads_byte k pc
  unfolding may_read
  reads_same pc on =
      ap (λ (l : Layout). reads_byte l pc) l_is
      ∙ (fun_ext (λ at. ap (λ keyed. may_read k at || (keyed && in_span key at)) (text_off_key pc on) ∙ sym (ap (λ keyed. may_read k at || (keyed && is_keyed k at)) (unkeyed pc))))

  writes_same : may_write (layout_of stored) ≡ may_write k
  unfolding may_write
  writes_same = ap (λ (l : Layout). may_write l) l_is

  read_is_seen : (pc a : ℕ) → reads_byte k pc a ≡ true → hidden stored a ≡ false
  unfolding may_read
  read_is_seen pc a on = elim (or_cases (may_read k a) (is_keyed k pc && is_keyed k a) on) [
    | inl here ↦ may_be_seen (λ p. p.readable) a here
    | inr there ↦ absurd (both_ways (is_keyed k pc) (unkeyed pc) (and_parts (is_keyed k pc) (is_keyed k a) there).0)
  ]

  write_is_seen : (a : ℕ) → may_write k a ≡ true → hidden stored a ≡ false
  unfolding may_write
  write_is_seen a on = may_be_seen (λ p. p.writable) a on

  word_in : (pc : ℕ) → is_word_address (contents file) pc ≡ true → (pc % 4 ≡ 0) × (list_any (is_in pc) (contents file).text ≡ true)
  word_in pc word = let a = and_parts (pc % 4 == 0) (list_any (is_in pc) (contents file).text) word in (eqb-true (pc % 4) 0 a.0, a.1)

  word_all : (pc j : ℕ) → is_word_address (contents file) pc ≡ true → j < 4 → list_any (is_in (pc + j)) (contents file).text ≡ true
  word_all pc j word lt = let w = word_in pc word in word_within (text_of (contents file)) (setting_of (contents file) levels input) layout_text pc j w.1 w.0 lt

  may_be_fetched : (l : Layout) → l.text ≡ (contents file).text → (pc : ℕ) → is_word_address (contents file) pc ≡ true → can_fetch l pc ≡ true
  unfolding may_fetch
  may_be_fetched l same pc word =
      let test = fetches_byte l in
      let byte : (j : ℕ) → j < 4 → test (pc + j) ≡ true = λ j lt. or_left (may_fetch l (pc + j)) (is_keyed l (pc + j)) (ap (λ rs. list_any (is_in (pc + j)) rs) same ∙ word_all pc j word lt) in
      let none = each_byte_none test pc in
      let one = each_byte_more test pc 0 none (byte 0 (omega arith)) in
      let two = each_byte_more test pc 1 one (byte 1 (omega arith)) in
      let three = each_byte_more test pc 2 two (byte 2 (omega arith)) in
      let four = each_byte_more test pc 3 three (byte 3 (omega arith)) in
      and_from (pc % 4 == 0) (each_byte test pc 4) (and_parts (pc % 4 == 0) (list_any (is_in pc) (contents file).text) word).0 four

  base_low : base ≤ 0xFF800000
  base_low = let low = some_place file (contents file) (length block) e h.block_short in omega (arith, h.place.least low.0 low.1, low.2)

  patch_word : (i : ℕ) (d : Patch) → i < length patches → (get_or patches i d).at % 4 ≡ 0
  patch_word i d lt = (word_in (get_or patches i d).at (h.words i d lt)).0

  plain_byte : (pc j : ℕ) → is_word_address (contents file) pc ≡ true → place_at sites pc ≡ None → j < 4 → loaded_byte stored (pc + j) ≡ loaded_byte (contents file) (pc + j)
  unfolding layout_of
  plain_byte pc j word none lt =
      memory.byte_same file patches base block start e h (pc + j) (text_off_key (pc + j) (word_all pc j word lt))
      (λ i d below. off_word (get_or patches i d).at pc j (patch_word i d below) (word_in pc word).0 (none_there base pc sites none i d below) lt)

  -- each word of the text has a place in the file
  has_place : (pc : ℕ) → is_word_address (contents file) pc ≡ true → (q : ℕ) × (file_place file pc ≡ Some q)
  unfolding contents
  has_place pc word =
      let w = word_in pc word in
      let t = texts.in_text file pc (segments_of file (contents file) e) (rules_of file (rules_kept file (contents file) e)).text w.1 in
      let last = in_part (pc + 3) t.part (part_word t.part pc 3 t.placed.first t.placed.size w.0 (omega arith) t.inside) in
      let first = in_part pc t.part t.inside in
      let has : header_has_word pc t.segment ≡ true =
      and_from (nat_le t.segment.p_vaddr pc) (nat_le (pc + 4) (t.segment.p_vaddr + t.segment.p_filesz))
      (le-leb t.segment.p_vaddr pc (omega (arith, first.0, t.holds.low))) (le-leb (pc + 4) (t.segment.p_vaddr + t.segment.p_filesz) (omega (arith, last.1, t.holds.high))) in
      let g = found_from_any (header_has_word pc) (loaded_headers file) (any_from_found (λ x. in_span (memory_range x) pc) (header_has_word pc) (loaded_headers file) t.segment t.covers has) in
      (g.0.p_offset + (pc - g.0.p_vaddr), ap (option_map (λ x. x.p_offset + (pc - x.p_vaddr))) g.1)

  patched_byte : (pc w j : ℕ) → is_word_address (contents file) pc ≡ true → word_for patches pc ≡ Some w → j < 4 → loaded_byte stored (pc + j) ≡ get_or (little 4 w) j 0
  patched_byte pc w j word is lt =
      let q = has_place pc word in
      memory.byte_of_patch file patches base block start e h pc w j (patches_apart base sites ascending) patch_word (word_in pc word).0 q.0 q.1 is lt (text_place file pc q.0 (rules_kept file (contents file) e) word q.1)

  outside_byte : (a : ℕ) → hidden stored a ≡ false → loaded_byte stored a ≡ loaded_byte (contents file) a
  unfolding layout_of
  outside_byte a off =
      let parts = neither (in_text (layout_of stored) a) (is_keyed (layout_of stored) a) off in
      let text : in_text k a ≡ false = sym (text_is a) ∙ parts.0 in
      memory.byte_same file patches base block start e h a (sym (keyed_is a) ∙ parts.1)
      (λ i d below. not_in (get_or patches i d).at (λ j lt. word_all (get_or patches i d).at j (h.words i d below) lt) text)
    where
      neither : (a b : Bool) → (a || b) ≡ false → (a ≡ false) × (b ≡ false)
      neither true b g = let never : ⊥ = cc in absurd never
      neither false b g = (refl, g)

      not_in : (at : ℕ) → ((j : ℕ) → j < 4 → list_any (is_in (at + j)) (contents file).text ≡ true) → list_any (is_in a) (contents file).text ≡ false → IsOff at a
      not_in at all text = elim (cases_lt a at) [
        | inl before ↦ inl before
        | inr from ↦ elim (cases_lt a (at + 4)) [
          | inl inside ↦
              let here = all (a - at) (omega arith) in
              let same : at + (a - at) ≡ a = omega arith in
              absurd (both_ways (list_any (is_in a) (contents file).text) text (sym (ap (λ x. list_any (is_in x) (contents file).text) same) ∙ here))
          | inr behind ↦ inr behind
        ]
      ]

  pub frame_of : IsBlockFrame (contents file) stored levels input sites base start
  unfolding layout_of stored_view
  frame_of = record {
    text = layout_text;
    same_text = ap (λ (l : Layout). l.text) l_is;
    parts = ap (λ (l : Layout). l.parts) l_is;
    alike = λ pc on. record {
      reads = reads_same pc on;
      writes = writes_same;
      left = unkeyed pc;
      right = keyed_is pc ∙ text_off_key pc on;
      read_seen = read_is_seen pc;
      write_seen = write_is_seen;
    };
    fetched = may_be_fetched k refl;
    fetched_too = may_be_fetched (layout_of stored) (ap (λ (l : Layout). l.text) l_is);
    keyed = record {
      keyed = λ a low high. keyed_is a ∙ and_from (nat_le base a) (nat_lt a (base + length block)) (le-leb base a low) (lt-ltb a (base + length block) high);
      even = omega (arith, h.place.place.page);
      room = omega (arith, base_low, h.block_short);
    };
    high = omega (arith, base_low, h.block_short);
    block = memory.byte_of_block file patches base block start e h;
    plain = plain_byte;
    patched = patched_byte;
    outside = outside_byte;
    entry = refl;
    start_is = refl;
  }

pub frame : (file : List ℕ) (image stored : Image) (sites : List Site) (base start levels : ℕ) (input : List ℕ) → image_of file ≡ Ok image → IsStorable image (patches_from base sites) base (block_bytes base sites) start
    → image_of (stored_image file (patches_from base sites) base (block_bytes base sites) start) ≡ Ok stored → AreAscending sites → IsBlockFrame image stored levels input sites base start
frame file image stored sites base start levels input e h is ascending =
    let P : Image → Type 0 = λ i. image_of file ≡ Ok i → IsStorable i (patches_from base sites) base (block_bytes base sites) start → IsBlockFrame i stored levels input sites base start in
    subst P (contents-are file image e)
    (λ e2 h2.
    let view = stored_view (contents file) (stored_image file (patches_from base sites) base (block_bytes base sites) start) base (block_bytes base sites) start in
    let made = law file (contents file) (patches_from base sites) base (block_bytes base sites) start e2 h2 in
    let same : view ≡ stored = cc in
    subst (λ i. IsBlockFrame (contents file) i levels input sites base start) same (frame_of file sites base start levels input e2 h2 ascending))
    e h
