-- A patched image whose file is accepted: its keyed segment shares no address with the others, with the stack or with the text, so the original and it
-- permit the same to the instructions of the text.
use Rattle.std.proofs.Common.{◌≡◌, ℕ, ◌+◌, ◌%◌, ◌<◌, Bool, true, false, not, cond, ◌&&◌, ◌||◌, List, [], ◌∷◌, map, Option, Some, None, Ok, refl, arith, sym, ◌∙◌, ap, subst, inl, inr}
use Rattle.std.specs.Prelude.{◌==◌, nat_le, nat_lt, filter, find, option_map}
use Rattle.std.specs.List.{list_any}
use Rattle.std.proofs.Math.Path.{fun_ext}
use Rattle.std.proofs.lemmas.Bool.{and_parts, and_from, or_left, or_right, or_from, or_cases, both_ways, not-true, false_from_ne_true, eqb-true, leb-true, ltb-true}
use Rattle.scale_base.specs.declared.headers.ProgramHeader.{ProgramHeader}
use Rattle.scale_base.specs.Spans.{in_span, overlap, ends_by}
use Rattle.scale_base.specs.Image.{Image, image_of, contents, segment_of, keyed_of, loaded_headers, memory_range, has_key, is_plain, is_plain_place, is_keyed_place, is_fit, is_word_address, is_in, stack, PF_X, loaded_byte}
use Rattle.scale_base.specs.Elf.{has}
use Rattle.scale_base.specs.Layout.{Layout, Part, layout_of, part_of, is_plain_segment, in_text, in_option, is_keyed, in_stack, may_read, may_write, may_fetch, each_byte, reads_byte, fetches_byte, can_fetch}
use Rattle.scale_base.specs.Run.{setting_of}
use Rattle.scale_base.proofs.Laws.{rules_kept, contents-are, rules_of, each_byte_none, each_byte_more}
use Rattle.machine_laws.proofs.Laws.{found_from_any, found_passes, found_keeps, any_from_found, SegmentsKept, segments_of, one_covers}
use Rattle.machine_laws.proofs.Laws as texts
use Rattle.code_text.specs.Text.{text_of}
use Rattle.graph_runs.specs.TextStates.{IsTextOf}
use Rattle.graph_runs.proofs.Laws.{text_of_layout, word_within}
use Rattle.stub_writer.specs.Stubs.{Site}
use Rattle.stored_runs.specs.Patched.{IsPatched}
use Rattle.stored_runs.proofs.StoredBytes.{sharing}
use Rattle.stored_runs.proofs.Frame.{hidden}
use Rattle.stored_runs.proofs.Placed.{IsFrame}

-- ---- the keyed segment of an accepted file is apart from all else

abbrev at_key : ℕ → ProgramHeader → Bool
at_key a g = has_key g && in_span (memory_range g) a

abbrev at_plain : ℕ → ProgramHeader → Bool
at_plain a g = not (has_key g) && in_span (memory_range g) a

-- a part that has the address is a plain segment that does
plain_any : (file : List ℕ) (f : Part → Bool) (a : ℕ) (hs : List ProgramHeader) → list_any (λ p. f p && in_span p.span a) (map part_of (filter is_plain_segment (map (segment_of file) hs))) ≡ true → list_any (at_plain a) hs ≡ true
plain_any file f a [] e = absurd cc
plain_any file f a (h ∷ hs) e = step (has_key h) refl e (plain_any file f a hs)
  where
    step : (b : Bool) → has_key h ≡ b → list_any (λ p. f p && in_span p.span a) (map part_of (cond (not b) (segment_of file h ∷ filter is_plain_segment (map (segment_of file) hs)) (filter is_plain_segment (map (segment_of file) hs)))) ≡ true
        → (list_any (λ p. f p && in_span p.span a) (map part_of (filter is_plain_segment (map (segment_of file) hs))) ≡ true → list_any (at_plain a) hs ≡ true) → (at_plain a h || list_any (at_plain a) hs) ≡ true
    step true is g go = or_right (at_plain a h) (list_any (at_plain a) hs) (go g)
    step false is g go = elim (or_cases (f (part_of (segment_of file h)) && in_span (memory_range h) a) (list_any (λ p. f p && in_span p.span a) (map part_of (filter is_plain_segment (map (segment_of file) hs)))) g) [
      | inl here ↦ or_left (at_plain a h) (list_any (at_plain a) hs) (and_from (not (has_key h)) (in_span (memory_range h) a) (ap not is) (and_parts (f (part_of (segment_of file h))) (in_span (memory_range h) a) here).1)
      | inr later ↦ or_right (at_plain a h) (list_any (at_plain a) hs) (go later)
    ]

module _ (file : List ℕ) (e : image_of file ≡ Ok (contents file)) where
  abbrev hs : List ProgramHeader
  hs = loaded_headers file

  abbrev l : Layout
  l = layout_of (contents file)

  kept : SegmentsKept file
  kept = segments_of file (contents file) e

  -- a test that asks for the address finds the segment that covers it
  covered_by : (p : ProgramHeader → Bool) (a : ℕ) → ((g : ProgramHeader) → p g ≡ true → in_span (memory_range g) a ≡ true) → list_any p hs ≡ true → (g : ProgramHeader) × (find (λ k. in_span (memory_range k) a) hs ≡ Some g) × (p g ≡ true) × (is_fit g ≡ true)
  covered_by p a inside any =
      let found = found_from_any p hs any in
      (found.0, one_covers p a hs found.0 (λ g on fit. inside g on) kept.fit kept.apart found.1, found_passes p hs found.0 found.1, found_keeps p is_fit hs found.0 found.1 kept.fit)

  key_covers : (a : ℕ) → is_keyed l a ≡ true → (g : ProgramHeader) × (find (λ k. in_span (memory_range k) a) hs ≡ Some g) × (at_key a g ≡ true) × (is_fit g ≡ true)
  unfolding layout_of contents
  key_covers a on = covered_by (at_key a) a (λ g on. (and_parts (has_key g) (in_span (memory_range g) a) on).1) (by_key (find has_key hs) refl on)
    where
      by_key : (o : Option ProgramHeader) → find has_key hs ≡ o → in_option a (option_map (λ k. k.range) (option_map keyed_of o)) ≡ true → list_any (at_key a) hs ≡ true
      by_key None f on = absurd cc
      by_key (Some k) f on = any_from_found has_key (at_key a) hs k f (and_from (has_key k) (in_span (memory_range k) a) (found_passes has_key hs k f) on)

  -- an address of the keyed segment is none of a segment without the key
  no_plain : (a : ℕ) (g : ProgramHeader) → find (λ k. in_span (memory_range k) a) hs ≡ Some g → not (has_key g) ≡ true → is_keyed l a ≡ true → ⊥
  no_plain a g found plain on =
      let k = key_covers a on in
      let same : k.0 ≡ g = (let one = k.1 in cc) in
      let key = (and_parts (has_key k.0) (in_span (memory_range k.0) a) k.2).0 in
      both_ways (has_key g) (not-true (has_key g) plain) (ap has_key (sym same) ∙ key)

  pub part_off_key : (f : Part → Bool) (a : ℕ) → list_any (λ p. f p && in_span p.span a) l.parts ≡ true → is_keyed l a ≡ false
  unfolding layout_of contents
  part_off_key f a any =
      let g = covered_by (at_plain a) a (λ g on. (and_parts (not (has_key g)) (in_span (memory_range g) a) on).1) (plain_any file f a hs any) in
      false_from_ne_true (is_keyed l a) (no_plain a g.0 g.1 (and_parts (not (has_key g.0)) (in_span (memory_range g.0) a) g.2).0)

  pub text_off_key : (a : ℕ) → in_text l a ≡ true → is_keyed l a ≡ false
  unfolding layout_of contents
  text_off_key a on =
      let t = texts.in_text file a kept (rules_of file (rules_kept file (contents file) e)).text on in
      let plain = (and_parts (is_plain t.segment) (has t.segment.p_flags PF_X) t.holds.code).0 in
      false_from_ne_true (is_keyed l a) (no_plain a t.segment t.covers plain)

  pub stack_off_key : (a : ℕ) → in_stack a ≡ true → is_keyed l a ≡ false
  stack_off_key a on = false_from_ne_true (is_keyed l a) (λ keyed.
      let k = key_covers a keyed in
      let parts = and_parts (has_key k.0) (in_span (memory_range k.0) a) k.2 in
      let fit = (and_parts (nat_le k.0.p_filesz k.0.p_memsz) (cond (has_key k.0) (is_keyed_place k.0) (is_plain_place k.0)) k.3).1 in
      let place : is_keyed_place k.0 ≡ true = subst (λ b. cond b (is_keyed_place k.0) (is_plain_place k.0) ≡ true) parts.0 fit in
      let free = (and_parts ((k.0.p_flags == 0x00100005) && (k.0.p_vaddr % 4096 == 0) && (k.0.p_filesz == k.0.p_memsz) && nat_le k.0.p_memsz 4194304 && ends_by 0xFFFFF800 (memory_range k.0)) (not (overlap (memory_range k.0) stack)) place).1 in
      sharing (memory_range k.0) stack a (not-true (overlap (memory_range k.0) stack) free) parts.1 on)

  -- an address of the keyed segment is below the window
  pub key_below : (a : ℕ) → is_keyed l a ≡ true → a < 0xFFFFF800
  key_below a on =
      let k = key_covers a on in
      let parts = and_parts (has_key k.0) (in_span (memory_range k.0) a) k.2 in
      let fit = (and_parts (nat_le k.0.p_filesz k.0.p_memsz) (cond (has_key k.0) (is_keyed_place k.0) (is_plain_place k.0)) k.3).1 in
      let place : is_keyed_place k.0 ≡ true = subst (λ b. cond b (is_keyed_place k.0) (is_plain_place k.0) ≡ true) parts.0 fit in
      let first = (and_parts ((k.0.p_flags == 0x00100005) && (k.0.p_vaddr % 4096 == 0) && (k.0.p_filesz == k.0.p_memsz) && nat_le k.0.p_memsz 4194304 && ends_by 0xFFFFF800 (memory_range k.0)) (not (overlap (memory_range k.0) stack)) place).0 in
      let ends = leb-true (k.0.p_vaddr + k.0.p_memsz) 0xFFFFF800 (and_parts ((k.0.p_flags == 0x00100005) && (k.0.p_vaddr % 4096 == 0) && (k.0.p_filesz == k.0.p_memsz) && nat_le k.0.p_memsz 4194304) (ends_by 0xFFFFF800 (memory_range k.0)) first).1 in
      let inside = ltb-true a (k.0.p_vaddr + k.0.p_memsz) (and_parts (nat_le k.0.p_vaddr a) (nat_lt a (k.0.p_vaddr + k.0.p_memsz)) parts.1).1 in
      omega (arith, ends, inside)

-- ---- the frame

module _ (image patched : Image) (levels : ℕ) (limits : ℕ → ℕ) (sites : List Site) (start : ℕ) (input : List ℕ) (p : IsPatched image patched levels limits sites start) where
  abbrev k : Layout
  k = layout_of image

  abbrev m : Layout
  m = layout_of patched

  same_texts : m.text ≡ k.text
  unfolding layout_of
  same_texts = p.text

  text_is_images : k.text ≡ image.text
  unfolding layout_of
  text_is_images = refl

  m_is : m ≡ record { parts = k.parts; text = k.text; keyed = m.keyed }
  m_is = ap (λ ps. record { parts = ps; text = m.text; keyed = m.keyed }) p.segments ∙ ap (λ (t : List _). record { parts = k.parts; text = t; keyed = m.keyed }) same_texts

  unkeyed : (a : ℕ) → is_keyed k a ≡ false
  unfolding layout_of
  unkeyed a = ap (λ o. in_option a (option_map (λ k. k.range) o)) p.no_key

  accepted : image_of p.file ≡ Ok (contents p.file)
  accepted = p.patched_is ∙ ap (λ (i : Image). Ok i) (sym (contents-are p.file patched p.patched_is))

  is_patched : contents p.file ≡ patched
  is_patched = contents-are p.file patched p.patched_is

  part_off : (f : Part → Bool) (a : ℕ) → list_any (λ p. f p && in_span p.span a) k.parts ≡ true → is_keyed m a ≡ false
  part_off f a any =
      let law = subst (λ i. list_any (λ p. f p && in_span p.span a) (layout_of i).parts ≡ true → is_keyed (layout_of i) a ≡ false) is_patched (part_off_key p.file accepted f a) in
      law (ap (list_any (λ p. f p && in_span p.span a)) p.segments ∙ any)

  text_off : (a : ℕ) → in_text k a ≡ true → is_keyed m a ≡ false
  text_off a on =
      let law = subst (λ i. in_text (layout_of i) a ≡ true → is_keyed (layout_of i) a ≡ false) is_patched (text_off_key p.file accepted a) in
      law (ap (λ rs. list_any (is_in a) rs) same_texts ∙ on)

  stack_off : (a : ℕ) → in_stack a ≡ true → is_keyed m a ≡ false
  stack_off a on = subst (λ i. is_keyed (layout_of i) a ≡ false) is_patched (stack_off_key p.file accepted a on)

  text_is : (a : ℕ) → in_text m a ≡ in_text k a
  text_is a = ap (λ rs. list_any (is_in a) rs) same_texts

  layout_text : IsTextOf (text_of image) (setting_of image levels input)
  layout_text = text_of_layout p.original_file image levels input p.original_is

  seen_if : (a : ℕ) → in_text k a ≡ false → is_keyed m a ≡ false → hidden patched a ≡ false
  seen_if a text off = or_from (in_text m a) (is_keyed m a) (text_is a ∙ text) off

  stack_seen : (a : ℕ) → in_stack a ≡ true → hidden patched a ≡ false
  unfolding layout_of
  stack_seen a on = seen_if a (false_from_ne_true (in_text k a) (λ here. both_ways (in_stack a) (layout_text.no_stack a here) on)) (stack_off a on)

  may_be_seen : (f : Part → Bool) (a : ℕ) → (in_stack a || (list_any (λ p. f p && in_span p.span a) k.parts && not (in_text k a))) ≡ true → hidden patched a ≡ false
  may_be_seen f a on = elim (or_cases (in_stack a) (list_any (λ p. f p && in_span p.span a) k.parts && not (in_text k a)) on) [
    | inl here ↦ stack_seen a here
    | inr there ↦
        let both = and_parts (list_any (λ p. f p && in_span p.span a) k.parts) (not (in_text k a)) there in
        seen_if a (not-true (in_text k a) both.1) (part_off f a both.0)
  ]

  on_text : (a : ℕ) → list_any (is_in a) image.text ≡ true → in_text k a ≡ true
  unfolding layout_of
  on_text a on = on

  reads_same : (pc : ℕ) → in_text k pc ≡ true → reads_byte m pc ≡ reads_byte k pc
  unfolding may_read
  reads_same pc on =
      fun_ext (λ at. ap (λ keyed. may_read m at || (keyed && is_keyed m at)) (text_off pc on)
      ∙ (ap (λ (l : Layout). may_read l at || false) m_is
      ∙ sym (ap (λ keyed. may_read k at || (keyed && is_keyed k at)) (unkeyed pc))))

  writes_same : may_write m ≡ may_write k
  unfolding may_write
  writes_same = ap (λ (l : Layout). may_write l) m_is

  read_is_seen : (pc a : ℕ) → reads_byte k pc a ≡ true → hidden patched a ≡ false
  unfolding may_read
  read_is_seen pc a on = elim (or_cases (may_read k a) (is_keyed k pc && is_keyed k a) on) [
    | inl here ↦ may_be_seen (λ p. p.readable) a here
    | inr there ↦ absurd (both_ways (is_keyed k pc) (unkeyed pc) (and_parts (is_keyed k pc) (is_keyed k a) there).0)
  ]

  write_is_seen : (a : ℕ) → may_write k a ≡ true → hidden patched a ≡ false
  unfolding may_write
  write_is_seen a on = may_be_seen (λ p. p.writable) a on

  word_in : (pc : ℕ) → is_word_address image pc ≡ true → (pc % 4 ≡ 0) × (list_any (is_in pc) image.text ≡ true)
  word_in pc word = let a = and_parts (pc % 4 == 0) (list_any (is_in pc) image.text) word in (eqb-true (pc % 4) 0 a.0, a.1)

  word_all : (pc j : ℕ) → is_word_address image pc ≡ true → j < 4 → list_any (is_in (pc + j)) image.text ≡ true
  word_all pc j word lt = let w = word_in pc word in word_within (text_of image) (setting_of image levels input) layout_text pc j w.1 w.0 lt

  may_be_fetched : (l : Layout) → l.text ≡ image.text → (pc : ℕ) → is_word_address image pc ≡ true → can_fetch l pc ≡ true
  unfolding may_fetch
  may_be_fetched l same pc word =
      let test = fetches_byte l in
      let byte : (j : ℕ) → j < 4 → test (pc + j) ≡ true = λ j lt. or_left (may_fetch l (pc + j)) (is_keyed l (pc + j)) (ap (λ rs. list_any (is_in (pc + j)) rs) same ∙ word_all pc j word lt) in
      let none = each_byte_none test pc in
      let one = each_byte_more test pc 0 none (byte 0 (omega arith)) in
      let two = each_byte_more test pc 1 one (byte 1 (omega arith)) in
      let three = each_byte_more test pc 2 two (byte 2 (omega arith)) in
      let four = each_byte_more test pc 3 three (byte 3 (omega arith)) in
      and_from (pc % 4 == 0) (each_byte test pc 4) (and_parts (pc % 4 == 0) (list_any (is_in pc) image.text) word).0 four

  outside_byte : (a : ℕ) → hidden patched a ≡ false → loaded_byte patched a ≡ loaded_byte image a
  outside_byte a off = let parts = neither (in_text m a) (is_keyed m a) off in p.bytes a parts.0 parts.1
    where
      neither : (x y : Bool) → (x || y) ≡ false → (x ≡ false) × (y ≡ false)
      neither true y g = let never : ⊥ = cc in absurd never
      neither false y g = (refl, g)

  pub of_patched : IsFrame image patched levels limits input sites start
  of_patched = record {
    text = layout_text;
    same_text = same_texts ∙ text_is_images;
    parts = p.segments;
    alike = λ pc on. record {
      reads = reads_same pc (on_text pc on);
      writes = writes_same;
      left = unkeyed pc;
      right = text_off pc (on_text pc on);
      read_seen = read_is_seen pc;
      write_seen = write_is_seen;
    };
    fetched = may_be_fetched k text_is_images;
    fetched_too = may_be_fetched m (same_texts ∙ text_is_images);
    plain = λ pc word none. p.words pc word none;
    stubs = λ pc q word found. p.stubs input pc q word found;
    outside = outside_byte;
    entry = p.entry;
    start_is = p.start_is;
  }
