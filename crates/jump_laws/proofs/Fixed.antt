-- Words in segments that can't be written: they are what the image loads, and no store changes them.
use Rattle.std.proofs.Common.{◌≡◌, ℕ, zero, suc, ◌+◌, ◌-◌, ◌*◌, ◌<◌, ◌≤◌, ◌^◌, Bool, true, false, not, cond, ◌&&◌, List, [], ◌∷◌, length, drop, map, filter, Some, refl, sym, ap, ◌∙◌, subst, arith, add-zero}
use Rattle.std.specs.Prelude.{nat_lt, nat_le, slice_get, option_map}
use Rattle.std.specs.List.{find, list_any, list_all}
use Rattle.std.proofs.lemmas.Bool.{and_parts, and_from, both_ways, cond-true, cond-false, false_from_ne_true, le-leb, lt-ltb, not-true, or_from}
use Rattle.std.proofs.lemmas.List.{length-take}
use Rattle.scale_base.specs.declared.headers.ProgramHeader.{ProgramHeader}
use Rattle.scale_base.specs.Bytes.{byte_at, list_half_at, list_word_at}
use Rattle.scale_base.specs.Elf.{has}
use Rattle.scale_base.specs.Image.{Image, LoadSegment, PF_W, PLAIN_END, byte_in, contents, covers, file_part, has_key, is_fit, is_keyed_place, is_plain_place, is_zeroed, loaded_byte, loaded_headers, may_follow, memory_range, segment_byte, segment_of, stack}
use Rattle.scale_base.specs.Layout.{Part, in_stack, in_text, is_plain_segment, layout_of, may_write, part_of}
use Rattle.scale_base.specs.Spans.{each_pair, ends_by, in_span, overlap}
use Rattle.scale_base.specs.State.{word_at}
use Rattle.scale_base.proofs.Laws.{contents-are}
use Rattle.machine_laws.proofs.Laws.{SegmentsKept, file_fits, find-map, not_zeroed, segments_of, share_address}
use Rattle.fixed_tables.specs.Tables.{HasFixedWord, IsFixedWord}
use Rattle.jump_laws.specs.Laws.{FixedWordsStay, IsUnwritten}

-- ---- one segment alone covers an address

some_is : {A : Type 0} (x y : A) → Some x ≡ Some y → x ≡ y
some_is x y e = let r : x ≡ y = cc in r

abbrev has_address : ℕ → ProgramHeader → Bool
has_address x g = in_span (memory_range g) x

-- what passes for each of a list passes for one of it
at_number : (p : ProgramHeader → Bool) (hs : List ProgramHeader) (n : ℕ) (h : ProgramHeader) → slice_get hs n ≡ Some h → list_all p hs ≡ true → p h ≡ true
at_number p [] n h e all = let bad : ⊥ = cc in absurd bad
at_number p (g ∷ hs) zero h e all = ap p (sym (some_is g h e)) ∙ (and_parts (p g) (list_all p hs) all).0
at_number p (g ∷ hs) (suc n) h e all = at_number p hs n h e (and_parts (p g) (list_all p hs) all).1

share_none : (g h : ProgramHeader) (x : ℕ) → may_follow g h ≡ true → has_address x g ≡ true → has_address x h ≡ true → ⊥
share_none g h x next a b =
    let p = and_parts (nat_le g.p_vaddr h.p_vaddr && not (overlap (memory_range g) (memory_range h))) (not (overlap (file_part g) (file_part h))) next in
    let q = and_parts (nat_le g.p_vaddr h.p_vaddr) (not (overlap (memory_range g) (memory_range h))) p.0 in
    both_ways (overlap (memory_range g) (memory_range h)) (not-true (overlap (memory_range g) (memory_range h)) q.1) (share_address (memory_range g) (memory_range h) x a b)

found_at : (hs : List ProgramHeader) (n x : ℕ) (h : ProgramHeader) → each_pair may_follow hs ≡ true → slice_get hs n ≡ Some h → has_address x h ≡ true → find (has_address x) hs ≡ Some h
found_at [] n x h apart e there = let bad : ⊥ = cc in absurd bad
found_at (g ∷ hs) zero x h apart e there =
    let same : g ≡ h = some_is g h e in
    cond-true (has_address x g) (Some g) (find (has_address x) hs) (ap (has_address x) same ∙ there) ∙ ap (λ (k : ProgramHeader). Some k) same
found_at (g ∷ hs) (suc n) x h apart e there =
    let a = and_parts (list_all (may_follow g) hs) (each_pair may_follow hs) apart in
    let next : may_follow g h ≡ true = at_number (may_follow g) hs n h e a.0 in
    let off : has_address x g ≡ false = false_from_ne_true (has_address x g) (λ here. share_none g h x next here there) in
    cond-false (has_address x g) (Some g) (find (has_address x) hs) off ∙ found_at hs n x h a.1 e there

-- the header of a loaded segment
header_of : (file : List ℕ) (hs : List ProgramHeader) (n : ℕ) (s : LoadSegment) → slice_get (map (segment_of file) hs) n ≡ Some s → (h : ProgramHeader) × (slice_get hs n ≡ Some h) × (segment_of file h ≡ s)
header_of file [] n s e = let bad : ⊥ = cc in absurd bad
header_of file (g ∷ hs) zero s e = (g, refl, some_is (segment_of file g) s e)
header_of file (g ∷ hs) (suc n) s e = header_of file hs n s e

-- the number of four bytes in memory is that of the bytes of a list
same_word : (bytes : List ℕ) (loaded : ℕ → ℕ) (at place : ℕ) → ((k : ℕ) → k < 4 → loaded (at + k) ≡ byte_at bytes (place + k)) → word_at loaded at ≡ list_word_at bytes place
unfolding list_half_at list_word_at
same_word bytes loaded at place same =
    let a = ap loaded (sym (add-zero at)) ∙ same 0 (omega arith) ∙ ap (byte_at bytes) (add-zero place) in
    let b = same 1 (omega arith) in
    let c = same 2 (omega arith) in
    let d = same 3 (omega arith) in
    sums (loaded at) (loaded (at + 1)) (loaded (at + 2)) (loaded (at + 3)) (byte_at bytes place) (byte_at bytes (place + 1)) (byte_at bytes (place + 2)) (byte_at bytes (place + 2 + 1))
    a b c (d ∙ ap (byte_at bytes) (omega arith))
  where
    sums : (a b c d p q r s : ℕ) → a ≡ p → b ≡ q → c ≡ r → d ≡ s → a + b * 2 ^ 8 + c * 2 ^ 16 + d * 2 ^ 24 ≡ (p + 256 * q) + 65536 * (r + 256 * s)
    sums a b c d p q r s e f g h = omega (arith, e, f, g, h)

-- ---- a segment that has a fixed word

fit_room : (h : ProgramHeader) → is_fit h ≡ true → not (overlap (memory_range h) stack) ≡ true
fit_room h e = by (has_key h) refl
  where
    place : cond (has_key h) (is_keyed_place h) (is_plain_place h) ≡ true
    place = (and_parts (nat_le h.p_filesz h.p_memsz) (cond (has_key h) (is_keyed_place h) (is_plain_place h)) e).1

    by : (b : Bool) → has_key h ≡ b → not (overlap (memory_range h) stack) ≡ true
    by true k = (and_parts _ (not (overlap (memory_range h) stack)) (sym (cond-true (has_key h) (is_keyed_place h) (is_plain_place h) k) ∙ place)).1
    by false k = (and_parts (ends_by PLAIN_END (memory_range h)) (not (overlap (memory_range h) stack)) (sym (cond-false (has_key h) (is_keyed_place h) (is_plain_place h) k) ∙ place)).1

-- a part of a segment that may be written, and has the address
abbrev writes_at : ℕ → Part → Bool
writes_at x p = p.writable && in_span p.span x

more_parts : (file : List ℕ) (x : ℕ) (g : ProgramHeader) (hs : List ProgramHeader) → (has_address x g ≡ true → has g.p_flags PF_W ≡ false) → list_any (writes_at x) (map part_of (filter is_plain_segment (map (segment_of file) hs))) ≡ false →
    list_any (writes_at x) (map part_of (filter is_plain_segment (map (segment_of file) (g ∷ hs)))) ≡ false
more_parts file x g hs none rest = by (is_plain_segment (segment_of file g)) refl
  where
    here : writes_at x (part_of (segment_of file g)) ≡ false
    here = false_from_ne_true (writes_at x (part_of (segment_of file g))) (λ on.
        let p = and_parts (has g.p_flags PF_W) (has_address x g) on in
        both_ways (has g.p_flags PF_W) (none p.1) p.0)

    by : (b : Bool) → is_plain_segment (segment_of file g) ≡ b → list_any (writes_at x) (map part_of (filter is_plain_segment (map (segment_of file) (g ∷ hs)))) ≡ false
    by true e = ap (λ (ss : List LoadSegment). list_any (writes_at x) (map part_of ss)) (cond-true (is_plain_segment (segment_of file g)) (segment_of file g ∷ filter is_plain_segment (map (segment_of file) hs)) (filter is_plain_segment (map (segment_of file) hs)) e)
        ∙ or_from (writes_at x (part_of (segment_of file g))) (list_any (writes_at x) (map part_of (filter is_plain_segment (map (segment_of file) hs)))) here rest
    by false e = ap (λ (ss : List LoadSegment). list_any (writes_at x) (map part_of ss)) (cond-false (is_plain_segment (segment_of file g)) (segment_of file g ∷ filter is_plain_segment (map (segment_of file) hs)) (filter is_plain_segment (map (segment_of file) hs)) e) ∙ rest

no_part : (file : List ℕ) (x : ℕ) (hs : List ProgramHeader) → ((n : ℕ) (g : ProgramHeader) → slice_get hs n ≡ Some g → has_address x g ≡ true → has g.p_flags PF_W ≡ false) →
    list_any (writes_at x) (map part_of (filter is_plain_segment (map (segment_of file) hs))) ≡ false
no_part file x [] none = refl
no_part file x (g ∷ hs) none = more_parts file x g hs (none 0 g refl) (no_part file x hs (λ n k e. none (suc n) k e))

module _ (file : List ℕ) (kept : SegmentsKept file) (at word n : ℕ) (h : ProgramHeader) (number_is : slice_get (loaded_headers file) n ≡ Some h) (has_it : HasFixedWord (segment_of file h) at word) where
  fit : is_fit h ≡ true
  fit = at_number is_fit (loaded_headers file) n h number_is kept.fit

  short : length (segment_of file h).file ≤ h.p_filesz
  short = let e = length-take (h.p_offset + h.p_filesz - h.p_offset) (drop h.p_offset file) in omega (arith, e)

  here : (j : ℕ) → j < 4 → has_address (at + j) h ≡ true
  here j lt =
      let low : h.p_vaddr ≤ at = has_it.from in
      let high : at + 4 ≤ h.p_vaddr + length (segment_of file h).file = has_it.within in
      let few = short in
      let fits = file_fits h fit in
      and_from (nat_le h.p_vaddr (at + j)) (nat_lt (at + j) (h.p_vaddr + h.p_memsz)) (le-leb h.p_vaddr (at + j) (omega (arith, low))) (lt-ltb (at + j) (h.p_vaddr + h.p_memsz) (omega (arith, lt, high, few, fits)))

  only : (j : ℕ) → j < 4 → find (has_address (at + j)) (loaded_headers file) ≡ Some h
  only j lt = found_at (loaded_headers file) n (at + j) h kept.apart number_is (here j lt)

  byte_read : (j : ℕ) → j < 4 → segment_byte (at + j) (segment_of file h) ≡ byte_at (segment_of file h).file (at - h.p_vaddr + j)
  byte_read j lt =
      let low : h.p_vaddr ≤ at = has_it.from in
      let high : at + 4 ≤ h.p_vaddr + length (segment_of file h).file = has_it.within in
      let past : 52 ≤ h.p_offset + (at - h.p_vaddr) = has_it.behind in
      let moved : at + j - h.p_vaddr ≡ at - h.p_vaddr + j = omega (arith, low) in
      let one : nat_lt (at + j - h.p_vaddr) (length (segment_of file h).file) ≡ true = lt-ltb (at + j - h.p_vaddr) (length (segment_of file h).file) (omega (arith, low, high, lt)) in
      let two : not (is_zeroed (h.p_offset + (at + j - h.p_vaddr))) ≡ true = ap not (not_zeroed (h.p_offset + (at + j - h.p_vaddr)) (omega (arith, past, low))) in
      cond-true (nat_lt (at + j - h.p_vaddr) (length (segment_of file h).file) && not (is_zeroed (h.p_offset + (at + j - h.p_vaddr)))) (byte_at (segment_of file h).file (at + j - h.p_vaddr)) 0
      (and_from (nat_lt (at + j - h.p_vaddr) (length (segment_of file h).file)) (not (is_zeroed (h.p_offset + (at + j - h.p_vaddr)))) one two)
      ∙ ap (byte_at (segment_of file h).file) moved

  byte_is : (j : ℕ) → j < 4 → loaded_byte (contents file) (at + j) ≡ byte_at (segment_of file h).file (at - h.p_vaddr + j)
  unfolding loaded_byte contents
  byte_is j lt = ap (byte_in (at + j)) (find-map (covers (at + j)) (segment_of file) (loaded_headers file) ∙ ap (option_map (segment_of file)) (only j lt)) ∙ byte_read j lt

  word_is : word_at (loaded_byte (contents file)) at ≡ word
  word_is = same_word (segment_of file h).file (loaded_byte (contents file)) at (at - h.p_vaddr) byte_is ∙ has_it.word_is

  off_stack : (j : ℕ) → j < 4 → in_stack (at + j) ≡ false
  off_stack j lt = false_from_ne_true (in_stack (at + j)) (λ on. both_ways (overlap (memory_range h) stack) (not-true (overlap (memory_range h) stack) (fit_room h fit)) (share_address (memory_range h) stack (at + j) (here j lt) on))

  unflagged : (j : ℕ) → j < 4 → (m : ℕ) (g : ProgramHeader) → slice_get (loaded_headers file) m ≡ Some g → has_address (at + j) g ≡ true → has g.p_flags PF_W ≡ false
  unflagged j lt m g e there =
      let f : find (has_address (at + j)) (loaded_headers file) ≡ Some g = found_at (loaded_headers file) m (at + j) g kept.apart e there in
      let same : h ≡ g = some_is h g (sym (only j lt) ∙ f) in
      subst (λ (k : ProgramHeader). has k.p_flags PF_W ≡ false) same has_it.unwritten

  unwritten : (j : ℕ) → j < 4 → may_write (layout_of (contents file)) (at + j) ≡ false
  unfolding may_write layout_of contents
  unwritten j lt = or_from (in_stack (at + j)) _ (off_stack j lt)
      (ap (λ (b : Bool). b && not (in_text (layout_of (contents file)) (at + j))) (no_part file (at + j) (loaded_headers file) (unflagged j lt)))

contents_stay : (file : List ℕ) (at word : ℕ) → SegmentsKept file → IsFixedWord (contents file) at word → (word_at (loaded_byte (contents file)) at ≡ word) × IsUnwritten (layout_of (contents file)) at
unfolding contents
contents_stay file at word kept is =
    let f = header_of file (loaded_headers file) is.number is.segment is.segment_is in
    let has_it : HasFixedWord (segment_of file f.0) at word = subst (λ (s : LoadSegment). HasFixedWord s at word) (sym f.2) is.has_word in
    (word_is file kept at word is.number f.0 f.1 has_it, unwritten file kept at word is.number f.0 f.1 has_it)

pub fixed_stay : FixedWordsStay
fixed_stay file image at word read =
    let P : Image → Type 0 = λ i. IsFixedWord i at word → (word_at (loaded_byte i) at ≡ word) × IsUnwritten (layout_of i) at in
    subst P (contents-are file image read) (contents_stay file at word (segments_of file image read))
