-- A byte of the text, and a word of it, are what the memory has at their addresses.
use Rattle.std.proofs.Common.{◌≡◌, ℕ, ◌+◌, ◌-◌, ◌%◌, ◌<◌, true, List, Some, sym, ap, subst, ◌∙◌, arith}
use Rattle.std.specs.Prelude.{nat_lt, nat_le}
use Rattle.std.specs.List.{find, list_any}
use Rattle.std.proofs.lemmas.Bool.{and_parts, and_from, lt-ltb, le-leb, leb-true}
use Rattle.scale_base.specs.declared.ranges.TextPart.{TextPart}
use Rattle.scale_base.specs.declared.headers.ProgramHeader.{ProgramHeader}
use Rattle.scale_base.specs.Bytes.{byte_at}
use Rattle.scale_base.specs.Spans.{in_span}
use Rattle.scale_base.specs.Rules.{AllHold}
use Rattle.scale_base.specs.Image.{contents, memory_range, is_fit, is_in, holds_part, is_text_place, range_of, text_parts, text_ranges, all_text_rules, loaded_headers, loaded_byte, header_has_word}
use Rattle.machine_laws.proofs.Tests.{same_found, found_from_any, found_passes, found_keeps, any_from_found}
use Rattle.machine_laws.proofs.Segments.{SegmentsKept, one_covers, loaded_byte-is}
use Rattle.machine_laws.proofs.Parts.{IsPlaced, part_placed, Holds, part_held, file_fits, in_part, part_covered, part_word, parts_placed}
use Rattle.machine_laws.proofs.Ranges.{list_any-ranges_of}

-- an address of the text lies in a part, which the segment that covers the address holds
pub record InText (file : List ℕ) (at : ℕ) : Type 0 where
  pub part : TextPart
  pub segment : ProgramHeader
  pub inside : is_in at (range_of part) ≡ true
  pub placed : IsPlaced (loaded_headers file) part
  pub holds : Holds part segment
  pub covers : find (λ g. in_span (memory_range g) at) (loaded_headers file) ≡ Some segment

pub in_text : (file : List ℕ) (at : ℕ) → SegmentsKept file → AllHold (all_text_rules file (loaded_headers file)) → list_any (is_in at) (text_ranges file) ≡ true → InText file at
unfolding text_ranges
in_text file at kept rules e =
    let hs = loaded_headers file in
    let parts = text_parts file hs in
    let p = found_from_any (λ part. is_in at (range_of part)) parts (sym (list_any-ranges_of (is_in at) parts) ∙ e) in
    let inside = found_passes (λ part. is_in at (range_of part)) parts p.0 p.1 in
    let placed = part_placed file hs p.0 (found_keeps (λ part. is_in at (range_of part)) (is_text_place file hs) parts p.0 p.1 (parts_placed file rules)) in
    let h = found_from_any (holds_part p.0) hs placed.held in
    record {
      part = p.0;
      segment = h.0;
      inside = inside;
      placed = placed;
      holds = part_held p.0 h.0 (found_passes (holds_part p.0) hs h.0 h.1);
      covers = one_covers (holds_part p.0) at hs h.0 (λ g holds fit. part_covered p.0 at g inside holds fit) kept.fit kept.apart h.1;
    }

-- the four addresses of a word of the text lie in it
pub word_in_text : (file : List ℕ) (at k : ℕ) → AllHold (all_text_rules file (loaded_headers file)) → at % 4 ≡ 0 → k < 4 → list_any (is_in at) (text_ranges file) ≡ true → list_any (is_in (at + k)) (text_ranges file) ≡ true
unfolding text_ranges
word_in_text file at k rules word small e =
    let hs = loaded_headers file in
    let parts = text_parts file hs in
    let p = found_from_any (λ part. is_in at (range_of part)) parts (sym (list_any-ranges_of (is_in at) parts) ∙ e) in
    let inside = found_passes (λ part. is_in at (range_of part)) parts p.0 p.1 in
    let placed = part_placed file hs p.0 (found_keeps (λ part. is_in at (range_of part)) (is_text_place file hs) parts p.0 p.1 (parts_placed file rules)) in
    list_any-ranges_of (is_in (at + k)) parts ∙ any_from_found (λ part. is_in at (range_of part)) (λ part. is_in (at + k) (range_of part)) parts p.0 p.1 (part_word p.0 at k placed.first placed.size word small inside)

-- the segment whose file part has a word covers each of its four addresses
word_covered : (at k : ℕ) (h : ProgramHeader) → k < 4 → header_has_word at h ≡ true → is_fit h ≡ true → in_span (memory_range h) (at + k) ≡ true
word_covered at k h small has fit =
    let p = and_parts (nat_le h.p_vaddr at) (nat_le (at + 4) (h.p_vaddr + h.p_filesz)) has in
    let low = leb-true h.p_vaddr at p.0 in
    let high = leb-true (at + 4) (h.p_vaddr + h.p_filesz) p.1 in
    let fits = file_fits h fit in
    and_from (nat_le h.p_vaddr (at + k)) (nat_lt (at + k) (h.p_vaddr + h.p_memsz)) (le-leb h.p_vaddr (at + k) (omega (arith, low))) (lt-ltb (at + k) (h.p_vaddr + h.p_memsz) (omega (arith, small, high, fits)))

-- a byte of a word of the text is loaded from the file, in the segment whose file part has the word
pub byte_loaded : (file : List ℕ) (at k : ℕ) (h : ProgramHeader) → SegmentsKept file → AllHold (all_text_rules file (loaded_headers file)) → at % 4 ≡ 0 → k < 4 → list_any (is_in at) (text_ranges file) ≡ true
    → find (header_has_word at) (loaded_headers file) ≡ Some h → loaded_byte (contents file) (at + k) ≡ byte_at file (h.p_offset + (at - h.p_vaddr) + k)
byte_loaded file at k h kept rules word small e found =
    let hs = loaded_headers file in
    let t = in_text file (at + k) kept rules (word_in_text file at k rules word small e) in
    let covers = one_covers (header_has_word at) (at + k) hs h (λ g has fit. word_covered at k g small has fit) kept.fit kept.apart found in
    let same : t.segment ≡ h = same_found (find (λ g. in_span (memory_range g) (at + k)) hs) t.segment h t.covers covers in
    let holds = subst (Holds t.part) same t.holds in
    let place = holds.place in
    let behind = t.placed.place in
    let inside = (in_part (at + k) t.part t.inside).0 in
    let p = and_parts (nat_le h.p_vaddr at) (nat_le (at + 4) (h.p_vaddr + h.p_filesz)) (found_passes (header_has_word at) hs h found) in
    let low = leb-true h.p_vaddr at p.0 in
    let high = leb-true (at + 4) (h.p_vaddr + h.p_filesz) p.1 in
    let moved : h.p_offset + (at + k - h.p_vaddr) ≡ h.p_offset + (at - h.p_vaddr) + k = omega (arith, low) in
    loaded_byte-is file h (at + k) kept covers (omega (arith, low, high, small)) (omega (arith, place, behind, inside, low)) ∙ ap (byte_at file) moved
