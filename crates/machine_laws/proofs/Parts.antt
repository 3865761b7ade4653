-- The parts of the text: what their place says of them, and the segment that holds them.
use Rattle.std.proofs.Common.{◌≡◌, ℕ, ◌+◌, ◌-◌, ◌%◌, ◌<◌, ◌≤◌, Bool, true, not, cond, ◌&&◌, List, refl, sym, ◌∙◌, arith}
use Rattle.std.specs.Prelude.{nat_lt, nat_le, ◌==◌}
use Rattle.std.specs.List.{list_any, list_all, filter_map}
use Rattle.std.proofs.lemmas.Bool.{and_parts, and_from, not-true, cond_both, lt-ltb, le-leb, leb-true, ltb-true, eqb-true, cond-false}
use Rattle.scale_base.specs.declared.ranges.Range.{Range}
use Rattle.scale_base.specs.declared.ranges.TextPart.{TextPart}
use Rattle.scale_base.specs.declared.headers.ProgramHeader.{ProgramHeader}
use Rattle.scale_base.specs.declared.headers.SectionHeader.{SectionHeader}
use Rattle.scale_base.specs.Spans.{in_span, overlap, ends_by}
use Rattle.scale_base.specs.Elf.{has, has_sections, section_headers}
use Rattle.scale_base.specs.Image.{memory_range, stack, has_key, is_plain, is_fit, is_keyed_place, is_plain_place, is_code_segment, PF_X, range_of, is_in, holds_part, is_text_place, is_off_table, text_parts, text_of_section, text_of_segment, text_start_of, text_end_of, text_rules, write_rules, all_text_rules, loaded_headers, ranges_of}
use Rattle.scale_base.specs.Rules.{AllHold}
use Rattle.scale_base.proofs.Laws.{kept-split, parts_kept}
use Rattle.machine_laws.proofs.Tests.{passes, list_all-filter_map}

-- what the place of a part says
pub record IsPlaced (hs : List ProgramHeader) (part : TextPart) : Type 0 where
  pub first : part.span.from % 4 ≡ 0
  pub size : part.span.len % 4 ≡ 0
  pub held : list_any (holds_part part) hs ≡ true
  pub place : 52 ≤ part.place

pub part_placed : (file : List ℕ) (hs : List ProgramHeader) (part : TextPart) → is_text_place file hs part ≡ true → IsPlaced hs part
part_placed file hs part e =
    let b = and_parts ((part.span.from % 4 == 0) && (part.span.len % 4 == 0) && list_any (holds_part part) hs && nat_le 52 part.place) (is_off_table file part) e in
    let c = and_parts ((part.span.from % 4 == 0) && (part.span.len % 4 == 0) && list_any (holds_part part) hs) (nat_le 52 part.place) b.0 in
    let d = and_parts ((part.span.from % 4 == 0) && (part.span.len % 4 == 0)) (list_any (holds_part part) hs) c.0 in
    let f = and_parts (part.span.from % 4 == 0) (part.span.len % 4 == 0) d.0 in
    record { first = eqb-true (part.span.from % 4) 0 f.0; size = eqb-true (part.span.len % 4) 0 f.1; held = d.1; place = leb-true 52 part.place c.1 }

-- the segment has the part in its file part
pub record Holds (part : TextPart) (h : ProgramHeader) : Type 0 where
  pub code : is_code_segment h ≡ true
  pub low : h.p_vaddr ≤ part.span.from
  pub high : part.span.from + part.span.len ≤ h.p_vaddr + h.p_filesz
  pub place : part.place + h.p_vaddr ≡ h.p_offset + part.span.from

pub part_held : (part : TextPart) (h : ProgramHeader) → holds_part part h ≡ true → Holds part h
part_held part h e =
    let b = and_parts (is_code_segment h && nat_le h.p_vaddr part.span.from && nat_le (part.span.from + part.span.len) (h.p_vaddr + h.p_filesz)) (part.place + h.p_vaddr == h.p_offset + part.span.from) e in
    let c = and_parts (is_code_segment h && nat_le h.p_vaddr part.span.from) (nat_le (part.span.from + part.span.len) (h.p_vaddr + h.p_filesz)) b.0 in
    let d = and_parts (is_code_segment h) (nat_le h.p_vaddr part.span.from) c.0 in
    record {
      code = d.0;
      low = leb-true h.p_vaddr part.span.from d.1;
      high = leb-true (part.span.from + part.span.len) (h.p_vaddr + h.p_filesz) c.1;
      place = eqb-true (part.place + h.p_vaddr) (h.p_offset + part.span.from) b.1;
    }

-- ---- what fits

pub file_fits : (h : ProgramHeader) → is_fit h ≡ true → h.p_filesz ≤ h.p_memsz
file_fits h e = leb-true h.p_filesz h.p_memsz (and_parts (nat_le h.p_filesz h.p_memsz) (cond (has_key h) (is_keyed_place h) (is_plain_place h)) e).0

-- a code segment ends below the addresses that a program may not use
pub code_below : (h : ProgramHeader) → is_fit h ≡ true → is_code_segment h ≡ true → h.p_vaddr + h.p_memsz ≤ 0xFF000000
code_below h e code =
    let a = and_parts (nat_le h.p_filesz h.p_memsz) (cond (has_key h) (is_keyed_place h) (is_plain_place h)) e in
    let plain = not-true (has_key h) (and_parts (is_plain h) (has h.p_flags PF_X) code).0 in
    let place : is_plain_place h ≡ true = sym (cond-false (has_key h) (is_keyed_place h) (is_plain_place h) plain) ∙ a.1 in
    leb-true (h.p_vaddr + h.p_memsz) 0xFF000000 (and_parts (ends_by 0xFF000000 (memory_range h)) (not (overlap (memory_range h) stack)) place).0

in_range : (at : ℕ) (r : Range) → is_in at r ≡ true → (r.from ≤ at) × (at < r.to)
in_range at r e = let p = and_parts (nat_le r.from at) (nat_lt at r.to) e in (leb-true r.from at p.0, ltb-true at r.to p.1)

-- an address of a part, with what it says as numbers
pub in_part : (at : ℕ) (part : TextPart) → is_in at (range_of part) ≡ true → (part.span.from ≤ at) × (at < part.span.from + part.span.len)
in_part at part e = in_range at (range_of part) e

-- the segment that holds a part covers each of its addresses
pub part_covered : (part : TextPart) (at : ℕ) (h : ProgramHeader) → is_in at (range_of part) ≡ true → holds_part part h ≡ true → is_fit h ≡ true → in_span (memory_range h) at ≡ true
part_covered part at h inside holds fit =
    let p = in_part at part inside in
    let held = part_held part h holds in
    let low = held.low in
    let high = held.high in
    let fits = file_fits h fit in
    and_from (nat_le h.p_vaddr at) (nat_lt at (h.p_vaddr + h.p_memsz)) (le-leb h.p_vaddr at (omega (arith, p.0, low))) (lt-ltb at (h.p_vaddr + h.p_memsz) (omega (arith, p.1, high, fits)))

-- the other three bytes of a word of a part lie in the part
pub part_word : (part : TextPart) (at k : ℕ) → part.span.from % 4 ≡ 0 → part.span.len % 4 ≡ 0 → at % 4 ≡ 0 → k < 4 → is_in at (range_of part) ≡ true → is_in (at + k) (range_of part) ≡ true
part_word part at k first size word small inside =
    let p = in_part at part inside in
    and_from (nat_le part.span.from (at + k)) (nat_lt (at + k) (part.span.from + part.span.len)) (le-leb part.span.from (at + k) (omega (arith, p.0)))
    (lt-ltb (at + k) (part.span.from + part.span.len) (omega (arith, first, size, word, small, p.1)))

-- ---- the parts of an accepted file

pub parts_placed : (file : List ℕ) → AllHold (all_text_rules file (loaded_headers file)) → list_all (is_text_place file (loaded_headers file)) (text_parts file (loaded_headers file)) ≡ true
unfolding all_text_rules
parts_placed file rules =
    let hs = loaded_headers file in
    let parts = text_parts file hs in
    parts_kept file hs parts (kept-split (text_rules file hs parts) (write_rules hs (ranges_of parts)) rules).0

abbrev pub is_nonempty : TextPart → Bool
is_nonempty part = nat_lt 0 part.span.len

section_nonempty : (s : SectionHeader) → passes is_nonempty (text_of_section s) ≡ true
section_nonempty s =
    cond_both ((s.sh_type == 1) && has s.sh_flags 2 && has s.sh_flags 4 && nat_lt 0 s.sh_size) _ _ (λ o. passes is_nonempty o ≡ true)
    (λ e. (and_parts ((s.sh_type == 1) && has s.sh_flags 2 && has s.sh_flags 4) (nat_lt 0 s.sh_size) e).1) (λ _. refl)

segment_nonempty : (h : ProgramHeader) → passes is_nonempty (text_of_segment h) ≡ true
segment_nonempty h =
    cond_both (is_code_segment h && nat_lt (text_start_of h) (text_end_of h)) _ _ (λ o. passes is_nonempty o ≡ true)
    (λ e. let less = ltb-true (text_start_of h) (text_end_of h) (and_parts (is_code_segment h) (nat_lt (text_start_of h) (text_end_of h)) e).1 in lt-ltb 0 (text_end_of h - text_start_of h) (some_left (text_start_of h) (text_end_of h) less)) (λ _. refl)
  where
    some_left : (a b : ℕ) → a < b → 0 < b - a
    some_left a b h = omega (arith, h)

pub parts_nonempty : (file : List ℕ) (hs : List ProgramHeader) → list_all is_nonempty (text_parts file hs) ≡ true
unfolding text_parts
parts_nonempty file hs =
    cond_both (has_sections file) (filter_map text_of_section (section_headers file)) (filter_map text_of_segment hs) (λ parts. list_all is_nonempty parts ≡ true)
    (λ _. list_all-filter_map is_nonempty text_of_section (section_headers file) section_nonempty) (λ _. list_all-filter_map is_nonempty text_of_segment hs segment_nonempty)
