-- The loaded segments of an accepted file: they are fit, share no address, and have their bytes in the file.
use Rattle.std.proofs.Common.{◌≡◌, ℕ, ◌+◌, ◌-◌, ◌<◌, ◌≤◌, Bool, true, false, not, ◌&&◌, ◌||◌, List, [], ◌∷◌, length, drop, Some, Ok, refl, ap, ◌∙◌, arith, inl, inr}
use Rattle.std.specs.Prelude.{nat_lt, nat_le, option_map, slice_range}
use Rattle.std.specs.List.{find, list_all}
use Rattle.std.proofs.lemmas.Bool.{and_parts, and_from, and_right, or_from, not-true, both_ways, lt-ltb, le-ltb, leb-true, ltb-true, cond-true, cond-false, false_from_ne_true}
use Rattle.std.proofs.lemmas.List.{get_or-take, get_or-drop, length-take-le, length-drop}
use Rattle.std.proofs.lemmas.List.FromFn.{length-map-range_with_len}
use Rattle.scale_base.specs.declared.ranges.Span.{Span}
use Rattle.scale_base.specs.declared.headers.ProgramHeader.{ProgramHeader}
use Rattle.scale_base.specs.declared.refusal.Refusal.TheVariants.{UnsupportedElf, BadSegment}
use Rattle.scale_base.specs.declared.refusal.Field.TheVariants.{PhNum}
use Rattle.scale_base.specs.Bytes.{byte_at}
use Rattle.scale_base.specs.Rules.{rule, AllHold}
use Rattle.scale_base.specs.Spans.{in_span, overlap, each_pair, ends_by}
use Rattle.scale_base.specs.Elf.{e_phnum, program_header, program_headers}
use Rattle.scale_base.specs.Image.{Image, image_of, contents, memory_range, file_part, is_fit, may_follow, are_placed, are_few, leave_room, keeps_load_rules, keeps_segment_rules, header_rules, segment_rules, loaded_headers, loaded_byte, segment_byte, segment_of, covers, byte_in, is_zeroed}
use Rattle.scale_base.proofs.Laws.{rules_kept, nth_kept, tables-kept, parts_in_file, whole_kept, rules_of}
use Rattle.machine_laws.proofs.Tests.{found_in, found_passes, found_keeps, find-map}

overlapping : (a b : Span) (x : ℕ) → in_span a x ≡ true → in_span b x ≡ true → overlap a b ≡ true
overlapping a b x in_a in_b =
    let p = and_parts (nat_le a.from x) (nat_lt x (a.from + a.len)) in_a in
    let q = and_parts (nat_le b.from x) (nat_lt x (b.from + b.len)) in_b in
    let low_a = leb-true a.from x p.0 in
    let high_a = ltb-true x (a.from + a.len) p.1 in
    let low_b = leb-true b.from x q.0 in
    let high_b = ltb-true x (b.from + b.len) q.1 in
    let some_a = lt-ltb 0 a.len (omega (arith, low_a, high_a)) in
    let some_b = lt-ltb 0 b.len (omega (arith, low_b, high_b)) in
    let one = lt-ltb a.from (b.from + b.len) (omega (arith, low_a, high_b)) in
    let two = lt-ltb b.from (a.from + a.len) (omega (arith, low_b, high_a)) in
    and_from (nat_lt 0 a.len && nat_lt 0 b.len && nat_lt a.from (b.from + b.len)) (nat_lt b.from (a.from + a.len))
    (and_from (nat_lt 0 a.len && nat_lt 0 b.len) (nat_lt a.from (b.from + b.len)) (and_from (nat_lt 0 a.len) (nat_lt 0 b.len) some_a some_b) one) two

-- of two segments of which one may follow the other, no address lies in both
pub share_none : (a b : ProgramHeader) (x : ℕ) → may_follow a b ≡ true → in_span (memory_range a) x ≡ true → in_span (memory_range b) x ≡ true → ⊥
share_none a b x follow in_a in_b =
    let p = and_parts (nat_le a.p_vaddr b.p_vaddr && not (overlap (memory_range a) (memory_range b))) (not (overlap (file_part a) (file_part b))) follow in
    let q = and_parts (nat_le a.p_vaddr b.p_vaddr) (not (overlap (memory_range a) (memory_range b))) p.0 in
    both_ways (overlap (memory_range a) (memory_range b)) (not-true (overlap (memory_range a) (memory_range b)) q.1) (overlapping (memory_range a) (memory_range b) x in_a in_b)

-- the segment that passes a test first, where those that pass have the address, is the one that covers the address
pub one_covers : (p : ProgramHeader → Bool) (x : ℕ) (hs : List ProgramHeader) (h : ProgramHeader) → ((g : ProgramHeader) → p g ≡ true → is_fit g ≡ true → in_span (memory_range g) x ≡ true)
    → list_all is_fit hs ≡ true → each_pair may_follow hs ≡ true → find p hs ≡ Some h → find (λ g. in_span (memory_range g) x) hs ≡ Some h
one_covers p x [] h inside fit apart e = absurd cc
one_covers p x (g ∷ hs) h inside fit apart e =
    let f = and_parts (is_fit g) (list_all is_fit hs) fit in
    let a = and_parts (list_all (may_follow g) hs) (each_pair may_follow hs) apart in
    let rest = find (λ k. in_span (memory_range k) x) hs in
    elim (found_in (p g) h g (find p hs) e) [
      | inl on ↦ cond-true (in_span (memory_range g) x) (Some g) rest (inside g on.0 f.0) ∙ ap (λ k. Some k) on.1
      | inr off ↦
          let has = inside h (found_passes p hs h off.1) (found_keeps p is_fit hs h off.1 f.1) in
          let next = found_keeps p (may_follow g) hs h off.1 a.0 in
          let not_here = false_from_ne_true (in_span (memory_range g) x) (λ here. share_none g h x next here has) in
          cond-false (in_span (memory_range g) x) (Some g) rest not_here ∙ one_covers p x hs h inside f.1 a.1 off.1
    ]

-- the loaded segments of an accepted file
pub record SegmentsKept (file : List ℕ) : Type 0 where
  pub fit : list_all is_fit (loaded_headers file) ≡ true
  pub apart : each_pair may_follow (loaded_headers file) ≡ true
  pub inside : list_all (λ h. ends_by (length file) (file_part h)) (loaded_headers file) ≡ true

some_entries : (file : List ℕ) → AllHold (header_rules file) → 0 < e_phnum file
unfolding header_rules
some_entries file h =
    let both = nth_kept (header_rules file) 9 (rule (nat_le 1 (e_phnum file) && nat_le (e_phnum file) 64) (UnsupportedElf PhNum)) h refl in
    leb-true 1 (e_phnum file) (and_parts (nat_le 1 (e_phnum file)) (nat_le (e_phnum file) 64) both).0

pub length-program_headers : (file : List ℕ) → length (program_headers file) ≡ e_phnum file
unfolding program_headers
length-program_headers file = length-map-range_with_len (program_header file) 0 (e_phnum file)

-- the whole table of an accepted file keeps the rules for segments
pub whole_table_kept : (file : List ℕ) → AllHold (header_rules file) → AllHold (segment_rules file) → keeps_segment_rules (program_headers file) ≡ true
unfolding segment_rules
whole_table_kept file header h =
    whole_kept keeps_segment_rules (λ k. BadSegment k) (program_headers file) (e_phnum file) (length-program_headers file) (some_entries file header) h

placed : (entries : ℕ) (hs : List ProgramHeader) → keeps_load_rules entries hs ≡ true → are_placed hs ≡ true
unfolding keeps_load_rules
placed entries hs e = (and_parts (are_placed hs) (are_few hs) (and_parts (are_placed hs && are_few hs) (leave_room entries hs) e).0).0

pub segments_kept : (file : List ℕ) → AllHold (header_rules file) → AllHold (segment_rules file) → list_all (λ h. ends_by (length file) (file_part h)) (loaded_headers file) ≡ true → SegmentsKept file
segments_kept file header rules inside =
    let a = placed (length (program_headers file)) (loaded_headers file) (whole_table_kept file header rules) in
    let b = and_parts (list_all is_fit (loaded_headers file)) (each_pair may_follow (loaded_headers file)) a in
    record { fit = b.0; apart = b.1; inside = inside }

pub segments_of : (file : List ℕ) (image : Image) → image_of file ≡ Ok image → SegmentsKept file
segments_of file image e =
    let kept = rules_kept file image e in
    let rules = rules_of file kept in
    segments_kept file rules.header rules.segments (parts_in_file file (tables-kept file kept))

-- ---- the bytes that they load

-- no byte behind the file's header is loaded as zero
pub not_zeroed : (place : ℕ) → 52 ≤ place → is_zeroed place ≡ false
not_zeroed place h =
    or_from ((nat_le 28 place && nat_lt place 36) || (nat_le 44 place && nat_lt place 46)) (nat_le 48 place && nat_lt place 50)
    (or_from (nat_le 28 place && nat_lt place 36) (nat_le 44 place && nat_lt place 46)
    (and_right (nat_le 28 place) (nat_lt place 36) (le-ltb place 36 (omega (arith, h))))
    (and_right (nat_le 44 place) (nat_lt place 46) (le-ltb place 46 (omega (arith, h)))))
    (and_right (nat_le 48 place) (nat_lt place 50) (le-ltb place 50 (omega (arith, h))))

slice-byte : (file : List ℕ) (from len i : ℕ) → i < len → byte_at (slice_range file from (from + len)) i ≡ byte_at file (from + i)
slice-byte file from len i h = get_or-take (from + len - from) (drop from file) i 0 (omega (arith, h)) ∙ get_or-drop from file i 0

slice-length : (file : List ℕ) (from len : ℕ) → from + len ≤ length file → length (slice_range file from (from + len)) ≡ len
slice-length file from len h =
    let rest = length-drop from file in
    length-take-le (from + len - from) (drop from file) (omega (arith, rest, h)) ∙ omega arith

segment_byte-is : (file : List ℕ) (h : ProgramHeader) (x : ℕ) → h.p_offset + h.p_filesz ≤ length file → x - h.p_vaddr < h.p_filesz → 52 ≤ h.p_offset + (x - h.p_vaddr)
    → segment_byte x (segment_of file h) ≡ byte_at file (h.p_offset + (x - h.p_vaddr))
segment_byte-is file h x fits below behind =
    let bytes = slice_range file h.p_offset (h.p_offset + h.p_filesz) in
    let i = x - h.p_vaddr in
    let len = slice-length file h.p_offset h.p_filesz fits in
    let one : nat_lt i (length bytes) ≡ true = lt-ltb i (length bytes) (omega (arith, len, below)) in
    let two : not (is_zeroed (h.p_offset + i)) ≡ true = ap not (not_zeroed (h.p_offset + i) behind) in
    cond-true (nat_lt i (length bytes) && not (is_zeroed (h.p_offset + i))) (byte_at bytes i) 0 (and_from (nat_lt i (length bytes)) (not (is_zeroed (h.p_offset + i))) one two)
    ∙ slice-byte file h.p_offset h.p_filesz i below

-- the byte at an address of a segment's file part, behind the file's header, is the file's
pub loaded_byte-is : (file : List ℕ) (h : ProgramHeader) (x : ℕ) → SegmentsKept file → find (λ g. in_span (memory_range g) x) (loaded_headers file) ≡ Some h → x - h.p_vaddr < h.p_filesz
    → 52 ≤ h.p_offset + (x - h.p_vaddr) → loaded_byte (contents file) x ≡ byte_at file (h.p_offset + (x - h.p_vaddr))
unfolding loaded_byte contents
loaded_byte-is file h x kept found below behind =
    let fits = leb-true (h.p_offset + h.p_filesz) (length file) (found_keeps (λ g. in_span (memory_range g) x) (λ g. ends_by (length file) (file_part g)) (loaded_headers file) h found kept.inside) in
    ap (byte_in x) (find-map (covers x) (segment_of file) (loaded_headers file) ∙ ap (option_map (segment_of file)) found) ∙ segment_byte-is file h x fits below behind
