-- Where the segments of an accepted image lie.
use Rattle.std.proofs.Common.{◌≡◌, ℕ, ◌%◌, ◌≤◌, Bool, true, false, not, ◌&&◌, cond, List, [], ◌∷◌, map, Option, None, Some, Ok, refl, ap, sym, ◌∙◌, arith, inl, inr, ◌⊎◌, length}
use Rattle.std.specs.Prelude.{nat_le, find, ◌==◌}
use Rattle.std.specs.List.{list_all}
use Rattle.std.proofs.lemmas.Bool.{and_parts}
use Rattle.std.proofs.lemmas.Bool.Decides.{nat_tests}
use Rattle.std.proofs.lemmas.List.FromFn.{length-map-range_with_len}
use Rattle.scale_base.specs.declared.headers.ProgramHeader.{ProgramHeader}
use Rattle.scale_base.specs.declared.ranges.Span.{Span}
use Rattle.scale_base.specs.declared.refusal.Refusal.TheVariants.{UnsupportedElf, BadSegment}
use Rattle.scale_base.specs.declared.refusal.Field.TheVariants.{PhNum}
use Rattle.scale_base.specs.Spans.{overlap, in_span, each_pair, ends_by}
use Rattle.scale_base.specs.Rules.{rule, AllHold}
use Rattle.scale_base.specs.Elf.{e_phnum, program_header, program_headers}
use Rattle.scale_base.specs.Image.{Image, LoadSegment, header_rules, segment_rules, image_of, contents, loaded_headers, segment_of, keeps_load_rules, keeps_segment_rules, are_placed, are_few, leave_room, is_fit, is_plain_place, is_keyed_place, may_follow, has_key, memory_range, file_part, addresses_of, covers, stack}
use Rattle.scale_base.specs.Layout.{in_stack}
use Rattle.scale_base.proofs.Laws.{nth_kept, rules_kept, contents-are, whole_kept, rules_of}
use Rattle.flat_memory.specs.Ordered.{comes_before}
use Rattle.flat_memory.proofs.OrderLaws.{pair_map}

le_of : (x y : ℕ) → nat_le x y ≡ true → x ≤ y
le_of x y e = grind (arith, nat_tests)

one_true : (b x y : Bool) → cond b x y ≡ true → (x ≡ true) ⊎ (y ≡ true)
one_true true x y e = inl e
one_true false x y e = inr e

length-headers : (file : List ℕ) → length (program_headers file) ≡ e_phnum file
unfolding program_headers
length-headers file = length-map-range_with_len (program_header file) 0 (e_phnum file)

some_entries : (file : List ℕ) → AllHold (header_rules file) → 1 ≤ e_phnum file
unfolding header_rules
some_entries file h =
    let both = nth_kept (header_rules file) 9 (rule (nat_le 1 (e_phnum file) && nat_le (e_phnum file) 64) (UnsupportedElf PhNum)) h refl in
    le_of 1 (e_phnum file) (and_parts (nat_le 1 (e_phnum file)) (nat_le (e_phnum file) 64) both).0

load_rules : (file : List ℕ) → AllHold (header_rules file) → AllHold (segment_rules file) → keeps_segment_rules (program_headers file) ≡ true
unfolding segment_rules
load_rules file header h = whole_kept keeps_segment_rules BadSegment (program_headers file) (e_phnum file) (length-headers file) (some_entries file header) h

placed : (entries : ℕ) (hs : List ProgramHeader) → keeps_load_rules entries hs ≡ true → are_placed hs ≡ true
unfolding keeps_load_rules
placed entries hs e = (and_parts (are_placed hs) (are_few hs) (and_parts (are_placed hs && are_few hs) (leave_room entries hs) e).0).0

-- the loaded headers of an image, which make its segments
pub record AreHeadersOf (image : Image) (hs : List ProgramHeader) : Type 0 where
  pub segments : image.segments ≡ map (segment_of image.file) hs
  pub fit : list_all is_fit hs ≡ true
  pub follow : each_pair may_follow hs ≡ true

contents-segments : (file : List ℕ) (image : Image) → contents file ≡ image → image.segments ≡ map (segment_of image.file) (loaded_headers file)
unfolding contents
contents-segments file image e = sym (ap (λ i. i.segments) e) ∙ ap (λ f. map (segment_of f) (loaded_headers file)) (ap (λ i. i.file) e)

pub headers_of : (file : List ℕ) (image : Image) → image_of file ≡ Ok image → AreHeadersOf image (loaded_headers file)
headers_of file image e =
    let r = rules_of file (rules_kept file image e) in
    let p = and_parts (list_all is_fit (loaded_headers file)) (each_pair may_follow (loaded_headers file)) (placed _ (loaded_headers file) (load_rules file r.header r.segments)) in
    record { segments = contents-segments file image (contents-are file image e); fit = p.0; follow = p.1 }

-- ---- the stack

fit_off : (h : ProgramHeader) → is_fit h ≡ true → not (overlap (memory_range h) stack) ≡ true
fit_off h e =
    elim (one_true (has_key h) (is_keyed_place h) (is_plain_place h) (and_parts (nat_le h.p_filesz h.p_memsz) (cond (has_key h) (is_keyed_place h) (is_plain_place h)) e).1) [
      | inl k ↦ (and_parts ((h.p_flags == 0x00100005) && (h.p_vaddr % 4096 == 0) && (h.p_filesz == h.p_memsz) && nat_le h.p_memsz 4194304 && ends_by 0xFFFFF800 (memory_range h)) (not (overlap (memory_range h) stack)) k).1
      | inr p ↦ (and_parts (ends_by 0xFF000000 (memory_range h)) (not (overlap (memory_range h) stack)) p).1
    ]

off_stack : (a : Span) (at : ℕ) → not (overlap a stack) ≡ true → in_stack at ≡ true → in_span a at ≡ false
off_stack a at off here = grind (arith, nat_tests)

find_none : (t : Bool) (s : LoadSegment) (o : Option LoadSegment) → t ≡ false → o ≡ None → cond t (Some s) o ≡ None
find_none false s o e h = h
find_none true s o e h = absurd cc

none_covers : (file : List ℕ) (hs : List ProgramHeader) (at : ℕ) → list_all is_fit hs ≡ true → in_stack at ≡ true → find (covers at) (map (segment_of file) hs) ≡ None
none_covers file [] at fit here = refl
none_covers file (h ∷ hs) at fit here =
    let p = and_parts (is_fit h) (list_all is_fit hs) fit in
    find_none (in_span (memory_range h) at) (segment_of file h) (find (covers at) (map (segment_of file) hs)) (off_stack (memory_range h) at (fit_off h p.0) here) (none_covers file hs at p.1 here)

-- no segment has an address of the stack
pub stack_free : (image : Image) (hs : List ProgramHeader) (at : ℕ) → AreHeadersOf image hs → in_stack at ≡ true → find (covers at) image.segments ≡ None
stack_free image hs at h here = rw h.segments (none_covers image.file hs at h.fit here)

-- ---- the order of the segments

follows_before : (a b : ProgramHeader) → may_follow a b ≡ true → comes_before (memory_range a) (memory_range b) ≡ true
follows_before a b e =
    let p = and_parts (nat_le a.p_vaddr b.p_vaddr && not (overlap (memory_range a) (memory_range b))) (not (overlap (file_part a) (file_part b))) e in
    let q = and_parts (nat_le a.p_vaddr b.p_vaddr) (not (overlap (memory_range a) (memory_range b))) p.0 in
    apart_before (memory_range a) (memory_range b) q.0 q.1
  where
    apart_before : (a b : Span) → nat_le a.from b.from ≡ true → not (overlap a b) ≡ true → comes_before a b ≡ true
    apart_before a b low apart = grind (arith, nat_tests)

pub ordered_segments : (image : Image) (hs : List ProgramHeader) → AreHeadersOf image hs → each_pair comes_before (map addresses_of image.segments) ≡ true
ordered_segments image hs h =
    rw h.segments (pair_map (λ s t. comes_before (addresses_of s) (addresses_of t)) comes_before addresses_of (λ s t e. e) (map (segment_of image.file) hs)
    (pair_map may_follow (λ s t. comes_before (addresses_of s) (addresses_of t)) (segment_of image.file) follows_before hs h.follow))
