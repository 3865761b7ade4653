-- The image of a file: which rule the file breaks first, or what stands in it.
use Rattle.std.specs.Prelude.{ℕ, ◌+◌, ◌*◌, ◌-◌, ◌%◌, length, take, slice_get, List, [], ◌∷◌, ◌++◌, map, filter, filter_map, find, fold, sum_by, Bool, ◌==◌, ◌&&◌, ◌||◌, not, nat_lt, nat_le, nat_eq, if◌then◌else◌, Option, Some, None, Result, Ok, Err, slice_range, option_map}
use Rattle.std.specs.List.{list_all, list_any, starts_with}
use Rattle.scale_base.specs.declared.refusal.Field.TheVariants.{Class, Encoding, Version, Kind, Machine, Flags, PhEntSize, PhNum, ShEntSize}
use Rattle.scale_base.specs.declared.refusal.Refusal.{Refusal}
use Rattle.scale_base.specs.declared.refusal.Refusal.TheVariants.{NotElf, UnsupportedElf, TruncatedElf, DynamicImage, BadSegment, BadText, WritableText}
use Rattle.scale_base.specs.declared.ranges.Range.{Range}
use Rattle.scale_base.specs.declared.ranges.Keyed.{Keyed}
use Rattle.scale_base.specs.declared.ranges.Span.{Span}
use Rattle.scale_base.specs.declared.ranges.TextPart.{TextPart}
use Rattle.scale_base.specs.Bytes.{byte_at, list_word_at}
use Rattle.scale_base.specs.Rules.{Rule, rule, first_broken, each_below}
use Rattle.scale_base.specs.Spans.{in_span, overlap, each_pair, ends_by, round_up, round_down}
use Rattle.scale_base.specs.Elf.{e_type, e_machine, e_version, e_entry, e_phoff, e_shoff, e_flags, e_phentsize, e_phnum, e_shentsize, e_shnum, has_sections, has, program_headers, section_headers}
use Rattle.scale_base.specs.declared.headers.ProgramHeader.{ProgramHeader}
use Rattle.scale_base.specs.declared.headers.SectionHeader.{SectionHeader}

-- ---- the header

abbrev pub field_rules : List ℕ → List Rule
field_rules file =
    rule (byte_at file 4 == 1) (UnsupportedElf Class)
    ∷ rule (byte_at file 5 == 1) (UnsupportedElf Encoding)
    ∷ rule ((byte_at file 6 == 1) && (e_version file == 1)) (UnsupportedElf Version)
    ∷ rule (e_type file == 2) (UnsupportedElf Kind)
    ∷ rule (e_machine file == 243) (UnsupportedElf Machine)
    ∷ rule (not (has (e_flags file) 0xF)) (UnsupportedElf Flags)
    ∷ rule (e_phentsize file == 32) (UnsupportedElf PhEntSize)
    ∷ rule (nat_le 1 (e_phnum file) && nat_le (e_phnum file) 64) (UnsupportedElf PhNum)
    ∷ rule (not (has_sections file) || (e_shentsize file == 40)) (UnsupportedElf ShEntSize)
    ∷ []

unfoldable pub header_rules : List ℕ → List Rule
header_rules file =
    rule (starts_with nat_eq file (0x7F ∷ 0x45 ∷ 0x4C ∷ 0x46 ∷ [])) NotElf
    ∷ rule (nat_le 52 (length file)) TruncatedElf
    ∷ field_rules file

-- ---- program headers

abbrev pub PT_LOAD : ℕ
PT_LOAD = 1

abbrev pub PT_DYNAMIC : ℕ
PT_DYNAMIC = 2

abbrev pub PT_INTERP : ℕ
PT_INTERP = 3

abbrev pub PF_X : ℕ
PF_X = 1

abbrev pub PF_W : ℕ
PF_W = 2

abbrev pub PF_R : ℕ
PF_R = 4

-- the flag of the keyed segment
abbrev pub KEY : ℕ
KEY = 0x00100000

-- all the flags of the keyed segment: the key, PF_R and PF_X
abbrev pub KEYED_FLAGS : ℕ
KEYED_FLAGS = 0x00100005

abbrev pub is_load : ProgramHeader → Bool
is_load h = h.p_type == PT_LOAD

abbrev pub is_dynamic : ProgramHeader → Bool
is_dynamic h = (h.p_type == PT_DYNAMIC) || (h.p_type == PT_INTERP)

abbrev pub has_key : ProgramHeader → Bool
has_key h = has h.p_flags KEY

abbrev pub load_headers : List ProgramHeader → List ProgramHeader
load_headers headers = filter is_load headers

-- a segment without the key
abbrev pub is_plain : ProgramHeader → Bool
is_plain h = not (has_key h)

-- the addresses of a segment, and its part of the file
abbrev pub memory_range : ProgramHeader → Span
memory_range h = record { from = h.p_vaddr; len = h.p_memsz }

abbrev pub file_part : ProgramHeader → Span
file_part h = record { from = h.p_offset; len = h.p_filesz }

-- the file part of a loaded segment passes the end of a file of so many bytes
abbrev pub reaches_past : ℕ → ProgramHeader → Bool
reaches_past len h = is_load h && not (ends_by len (file_part h))

unfoldable pub table_rules : List ℕ → List Rule
table_rules file =
    rule (nat_le (e_phoff file + 32 * e_phnum file) (length file)) TruncatedElf
    ∷ rule (not (has_sections file) || nat_le (e_shoff file + 40 * e_shnum file) (length file)) TruncatedElf
    ∷ rule (not (list_any is_dynamic (program_headers file))) DynamicImage
    ∷ rule (not (list_any (reaches_past (length file)) (program_headers file))) TruncatedElf
    ∷ []

-- ---- segments

-- the first address of the stack, and its number of bytes
abbrev pub STACK_START : ℕ
STACK_START = 0x7FFC0000

abbrev pub STACK_LEN : ℕ
STACK_LEN = 0x40000

abbrev pub stack : Span
stack = record { from = STACK_START; len = STACK_LEN }

-- the first address that no segment without the key may have
abbrev pub PLAIN_END : ℕ
PLAIN_END = 0xFF000000

-- the first address of the window, which has the shadow words and the speed port, and its number of bytes
abbrev pub WINDOW_START : ℕ
WINDOW_START = 0xFFFFF800

abbrev pub WINDOW_LEN : ℕ
WINDOW_LEN = 0x800

abbrev pub is_plain_place : ProgramHeader → Bool
is_plain_place h = ends_by PLAIN_END (memory_range h) && not (overlap (memory_range h) stack)

abbrev pub is_keyed_place : ProgramHeader → Bool
is_keyed_place h =
    (h.p_flags == KEYED_FLAGS) && (h.p_vaddr % 4096 == 0) && (h.p_filesz == h.p_memsz) && nat_le h.p_memsz 4194304
    && ends_by WINDOW_START (memory_range h) && not (overlap (memory_range h) stack)

abbrev pub is_fit : ProgramHeader → Bool
is_fit h = nat_le h.p_filesz h.p_memsz && (if has_key h then is_keyed_place h else is_plain_place h)

-- b may stand behind a: its addresses don't begin lower, and they share no address and no byte of the file
abbrev pub may_follow : ProgramHeader → ProgramHeader → Bool
may_follow a b =
    nat_le a.p_vaddr b.p_vaddr && not (overlap (memory_range a) (memory_range b)) && not (overlap (file_part a) (file_part b))

abbrev pub are_placed : List ProgramHeader → Bool
are_placed segments = list_all is_fit segments && each_pair may_follow segments

abbrev pub are_few : List ProgramHeader → Bool
are_few segments =
    nat_le (length (filter is_plain segments)) 16
    && nat_le (sum_by (λ h. h.p_memsz) (filter is_plain segments)) 16777216
    && nat_le (length (filter has_key segments)) 1

-- the last entry that a table may have is there only where one has the key
abbrev pub leave_room : ℕ → List ProgramHeader → Bool
leave_room entries segments = nat_lt entries 64 || nat_lt 0 (length (filter has_key segments))

-- the rules for loaded segments that stand in a table of so many entries
unfoldable pub keeps_load_rules : ℕ → List ProgramHeader → Bool
keeps_load_rules entries segments = are_placed segments && are_few segments && leave_room entries segments

abbrev pub keeps_segment_rules : List ProgramHeader → Bool
keeps_segment_rules headers = keeps_load_rules (length headers) (load_headers headers)

-- the least entry up to which one is broken
unfoldable pub segment_rules : List ℕ → List Rule
segment_rules file = each_below (e_phnum file) (λ k. rule (keeps_segment_rules (take (k + 1) (program_headers file))) (BadSegment k))

-- ---- text ranges

abbrev pub range_of : TextPart → Range
range_of part = record { from = part.span.from; to = part.span.from + part.span.len }

-- the text of a section: it is nonempty and holds code (SHT_PROGBITS with SHF_ALLOC and SHF_EXECINSTR)
abbrev pub text_of_section : SectionHeader → Option TextPart
text_of_section s =
    if (s.sh_type == 1) && has s.sh_flags 2 && has s.sh_flags 4 && nat_lt 0 s.sh_size
    then Some (record { span = record { from = s.sh_addr; len = s.sh_size }; place = s.sh_offset }) else None

-- a segment that holds code, without the key
abbrev pub is_code_segment : ProgramHeader → Bool
is_code_segment h = is_plain h && has h.p_flags PF_X

-- the text of a segment: its file part without the bytes of the file's header, rounded inwards to multiples of 4
abbrev pub text_start_of : ProgramHeader → ℕ
text_start_of h = round_up 4 (h.p_vaddr + (52 - h.p_offset))

abbrev pub text_end_of : ProgramHeader → ℕ
text_end_of h = round_down 4 (h.p_vaddr + h.p_filesz)

abbrev pub text_of_segment : ProgramHeader → Option TextPart
text_of_segment h =
    if is_code_segment h && nat_lt (text_start_of h) (text_end_of h)
    then Some (record {
      span = record { from = text_start_of h; len = text_end_of h - text_start_of h };
      place = h.p_offset + (text_start_of h - h.p_vaddr);
    }) else None

-- the parts of the text, in the order of their table. Here and below `segments` are the loaded segments of the file.
unfoldable pub text_parts : List ℕ → List ProgramHeader → List TextPart
text_parts file segments =
    if has_sections file then filter_map text_of_section (section_headers file) else filter_map text_of_segment segments

-- the addresses lie in the file part of a code segment, which has these bytes of the file there
abbrev pub holds_part : TextPart → ProgramHeader → Bool
holds_part part h =
    is_code_segment h && nat_le h.p_vaddr part.span.from && nat_le (part.span.from + part.span.len) (h.p_vaddr + h.p_filesz)
    && (part.place + h.p_vaddr == h.p_offset + part.span.from)

-- The section header table begins behind the bytes of the file's header that a rewriting changes (28 to 31, 44 and 45), and the file bytes
-- of the part share none with it.
abbrev pub is_off_table : List ℕ → TextPart → Bool
is_off_table file part =
    not (has_sections file)
    || (nat_le 46 (e_shoff file) && (nat_le (part.place + part.span.len) (e_shoff file) || nat_le (e_shoff file + 40 * e_shnum file)
    part.place))

abbrev pub is_text_place : List ℕ → List ProgramHeader → TextPart → Bool
is_text_place file segments part =
    (part.span.from % 4 == 0) && (part.span.len % 4 == 0) && list_any (holds_part part) segments && nat_le 52 part.place && is_off_table
    file part

abbrev pub are_apart : TextPart → TextPart → Bool
are_apart a b = not (overlap a.span b.span)

-- the rules for the first parts of the table
unfoldable pub keeps_text_rules : List ℕ → List ProgramHeader → List TextPart → Bool
keeps_text_rules file segments parts =
    list_all (is_text_place file segments) parts && each_pair are_apart parts && nat_le (sum_by (λ part. part.span.len) parts) 524288

abbrev pub text_start : Option TextPart → ℕ
text_start None = 0
text_start (Some part) = part.span.from

-- the least part up to which one is broken
unfoldable pub part_rules : List ℕ → List ProgramHeader → List TextPart → List Rule
part_rules file segments parts =
    each_below (length parts) (λ k. rule (keeps_text_rules file segments (take (k + 1) parts)) (BadText (text_start (slice_get parts k))))

-- there is some text, and each part keeps the rules
abbrev pub text_rules : List ℕ → List ProgramHeader → List TextPart → List Rule
text_rules file segments parts = rule (nat_lt 0 (length parts)) (BadText 0) ∷ part_rules file segments parts

-- ---- the ranges in ascending order

abbrev pub insert_range : List Range → Range → List Range
insert_range [] r = r ∷ []
insert_range (x ∷ xs) r = if nat_lt r.from x.from then r ∷ x ∷ xs else x ∷ insert_range xs r

unfoldable pub ascending : List Range → List Range
ascending ranges = fold insert_range [] ranges

abbrev pub ranges_of : List TextPart → List Range
ranges_of parts = ascending (map range_of parts)

-- the segment of a range may be written
abbrev pub is_writable_at : Range → ProgramHeader → Bool
is_writable_at r h = is_plain h && nat_le h.p_vaddr r.from && nat_le r.to (h.p_vaddr + h.p_filesz) && has h.p_flags PF_W

abbrev pub write_rule : List ProgramHeader → Range → Rule
write_rule segments r = rule (not (list_any (is_writable_at r) segments)) (WritableText r.from)

unfoldable pub write_rules : List ProgramHeader → List Range → List Rule
write_rules segments ranges = map (write_rule segments) ranges

-- the rules for the text: those for its parts, and those for its ranges in ascending order
unfoldable pub all_text_rules : List ℕ → List ProgramHeader → List Rule
all_text_rules file segments =
    text_rules file segments (text_parts file segments) ++ write_rules segments (ranges_of (text_parts file segments))

-- ---- all the rules, and the image

abbrev pub loaded_headers : List ℕ → List ProgramHeader
loaded_headers file = load_headers (program_headers file)

unfoldable pub text_ranges : List ℕ → List Range
text_ranges file = ranges_of (text_parts file (loaded_headers file))

unfoldable pub image_rules : List ℕ → List Rule
image_rules file = header_rules file ++ (table_rules file ++ (segment_rules file ++ all_text_rules file (loaded_headers file)))

-- a loaded segment: its addresses, its flags, and its file part with the place where that begins
pub record LoadSegment : Type 0 where
  pub from : ℕ
  pub len : ℕ
  pub flags : ℕ
  pub file_at : ℕ
  pub file : List ℕ

abbrev pub segment_of : List ℕ → ProgramHeader → LoadSegment
segment_of file h = record {
  from = h.p_vaddr;
  len = h.p_memsz;
  flags = h.p_flags;
  file_at = h.p_offset;
  file = slice_range file h.p_offset (h.p_offset + h.p_filesz);
}

abbrev pub keyed_of : ProgramHeader → Keyed
keyed_of h = record { range = record { from = h.p_vaddr; to = h.p_vaddr + h.p_memsz }; start = h.p_paddr }

pub record Image : Type 0 where
  pub file : List ℕ
  pub entry : ℕ
  pub segments : List LoadSegment
  pub text : List Range
  pub keyed_segment : Option Keyed

unfoldable pub contents : List ℕ → Image
contents file = record {
  file = file;
  entry = e_entry file;
  segments = map (segment_of file) (loaded_headers file);
  text = text_ranges file;
  keyed_segment = option_map keyed_of (find has_key (loaded_headers file));
}

abbrev pub refused_or : Option Refusal → Image → Result Image Refusal
refused_or (Some refusal) image = Err refusal
refused_or None image = Ok image

-- the refusal by the first broken rule, or the image where no rule is broken
unfoldable pub image_of : List ℕ → Result Image Refusal
image_of file = refused_or (first_broken (image_rules file)) (contents file)

-- ---- what the image's memory holds

-- the file bytes of e_phoff, e_shoff, e_phnum and e_shnum, which are loaded as zeros
abbrev pub is_zeroed : ℕ → Bool
is_zeroed place =
    (nat_le 28 place && nat_lt place 36) || (nat_le 44 place && nat_lt place 46) || (nat_le 48 place && nat_lt place 50)

abbrev pub addresses_of : LoadSegment → Span
addresses_of s = record { from = s.from; len = s.len }

abbrev pub covers : ℕ → LoadSegment → Bool
covers at s = in_span (addresses_of s) at

-- the byte that a segment loads at the address
abbrev pub segment_byte : ℕ → LoadSegment → ℕ
segment_byte at s = if nat_lt (at - s.from) (length s.file) && not (is_zeroed (s.file_at + (at - s.from))) then byte_at s.file
    (at - s.from) else 0

abbrev pub byte_in : ℕ → Option LoadSegment → ℕ
byte_in at None = 0
byte_in at (Some s) = segment_byte at s

-- the loaded byte at an address, 0 where no segment is
unfoldable pub loaded_byte : Image → ℕ → ℕ
loaded_byte image at = byte_in at (find (covers at) image.segments)

abbrev pub is_in : ℕ → Range → Bool
is_in at r = nat_le r.from at && nat_lt at r.to

abbrev pub is_word_address : Image → ℕ → Bool
is_word_address image at = (at % 4 == 0) && list_any (is_in at) image.text

-- the segment's file part has the four bytes from the address on
abbrev pub header_has_word : ℕ → ProgramHeader → Bool
header_has_word at h = nat_le h.p_vaddr at && nat_le (at + 4) (h.p_vaddr + h.p_filesz)

-- the place in the file of the four bytes for the addresses from this one on
abbrev pub file_place : List ℕ → ℕ → Option ℕ
file_place file at = option_map (λ h. h.p_offset + (at - h.p_vaddr)) (find (header_has_word at) (loaded_headers file))

-- the word of an address, a multiple of 4 in a text range
unfoldable pub text_word : Image → ℕ → Option ℕ
text_word image at = if is_word_address image at then option_map (list_word_at image.file) (file_place image.file at) else None
