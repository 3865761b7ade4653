-- A file with one segment behind the two headers keeps the rules of images.
use Rattle.std.proofs.Common.{◌≡◌, ℕ, ◌+◌, ◌*◌, ◌-◌, ◌/◌, ◌%◌, ◌<◌, ◌≤◌, true, false, List, [], ◌∷◌, ◌++◌, length, get_or, Some, None, refl, arith}
use Rattle.std.specs.Prelude.{nat_le, nat_lt, nat_eq}
use Rattle.std.specs.List.{starts_with}
use Rattle.std.proofs.lemmas.Bool.{le-leb}
use Rattle.std.proofs.lemmas.Bool.Decides.{nat_tests}
use Rattle.scale_base.specs.declared.headers.ProgramHeader.{ProgramHeader}
use Rattle.scale_base.specs.declared.ranges.TextPart.{TextPart}
use Rattle.scale_base.specs.declared.ranges.Range.{Range}
use Rattle.scale_base.specs.Rules.{AllHold}
use Rattle.scale_base.specs.Bytes.{list_word_at}
use Rattle.scale_base.specs.Elf.{e_type, e_machine, e_version, e_entry, e_phoff, e_phnum, e_shoff, e_flags, e_phentsize, program_headers}
use Rattle.scale_base.specs.Image.{header_rules, table_rules, segment_rules, keeps_load_rules, loaded_headers, text_parts, keeps_text_rules, part_rules, text_rules, write_rules, all_text_rules, ascending, ranges_of, text_ranges, image_rules, contents, file_place, text_word}
use Rattle.scale_base.proofs.Laws.{kept-append}

-- the program header of a segment of so many bytes
abbrev pub segment : ℕ → ProgramHeader
segment len = record { p_type = 1; p_offset = 84; p_vaddr = 0x10000; p_paddr = 0x10000; p_filesz = len; p_memsz = len; p_flags = 5 }

-- what stands in the headers
pub record Facts (file : List ℕ) (len : ℕ) : Type 0 where
  pub magic : starts_with nat_eq file (0x7F ∷ 0x45 ∷ 0x4C ∷ 0x46 ∷ []) ≡ true
  pub size : length file ≡ 84 + len
  pub class : get_or file 4 0 ≡ 1
  pub encoding : get_or file 5 0 ≡ 1
  pub ident : get_or file 6 0 ≡ 1
  pub version : e_version file ≡ 1
  pub type : e_type file ≡ 2
  pub machine : e_machine file ≡ 243
  pub entry : e_entry file ≡ 0x10000
  pub phoff : e_phoff file ≡ 52
  pub shoff : e_shoff file ≡ 0
  pub flags : e_flags file ≡ 0
  pub phentsize : e_phentsize file ≡ 32
  pub phnum : e_phnum file ≡ 1
  pub headers : program_headers file ≡ segment len ∷ []

-- whole words, and not too many
pub record Fine (len : ℕ) : Type 0 where
  pub some : 0 < len
  pub whole : len % 4 ≡ 0
  pub few : len ≤ 524288

-- ---- the rules of the header and the table

header-rules-kept : (file : List ℕ) (len : ℕ) → Facts file len → AllHold (header_rules file)
unfolding header_rules
header-rules-kept file len f =
    let long : nat_le 52 (84 + len) ≡ true = le-leb 52 (84 + len) (omega arith) in
    simp (f.magic, f.size, long, f.class, f.encoding, f.ident, f.version, f.type, f.machine, f.flags, f.phentsize, f.phnum, f.shoff)

table-rules-kept : (file : List ℕ) (len : ℕ) → Facts file len → AllHold (table_rules file)
unfolding table_rules
table-rules-kept file len f =
    let table : nat_le 84 (84 + len) ≡ true = le-leb 84 (84 + len) (omega arith) in
    let part : nat_le (84 + len) (84 + len) ≡ true = le-leb (84 + len) (84 + len) (omega arith) in
    simp (f.phoff, f.phnum, f.size, f.shoff, f.headers, table, part)

-- ---- the rules of the segment

segment-kept : (len : ℕ) → Fine len → keeps_load_rules 1 (segment len ∷ []) ≡ true
unfolding keeps_load_rules
segment-kept len h =
    let few = h.few in
    let some = h.some in
    let same : nat_le len len ≡ true = le-leb len len (omega arith) in
    let low : nat_le (65536 + len) 0xFF000000 ≡ true = le-leb (65536 + len) 0xFF000000 (omega arith) in
    let off : nat_lt 0x7FFC0000 (65536 + len) ≡ false = grind (arith, nat_tests) in
    let small : nat_le (0 + len) 16777216 ≡ true = le-leb (0 + len) 16777216 (omega arith) in
    let there : nat_lt 0 len ≡ true = grind (arith, nat_tests) in
    simp (same, low, off, small, there)

segment-rules-kept : (file : List ℕ) (len : ℕ) → Facts file len → Fine len → AllHold (segment_rules file)
unfolding segment_rules
segment-rules-kept file len f h = simp (f.phnum, f.headers, segment-kept len h)

-- ---- the rules of the text

abbrev pub part : ℕ → TextPart
part len = record { span = record { from = 0x10000; len = len }; place = 84 }

abbrev pub range : ℕ → Range
range len = record { from = 0x10000; to = 0x10000 + len }

pub text-is : (file : List ℕ) (len : ℕ) → Facts file len → Fine len → text_parts file (segment len ∷ []) ≡ part len ∷ []
unfolding text_parts
text-is file len f h =
    let down : 4 * ((65536 + len) / 4) ≡ 65536 + len = let w = h.whole in omega arith in
    let there : nat_lt 65536 (65536 + len) ≡ true = let s = h.some in grind (arith, nat_tests) in
    let left : 65536 + len - 65536 ≡ len = omega arith in
    simp (f.shoff, down, there, left)

text-kept : (file : List ℕ) (len : ℕ) → Facts file len → Fine len → keeps_text_rules file (segment len ∷ []) (part len ∷ []) ≡ true
unfolding keeps_text_rules
text-kept file len f h =
    let same : nat_le (65536 + len) (65536 + len) ≡ true = le-leb (65536 + len) (65536 + len) (omega arith) in
    let small : nat_le (0 + len) 524288 ≡ true = let few = h.few in le-leb (0 + len) 524288 (omega arith) in
    simp (h.whole, f.shoff, same, small)

text-rules-kept : (file : List ℕ) (len : ℕ) → Facts file len → Fine len → AllHold (text_rules file (segment len ∷ []) (part len ∷ []))
unfolding part_rules
text-rules-kept file len f h = simp (text-kept file len f h)

pub ranges-are : (len : ℕ) → ranges_of (part len ∷ []) ≡ range len ∷ []
unfolding ascending
ranges-are len = refl

write-rules-kept : (len : ℕ) → AllHold (write_rules (segment len ∷ []) (range len ∷ []))
unfolding write_rules
write-rules-kept len =
    let same : nat_le (65536 + len) (65536 + len) ≡ true = le-leb (65536 + len) (65536 + len) (omega arith) in
    simp same

all-text-rules-kept : (file : List ℕ) (len : ℕ) → Facts file len → Fine len → AllHold (all_text_rules file (segment len ∷ []))
unfolding all_text_rules
all-text-rules-kept file len f h =
    rw (text-is file len f h, ranges-are len) (kept-append (text_rules file (segment len ∷ []) (part len ∷ [])) (write_rules (segment len ∷ []) (range len ∷ [])) (text-rules-kept file len f h) (write-rules-kept len))

-- ---- all the rules, and what stands in the image

loaded : (file : List ℕ) (len : ℕ) → Facts file len → loaded_headers file ≡ segment len ∷ []
loaded file len f = rw f.headers refl

pub rules-kept : (file : List ℕ) (len : ℕ) → Facts file len → Fine len → AllHold (image_rules file)
unfolding image_rules
rules-kept file len f h =
    kept-append (header_rules file) (table_rules file ++ (segment_rules file ++ all_text_rules file (loaded_headers file))) (header-rules-kept file len f)
    (kept-append (table_rules file) (segment_rules file ++ all_text_rules file (loaded_headers file)) (table-rules-kept file len f)
    (kept-append (segment_rules file) (all_text_rules file (loaded_headers file)) (segment-rules-kept file len f h) (rw (loaded file len f) (all-text-rules-kept file len f h))))

pub contents-entry : (file : List ℕ) (len : ℕ) → Facts file len → (contents file).entry ≡ 0x10000
unfolding contents
contents-entry file len f = f.entry

pub contents-text : (file : List ℕ) (len : ℕ) → Facts file len → Fine len → (contents file).text ≡ range len ∷ []
unfolding contents text_ranges
contents-text file len f h = rw (loaded file len f, text-is file len f h) (ranges-are len)

pub contents-keyed : (file : List ℕ) (len : ℕ) → Facts file len → (contents file).keyed_segment ≡ None
unfolding contents
contents-keyed file len f = rw (loaded file len f) refl

pub contents-file : (file : List ℕ) → (contents file).file ≡ file
unfolding contents
contents-file file = refl

-- ---- the words

place-of : (file : List ℕ) (len k : ℕ) → Facts file len → 4 * k + 4 ≤ len → file_place file (0x10000 + 4 * k) ≡ Some (84 + 4 * k)
place-of file len k f h =
    let low : nat_le 65536 (65536 + 4 * k) ≡ true = le-leb 65536 (65536 + 4 * k) (omega arith) in
    let high : nat_le (65536 + 4 * k + 4) (65536 + len) ≡ true = le-leb (65536 + 4 * k + 4) (65536 + len) (omega arith) in
    let left : 65536 + 4 * k - 65536 ≡ 4 * k = omega arith in
    simp (f.headers, low, high, left)

pub word-of : (file : List ℕ) (len k : ℕ) → Facts file len → Fine len → 4 * k + 4 ≤ len → text_word (contents file) (0x10000 + 4 * k) ≡ Some (list_word_at file (84 + 4 * k))
unfolding text_word
word-of file len k f h lt =
    let low : nat_le 65536 (65536 + 4 * k) ≡ true = le-leb 65536 (65536 + 4 * k) (omega arith) in
    let high : nat_lt (65536 + 4 * k) (65536 + len) ≡ true = grind (arith, nat_tests) in
    let whole : (65536 + 4 * k) % 4 ≡ 0 = omega arith in
    simp (contents-text file len f h, contents-file file, low, high, whole, place-of file len k f lt)
