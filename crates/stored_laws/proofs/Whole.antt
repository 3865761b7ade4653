-- A stored file is read as the original image with the block.
use Rattle.std.proofs.Common.{◌≡◌, ℕ, ◌+◌, ◌*◌, ◌%◌, ◌^◌, ◌<◌, ◌≤◌, Bool, true, false, not, cond, ◌&&◌, ◌||◌, List, [], ◌∷◌, ◌++◌, length, map, take, drop, Some, Ok, refl, sym, ap, subst, ◌∙◌, arith}
use Rattle.std.specs.Prelude.{nat_lt, nat_le, nat_eq, find, option_map, slice_range, All, IsTrue, ◌==◌}
use Rattle.std.specs.List.{list_any, list_all, filter, starts_with}
use Rattle.std.specs.Cmp.Lexicographic.{pointwise}
use Rattle.std.proofs.lemmas.Bool.{le-leb}
use Rattle.std.proofs.lemmas.Bool.Decides.{nat_tests}
use Rattle.std.proofs.lemmas.List.{take-append-drop}
use Rattle.std.proofs.lemmas.List.Elements.{filter-append}
use Rattle.std.proofs.lemmas.List.Folds.{list_any-append}
use Rattle.scale_base.specs.declared.headers.ProgramHeader.{ProgramHeader}
use Rattle.scale_base.specs.declared.ranges.Patch.{Patch}
use Rattle.scale_base.specs.declared.ranges.TextPart.{TextPart}
use Rattle.scale_base.specs.declared.refusal.Field.TheVariants.{Class, Encoding, Version, Kind, Machine, Flags, PhEntSize, ShEntSize}
use Rattle.scale_base.specs.declared.refusal.Refusal.TheVariants.{NotElf, UnsupportedElf, TruncatedElf, DynamicImage, BadText}
use Rattle.scale_base.specs.Bytes.{byte_at}
use Rattle.scale_base.specs.Rules.{rule, AllHold}
use Rattle.scale_base.specs.Spans.{ends_by}
use Rattle.scale_base.specs.Elf.{e_type, e_machine, e_version, e_entry, e_phoff, e_phnum, e_shoff, e_flags, e_phentsize, e_shentsize, e_shnum, has, has_sections, program_headers}
use Rattle.scale_base.specs.Image.{Image, LoadSegment, image_of, contents, segment_of, keyed_of, load_headers, loaded_headers, is_load, is_dynamic, has_key, reaches_past, file_part, header_rules, table_rules, all_text_rules, text_rules, part_rules, write_rules, ranges_of, text_parts, text_ranges, holds_part, is_text_place, is_off_table, is_word_address, image_rules}
use Rattle.scale_base.proofs.Laws.{nth_kept, kept-split, rule_kept, accepted, rules_kept, contents-are}
use Rattle.elf_patch.specs.Stored.{keyed_number, block_start, stored_table, stored_image}
use Rattle.elf_patch.proofs.Laws.{some_place}
use Rattle.elf_view.proofs.Laws.{both_true, le_of, length-headers, whole}
use Rattle.stored_laws.specs.StoredView.{IsStorable, over_file, insert_segment, block_segment, stored_view}
use Rattle.stored_laws.proofs.Bytes.{length-slice_range}
use Rattle.stored_laws.proofs.Known.{known}
use Rattle.stored_laws.proofs.Patched.{text_place}
use Rattle.stored_laws.proofs.Fields.{Places, stored-is, SameHeader, same_header, HasTable, same_sections}
use Rattle.stored_laws.proofs.Table.{kept_header, keyed_header, stored-headers, length-table, loads-kept}
use Rattle.stored_laws.proofs.Segments.{Beside, segments_hold, keyed_fit, free_of, keys_none, loads-split, round}
use Rattle.stored_laws.proofs.Texts.{same_parts, text_holds}

-- ---- the header

header_holds : (file stored : List ℕ) → SameHeader file stored → e_phnum stored ≡ e_phnum file + 1 → e_phnum file < 64 → 52 ≤ length stored → AllHold (header_rules file) → AllHold (header_rules stored)
unfolding header_rules
header_holds file stored h count few long kept =
    let magic : List ℕ = 0x7F ∷ 0x45 ∷ 0x4C ∷ 0x46 ∷ [] in
    let rules = header_rules file in
    let a0 : starts_with nat_eq stored (0x7F ∷ 0x45 ∷ 0x4C ∷ 0x46 ∷ []) ≡ true = ap (λ (xs : List ℕ). pointwise nat_eq magic xs) h.magic ∙ nth_kept rules 0 (rule (starts_with nat_eq file (0x7F ∷ 0x45 ∷ 0x4C ∷ 0x46 ∷ [])) NotElf) kept refl in
    let a1 : nat_le 52 (length stored) ≡ true = le-leb 52 (length stored) long in
    let a2 : (byte_at stored 4 == 1) ≡ true = ap (λ (n : ℕ). n == 1) h.class ∙ nth_kept rules 2 (rule (byte_at file 4 == 1) (UnsupportedElf Class)) kept refl in
    let a3 : (byte_at stored 5 == 1) ≡ true = ap (λ (n : ℕ). n == 1) h.encoding ∙ nth_kept rules 3 (rule (byte_at file 5 == 1) (UnsupportedElf Encoding)) kept refl in
    let b4 = both_true (byte_at file 6 == 1) (e_version file == 1) (nth_kept rules 4 (rule ((byte_at file 6 == 1) && (e_version file == 1)) (UnsupportedElf Version)) kept refl) in
    let a4 : (byte_at stored 6 == 1) ≡ true = ap (λ (n : ℕ). n == 1) h.ident ∙ b4.0 in
    let a4-2 : (e_version stored == 1) ≡ true = ap (λ (n : ℕ). n == 1) h.version ∙ b4.1 in
    let a5 : (e_type stored == 2) ≡ true = ap (λ (n : ℕ). n == 2) h.type ∙ nth_kept rules 5 (rule (e_type file == 2) (UnsupportedElf Kind)) kept refl in
    let a6 : (e_machine stored == 243) ≡ true = ap (λ (n : ℕ). n == 243) h.machine ∙ nth_kept rules 6 (rule (e_machine file == 243) (UnsupportedElf Machine)) kept refl in
    let a7 : not (has (e_flags stored) 0xF) ≡ true = ap (λ (n : ℕ). not (has n 0xF)) h.flags ∙ nth_kept rules 7 (rule (not (has (e_flags file) 0xF)) (UnsupportedElf Flags)) kept refl in
    let a8 : (e_phentsize stored == 32) ≡ true = ap (λ (n : ℕ). n == 32) h.phentsize ∙ nth_kept rules 8 (rule (e_phentsize file == 32) (UnsupportedElf PhEntSize)) kept refl in
    let a9 : nat_le 1 (e_phnum stored) ≡ true = le-leb 1 (e_phnum stored) (omega (arith, count)) in
    let a9-2 : nat_le (e_phnum stored) 64 ≡ true = le-leb (e_phnum stored) 64 (omega (arith, count, few)) in
    let b10 = nth_kept rules 10 (rule (not (has_sections file) || (e_shentsize file == 40)) (UnsupportedElf ShEntSize)) kept refl in
    let same : has_sections stored ≡ has_sections file = rw (h.shoff, h.shnum) refl in
    let a10 : (not (has_sections stored) || (e_shentsize stored == 40)) ≡ true = ap (λ (b : Bool). not b || (e_shentsize stored == 40)) same ∙ ap (λ (n : ℕ). not (has_sections file) || (n == 40)) h.shentsize ∙ b10 in
    rw (a0, a1, a2, a3, a4, a4-2, a5, a6, a7, a8, a9, a9-2, a10) refl

-- ---- the tables

dynamic_kept : (xs : List ProgramHeader) → list_any is_dynamic xs ≡ false → list_any is_dynamic (map kept_header xs) ≡ false
dynamic_kept [] e = refl
dynamic_kept (h ∷ xs) e =
    let a = neither (is_dynamic h) (list_any is_dynamic xs) e in
    rw (dynamic_kept xs a.1) (step (h.p_type == 6) a.0)
  where
    neither : (a b : Bool) → (a || b) ≡ false → (a ≡ false) × (b ≡ false)
    neither true b e = absurd cc
    neither false b e = (refl, e)

    step : (b : Bool) → is_dynamic h ≡ false → (is_dynamic (cond b (record h { p_type = 0 }) h) || false) ≡ false
    step true e = refl
    step false e = rw e refl

past_kept : (n m : ℕ) (xs : List ProgramHeader) → n ≤ m → list_any (reaches_past n) xs ≡ false → list_any (reaches_past m) (map kept_header xs) ≡ false
past_kept n m [] le e = refl
past_kept n m (h ∷ xs) le e =
    let a = neither (reaches_past n h) (list_any (reaches_past n) xs) e in
    rw (past_kept n m xs le a.1) (step (h.p_type == 6) (is_load h) a.0)
  where
    neither : (a b : Bool) → (a || b) ≡ false → (a ≡ false) × (b ≡ false)
    neither true b e = absurd cc
    neither false b e = (refl, e)

    higher : (x : ℕ) → not (nat_le x n) ≡ false → not (nat_le x m) ≡ false
    higher x e = grind (arith, nat_tests)

    inner : (l : Bool) → (l && not (ends_by n (file_part h))) ≡ false → (l && not (ends_by m (file_part h))) ≡ false
    inner true e = higher (h.p_offset + h.p_filesz) e
    inner false e = refl

    step : (b l : Bool) → reaches_past n h ≡ false → (reaches_past m (cond b (record h { p_type = 0 }) h) || false) ≡ false
    step true l e = refl
    step false l e = rw (inner (is_load h) e) refl

not_true : (b : Bool) → not b ≡ true → b ≡ false
not_true true e = absurd cc
not_true false e = refl

any-split : (p : ProgramHeader → Bool) (xs ys : List ProgramHeader) → list_any p (xs ++ ys) ≡ false → (list_any p xs ≡ false) × (list_any p ys ≡ false)
any-split p xs ys e = neither (list_any p xs) (list_any p ys) (sym (list_any-append p xs ys) ∙ e)
  where
    neither : (a b : Bool) → (a || b) ≡ false → (a ≡ false) × (b ≡ false)
    neither true b e = absurd cc
    neither false b e = (refl, e)

any-join : (p : ProgramHeader → Bool) (xs ys : List ProgramHeader) (key : ProgramHeader) → list_any p xs ≡ false → p key ≡ false → list_any p ys ≡ false → list_any p (xs ++ key ∷ ys) ≡ false
any-join p xs ys key a b c = list_any-append p xs (key ∷ ys) ∙ rw (a, b, c) refl

tables_hold : (file stored : List ℕ) (xs ys : List ProgramHeader) (place base start len : ℕ) → SameHeader file stored → length file ≤ length stored → e_phoff stored + 32 * e_phnum stored ≤ length stored → place + len ≤ length stored
    → program_headers file ≡ xs ++ ys → program_headers stored ≡ map kept_header xs ++ keyed_header place base start len ∷ map kept_header ys → AllHold (table_rules file) → AllHold (table_rules stored)
unfolding table_rules
tables_hold file stored xs ys place base start len h longer table part are new kept =
    let rules = table_rules file in
    let key = keyed_header place base start len in
    let b1 = nth_kept rules 1 (rule (not (has_sections file) || nat_le (e_shoff file + 40 * e_shnum file) (length file)) TruncatedElf) kept refl in
    let b2 = not_true _ (nth_kept rules 2 (rule (not (list_any is_dynamic (program_headers file))) DynamicImage) kept refl) in
    let b3 = not_true _ (nth_kept rules 3 (rule (not (list_any (reaches_past (length file)) (program_headers file))) TruncatedElf) kept refl) in
    let c2 = any-split is_dynamic xs ys (rw are at b2) in
    let c3 = any-split (reaches_past (length file)) xs ys (rw are at b3) in
    let a0 : nat_le (e_phoff stored + 32 * e_phnum stored) (length stored) ≡ true = le-leb _ _ table in
    let a1 : (not (has_sections stored) || nat_le (e_shoff stored + 40 * e_shnum stored) (length stored)) ≡ true = rw (h.shoff, h.shnum) (wider (has_sections file) (e_shoff file + 40 * e_shnum file) b1) in
    let a2 : list_any is_dynamic (program_headers stored) ≡ false = rw new (any-join is_dynamic (map kept_header xs) (map kept_header ys) key (dynamic_kept xs c2.0) refl (dynamic_kept ys c2.1)) in
    let off : reaches_past (length stored) key ≡ false = rw (le-leb (place + len) (length stored) part) refl in
    let a3 : list_any (reaches_past (length stored)) (program_headers stored) ≡ false =
    rw new (any-join (reaches_past (length stored)) (map kept_header xs) (map kept_header ys) key (past_kept (length file) (length stored) xs longer c3.0) off (past_kept (length file) (length stored) ys longer c3.1)) in
    rw (a0, a1, a2, a3) refl
  where
    wider : (s : Bool) (n : ℕ) → (not s || nat_le n (length file)) ≡ true → (not s || nat_le n (length stored)) ≡ true
    wider false n e = refl
    wider true n e = le-leb n (length stored) (omega (arith, le_of _ _ e, longer))

-- ---- the section header table

has_table : (file : List ℕ) → AllHold (table_rules file) → AllHold (all_text_rules file (loaded_headers file)) → list_all (is_text_place file (loaded_headers file)) (text_parts file (loaded_headers file)) ≡ true → has_sections file ≡ true → HasTable file
unfolding table_rules all_text_rules
has_table file tables text placed on =
    let hs = loaded_headers file in
    let parts = text_parts file hs in
    let b1 = nth_kept (table_rules file) 1 (rule (not (has_sections file) || nat_le (e_shoff file + 40 * e_shnum file) (length file)) TruncatedElf) tables refl in
    let some = (rule_kept (nat_lt 0 (length parts)) (BadText 0) (part_rules file hs parts) (kept-split (text_rules file hs parts) (write_rules hs (ranges_of parts)) text).0).0 in
    record { behind = first parts some placed; within = le_of _ _ (rw on at b1) }
  where
    first : (parts : List TextPart) → nat_lt 0 (length parts) ≡ true → list_all (is_text_place file (loaded_headers file)) parts ≡ true → 46 ≤ e_shoff file
    first [] some placed = absurd cc
    first (part ∷ parts) some placed =
        let a = both_true (is_text_place file (loaded_headers file) part) (list_all (is_text_place file (loaded_headers file)) parts) placed in
        let b = both_true ((part.span.from % 4 == 0) && (part.span.len % 4 == 0) && list_any (holds_part part) (loaded_headers file) && nat_le 52 part.place) (is_off_table file part) a.0 in
        let c = rw on at b.1 in
        le_of _ _ (both_true (nat_le 46 (e_shoff file)) (nat_le (part.place + part.span.len) (e_shoff file) || nat_le (e_shoff file + 40 * e_shnum file) part.place) c).0

-- ---- what the stored file holds

over-same : (file stored : List ℕ) (h : ProgramHeader) → ends_by (length file) (file_part h) ≡ true → over_file stored (segment_of file h) ≡ segment_of stored h
over-same file stored h e = rw (length-slice_range file h.p_offset h.p_filesz (le_of _ _ e)) refl

not_le : (x y : ℕ) → nat_lt y x ≡ true → nat_le x y ≡ false
not_le x y e = grind (arith, nat_tests)

over-all : (file stored : List ℕ) (hs : List ProgramHeader) → list_all (λ h. ends_by (length file) (file_part h)) hs ≡ true → map (over_file stored) (map (segment_of file) hs) ≡ map (segment_of stored) hs
over-all file stored [] e = refl
over-all file stored (h ∷ hs) e =
    let a = both_true (ends_by (length file) (file_part h)) (list_all (λ h. ends_by (length file) (file_part h)) hs) e in
    rw (over-same file stored h a.0, over-all file stored hs a.1) refl

insert-first : (stored : List ℕ) (s : LoadSegment) (hs : List ProgramHeader) → list_all (λ h. nat_le s.from h.p_vaddr) hs ≡ true → insert_segment (map (segment_of stored) hs) s ≡ s ∷ map (segment_of stored) hs
insert-first stored s [] e = refl
insert-first stored s (h ∷ hs) e = rw (both_true (nat_le s.from h.p_vaddr) (list_all (λ h. nat_le s.from h.p_vaddr) hs) e).0 refl

insert-between : (stored : List ℕ) (s : LoadSegment) (before after : List ProgramHeader) → list_all (λ h. nat_lt h.p_vaddr s.from) before ≡ true → list_all (λ h. nat_le s.from h.p_vaddr) after ≡ true
    → insert_segment (map (segment_of stored) (before ++ after)) s ≡ map (segment_of stored) before ++ s ∷ map (segment_of stored) after
insert-between stored s [] after a b = insert-first stored s after b
insert-between stored s (h ∷ before) after a b =
    let c = both_true (nat_lt h.p_vaddr s.from) (list_all (λ h. nat_lt h.p_vaddr s.from) before) a in
    rw (not_le s.from h.p_vaddr c.0, insert-between stored s before after c.1 b) refl

map-with : {A B : Type 0} (f : A → B) (xs ys : List A) (x : A) → map f (xs ++ x ∷ ys) ≡ map f xs ++ f x ∷ map f ys
map-with f [] ys x = refl
map-with f (z ∷ xs) ys x = ap (λ (zs : List _). f z ∷ zs) (map-with f xs ys x)

find-key : (before after : List ProgramHeader) (key : ProgramHeader) → filter has_key (before ++ after) ≡ [] → has_key key ≡ true → find has_key (before ++ key ∷ after) ≡ Some key
find-key [] after key none on = rw on refl
find-key (h ∷ before) after key none on = step (has_key h) none (λ rest. find-key before after key rest on)
  where
    step : (b : Bool) → cond b (h ∷ filter has_key (before ++ after)) (filter has_key (before ++ after)) ≡ [] → (filter has_key (before ++ after) ≡ [] → find has_key (before ++ key ∷ after) ≡ Some key) → cond b (Some h) (find has_key (before ++ key ∷ after)) ≡ Some key
    step true e go = absurd cc
    step false e go = go e

view-is : (file stored block : List ℕ) (before after : List ProgramHeader) (base start : ℕ) → loaded_headers file ≡ before ++ after → loaded_headers stored ≡ before ++ keyed_header (block_start file) base start (length block) ∷ after
    → e_entry stored ≡ e_entry file → text_ranges stored ≡ text_ranges file → filter has_key (before ++ after) ≡ [] → list_all (λ h. ends_by (length file) (file_part h)) (before ++ after) ≡ true
    → list_all (λ h. nat_lt h.p_vaddr base) before ≡ true → list_all (λ h. nat_le base h.p_vaddr) after ≡ true → slice_range stored (block_start file) (block_start file + length block) ≡ block
    → contents stored ≡ stored_view (contents file) stored base block start
unfolding contents stored_view
view-is file stored block before after base start old new entry text none ends below above block-is =
    let key = keyed_header (block_start file) base start (length block) in
    let s = block_segment file base block in
    let key-is : segment_of stored key ≡ s = rw block-is refl in
    let segments : map (segment_of stored) (loaded_headers stored) ≡ insert_segment (map (over_file stored) (map (segment_of file) (loaded_headers file))) s =
    rw (new, old, over-all file stored (before ++ after) ends, insert-between stored s before after below above) (map-with (segment_of stored) before after key ∙ rw key-is refl) in
    let keyed : option_map keyed_of (find has_key (loaded_headers stored)) ≡ Some (record { range = record { from = base; to = base + length block }; start = start }) = rw (new, find-key before after key none refl) refl in
    rw (entry, segments, text, keyed) refl

-- ---- the law

places_of : (file : List ℕ) (patches : List Patch) → AllHold (image_rules file) → All (λ p. IsTrue (is_word_address (contents file) p.at)) patches → Places file patches
places_of file patches h words = λ k d lt q e. text_place file _ q h (words k d lt) e

few_entries : (n : ℕ) (keys : List ProgramHeader) → keys ≡ [] → (nat_lt n 64 || nat_lt 0 (length keys)) ≡ true → n < 64
few_entries n keys none e = let f : (nat_lt n 64 || false) ≡ true = rw none at e in grind (arith, nat_tests)

law-contents : (file : List ℕ) (patches : List Patch) (base : ℕ) (block : List ℕ) (start : ℕ) → AllHold (image_rules file) → image_of file ≡ Ok (contents file) → IsStorable (contents file) patches base block start
    → image_of (stored_image file patches base block start) ≡ Ok (stored_view (contents file) (stored_image file patches base block start) base block start)
unfolding contents text_ranges
law-contents file patches base block start rules is h =
    let k = known file rules in
    let hs = program_headers file in
    let n = keyed_number file base in
    let before = load_headers (take n hs) in
    let after = load_headers (drop n hs) in
    let place = block_start file in
    let len = length block in
    let stored = stored_image file patches base block start in
    let key = keyed_header place base start len in
    let places = places_of file patches rules h.words in
    let low = some_place file (contents file) len is h.block_short in
    let base-low : base ≤ 0xFF800000 = omega (arith, h.place.least low.0 low.1, low.2) in
    let s = stored-is file patches base start block k.long h.file k.few h.block_short places in
    let same = same_header file stored (stored_table file place base start len) block patches (place + len) s k.long places in
    let place-low : place < 2 ^ 32 = omega (arith, h.file) in
    let new = stored-headers file stored block patches place base start len (place + len) s k.table place-low (omega arith) h.start_small (omega (arith, h.block_short)) in
    let old : loaded_headers file ≡ before ++ after = loads-split hs n in
    let loaded : loaded_headers stored ≡ before ++ key ∷ after =
    ap load_headers new ∙ filter-append is_load (map kept_header (take n hs)) (key ∷ map kept_header (drop n hs)) ∙ rw (loads-kept (take n hs), loads-kept (drop n hs)) refl in
    let none : filter has_key (before ++ after) ≡ [] = rw old at (keys_none (loaded_headers file) h.no_key) in
    let free = free_of file (contents file) (loaded_headers file) base len refl h.place.place.free in
    let fit = keyed_fit place base start len h.place.place.page h.block_short base-low free.off_stack in
    let parts-round = round base hs k.ordered in
    let beside : Beside file before after place base len = record {
      fit = rw old at k.fit;
      ordered = rw old at k.ordered;
      counts = rw old at k.counts;
      no_key = none;
      in_file = rw old at k.in_file;
      spare = rw old at free.off_segments;
      below = parts-round.below;
      above = parts-round.above;
      behind = s.above;
    } in
    let few : e_phnum file < 64 = few_entries (e_phnum file) (filter has_key (loaded_headers file)) (keys_none (loaded_headers file) h.no_key) k.room in
    let table-len = length-table file place base start len k.table in
    let size : length stored ≡ place + len + 32 * (e_phnum file + 1) = s.size ∙ ap (λ (m : ℕ). place + len + m) table-len in
    let header = header_holds file stored same s.phnum few (omega (arith, size, s.above, k.long)) k.header in
    let tables = tables_hold file stored (take n hs) (drop n hs) place base start len same (omega (arith, size, s.above)) (omega (arith, size, s.phoff, s.phnum)) (omega (arith, size)) (sym (take-append-drop n hs)) new k.tables in
    let segments = segments_hold stored before after file place base start len loaded (length-headers stored) (omega (arith, s.phnum, few)) beside fit in
    let has : has_sections stored ≡ has_sections file = rw (same.shoff, same.shnum) refl in
    let sections = λ (on : has_sections file ≡ true). same_sections file stored (stored_table file place base start len) block patches (place + len) s places same on (has_table file k.tables k.text k.placed on) in
    let parts = same_parts file stored before after place base start len has sections in
    let text : AllHold (all_text_rules stored (loaded_headers stored)) = rw loaded (text_holds file stored before after place base start len same parts (rw old at k.text)) in
    let ranges : text_ranges stored ≡ text_ranges file = rw (loaded, old, parts) refl in
    accepted stored (whole stored header tables segments text)
    ∙ ap (λ (i : Image). Ok i) (view-is file stored block before after base start old loaded same.entry ranges none beside.in_file beside.below beside.above s.block_is)

pub law : (file : List ℕ) (image : Image) (patches : List Patch) (base : ℕ) (block : List ℕ) (start : ℕ) → image_of file ≡ Ok image → IsStorable image patches base block start
    → image_of (stored_image file patches base block start) ≡ Ok (stored_view image (stored_image file patches base block start) base block start)
law file image patches base block start e h =
    let P : Image → Type 0 = λ i. image_of file ≡ Ok i → IsStorable i patches base block start → image_of (stored_image file patches base block start) ≡ Ok (stored_view i (stored_image file patches base block start) base block start) in
    subst P (contents-are file image e) (law-contents file patches base block start (rules_kept file image e)) e h
