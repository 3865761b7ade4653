-- There is always room for a block above the segments without the key, beside the keyed one.
use Rattle.std.proofs.Common.{◌≡◌, ℕ, zero, suc, ◌+◌, ◌-◌, ◌%◌, ◌<◌, ◌≤◌, Bool, true, false, not, cond, ◌&&◌, ◌||◌, List, [], ◌∷◌, length, map, fold, Ok, refl, subst, arith, inl, inr, ◌⊎◌}
use Rattle.std.specs.Prelude.{nat_lt, nat_le, slice_get, ◌==◌}
use Rattle.std.specs.List.{list_any, list_all, filter, sum_by}
use Rattle.std.proofs.lemmas.Bool.{le-leb}
use Rattle.std.proofs.lemmas.Bool.Decides.{nat_tests}
use Rattle.scale_base.specs.declared.ranges.Span.{Span}
use Rattle.scale_base.specs.declared.ranges.Range.{Range}
use Rattle.scale_base.specs.declared.headers.ProgramHeader.{ProgramHeader}
use Rattle.scale_base.specs.declared.ranges.TextPart.{TextPart}
use Rattle.scale_base.specs.declared.refusal.Refusal.TheVariants.{BadSegment, UnsupportedElf}
use Rattle.scale_base.specs.declared.refusal.Field.TheVariants.{PhNum}
use Rattle.elf_view.proofs.Laws.{length-headers}
use Rattle.scale_base.specs.Rules.{rule, AllHold}
use Rattle.scale_base.specs.Elf.{has, e_phnum, program_headers}
use Rattle.scale_base.proofs.Laws.{whole_kept, parts_kept, rules_of, nth_kept, kept-split, rules_kept, contents-are}
use Rattle.scale_base.specs.Spans.{overlap, ends_by, each_pair}
use Rattle.scale_base.specs.Image.{Image, image_of, contents, stack, addresses_of, has_key, memory_range, is_fit, is_plain_place, is_keyed_place, segment_of, loaded_headers, insert_range, range_of, holds_part, is_code_segment, PF_X, is_text_place, is_off_table, is_plain, may_follow, are_placed, are_few, leave_room, keeps_load_rules, keeps_segment_rules, text_rules, write_rules, all_text_rules, text_parts, ranges_of, text_ranges, ascending, header_rules, segment_rules, image_rules}
use Rattle.elf_patch.specs.Stored.{window, is_free, end_in, text_end, IsPlace}

both_true : (a b : Bool) → (a && b) ≡ true → (a ≡ true) × (b ≡ true)
both_true true true e = (refl, refl)
both_true true false e = absurd cc
both_true false b e = absurd cc

le_of : (x y : ℕ) → nat_le x y ≡ true → x ≤ y
le_of x y e = grind (arith, nat_tests)

-- a span that ends at or below the base
below : (base len : ℕ) (s : Span) → s.from + s.len ≤ base → overlap (record { from = base; len = len }) s ≡ false
below base len s le = grind (arith, nat_tests)

-- each segment is in its place
plain_end : (h : ProgramHeader) → is_fit h ≡ true → has_key h ≡ false → h.p_vaddr + h.p_memsz ≤ 0xFF000000
plain_end h e off =
    let a = both_true (nat_le h.p_filesz h.p_memsz) (cond (has_key h) (is_keyed_place h) (is_plain_place h)) e in
    let b : is_plain_place h ≡ true = rw off at a.1 in
    le_of _ _ (both_true (ends_by 0xFF000000 (memory_range h)) (not (overlap (memory_range h) stack)) b).0

keyed_size : (h : ProgramHeader) → is_fit h ≡ true → has_key h ≡ true → h.p_memsz ≤ 4194304
keyed_size h e on =
    let a = both_true (nat_le h.p_filesz h.p_memsz) (cond (has_key h) (is_keyed_place h) (is_plain_place h)) e in
    let b : is_keyed_place h ≡ true = rw on at a.1 in
    let c = both_true ((h.p_flags == 0x00100005) && (h.p_vaddr % 4096 == 0) && (h.p_filesz == h.p_memsz) && nat_le h.p_memsz 4194304 && ends_by 0xFFFFF800 (memory_range h)) (not (overlap (memory_range h) stack)) b in
    let d = both_true ((h.p_flags == 0x00100005) && (h.p_vaddr % 4096 == 0) && (h.p_filesz == h.p_memsz) && nat_le h.p_memsz 4194304) (ends_by 0xFFFFF800 (memory_range h)) c.0 in
    le_of _ _ (both_true ((h.p_flags == 0x00100005) && (h.p_vaddr % 4096 == 0) && (h.p_filesz == h.p_memsz)) (nat_le h.p_memsz 4194304) d.0).1

-- only the keyed segments may be in the way above 0xFF000000
clear_step : (file : List ℕ) (base len : ℕ) (h : ProgramHeader) (k : Bool) (ks : List ProgramHeader) (rest : Bool) → 0xFF000000 ≤ base → is_fit h ≡ true → has_key h ≡ k
    → list_any (λ g. overlap (record { from = base; len = len }) (memory_range g)) (cond k (h ∷ ks) ks) ≡ false
    → (list_any (λ g. overlap (record { from = base; len = len }) (memory_range g)) ks ≡ false → rest ≡ false)
    → (overlap (record { from = base; len = len }) (memory_range h) || rest) ≡ false
clear_step file base len h true ks rest high fit is e go = either (overlap (record { from = base; len = len }) (memory_range h)) (list_any (λ g. overlap (record { from = base; len = len }) (memory_range g)) ks) rest e go
  where
    either : (a b c : Bool) → (a || b) ≡ false → (b ≡ false → c ≡ false) → (a || c) ≡ false
    either true b c e go = absurd cc
    either false b c e go = go e
clear_step file base len h false ks rest high fit is e go =
    let end = plain_end h fit is in
    rw (below base len (memory_range h) (omega (arith, end))) (go e)

clear : (file : List ℕ) (base len : ℕ) (hs : List ProgramHeader) → 0xFF000000 ≤ base → list_all is_fit hs ≡ true
    → list_any (λ g. overlap (record { from = base; len = len }) (memory_range g)) (filter has_key hs) ≡ false
    → list_any (overlap (record { from = base; len = len })) (map addresses_of (map (segment_of file) hs)) ≡ false
clear file base len [] high fit e = refl
clear file base len (h ∷ hs) high fit e =
    let f = both_true (is_fit h) (list_all is_fit hs) fit in
    clear_step file base len h (has_key h) (filter has_key hs) (list_any (overlap (record { from = base; len = len })) (map addresses_of (map (segment_of file) hs))) high f.0 refl e (clear file base len hs high f.1)

-- ---- one of two bases is free

abbrev Small : List ProgramHeader → Type 0
Small [] = Unit {0}
Small (h ∷ hs) = (h.p_memsz ≤ 4194304) × Small hs

small_step : (k : Bool) (h : ProgramHeader) (ks : List ProgramHeader) → has_key h ≡ k → is_fit h ≡ true → Small ks → Small (cond k (h ∷ ks) ks)
small_step true h ks on fit s = (keyed_size h fit on, s)
small_step false h ks off fit s = s

keyed_small : (hs : List ProgramHeader) → list_all is_fit hs ≡ true → Small (filter has_key hs)
keyed_small [] fit = tt
keyed_small (h ∷ hs) fit =
    let f = both_true (is_fit h) (list_all is_fit hs) fit in
    small_step (has_key h) h (filter has_key hs) refl f.0 (keyed_small hs f.1)

either_way : (b : Bool) → (b ≡ true) ⊎ (b ≡ false)
either_way true = inl refl
either_way false = inr refl

near : (base len : ℕ) (s : Span) → overlap (record { from = base; len = len }) s ≡ true → s.from < base + len
near base len s e =
    lt_of _ _ (both_true (nat_lt 0 len && nat_lt 0 s.len && nat_lt base (s.from + s.len)) (nat_lt s.from (base + len)) e).1
  where
    lt_of : (x y : ℕ) → nat_lt x y ≡ true → x < y
    lt_of x y e = grind (arith, nat_tests)

choose : (len : ℕ) (ks : List ProgramHeader) → len ≤ 4194304 → length ks ≤ 1 → Small ks
    → (list_any (λ g. overlap (record { from = 0xFF000000; len = len }) (memory_range g)) ks ≡ false) ⊎ (list_any (λ g. overlap (record { from = 0xFF800000; len = len }) (memory_range g)) ks ≡ false)
choose len [] short one s = inl refl
choose len (k ∷ []) short one s =
    elim (either_way (overlap (record { from = 0xFF000000; len = len }) (memory_range k))) [
      | inl on ↦ let start = near 0xFF000000 len (memory_range k) on in let size = s.0 in inr (rw (below 0xFF800000 len (memory_range k) (omega (arith, start, size, short))) refl)
      | inr off ↦ inl (rw off refl)
    ]
choose len (k ∷ g ∷ ks) short one s = absurd (omega arith)

above : (base len : ℕ) (s : Span) → base + len ≤ s.from → overlap (record { from = base; len = len }) s ≡ false
above base len s le = grind (arith, nat_tests)

free_at : (file : List ℕ) (image : Image) (hs : List ProgramHeader) (len base : ℕ) → image.segments ≡ map (segment_of file) hs → 0xFF000000 ≤ base → base + len ≤ 0xFFFFF800
    → list_any (overlap (record { from = base; len = len })) (map addresses_of (map (segment_of file) hs)) ≡ false → is_free image len base ≡ true
free_at file image hs len base are high low e =
    rw (below base len stack (omega arith), above base len window low, are, e) refl

-- ---- what the rules say of the whole table and the whole text

-- each range ends below
abbrev low_range : Range → Bool
low_range r = nat_le r.to 0xFF000000

insert_low : (xs : List Range) (r : Range) → list_all low_range xs ≡ true → low_range r ≡ true → list_all low_range (insert_range xs r) ≡ true
insert_low [] r all one = rw one refl
insert_low (x ∷ xs) r all one =
    let a = both_true (low_range x) (list_all low_range xs) all in
    insert_step (nat_lt r.from x.from) x r xs a.0 a.1 one (insert_low xs r a.1 one)
  where
    insert_step : (b : Bool) (x r : Range) (xs : List Range) → low_range x ≡ true → list_all low_range xs ≡ true → low_range r ≡ true → list_all low_range (insert_range xs r) ≡ true
        → list_all low_range (cond b (r ∷ x ∷ xs) (x ∷ insert_range xs r)) ≡ true
    insert_step true x r xs first rest one go = rw (one, first, rest) refl
    insert_step false x r xs first rest one go = rw (first, go) refl

fold_low : (acc ranges : List Range) → list_all low_range acc ≡ true → list_all low_range ranges ≡ true → list_all low_range (fold insert_range acc ranges) ≡ true
fold_low acc [] a b = a
fold_low acc (r ∷ ranges) a b = let c = both_true (low_range r) (list_all low_range ranges) b in fold_low (insert_range acc r) ranges (insert_low acc r a c.0) c.1

end_low : (xs : List Range) (k : ℕ) → list_all low_range xs ≡ true → end_in (slice_get xs k) ≤ 0xFF000000
end_low [] k all = omega arith
end_low (x ∷ xs) zero all = le_of _ _ (both_true (low_range x) (list_all low_range xs) all).0
end_low (x ∷ xs) (suc k) all = end_low xs k (both_true (low_range x) (list_all low_range xs) all).1

-- a part lies in a segment without the key
held_low : (hs : List ProgramHeader) (part : TextPart) → list_all is_fit hs ≡ true → list_any (holds_part part) hs ≡ true → part.span.from + part.span.len ≤ 0xFF000000
held_low [] part fit e = absurd cc
held_low (h ∷ hs) part fit e =
    let f = both_true (is_fit h) (list_all is_fit hs) fit in
    held_step (holds_part part h) h part (list_any (holds_part part) hs) f.0 refl e (held_low hs part f.1)
  where
    held_step : (b : Bool) (h : ProgramHeader) (part : TextPart) (rest : Bool) → is_fit h ≡ true → holds_part part h ≡ b → (b || rest) ≡ true → (rest ≡ true → part.span.from + part.span.len ≤ 0xFF000000) → part.span.from + part.span.len ≤ 0xFF000000
    held_step false h part rest fit is e go = go e
    held_step true h part rest fit is e go =
        let a = both_true (is_code_segment h && nat_le h.p_vaddr part.span.from && nat_le (part.span.from + part.span.len) (h.p_vaddr + h.p_filesz)) (part.place + h.p_vaddr == h.p_offset + part.span.from) is in
        let b = both_true (is_code_segment h && nat_le h.p_vaddr part.span.from) (nat_le (part.span.from + part.span.len) (h.p_vaddr + h.p_filesz)) a.0 in
        let c = both_true (is_code_segment h) (nat_le h.p_vaddr part.span.from) b.0 in
        let d = both_true (not (has_key h)) (has h.p_flags PF_X) c.0 in
        let size = le_of _ _ (both_true (nat_le h.p_filesz h.p_memsz) (cond (has_key h) (is_keyed_place h) (is_plain_place h)) fit).0 in
        let end = plain_end h fit (not_true (has_key h) d.0) in
        omega (arith, le_of _ _ b.1, size, end)
      where
        not_true : (b : Bool) → not b ≡ true → b ≡ false
        not_true true e = absurd cc
        not_true false e = refl

parts_low : (file : List ℕ) (hs : List ProgramHeader) (parts : List TextPart) → list_all is_fit hs ≡ true → list_all (is_text_place file hs) parts ≡ true → list_all low_range (map range_of parts) ≡ true
parts_low file hs [] fit e = refl
parts_low file hs (part ∷ parts) fit e =
    let a = both_true (is_text_place file hs part) (list_all (is_text_place file hs) parts) e in
    let b = both_true ((part.span.from % 4 == 0) && (part.span.len % 4 == 0) && list_any (holds_part part) hs && nat_le 52 part.place) (is_off_table file part) a.0 in
    let c = both_true ((part.span.from % 4 == 0) && (part.span.len % 4 == 0) && list_any (holds_part part) hs) (nat_le 52 part.place) b.0 in
    let held = (both_true ((part.span.from % 4 == 0) && (part.span.len % 4 == 0)) (list_any (holds_part part) hs) c.0).1 in
    let low = held_low hs part fit held in
    rw (le-leb (part.span.from + part.span.len) 0xFF000000 low, parts_low file hs parts fit a.1) refl

-- ---- an accepted file

some_entry : (file : List ℕ) → AllHold (header_rules file) → 1 ≤ e_phnum file
unfolding header_rules
some_entry file h =
    let both = nth_kept (header_rules file) 9 (rule (nat_le 1 (e_phnum file) && nat_le (e_phnum file) 64) (UnsupportedElf PhNum)) h refl in
    le_of _ _ (both_true (nat_le 1 (e_phnum file)) (nat_le (e_phnum file) 64) both).0

segments_kept : (file : List ℕ) → 1 ≤ e_phnum file → AllHold (segment_rules file) → keeps_segment_rules (program_headers file) ≡ true
unfolding segment_rules
segments_kept file some h = whole_kept keeps_segment_rules BadSegment (program_headers file) (e_phnum file) (length-headers file) (omega arith) h

record Fit (hs : List ProgramHeader) : Type 0 where
  each : list_all is_fit hs ≡ true
  one : length (filter has_key hs) ≤ 1

fit_from : (entries : ℕ) (hs : List ProgramHeader) → keeps_load_rules entries hs ≡ true → Fit hs
unfolding keeps_load_rules
fit_from entries hs e =
    let a = both_true (are_placed hs && are_few hs) (leave_room entries hs) e in
    let b = both_true (are_placed hs) (are_few hs) a.0 in
    let c = both_true (list_all is_fit hs) (each_pair may_follow hs) b.0 in
    record { each = c.0; one = le_of _ _ (both_true (nat_le (length (filter is_plain hs)) 16 && nat_le (sum_by (λ h. h.p_memsz) (filter is_plain hs)) 16777216) (nat_le (length (filter has_key hs)) 1) b.1).1 }

text_low : (file : List ℕ) → list_all is_fit (loaded_headers file) ≡ true → AllHold (all_text_rules file (loaded_headers file)) → text_end (text_ranges file) ≤ 0xFF000000
unfolding all_text_rules text_ranges ascending
text_low file fit h =
    let parts = text_parts file (loaded_headers file) in
    let placed = parts_kept file (loaded_headers file) parts (kept-split (text_rules file (loaded_headers file) parts) (write_rules (loaded_headers file) (ranges_of parts)) h).0 in
    end_low (fold insert_range [] (map range_of parts)) (length (fold insert_range [] (map range_of parts)) - 1)
    (fold_low [] (map range_of parts) refl (parts_low file (loaded_headers file) parts fit placed))

place_in : (file : List ℕ) (len base : ℕ) → AllHold (image_rules file) → base % 4096 ≡ 0 → 0xFF000000 ≤ base → base + len ≤ 0xFFFFF800
    → list_any (λ g. overlap (record { from = base; len = len }) (memory_range g)) (filter has_key (loaded_headers file)) ≡ false → IsPlace (contents file) len base
unfolding contents
place_in file len base h page high low e =
    let r = rules_of file h in
    let fit = fit_from (length (program_headers file)) (loaded_headers file) (segments_kept file (some_entry file r.header) r.segments) in
    let end = text_low file fit.each r.text in
    record {
      page = page;
      behind = omega (arith, end, high);
      free = free_at file (contents file) (loaded_headers file) len base refl high low (clear file base len (loaded_headers file) high fit.each e);
    }

-- some place is left
pub some_place : (file : List ℕ) (image : Image) (len : ℕ) → image_of file ≡ Ok image → len ≤ 4194304 → (base : ℕ) × IsPlace image len base × (base ≤ 0xFF800000)
some_place file image len e short =
    let h = rules_kept file image e in
    let r = rules_of file h in
    let fit = fit_from (length (program_headers file)) (loaded_headers file) (segments_kept file (some_entry file r.header) r.segments) in
    let P : Image → Type 0 = λ i. (base : ℕ) × IsPlace i len base × (base ≤ 0xFF800000) in
    subst P (contents-are file image e)
    (elim (choose len (filter has_key (loaded_headers file)) short fit.one (keyed_small (loaded_headers file) fit.each)) [
      | inl first ↦ (0xFF000000, place_in file len 0xFF000000 h refl (omega arith) (omega arith) first, omega arith)
      | inr second ↦ (0xFF800000, place_in file len 0xFF800000 h refl (omega arith) (omega arith) second, omega arith)
    ])
