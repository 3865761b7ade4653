-- Each word address of the text has its bytes in the file.
use Rattle.std.proofs.Common.{◌≡◌, ℕ, ◌+◌, ◌-◌, ◌%◌, ◌<◌, Bool, true, false, cond, ◌&&◌, ◌||◌, List, [], ◌∷◌, map, fold, Option, Some, None, refl, sym, ap, ◌∙◌, arith, inl, inr, ◌⊎◌}
use Rattle.std.specs.Prelude.{nat_lt, nat_le, ◌==◌, find, is_some, option_map}
use Rattle.std.specs.List.{list_any, list_all}
use Rattle.std.proofs.lemmas.Bool.{le-leb}
use Rattle.std.proofs.lemmas.Bool.Decides.{nat_tests}
use Rattle.scale_base.specs.declared.ranges.Range.{Range}
use Rattle.scale_base.specs.declared.headers.ProgramHeader.{ProgramHeader}
use Rattle.scale_base.specs.declared.ranges.TextPart.{TextPart}
use Rattle.scale_base.specs.Image.{contents, is_word_address, text_word, file_place, text_parts, ranges_of, text_ranges, ascending, text_rules, write_rules, all_text_rules, loaded_headers, insert_range, range_of, is_in, holds_part, is_code_segment, is_text_place, is_off_table, header_has_word}
use Rattle.scale_base.specs.Bytes.{list_word_at}
use Rattle.scale_base.specs.Rules.{AllHold}
use Rattle.scale_base.proofs.Laws.{kept-split, parts_kept}
use Rattle.elf_image.proofs.Laws.{both_true, le_of}

swap_or : (a b c : Bool) → (a || (b || c)) ≡ (b || (a || c))
swap_or true true c = refl
swap_or true false c = refl
swap_or false b c = refl

-- putting a range in its place changes nothing of what lies in some range
any-insert : (p : Range → Bool) (xs : List Range) (r : Range) → list_any p (insert_range xs r) ≡ (p r || list_any p xs)
any-insert p [] r = refl
any-insert p (x ∷ xs) r = any_step (nat_lt r.from x.from) p x r xs (any-insert p xs r)
  where
    any_step : (b : Bool) (p : Range → Bool) (x r : Range) (xs : List Range) → list_any p (insert_range xs r) ≡ (p r || list_any p xs)
        → list_any p (cond b (r ∷ x ∷ xs) (x ∷ insert_range xs r)) ≡ (p r || (p x || list_any p xs))
    any_step true p x r xs go = refl
    any_step false p x r xs go = ap (λ (b : Bool). p x || b) go ∙ swap_or (p x) (p r) (list_any p xs)

or_assoc : (a b c : Bool) → ((a || b) || c) ≡ (b || (a || c))
or_assoc true true c = refl
or_assoc true false c = refl
or_assoc false b c = refl

any-fold : (p : Range → Bool) (acc ranges : List Range) → list_any p (fold insert_range acc ranges) ≡ (list_any p ranges || list_any p acc)
any-fold p acc [] = refl
any-fold p acc (r ∷ ranges) =
    any-fold p (insert_range acc r) ranges ∙ ap (λ (b : Bool). list_any p ranges || b) (any-insert p acc r) ∙ sym (or_assoc (p r) (list_any p ranges) (list_any p acc))

-- a word of a part lies in the file part of the segment that holds the part
part_word : (part : TextPart) (h : ProgramHeader) (at : ℕ) → at % 4 ≡ 0 → part.span.from % 4 ≡ 0 → part.span.len % 4 ≡ 0 → is_in at (range_of part) ≡ true → holds_part part h ≡ true → header_has_word at h ≡ true
part_word part h at word start size inside holds =
    let a = both_true (nat_le part.span.from at) (nat_lt at (part.span.from + part.span.len)) inside in
    let b = both_true (is_code_segment h && nat_le h.p_vaddr part.span.from && nat_le (part.span.from + part.span.len) (h.p_vaddr + h.p_filesz)) (part.place + h.p_vaddr == h.p_offset + part.span.from) holds in
    let c = both_true (is_code_segment h && nat_le h.p_vaddr part.span.from) (nat_le (part.span.from + part.span.len) (h.p_vaddr + h.p_filesz)) b.0 in
    let d = both_true (is_code_segment h) (nat_le h.p_vaddr part.span.from) c.0 in
    let low = le_of _ _ a.0 in
    let high = lt_of _ _ a.1 in
    let first = le_of _ _ d.1 in
    let last = le_of _ _ c.1 in
    rw (le-leb h.p_vaddr at (omega (arith, low, first)), le-leb (at + 4) (h.p_vaddr + h.p_filesz) (omega (arith, word, start, size, high, last))) refl
  where
    lt_of : (x y : ℕ) → nat_lt x y ≡ true → x < y
    lt_of x y e = grind (arith, nat_tests)

held_word : (part : TextPart) (hs : List ProgramHeader) (at : ℕ) → at % 4 ≡ 0 → part.span.from % 4 ≡ 0 → part.span.len % 4 ≡ 0 → is_in at (range_of part) ≡ true → list_any (holds_part part) hs ≡ true
    → is_some (find (header_has_word at) hs) ≡ true
held_word part [] at word start size inside e = absurd cc
held_word part (h ∷ hs) at word start size inside e =
    step (holds_part part h) (header_has_word at h) h hs (list_any (holds_part part) hs) at e (λ on. part_word part h at word start size inside on) (held_word part hs at word start size inside)
  where
    step : (b w : Bool) (h : ProgramHeader) (hs : List ProgramHeader) (rest : Bool) (at : ℕ) → (b || rest) ≡ true → (b ≡ true → w ≡ true) → (rest ≡ true → is_some (find (header_has_word at) hs) ≡ true)
        → is_some (cond w (Some h) (find (header_has_word at) hs)) ≡ true
    step b true h hs rest at e on go = refl
    step true false h hs rest at e on go = absurd (let no : false ≡ true = on refl in cc)
    step false false h hs rest at e on go = go e

eq_of : (x y : ℕ) → (x == y) ≡ true → x ≡ y
eq_of x y e = grind (arith, nat_tests)

-- where each part is in its place, each word address of a part has its bytes in the file
parts_word : (file : List ℕ) (hs : List ProgramHeader) (parts : List TextPart) (at : ℕ) → at % 4 ≡ 0 → list_all (is_text_place file hs) parts ≡ true → list_any (is_in at) (map range_of parts) ≡ true → is_some (find (header_has_word at) hs) ≡ true
parts_word file hs [] at word placed e = absurd cc
parts_word file hs (part ∷ parts) at word placed e =
    let a = both_true (is_text_place file hs part) (list_all (is_text_place file hs) parts) placed in
    let b = both_true ((part.span.from % 4 == 0) && (part.span.len % 4 == 0) && list_any (holds_part part) hs && nat_le 52 part.place) (is_off_table file part) a.0 in
    let c = both_true ((part.span.from % 4 == 0) && (part.span.len % 4 == 0) && list_any (holds_part part) hs) (nat_le 52 part.place) b.0 in
    let d = both_true ((part.span.from % 4 == 0) && (part.span.len % 4 == 0)) (list_any (holds_part part) hs) c.0 in
    let f = both_true (part.span.from % 4 == 0) (part.span.len % 4 == 0) d.0 in
    split (is_in at (range_of part)) (list_any (is_in at) (map range_of parts)) (is_some (find (header_has_word at) hs)) e
    (λ inside. held_word part hs at word (eq_of _ _ f.0) (eq_of _ _ f.1) inside d.1) (parts_word file hs parts at word a.1)
  where
    split : (a b r : Bool) → (a || b) ≡ true → (a ≡ true → r ≡ true) → (b ≡ true → r ≡ true) → r ≡ true
    split true b r e one two = one refl
    split false b r e one two = two e

pub ranges_word : (file : List ℕ) (hs : List ProgramHeader) (parts : List TextPart) (at : ℕ) → at % 4 ≡ 0 → list_all (is_text_place file hs) parts ≡ true → list_any (is_in at) (fold insert_range [] (map range_of parts)) ≡ true → is_some (find (header_has_word at) hs) ≡ true
ranges_word file hs parts at word placed e =
    parts_word file hs parts at word placed (or_false (list_any (is_in at) (map range_of parts)) (sym (any-fold (is_in at) [] (map range_of parts)) ∙ e))
  where
    or_false : (a : Bool) → (a || false) ≡ true → a ≡ true
    or_false true e = refl
    or_false false e = absurd cc

mapped : {A B : Type 0} (f : A → B) (o : Option A) → is_some o ≡ true → is_some (option_map f o) ≡ true
mapped f None e = absurd cc
mapped f (Some x) e = refl

either_way : (b : Bool) → (b ≡ true) ⊎ (b ≡ false)
either_way true = inl refl
either_way false = inr refl

has_place : (file : List ℕ) (at : ℕ) → AllHold (all_text_rules file (loaded_headers file)) → is_word_address (contents file) at ≡ true → is_some (file_place (contents file).file at) ≡ true
unfolding all_text_rules contents text_ranges ascending
has_place file at rules e =
    let parts = text_parts file (loaded_headers file) in
    let placed = parts_kept file (loaded_headers file) parts (kept-split (text_rules file (loaded_headers file) parts) (write_rules (loaded_headers file) (ranges_of parts)) rules).0 in
    let a = both_true (at % 4 == 0) (list_any (is_in at) (fold insert_range [] (map range_of parts))) e in
    mapped (λ h. h.p_offset + (at - h.p_vaddr)) (find (header_has_word at) (loaded_headers file)) (ranges_word file (loaded_headers file) parts at (eq_of _ _ a.0) placed a.1)

-- the words of the image of such a file are those at the multiples of 4 in its text
pub contents_word : (file : List ℕ) (at : ℕ) → AllHold (all_text_rules file (loaded_headers file)) → is_some (text_word (contents file) at) ≡ is_word_address (contents file) at
unfolding text_word
contents_word file at rules =
    elim (either_way (is_word_address (contents file) at)) [
      | inl on ↦ rw on (mapped (list_word_at (contents file).file) (file_place (contents file).file at) (has_place file at rules on))
      | inr off ↦ rw off refl
    ]
