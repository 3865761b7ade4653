-- Patched words lie in text, away from the file's header and from the section header table.
use Rattle.std.proofs.Common.{◌≡◌, ℕ, suc, ◌+◌, ◌*◌, ◌-◌, ◌%◌, ◌<◌, ◌≤◌, Bool, true, false, not, cond, ◌&&◌, ◌||◌, List, [], ◌∷◌, length, map, fold, get_or, Option, Some, None, refl, sym, ap, subst, ◌∙◌, arith, inl, inr, ◌⊎◌}
use Rattle.std.specs.Prelude.{nat_lt, nat_le, ◌==◌, find, option_map, All}
use Rattle.std.specs.List.{list_any, list_all}
use Rattle.std.proofs.lemmas.Bool.{le-leb, lt-ltb}
use Rattle.std.proofs.lemmas.Bool.Decides.{nat_tests}
use Rattle.scale_base.specs.declared.headers.ProgramHeader.{ProgramHeader}
use Rattle.scale_base.specs.declared.ranges.Range.{Range}
use Rattle.scale_base.specs.declared.ranges.TextPart.{TextPart}
use Rattle.scale_base.specs.declared.ranges.Patch.{Patch}
use Rattle.scale_base.specs.Spans.{overlap, ends_by, each_pair}
use Rattle.scale_base.specs.Elf.{has_sections, e_shoff, e_shnum}
use Rattle.scale_base.specs.Rules.{AllHold}
use Rattle.scale_base.specs.Image.{contents, is_word_address, file_place, text_parts, text_ranges, ascending, insert_range, range_of, is_in, holds_part, is_code_segment, is_text_place, is_off_table, header_has_word, is_fit, has_key, is_keyed_place, is_plain_place, may_follow, memory_range, file_part, loaded_headers, image_rules}
use Rattle.elf_patch.specs.Stored.{little, put_at, put_patch, patched}
use Rattle.elf_view.proofs.Laws.{both_true, le_of}
use Rattle.stored_laws.proofs.Bytes.{length-put, put-outside}
use Rattle.stored_laws.proofs.Known.{known}

-- ---- bytes that no patch changes

-- the word of the patch has its place in the file, away from byte i
abbrev pub Away : List ℕ → ℕ → Patch → Type 0
Away file i patch = (q : ℕ) → file_place file patch.at ≡ Some q → (q + 4 ≤ length file) × ((i < q) ⊎ (q + 4 ≤ i))

pub length-put_at : (acc bytes : List ℕ) (o : Option ℕ) → ((q : ℕ) → o ≡ Some q → q + length bytes ≤ length acc) → length (put_at acc o bytes) ≡ length acc
length-put_at acc bytes None h = refl
length-put_at acc bytes (Some q) h = length-put acc bytes q (h q refl)

pub put_at-away : (acc bytes : List ℕ) (o : Option ℕ) (i : ℕ) → ((q : ℕ) → o ≡ Some q → (q + length bytes ≤ length acc) × ((i < q) ⊎ (q + length bytes ≤ i))) → get_or (put_at acc o bytes) i 0 ≡ get_or acc i 0
put_at-away acc bytes None i h = refl
put_at-away acc bytes (Some q) i h = put-outside acc bytes q i (h q refl).0 (h q refl).1

length-fold : (file acc : List ℕ) (patches : List Patch) → length acc ≡ length file → All (λ p. (q : ℕ) → file_place file p.at ≡ Some q → q + 4 ≤ length file) patches → length (fold (put_patch file) acc patches) ≡ length file
length-fold file acc [] len h = len
length-fold file acc (p ∷ patches) len h =
    let one = length-put_at acc (little 4 p.word) (file_place file p.at) (λ q e. omega (arith, len, h 0 p (omega arith) q e)) in
    length-fold file (put_patch file acc p) patches (one ∙ len) (λ k d lt. h (suc k) d (omega arith))

pub length-patched : (file : List ℕ) (patches : List Patch) → All (λ p. (q : ℕ) → file_place file p.at ≡ Some q → q + 4 ≤ length file) patches → length (patched file patches) ≡ length file
length-patched file patches h = length-fold file file patches refl h

pub fold-away : (file acc : List ℕ) (patches : List Patch) (i : ℕ) → length acc ≡ length file → All (Away file i) patches → get_or (fold (put_patch file) acc patches) i 0 ≡ get_or acc i 0
fold-away file acc [] i len h = refl
fold-away file acc (p ∷ patches) i len h =
    let here = h 0 p (omega arith) in
    let one = length-put_at acc (little 4 p.word) (file_place file p.at) (λ q e. omega (arith, len, (here q e).0)) in
    fold-away file (put_patch file acc p) patches i (one ∙ len) (λ k d lt. h (suc k) d (omega arith))
    ∙ put_at-away acc (little 4 p.word) (file_place file p.at) i (λ q e. (omega (arith, len, (here q e).0), (here q e).1))

pub patched-away : (file : List ℕ) (patches : List Patch) (i : ℕ) → All (Away file i) patches → get_or (patched file patches) i 0 ≡ get_or file i 0
patched-away file patches i h = fold-away file file patches i refl h

-- ---- the segment that has a word of text

record HasWord (h : ProgramHeader) (at : ℕ) : Type 0 where
  from : h.p_vaddr ≤ at
  to : at + 4 ≤ h.p_vaddr + h.p_filesz

has_word : (h : ProgramHeader) (at : ℕ) → header_has_word at h ≡ true → HasWord h at
has_word h at e = let a = both_true (nat_le h.p_vaddr at) (nat_le (at + 4) (h.p_vaddr + h.p_filesz)) e in record { from = le_of _ _ a.0; to = le_of _ _ a.1 }

small : (h : ProgramHeader) → is_fit h ≡ true → h.p_filesz ≤ h.p_memsz
small h e = le_of _ _ (both_true (nat_le h.p_filesz h.p_memsz) (cond (has_key h) (is_keyed_place h) (is_plain_place h)) e).0

not_both : (b : Bool) → not b ≡ true → b ≡ true → ⊥
not_both true e f = cc
not_both false e f = cc

clash_one : (h g : ProgramHeader) (at : ℕ) → is_fit h ≡ true → is_fit g ≡ true → header_has_word at h ≡ true → header_has_word at g ≡ true → may_follow h g ≡ true → ⊥
clash_one h g at fit_h fit_g on_h on_g follow =
    let a = both_true (nat_le h.p_vaddr g.p_vaddr && not (overlap (memory_range h) (memory_range g))) (not (overlap (file_part h) (file_part g))) follow in
    let b = both_true (nat_le h.p_vaddr g.p_vaddr) (not (overlap (memory_range h) (memory_range g))) a.0 in
    let s = small h fit_h in
    let t = small g fit_g in
    let p = has_word h at on_h in
    let q = has_word g at on_g in
    let on : overlap (memory_range h) (memory_range g) ≡ true =
    rw (lt-ltb 0 h.p_memsz (omega (arith, p.from, p.to, s)), lt-ltb 0 g.p_memsz (omega (arith, q.from, q.to, t)), lt-ltb h.p_vaddr (g.p_vaddr + g.p_memsz) (omega (arith, p.from, q.to, t)), lt-ltb g.p_vaddr (h.p_vaddr + h.p_memsz) (omega (arith, q.from, p.to, s))) refl in
    not_both (overlap (memory_range h) (memory_range g)) b.1 on

or_cases : (a b : Bool) → (a || b) ≡ true → (a ≡ true) ⊎ (b ≡ true)
or_cases true b e = inl refl
or_cases false b e = inr e

clash : (h : ProgramHeader) (hs : List ProgramHeader) (at : ℕ) (p : ProgramHeader → Bool) → is_fit h ≡ true → list_all is_fit hs ≡ true → header_has_word at h ≡ true → list_all (may_follow h) hs ≡ true
    → list_any (λ g. p g && header_has_word at g) hs ≡ true → ⊥
clash h [] at p fit_h fit on follow e = cc
clash h (g ∷ hs) at p fit_h fit on follow e =
    let a = both_true (is_fit g) (list_all is_fit hs) fit in
    let b = both_true (may_follow h g) (list_all (may_follow h) hs) follow in
    elim (or_cases (p g && header_has_word at g) (list_any (λ g. p g && header_has_word at g) hs) e) [
      | inl here ↦ clash_one h g at fit_h a.0 on (both_true (p g) (header_has_word at g) here).1 b.0
      | inr later ↦ clash h hs at p fit_h a.1 on b.1 later
    ]

record Passes (p : ProgramHeader → Bool) (at : ℕ) (g : ProgramHeader) : Type 0 where
  test : p g ≡ true
  has : header_has_word at g ≡ true

-- the first segment that has the word is the one that passes the test and has it
find_passes : (hs : List ProgramHeader) (at : ℕ) (p : ProgramHeader → Bool) (g : ProgramHeader) → list_all is_fit hs ≡ true → each_pair may_follow hs ≡ true → list_any (λ h. p h && header_has_word at h) hs ≡ true
    → find (header_has_word at) hs ≡ Some g → Passes p at g
find_passes [] at p g fit pairs any e = absurd cc
find_passes (h ∷ hs) at p g fit pairs any e =
    let a = both_true (is_fit h) (list_all is_fit hs) fit in
    let b = both_true (list_all (may_follow h) hs) (each_pair may_follow hs) pairs in
    step (header_has_word at h) refl (or_cases (p h && header_has_word at h) (list_any (λ h. p h && header_has_word at h) hs) any) e a.0 a.1 b.0 (find_passes hs at p g a.1 b.1)
  where
    step : (b : Bool) → header_has_word at h ≡ b → ((p h && header_has_word at h) ≡ true) ⊎ (list_any (λ h. p h && header_has_word at h) hs ≡ true) → cond b (Some h) (find (header_has_word at) hs) ≡ Some g
        → is_fit h ≡ true → list_all is_fit hs ≡ true → list_all (may_follow h) hs ≡ true → (list_any (λ h. p h && header_has_word at h) hs ≡ true → find (header_has_word at) hs ≡ Some g → Passes p at g) → Passes p at g
    step true is (inl here) found fit_h fit_hs follow go = let same : h ≡ g = cc in let P : ProgramHeader → Type 0 = λ x. Passes p at x in subst P same (record { test = (both_true (p h) (header_has_word at h) here).0; has = is })
    step true is (inr later) found fit_h fit_hs follow go = absurd (clash h hs at p fit_h fit_hs is follow later)
    step false is (inl here) found fit_h fit_hs follow go = absurd (let no = (both_true (p h) (header_has_word at h) here).1 in let bad : false ≡ true = sym is ∙ no in cc)
    step false is (inr later) found fit_h fit_hs follow go = go later found

eq_of : (x y : ℕ) → (x == y) ≡ true → x ≡ y
eq_of x y e = grind (arith, nat_tests)

lt_of : (x y : ℕ) → nat_lt x y ≡ true → x < y
lt_of x y e = grind (arith, nat_tests)

-- ---- the place of a word of a part

record Holds (part : TextPart) (h : ProgramHeader) : Type 0 where
  from : h.p_vaddr ≤ part.span.from
  to : part.span.from + part.span.len ≤ h.p_vaddr + h.p_filesz
  place : part.place + h.p_vaddr ≡ h.p_offset + part.span.from

holds : (part : TextPart) (h : ProgramHeader) → holds_part part h ≡ true → Holds part h
holds part h e =
    let b = both_true (is_code_segment h && nat_le h.p_vaddr part.span.from && nat_le (part.span.from + part.span.len) (h.p_vaddr + h.p_filesz)) (part.place + h.p_vaddr == h.p_offset + part.span.from) e in
    let c = both_true (is_code_segment h && nat_le h.p_vaddr part.span.from) (nat_le (part.span.from + part.span.len) (h.p_vaddr + h.p_filesz)) b.0 in
    let d = both_true (is_code_segment h) (nat_le h.p_vaddr part.span.from) c.0 in
    record { from = le_of _ _ d.1; to = le_of _ _ c.1; place = eq_of _ _ b.1 }

record Inside (part : TextPart) (at : ℕ) : Type 0 where
  from : part.span.from ≤ at
  to : at + 4 ≤ part.span.from + part.span.len

inside : (part : TextPart) (at : ℕ) → at % 4 ≡ 0 → part.span.from % 4 ≡ 0 → part.span.len % 4 ≡ 0 → is_in at (range_of part) ≡ true → Inside part at
inside part at word start size e =
    let a = both_true (nat_le part.span.from at) (nat_lt at (part.span.from + part.span.len)) e in
    let low = le_of _ _ a.0 in
    let high = lt_of _ _ a.1 in
    record { from = low; to = omega (arith, word, start, size, high, low) }

has_from : (part : TextPart) (h : ProgramHeader) (at : ℕ) → Inside part at → holds_part part h ≡ true → header_has_word at h ≡ true
has_from part h at w e =
    let k = holds part h e in
    rw (le-leb h.p_vaddr at (omega (arith, k.from, w.from)), le-leb (at + 4) (h.p_vaddr + h.p_filesz) (omega (arith, k.to, w.to))) refl

held : (part : TextPart) (hs : List ProgramHeader) (at : ℕ) → Inside part at → list_any (holds_part part) hs ≡ true → list_any (λ h. holds_part part h && header_has_word at h) hs ≡ true
held part [] at w e = absurd cc
held part (h ∷ hs) at w e =
    elim (or_cases (holds_part part h) (list_any (holds_part part) hs) e) [
      | inl here ↦ rw (here, has_from part h at w here) refl
      | inr later ↦ rw (held part hs at w later) (or_true (holds_part part h && header_has_word at h))
    ]
  where
    or_true : (a : Bool) → (a || true) ≡ true
    or_true true = refl
    or_true false = refl

-- ---- an address in the text

swap_or : (a b c : Bool) → (a || (b || c)) ≡ (b || (a || c))
swap_or true true c = refl
swap_or true false c = refl
swap_or false b c = refl

any-insert : (p : Range → Bool) (xs : List Range) (r : Range) → list_any p (insert_range xs r) ≡ (p r || list_any p xs)
any-insert p [] r = refl
any-insert p (x ∷ xs) r = any_step (nat_lt r.from x.from) (any-insert p xs r)
  where
    any_step : (b : Bool) → list_any p (insert_range xs r) ≡ (p r || list_any p xs) → list_any p (cond b (r ∷ x ∷ xs) (x ∷ insert_range xs r)) ≡ (p r || (p x || list_any p xs))
    any_step true go = refl
    any_step false go = ap (λ (b : Bool). p x || b) go ∙ swap_or (p x) (p r) (list_any p xs)

or_assoc : (a b c : Bool) → ((a || b) || c) ≡ (b || (a || c))
or_assoc true true c = refl
or_assoc true false c = refl
or_assoc false b c = refl

any-fold : (p : Range → Bool) (acc ranges : List Range) → list_any p (fold insert_range acc ranges) ≡ (list_any p ranges || list_any p acc)
any-fold p acc [] = refl
any-fold p acc (r ∷ ranges) =
    any-fold p (insert_range acc r) ranges ∙ ap (λ (b : Bool). list_any p ranges || b) (any-insert p acc r) ∙ sym (or_assoc (p r) (list_any p ranges) (list_any p acc))

-- some part that has its place has the address
record PartAt (file : List ℕ) (hs : List ProgramHeader) (at : ℕ) (part : TextPart) : Type 0 where
  placed : is_text_place file hs part ≡ true
  here : is_in at (range_of part) ≡ true

part_at : (file : List ℕ) (hs : List ProgramHeader) (parts : List TextPart) (at : ℕ) → list_all (is_text_place file hs) parts ≡ true → list_any (is_in at) (map range_of parts) ≡ true → (part : TextPart) × PartAt file hs at part
part_at file hs [] at placed e = absurd cc
part_at file hs (part ∷ parts) at placed e =
    let a = both_true (is_text_place file hs part) (list_all (is_text_place file hs) parts) placed in
    elim (or_cases (is_in at (range_of part)) (list_any (is_in at) (map range_of parts)) e) [
      | inl here ↦ (part, record { placed = a.0; here = here })
      | inr later ↦ part_at file hs parts at a.1 later
    ]

-- where a word of text stands in the file
pub record TextPlace (file : List ℕ) (q : ℕ) : Type 0 where
  pub behind : 52 ≤ q
  pub within : q + 4 ≤ length file
  pub off_table : has_sections file ≡ true → (46 ≤ e_shoff file) × ((q + 4 ≤ e_shoff file) ⊎ (e_shoff file + 40 * e_shnum file ≤ q))

off : (s : Bool) (a x y z w : ℕ) → (not s || (nat_le 46 a && (nat_le x y || nat_le z w))) ≡ true → s ≡ true → (46 ≤ a) × ((x ≤ y) ⊎ (z ≤ w))
off false a x y z w e f = absurd cc
off true a x y z w e f =
    let p = both_true (nat_le 46 a) (nat_le x y || nat_le z w) e in
    (le_of _ _ p.0, elim (or_cases (nat_le x y) (nat_le z w) p.1) [ inl l ↦ inl (le_of _ _ l) | inr r ↦ inr (le_of _ _ r) ])

ends : (len : ℕ) (hs : List ProgramHeader) (at : ℕ) (g : ProgramHeader) → list_all (λ h. ends_by len (file_part h)) hs ≡ true → find (header_has_word at) hs ≡ Some g → g.p_offset + g.p_filesz ≤ len
ends len [] at g all e = absurd cc
ends len (h ∷ hs) at g all e =
    let a = both_true (ends_by len (file_part h)) (list_all (λ h. ends_by len (file_part h)) hs) all in
    step (header_has_word at h) e a.0 (ends len hs at g a.1)
  where
    step : (b : Bool) → cond b (Some h) (find (header_has_word at) hs) ≡ Some g → ends_by len (file_part h) ≡ true → (find (header_has_word at) hs ≡ Some g → g.p_offset + g.p_filesz ≤ len) → g.p_offset + g.p_filesz ≤ len
    step true found low go = let same : h ≡ g = cc in rw (← same) (le_of _ _ low)
    step false found low go = go found

shift : (part : TextPart) (g : ProgramHeader) (at : ℕ) → Holds part g → Inside part at → g.p_offset + (at - g.p_vaddr) ≡ part.place + (at - part.span.from)
shift part g at k w = omega (arith, k.from, k.place, w.from)

place_from : (file : List ℕ) (hs : List ProgramHeader) (at q : ℕ) (part : TextPart) (o : Option ProgramHeader) → find (header_has_word at) hs ≡ o → list_all is_fit hs ≡ true → each_pair may_follow hs ≡ true
    → list_all (λ h. ends_by (length file) (file_part h)) hs ≡ true → at % 4 ≡ 0 → PartAt file hs at part → option_map (λ h. h.p_offset + (at - h.p_vaddr)) o ≡ Some q → TextPlace file q
place_from file hs at q part None found fit pairs low word p e = absurd cc
place_from file hs at q part (Some g) found fit pairs low word p e =
    let a = both_true ((part.span.from % 4 == 0) && (part.span.len % 4 == 0) && list_any (holds_part part) hs && nat_le 52 part.place) (is_off_table file part) p.placed in
    let b = both_true ((part.span.from % 4 == 0) && (part.span.len % 4 == 0) && list_any (holds_part part) hs) (nat_le 52 part.place) a.0 in
    let c = both_true ((part.span.from % 4 == 0) && (part.span.len % 4 == 0)) (list_any (holds_part part) hs) b.0 in
    let d = both_true (part.span.from % 4 == 0) (part.span.len % 4 == 0) c.0 in
    let w = inside part at word (eq_of _ _ d.0) (eq_of _ _ d.1) p.here in
    let g-passes = find_passes hs at (holds_part part) g fit pairs (held part hs at w c.1) found in
    let k = holds part g g-passes.test in
    let is : g.p_offset + (at - g.p_vaddr) ≡ q = cc in
    let same = shift part g at k w in
    let behind = le_of 52 part.place b.1 in
    let end = ends (length file) hs at g low found in
    let has = has_word g at g-passes.has in
    record {
      behind = omega (arith, is, same, behind);
      within = omega (arith, is, has.from, has.to, end);
      off_table = λ s. let t = off (has_sections file) (e_shoff file) (part.place + part.span.len) (e_shoff file) (e_shoff file + 40 * e_shnum file) part.place a.1 s in
          (t.0, elim t.1 [ inl l ↦ inl (omega (arith, is, same, l, w.from, w.to)) | inr r ↦ inr (omega (arith, is, same, r)) ]);
    }

or_false : (a : Bool) → (a || false) ≡ true → a ≡ true
or_false true e = refl
or_false false e = absurd cc

pub text_place : (file : List ℕ) (at q : ℕ) → AllHold (image_rules file) → is_word_address (contents file) at ≡ true → file_place file at ≡ Some q → TextPlace file q
unfolding contents text_ranges ascending
text_place file at q h e is =
    let k = known file h in
    let hs = loaded_headers file in
    let parts = text_parts file hs in
    let a = both_true (at % 4 == 0) (list_any (is_in at) (fold insert_range [] (map range_of parts))) e in
    let p = part_at file hs parts at k.placed (or_false (list_any (is_in at) (map range_of parts)) (sym (any-fold (is_in at) [] (map range_of parts)) ∙ a.1)) in
    place_from file hs at q p.0 (find (header_has_word at) hs) refl k.fit k.ordered k.in_file (eq_of _ _ a.0) p.1 is
