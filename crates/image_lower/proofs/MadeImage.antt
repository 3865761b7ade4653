-- What the memory of a made image holds, and what it may be used for: the old segments with the patched words, and the block where there is one.
use Rattle.std.proofs.Common.{◌≡◌, ◌≢◌, ℕ, suc, ◌+◌, ◌-◌, ◌%◌, ◌<◌, ◌≤◌, Bool, true, false, not, cond, ◌&&◌, ◌||◌, List, [], ◌∷◌, ◌++◌, length, map, filter, fold, get_or, Some, None, refl, sym, ap, ◌∙◌, arith, inl, inr, ◌⊎◌}
use Rattle.std.specs.Prelude.{nat_lt, nat_le, ◌==◌, find, All}
use Rattle.std.specs.List.{list_any, list_all}
use Rattle.std.proofs.lemmas.Bool.{le-leb, lt-ltb, leb-true, cases_lt, and_parts, and_from, or_left, or_right, or_cases, both_ways, not-true, eqb-true, eq-eqb}
use Rattle.std.proofs.lemmas.List.Folds.{list_any-append}
use Rattle.scale_base.specs.declared.headers.ProgramHeader.{ProgramHeader}
use Rattle.scale_base.specs.declared.ranges.Patch.{Patch}
use Rattle.scale_base.specs.Elf.{has}
use Rattle.scale_base.specs.Spans.{in_span, overlap, each_pair}
use Rattle.scale_base.specs.Image.{LoadSegment, segment_of, memory_range, file_part, header_has_word, file_place, may_follow, is_in}
use Rattle.scale_base.specs.Layout.{Layout, Part, part_of, is_plain_segment, in_text, is_keyed, may_fetch, each_byte, fetches_byte, can_fetch}
use Rattle.scale_base.specs.State.{Setting}
use Rattle.scale_base.proofs.Laws.{each_byte_none, each_byte_more, each_byte_first}
use Rattle.elf_patch.specs.Stored.{little, put_at, put_patch}
use Rattle.stored_laws.proofs.Laws.{put-inside, Away, length-put_at, put_at-away, Places}
use Rattle.machine_laws.proofs.Laws.{list_any-map, found_in, found_passes, found_keeps, share_address}
use Rattle.code_text.specs.Text.{Text, text_of}
use Rattle.code_text.specs.Text as texts
use Rattle.graph_runs.specs.TextStates.{IsTextOf}
use Rattle.graph_runs.proofs.Laws.{word_within}
use Rattle.stored_runs.proofs.Laws.{IsOff}

-- ---- lists with some in the middle

pub find_mid : {A : Type 0} (p : A → Bool) (xs es ys : List A) → list_any p es ≡ false → find p (xs ++ (es ++ ys)) ≡ find p (xs ++ ys)
find_mid p [] [] ys off = refl
find_mid p [] (e ∷ es) ys off = step (p e) off (find_mid p [] es ys)
  where
    step : (b : Bool) → (b || list_any p es) ≡ false → (list_any p es ≡ false → find p (es ++ ys) ≡ find p ys) → cond b (Some e) (find p (es ++ ys)) ≡ find p ys
    step true h go = let never : ⊥ = cc in absurd never
    step false h go = go h
find_mid p (x ∷ xs) es ys off = ap (cond (p x) (Some x)) (find_mid p xs es ys off)

pub find_new : {A : Type 0} (p : A → Bool) (xs ys : List A) (e : A) → p e ≡ true → find p (xs ++ ys) ≡ None → find p (xs ++ (e ∷ [] ++ ys)) ≡ Some e
find_new p [] ys e on none = ap (λ b. cond b (Some e) (find p ys)) on
find_new p (x ∷ xs) ys e on none = step (p x) none (find_new p xs ys e on)
  where
    step : (b : Bool) → cond b (Some x) (find p (xs ++ ys)) ≡ None → (find p (xs ++ ys) ≡ None → find p (xs ++ (e ∷ [] ++ ys)) ≡ Some e) → cond b (Some x) (find p (xs ++ (e ∷ [] ++ ys))) ≡ Some e
    step true h go = let never : ⊥ = cc in absurd never
    step false h go = go h

pub any_mid : {A : Type 0} (p : A → Bool) (xs es ys : List A) → list_any p (xs ++ (es ++ ys)) ≡ (list_any p (xs ++ ys) || list_any p es)
any_mid p [] es ys = list_any-append p es ys ∙ swap (list_any p es) (list_any p ys)
  where
    swap : (a b : Bool) → (a || b) ≡ (b || a)
    swap true true = refl
    swap true false = refl
    swap false true = refl
    swap false false = refl
any_mid p (x ∷ xs) es ys = ap (λ b. p x || b) (any_mid p xs es ys) ∙ assoc (p x) (list_any p (xs ++ ys)) (list_any p es)
  where
    assoc : (a b c : Bool) → (a || (b || c)) ≡ ((a || b) || c)
    assoc true b c = refl
    assoc false b c = refl

pub or_false : (b : Bool) → (b || false) ≡ b
or_false true = refl
or_false false = refl

-- ---- segments that are found

-- two segments that are found are the same, or no byte of the file lies in both
parts_apart : (p r : ProgramHeader → Bool) (hs : List ProgramHeader) (g h : ProgramHeader) → each_pair may_follow hs ≡ true → find p hs ≡ Some g → find r hs ≡ Some h →
    (g ≡ h) ⊎ ((i : ℕ) → in_span (file_part g) i ≡ true → in_span (file_part h) i ≡ true → ⊥)
parts_apart p r [] g h apart e f = absurd cc
parts_apart p r (x ∷ hs) g h apart e f =
    let a = and_parts (list_all (may_follow x) hs) (each_pair may_follow hs) apart in
    elim (found_in (p x) g x (find p hs) e) [
      | inl here ↦ elim (found_in (r x) h x (find r hs) f) [
        | inl there ↦ inl (sym here.1 ∙ there.1)
        | inr later ↦ inr (λ i on_g on_h. clash x h i (found_keeps r (may_follow x) hs h later.1 a.0) (ap (λ k. in_span (file_part k) i) here.1 ∙ on_g) on_h)
      ]
      | inr off ↦ elim (found_in (r x) h x (find r hs) f) [
        | inl there ↦ inr (λ i on_g on_h. clash x g i (found_keeps p (may_follow x) hs g off.1 a.0) (ap (λ k. in_span (file_part k) i) there.1 ∙ on_h) on_g)
        | inr later ↦ parts_apart p r hs g h a.1 off.1 later.1
      ]
    ]
  where
    clash : (a b : ProgramHeader) (i : ℕ) → may_follow a b ≡ true → in_span (file_part a) i ≡ true → in_span (file_part b) i ≡ true → ⊥
    clash a b i follow on_a on_b =
        both_ways (overlap (file_part a) (file_part b))
        (not-true (overlap (file_part a) (file_part b)) (and_parts (nat_le a.p_vaddr b.p_vaddr && not (overlap (memory_range a) (memory_range b))) (not (overlap (file_part a) (file_part b))) follow).1)
        (share_address (file_part a) (file_part b) i on_a on_b)

record HasWord (h : ProgramHeader) (at : ℕ) : Type 0 where
  from : h.p_vaddr ≤ at
  to : at + 4 ≤ h.p_vaddr + h.p_filesz

has_word : (h : ProgramHeader) (at : ℕ) → header_has_word at h ≡ true → HasWord h at
has_word h at e =
    let a = and_parts (nat_le h.p_vaddr at) (nat_le (at + 4) (h.p_vaddr + h.p_filesz)) e in
    record { from = leb-true h.p_vaddr at a.0; to = leb-true (at + 4) (h.p_vaddr + h.p_filesz) a.1 }

pub in_file : (h : ProgramHeader) (i : ℕ) → h.p_offset ≤ i → i < h.p_offset + h.p_filesz → in_span (file_part h) i ≡ true
in_file h i low high = and_from (nat_le h.p_offset i) (nat_lt i (h.p_offset + h.p_filesz)) (le-leb h.p_offset i low) (lt-ltb i (h.p_offset + h.p_filesz) high)

-- a byte that a segment loads from the file is none of those of a word at another address
pub place_off : (hs : List ProgramHeader) (a at : ℕ) (g h : ProgramHeader) → each_pair may_follow hs ≡ true → find (λ k. in_span (memory_range k) a) hs ≡ Some g → find (header_has_word at) hs ≡ Some h
    → g.p_vaddr ≤ a → a - g.p_vaddr < g.p_filesz → IsOff at a → (g.p_offset + (a - g.p_vaddr) < h.p_offset + (at - h.p_vaddr)) ⊎ (h.p_offset + (at - h.p_vaddr) + 4 ≤ g.p_offset + (a - g.p_vaddr))
place_off hs a at g h apart e f low below off =
    let w = has_word h at (found_passes (header_has_word at) hs h f) in
    elim (parts_apart (λ k. in_span (memory_range k) a) (header_has_word at) hs g h apart e f) [
      | inl same ↦ by_one same w off
      | inr none ↦ elim (cases_lt (g.p_offset + (a - g.p_vaddr)) (h.p_offset + (at - h.p_vaddr))) [
        | inl before ↦ inl before
        | inr from ↦ elim (cases_lt (g.p_offset + (a - g.p_vaddr)) (h.p_offset + (at - h.p_vaddr) + 4)) [
          | inl inside ↦
              let i = g.p_offset + (a - g.p_vaddr) in
              let from_too = w.from in
              let to_too = w.to in
              absurd (none i (in_file g i (omega arith) (omega (arith, below))) (in_file h i (omega (arith, from, from_too)) (omega (arith, inside, from_too, to_too))))
          | inr behind ↦ inr behind
        ]
      ]
    ]
  where
    by_one : g ≡ h → HasWord h at → IsOff at a → (g.p_offset + (a - g.p_vaddr) < h.p_offset + (at - h.p_vaddr)) ⊎ (h.p_offset + (at - h.p_vaddr) + 4 ≤ g.p_offset + (a - g.p_vaddr))
    by_one same w off =
        let offset : g.p_offset ≡ h.p_offset = ap (λ (k : ProgramHeader). k.p_offset) same in
        let from : g.p_vaddr ≡ h.p_vaddr = ap (λ (k : ProgramHeader). k.p_vaddr) same in
        let low_too = w.from in
        elim off [ inl before ↦ inl (omega (arith, offset, from, before, low, low_too)) | inr behind ↦ inr (omega (arith, offset, from, behind, low, low_too)) ]

-- ---- a patched word

-- where each patch of the word puts the same number, the file holds it
pub put_here : (file acc : List ℕ) (patches : List Patch) (pc w q j : ℕ) → length acc ≡ length file → Places file patches → file_place file pc ≡ Some q → j < 4 → All (λ p. p.at ≡ pc → p.word ≡ w) patches → All (λ p. p.at ≢ pc → Away file (q + j) p) patches
    → (get_or acc (q + j) 0 ≡ get_or (little 4 w) j 0) ⊎ (list_any (λ (p : Patch). p.at == pc) patches ≡ true) → get_or (fold (put_patch file) acc patches) (q + j) 0 ≡ get_or (little 4 w) j 0
put_here file acc [] pc w q j len places place lt words away (inl there) = there
put_here file acc [] pc w q j len places place lt words away (inr some) = absurd cc
put_here file acc (p ∷ patches) pc w q j len places place lt words away has =
    let fits = λ (r : ℕ) (f : file_place file p.at ≡ Some r). (places 0 p (omega arith) r f).within in
    let one : length (put_patch file acc p) ≡ length file = length-put_at acc (little 4 p.word) (file_place file p.at) (λ r f. omega (arith, len, fits r f)) ∙ len in
    put_here file (put_patch file acc p) patches pc w q j one (λ k d l. places (suc k) d (omega arith)) place lt (λ k d l. words (suc k) d (omega arith)) (λ k d l. away (suc k) d (omega arith))
    (next acc p (p.at == pc) refl len fits (words 0 p (omega arith)) (away 0 p (omega arith)) has)
  where
    next : (acc : List ℕ) (p : Patch) (b : Bool) → (p.at == pc) ≡ b → length acc ≡ length file → ((r : ℕ) → file_place file p.at ≡ Some r → r + 4 ≤ length file) → (p.at ≡ pc → p.word ≡ w) → (p.at ≢ pc → Away file (q + j) p)
        → (get_or acc (q + j) 0 ≡ get_or (little 4 w) j 0) ⊎ ((b || list_any (λ (p : Patch). p.at == pc) patches) ≡ true)
        → (get_or (put_patch file acc p) (q + j) 0 ≡ get_or (little 4 w) j 0) ⊎ (list_any (λ (p : Patch). p.at == pc) patches ≡ true)
    next acc p true e len fits word off has =
        let same : p.at ≡ pc = eqb-true p.at pc e in
        let here : file_place file p.at ≡ Some q = ap (file_place file) same ∙ place in
        let within = fits q here in
        inl (ap (λ o. get_or (put_at acc o (little 4 p.word)) (q + j) 0) here ∙ (put-inside acc (little 4 p.word) q j (omega (arith, len, within)) lt ∙ ap (λ v. get_or (little 4 v) j 0) (word same)))
    next acc p false e len fits word off (inl there) =
        let other : p.at ≢ pc = λ same. both_ways (p.at == pc) e (eq-eqb p.at pc same) in
        let a = off other in
        inl (put_at-away acc (little 4 p.word) (file_place file p.at) (q + j) (λ r f. let b = a r f in (omega (arith, len, b.0), elim b.1 [ inl l ↦ inl l | inr h ↦ inr h ])) ∙ there)
    next acc p false e len fits word off (inr some) = inr some

-- ---- words that may be fetched

pub fetched_text : (t : Text) (env : Setting) → IsTextOf t env → (pc : ℕ) → pc % 4 ≡ 0 → texts.is_text_address t pc ≡ true → can_fetch env.layout pc ≡ true
unfolding may_fetch
fetched_text t env ok pc even on =
    let test = fetches_byte env.layout in
    let byte : (j : ℕ) → j < 4 → test (pc + j) ≡ true = λ j lt. or_left (may_fetch env.layout (pc + j)) (is_keyed env.layout (pc + j)) (ap (λ rs. list_any (is_in (pc + j)) rs) (sym ok.ranges) ∙ word_within t env ok pc j on even lt) in
    let none = each_byte_none test pc in
    let one = each_byte_more test pc 0 none (byte 0 (omega arith)) in
    let two = each_byte_more test pc 1 one (byte 1 (omega arith)) in
    let three = each_byte_more test pc 2 two (byte 2 (omega arith)) in
    let four = each_byte_more test pc 3 three (byte 3 (omega arith)) in
    and_from (pc % 4 == 0) (each_byte test pc 4) (eq-eqb (pc % 4) 0 even) four

-- without a key only words of the text may be fetched
pub text_fetched : (l : Layout) (pc : ℕ) → is_keyed l pc ≡ false → can_fetch l pc ≡ true → (pc % 4 ≡ 0) × (in_text l pc ≡ true)
unfolding may_fetch
text_fetched l pc keyless e =
    let p = and_parts (pc % 4 == 0) (each_byte (fetches_byte l) pc 4) e in
    (eqb-true (pc % 4) 0 p.0, unkeyed (in_text l pc) (is_keyed l pc) keyless (each_byte_first (fetches_byte l) pc 4 (omega arith) p.1))
  where
    unkeyed : (a b : Bool) → b ≡ false → (a || b) ≡ true → a ≡ true
    unkeyed true b e h = refl
    unkeyed false b e h = let never : ⊥ = cc in absurd never

-- ---- parts of layouts

any_plain : (q : Part → Bool) (xs : List LoadSegment) → list_any q (map part_of (filter is_plain_segment xs)) ≡ list_any (λ s. is_plain_segment s && q (part_of s)) xs
any_plain q [] = refl
any_plain q (x ∷ xs) = step (is_plain_segment x) (any_plain q xs)
  where
    step : (b : Bool) → list_any q (map part_of (filter is_plain_segment xs)) ≡ list_any (λ s. is_plain_segment s && q (part_of s)) xs
        → list_any q (map part_of (cond b (x ∷ filter is_plain_segment xs) (filter is_plain_segment xs))) ≡ ((b && q (part_of x)) || list_any (λ s. is_plain_segment s && q (part_of s)) xs)
    step true go = ap (λ b. q (part_of x) || b) go
    step false go = go

-- a segment with the address that passes
abbrev pub allows : List ℕ → (Part → Bool) → ℕ → ProgramHeader → Bool
allows file f a h = is_plain_segment (segment_of file h) && (f (part_of (segment_of file h)) && in_span (memory_range h) a)

pub any_allows : (file : List ℕ) (f : Part → Bool) (a : ℕ) (hs : List ProgramHeader) → list_any (λ p. f p && in_span p.span a) (map part_of (filter is_plain_segment (map (segment_of file) hs))) ≡ list_any (allows file f a) hs
any_allows file f a hs = any_plain (λ p. f p && in_span p.span a) (map (segment_of file) hs) ∙ list_any-map (λ s. is_plain_segment s && (f (part_of s) && in_span (part_of s).span a)) (segment_of file) hs

pub allowed_covers : (file : List ℕ) (f : Part → Bool) (a : ℕ) (hs : List ProgramHeader) → list_any (allows file f a) hs ≡ true → list_any (λ h. in_span (memory_range h) a) hs ≡ true
allowed_covers file f a [] e = absurd cc
allowed_covers file f a (h ∷ hs) e = elim (or_cases (allows file f a h) (list_any (allows file f a) hs) e) [
  | inl here ↦ or_left (in_span (memory_range h) a) (list_any (λ h. in_span (memory_range h) a) hs)
      (and_parts (f (part_of (segment_of file h))) (in_span (memory_range h) a) (and_parts (is_plain_segment (segment_of file h)) (f (part_of (segment_of file h)) && in_span (memory_range h) a) here).1).1
  | inr later ↦ or_right (in_span (memory_range h) a) (list_any (λ h. in_span (memory_range h) a) hs) (allowed_covers file f a hs later)
]
