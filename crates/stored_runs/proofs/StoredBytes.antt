-- What the memory of a stored image holds: the block in the keyed segment, the patched words, and all else as in the original.
use Rattle.std.proofs.Common.{◌≡◌, ℕ, suc, ◌+◌, ◌-◌, ◌%◌, ◌<◌, ◌≤◌, Bool, true, false, not, cond, ◌&&◌, ◌||◌, List, [], ◌∷◌, length, map, fold, get_or, Option, Some, None, refl, sym, ap, subst, ◌∙◌, arith, inl, inr, ◌⊎◌, Ok}
use Rattle.std.specs.Prelude.{nat_lt, nat_le, ◌==◌, find, option_map, All, slice_range, if◌then◌else◌}
use Rattle.std.specs.List.{list_any, list_all}
use Rattle.std.proofs.lemmas.Bool.{le-leb, lt-ltb, le-ltb, leb-true, ltb-true, cases_lt, and_parts, and_from, both_ways, not-true, false_from_ne_true, eqb-true}
use Rattle.scale_base.specs.declared.headers.ProgramHeader.{ProgramHeader}
use Rattle.scale_base.specs.declared.ranges.Span.{Span}
use Rattle.scale_base.specs.declared.ranges.Patch.{Patch}
use Rattle.scale_base.specs.Bytes.{byte_at}
use Rattle.scale_base.specs.Spans.{in_span, overlap, ends_by, each_pair, round_up}
use Rattle.scale_base.specs.Image.{LoadSegment, image_of, contents, segment_of, addresses_of, covers, segment_byte, byte_in, loaded_byte, loaded_headers, is_zeroed, memory_range, file_part, header_has_word, file_place, is_fit, may_follow, stack}
use Rattle.scale_base.proofs.Laws.{has_table, rules_kept}
use Rattle.elf_patch.specs.Stored.{little, put_at, put_patch, block_start, stored_table, stored_image, window}
use Rattle.elf_patch.proofs.Laws.{page_at-le}
use Rattle.stored_laws.specs.StoredView.{IsStorable, over_file, insert_segment, block_segment, stored_view}
use Rattle.stored_laws.proofs.Laws.{length-slice_range, get_or-slice_range, put-inside, Away, length-put_at, fold-away, text_place, TextPlace, Places, IsStored, stored-is}
use Rattle.machine_laws.proofs.Laws.{find-map, list_any-map, mapped_from, found_in, found_passes, found_keeps, SegmentsKept, segments_of, one_covers, not_zeroed, file_fits, share_address}

-- ---- the segment that has an address

find_out : (p : LoadSegment → Bool) (xs : List LoadSegment) (s : LoadSegment) → p s ≡ false → find p (insert_segment xs s) ≡ find p xs
find_out p [] s e = rw e refl
find_out p (x ∷ xs) s e = find_step (nat_le s.from x.from) (find_out p xs s e)
  where
    find_step : (b : Bool) → find p (insert_segment xs s) ≡ find p xs → find p (cond b (s ∷ x ∷ xs) (x ∷ insert_segment xs s)) ≡ cond (p x) (Some x) (find p xs)
    find_step true go = rw e refl
    find_step false go = rw go refl

find_new : (p : LoadSegment → Bool) (xs : List LoadSegment) (s : LoadSegment) → p s ≡ true → find p xs ≡ None → find p (insert_segment xs s) ≡ Some s
find_new p [] s e none = rw e refl
find_new p (x ∷ xs) s e none =
    let parts = split (p x) none in
    find_step (nat_le s.from x.from) parts.0 (find_new p xs s e parts.1)
  where
    split : (b : Bool) → cond b (Some x) (find p xs) ≡ None → (b ≡ false) × (find p xs ≡ None)
    split true h = let never : ⊥ = cc in absurd never
    split false h = (refl, h)

    find_step : (b : Bool) → p x ≡ false → find p (insert_segment xs s) ≡ Some s → find p (cond b (s ∷ x ∷ xs) (x ∷ insert_segment xs s)) ≡ Some s
    find_step true off go = rw e refl
    find_step false off go = rw (off, go) refl

found_any : {A : Type 0} (p q : A → Bool) (xs : List A) (x : A) → find p xs ≡ Some x → list_any q xs ≡ false → q x ≡ false
found_any p q [] x e none = absurd cc
found_any p q (y ∷ ys) x e none =
    let two = neither (q y) (list_any q ys) none in
    elim (found_in (p y) x y (find p ys) e) [
      | inl here ↦ ap q (sym here.1) ∙ two.0
      | inr later ↦ found_any p q ys x later.1 two.1
    ]
  where
    neither : (a b : Bool) → (a || b) ≡ false → (a ≡ false) × (b ≡ false)
    neither true b h = let never : ⊥ = cc in absurd never
    neither false b h = (refl, h)

-- ---- the file parts of segments

pub sharing : (a b : Span) (x : ℕ) → overlap a b ≡ false → in_span a x ≡ true → in_span b x ≡ true → ⊥
sharing a b x apart in_a in_b = both_ways (overlap a b) apart (share_address a b x in_a in_b)

overlap_back : (a b : Span) (x : ℕ) → overlap b a ≡ false → in_span a x ≡ true → in_span b x ≡ true → ⊥
overlap_back a b x apart in_a in_b = both_ways (overlap b a) apart (share_address b a x in_b in_a)

follow_apart : (a b : ProgramHeader) → may_follow a b ≡ true → overlap (file_part a) (file_part b) ≡ false
follow_apart a b follow =
    not-true (overlap (file_part a) (file_part b)) (and_parts (nat_le a.p_vaddr b.p_vaddr && not (overlap (memory_range a) (memory_range b))) (not (overlap (file_part a) (file_part b))) follow).1

-- two segments that are found are the same, or their file parts share no byte
one_part : (p r : ProgramHeader → Bool) (hs : List ProgramHeader) (h g : ProgramHeader) (i : ℕ) → each_pair may_follow hs ≡ true → find p hs ≡ Some h → find r hs ≡ Some g
    → in_span (file_part h) i ≡ true → in_span (file_part g) i ≡ true → h ≡ g
one_part p r [] h g i apart e f on_h on_g = absurd cc
one_part p r (x ∷ hs) h g i apart e f on_h on_g =
    let a = and_parts (list_all (may_follow x) hs) (each_pair may_follow hs) apart in
    elim (found_in (p x) h x (find p hs) e) [
      | inl here ↦ elim (found_in (r x) g x (find r hs) f) [
        | inl there ↦ sym here.1 ∙ there.1
        | inr later ↦
            let next = follow_apart x g (found_keeps r (may_follow x) hs g later.1 a.0) in
            absurd (sharing (file_part x) (file_part g) i next (ap (λ k. in_span (file_part k) i) here.1 ∙ on_h) on_g)
      ]
      | inr off ↦ elim (found_in (r x) g x (find r hs) f) [
        | inl there ↦
            let next = follow_apart x h (found_keeps p (may_follow x) hs h off.1 a.0) in
            absurd (overlap_back (file_part h) (file_part x) i next on_h (ap (λ k. in_span (file_part k) i) there.1 ∙ on_g))
        | inr later ↦ one_part p r hs h g i a.1 off.1 later.1 on_h on_g
      ]
    ]

in_file : (h : ProgramHeader) (i : ℕ) → h.p_offset ≤ i → i < h.p_offset + h.p_filesz → in_span (file_part h) i ≡ true
in_file h i low high = and_from (nat_le h.p_offset i) (nat_lt i (h.p_offset + h.p_filesz)) (le-leb h.p_offset i low) (lt-ltb i (h.p_offset + h.p_filesz) high)

-- the address is none of the word's four
abbrev pub IsOff : ℕ → ℕ → Type 0
IsOff at a = (a < at) ⊎ (at + 4 ≤ a)

record HasWord (h : ProgramHeader) (at : ℕ) : Type 0 where
  from : h.p_vaddr ≤ at
  to : at + 4 ≤ h.p_vaddr + h.p_filesz

has_word : (h : ProgramHeader) (at : ℕ) → header_has_word at h ≡ true → HasWord h at
has_word h at e =
    let a = and_parts (nat_le h.p_vaddr at) (nat_le (at + 4) (h.p_vaddr + h.p_filesz)) e in
    record { from = leb-true h.p_vaddr at a.0; to = leb-true (at + 4) (h.p_vaddr + h.p_filesz) a.1 }

-- a byte that a segment loads from the file is none of the bytes of a word at another place
off_place : (hs : List ProgramHeader) (a at : ℕ) (h g : ProgramHeader) → each_pair may_follow hs ≡ true → find (λ k. in_span (memory_range k) a) hs ≡ Some h → find (header_has_word at) hs ≡ Some g
    → a - h.p_vaddr < h.p_filesz → IsOff at a → let i = h.p_offset + (a - h.p_vaddr) in let q = g.p_offset + (at - g.p_vaddr) in (i < q) ⊎ (q + 4 ≤ i)
off_place hs a at h g apart e f below off =
    let i = h.p_offset + (a - h.p_vaddr) in
    let q = g.p_offset + (at - g.p_vaddr) in
    let w = has_word g at (found_passes (header_has_word at) hs g f) in
    let low : h.p_vaddr ≤ a = leb-true h.p_vaddr a (and_parts (nat_le h.p_vaddr a) (nat_lt a (h.p_vaddr + h.p_memsz)) (found_passes (λ k. in_span (memory_range k) a) hs h e)).0 in
    elim (cases_lt i q) [
      | inl before ↦ inl before
      | inr from ↦ elim (cases_lt i (q + 4)) [
        | inl inside ↦
            let same = one_part (λ k. in_span (memory_range k) a) (header_has_word at) hs h g i apart e f
            (in_file h i (omega arith) (omega (arith, below))) (in_file g i (omega (arith, from, w.from)) (omega (arith, inside, w.from, w.to))) in
            let never : ⊥ = by_place (subst (λ k. (k.p_offset + (a - k.p_vaddr) < k.p_offset + (at - k.p_vaddr) + 4) × (k.p_offset + (at - k.p_vaddr) ≤ k.p_offset + (a - k.p_vaddr)) × (k.p_vaddr ≤ at)) (sym same)
            (subst (λ v. (g.p_offset + (a - g.p_vaddr) < g.p_offset + (at - g.p_vaddr) + 4) × (g.p_offset + (at - g.p_vaddr) ≤ g.p_offset + (a - g.p_vaddr)) × (g.p_vaddr ≤ v)) refl
            (both_at same inside from w.from))) low off in
            absurd never
        | inr behind ↦ inr behind
      ]
    ]
  where
    both_at : h ≡ g → h.p_offset + (a - h.p_vaddr) < g.p_offset + (at - g.p_vaddr) + 4 → g.p_offset + (at - g.p_vaddr) ≤ h.p_offset + (a - h.p_vaddr) → g.p_vaddr ≤ at
        → (g.p_offset + (a - g.p_vaddr) < g.p_offset + (at - g.p_vaddr) + 4) × (g.p_offset + (at - g.p_vaddr) ≤ g.p_offset + (a - g.p_vaddr)) × (g.p_vaddr ≤ at)
    both_at same x y z =
        (subst (λ k. k.p_offset + (a - k.p_vaddr) < g.p_offset + (at - g.p_vaddr) + 4) same x, subst (λ k. g.p_offset + (at - g.p_vaddr) ≤ k.p_offset + (a - k.p_vaddr)) same y, z)

    by_place : (h.p_offset + (a - h.p_vaddr) < h.p_offset + (at - h.p_vaddr) + 4) × (h.p_offset + (at - h.p_vaddr) ≤ h.p_offset + (a - h.p_vaddr)) × (h.p_vaddr ≤ at) → h.p_vaddr ≤ a → IsOff at a → ⊥
    by_place b low (inl before) = omega (arith, b.0, b.1, b.2, low, before)
    by_place b low (inr behind) = omega (arith, b.0, b.1, b.2, low, behind)

-- ---- the stored file's bytes, in the memory

module _ (file s : List ℕ) (h : ProgramHeader) (fits : h.p_offset + h.p_filesz ≤ length file) (longer : length file ≤ length s) where
  part_bytes : (xs : List ℕ) (j : ℕ) → j < h.p_filesz → byte_at (slice_range xs h.p_offset (h.p_offset + h.p_filesz)) j ≡ byte_at xs (h.p_offset + j)
  part_bytes xs j lt = get_or-slice_range xs h.p_offset h.p_filesz j lt

  old_length : length (segment_of file h).file ≡ h.p_filesz
  old_length = length-slice_range file h.p_offset h.p_filesz fits

  new_length : length (slice_range s h.p_offset (h.p_offset + h.p_filesz)) ≡ h.p_filesz
  new_length = length-slice_range s h.p_offset h.p_filesz (omega (arith, fits, longer))

  -- the byte is the same where the file's is
  segment_same : (a : ℕ) → (a - h.p_vaddr < h.p_filesz → is_zeroed (h.p_offset + (a - h.p_vaddr)) ≡ false → byte_at s (h.p_offset + (a - h.p_vaddr)) ≡ byte_at file (h.p_offset + (a - h.p_vaddr)))
      → segment_byte a (over_file s (segment_of file h)) ≡ segment_byte a (segment_of file h)
  segment_same a same =
      let j = a - h.p_vaddr in
      rw (old_length, new_length)
      (value_same (nat_lt j h.p_filesz) (is_zeroed (h.p_offset + j)) _ _ (λ lt z. let low = ltb-true j h.p_filesz lt in part_bytes s j low ∙ (same low z ∙ sym (part_bytes file j low))))
    where
      value_same : (b z : Bool) (x y : ℕ) → (b ≡ true → z ≡ false → x ≡ y) → cond (b && not z) x 0 ≡ cond (b && not z) y 0
      value_same true true x y h = refl
      value_same true false x y h = h refl refl
      value_same false z x y h = refl

  -- a byte behind the header is the stored file's
  segment_new : (a : ℕ) → a - h.p_vaddr < h.p_filesz → 52 ≤ h.p_offset + (a - h.p_vaddr) → segment_byte a (over_file s (segment_of file h)) ≡ byte_at s (h.p_offset + (a - h.p_vaddr))
  segment_new a below behind =
      let j = a - h.p_vaddr in
      let one : nat_lt j h.p_filesz ≡ true = lt-ltb j h.p_filesz below in
      let two : is_zeroed (h.p_offset + j) ≡ false = not_zeroed (h.p_offset + j) behind in
      rw (old_length, new_length, one, two) (part_bytes s j below)

-- a byte that isn't loaded as a zero is none of e_phoff, and none of e_phnum
off_phoff : (p : ℕ) → is_zeroed p ≡ false → (p < 28) ⊎ (32 ≤ p)
off_phoff p e = elim (cases_lt p 28) [
  | inl low ↦ inl low
  | inr from ↦ elim (cases_lt p 32) [
    | inl inside ↦ absurd (let bad : true ≡ false = rw (le-leb 28 p from, lt-ltb p 36 (omega arith)) at e in cc)
    | inr behind ↦ inr behind
  ]
]

off_phnum : (p : ℕ) → is_zeroed p ≡ false → (p < 44) ⊎ (46 ≤ p)
off_phnum p e = elim (cases_lt p 44) [
  | inl low ↦ inl low
  | inr from ↦ elim (cases_lt p 46) [
    | inl inside ↦ absurd (let bad : true ≡ false = rw (le-leb 28 p (omega arith), le-ltb p 36 (omega arith), le-leb 44 p from, lt-ltb p 46 inside) at e in cc)
    | inr behind ↦ inr behind
  ]
]

-- ---- patches

abbrev pub word_for : List Patch → ℕ → Option ℕ
word_for [] at = None
word_for (p ∷ patches) at = if p.at == at then Some p.word else word_for patches at

abbrev pub ArePatchesApart : List Patch → Type 0
ArePatchesApart [] = Unit {0}
ArePatchesApart (p ∷ patches) = All (λ later. p.at < later.at) patches × ArePatchesApart patches

patched_here : (file acc : List ℕ) (patches : List Patch) (pc w q j : ℕ) → length acc ≡ length file → Places file patches → ArePatchesApart patches → word_for patches pc ≡ Some w → file_place file pc ≡ Some q → j < 4
    → All (λ p. (p.at ≡ pc → ⊥) → Away file (q + j) p) patches → get_or (fold (put_patch file) acc patches) (q + j) 0 ≡ get_or (little 4 w) j 0
patched_here file acc [] pc w q j len places apart e place lt away = absurd cc
patched_here file acc (p ∷ patches) pc w q j len places apart e place lt away =
    let fits = λ (r : ℕ) (f : file_place file p.at ≡ Some r). (places 0 p (omega arith) r f).within in
    let one : length (put_patch file acc p) ≡ length file = length-put_at acc (little 4 p.word) (file_place file p.at) (λ r f. omega (arith, len, fits r f)) ∙ len in
    step (p.at == pc) refl e one (λ f. patched_here file (put_patch file acc p) patches pc w q j one (λ k d l. places (suc k) d (omega arith)) apart.1 f place lt (λ k d l. away (suc k) d (omega arith)))
  where
    step : (b : Bool) → (p.at == pc) ≡ b → cond b (Some p.word) (word_for patches pc) ≡ Some w → length (put_patch file acc p) ≡ length file
        → (word_for patches pc ≡ Some w → get_or (fold (put_patch file) (put_patch file acc p) patches) (q + j) 0 ≡ get_or (little 4 w) j 0)
        → get_or (fold (put_patch file) (put_patch file acc p) patches) (q + j) 0 ≡ get_or (little 4 w) j 0
    step true at_is f one go =
        let same : p.at ≡ pc = eqb-true p.at pc at_is in
        let word : p.word ≡ w = cc in
        let here : file_place file p.at ≡ Some q = ap (file_place file) same ∙ place in
        let rest = fold-away file (put_patch file acc p) patches (q + j) one (λ k d l. away (suc k) d (omega arith) (λ (z : (get_or patches k d).at ≡ pc). let lower = apart.0 k d l in omega (arith, lower, z, same))) in
        let within : q + 4 ≤ length file = (places 0 p (omega arith) q here).within in
        rest ∙ (ap (λ o. get_or (put_at acc o (little 4 p.word)) (q + j) 0) here
        ∙ (put-inside acc (little 4 p.word) q j (omega (arith, len, within)) lt ∙ ap (λ v. get_or (little 4 v) j 0) word))
    step false at_is f one go = go f

-- ---- the memory

module _ (file : List ℕ) (patches : List Patch) (base : ℕ) (block : List ℕ) (start : ℕ) (e : image_of file ≡ Ok (contents file)) (h : IsStorable (contents file) patches base block start) where
  abbrev s : List ℕ
  s = stored_image file patches base block start

  abbrev hs : List ProgramHeader
  hs = loaded_headers file

  abbrev key : Span
  key = record { from = base; len = length block }

  kept : SegmentsKept file
  kept = segments_of file (contents file) e

  long : 52 ≤ length file
  long = (has_table file (contents file) e).long

  short : length file ≤ 4194304
  unfolding contents
  short = h.file

  places : Places file patches
  places = λ k d lt q f. text_place file (get_or patches k d).at q (rules_kept file (contents file) e) (h.words k d lt) f

  stored : IsStored file s (stored_table file (block_start file) base start (length block)) block patches (block_start file + length block)
  stored = stored-is file patches base start block long short (has_table file (contents file) e).few h.block_short places

  longer : length file ≤ length s
  longer = omega (arith, stored.size, stored.at_is, stored.above)

  spare : list_any (overlap key) (map addresses_of (map (segment_of file) hs)) ≡ false
  unfolding contents
  spare = three (overlap key stack) (overlap key window) (list_any (overlap key) (map addresses_of (map (segment_of file) hs))) h.place.place.free
    where
      three : (a b c : Bool) → not (a || (b || c)) ≡ true → c ≡ false
      three true b c g = let never : ⊥ = cc in absurd never
      three false true c g = let never : ⊥ = cc in absurd never
      three false false c g = not-true c g

  -- a segment has no address of the key
  pub covered : (a : ℕ) (g : ProgramHeader) → find (λ k. in_span (memory_range k) a) hs ≡ Some g → in_span key a ≡ true → ⊥
  covered a g found on =
      let off : list_any (λ k. overlap key (memory_range k)) hs ≡ false = sym (list_any-map (λ x. overlap key (addresses_of x)) (segment_of file) hs) ∙ (sym (list_any-map (overlap key) addresses_of (map (segment_of file) hs)) ∙ spare) in
      sharing key (memory_range g) a (found_any (λ k. in_span (memory_range k) a) (λ k. overlap key (memory_range k)) hs g found off) on (found_passes (λ k. in_span (memory_range k) a) hs g found)

  abbrev found_at : ℕ → Option ProgramHeader
  found_at a = find (λ k. in_span (memory_range k) a) hs

  segments_at : (a : ℕ) → find (covers a) (map (over_file s) (map (segment_of file) hs)) ≡ option_map (over_file s) (option_map (segment_of file) (found_at a))
  segments_at a = find-map (covers a) (over_file s) (map (segment_of file) hs) ∙ ap (option_map (over_file s)) (find-map (covers a) (segment_of file) hs)

  fits : (a : ℕ) (g : ProgramHeader) → found_at a ≡ Some g → g.p_offset + g.p_filesz ≤ length file
  fits a g found = leb-true (g.p_offset + g.p_filesz) (length file) (found_keeps (λ k. in_span (memory_range k) a) (λ k. ends_by (length file) (file_part k)) hs g found kept.inside)

  -- a byte of a patched word is away from each place of the file but its own
  away : (a : ℕ) (g : ProgramHeader) (p : Patch) → found_at a ≡ Some g → a - g.p_vaddr < g.p_filesz → ((q : ℕ) → file_place file p.at ≡ Some q → q + 4 ≤ length file) → IsOff p.at a → Away file (g.p_offset + (a - g.p_vaddr)) p
  away a g p found below within off = λ q f.
      let m = mapped_from (λ k. k.p_offset + (p.at - k.p_vaddr)) (find (header_has_word p.at) hs) q f in
      let o = off_place hs a p.at g m.0 kept.apart found m.1 below off in
      (within q f, subst (λ r. (g.p_offset + (a - g.p_vaddr) < r) ⊎ (r + 4 ≤ g.p_offset + (a - g.p_vaddr))) m.2 o)

  same_by : (a : ℕ) (o : Option ProgramHeader) → found_at a ≡ o → All (λ p. IsOff p.at a) patches → byte_in a (option_map (over_file s) (option_map (segment_of file) o)) ≡ byte_in a (option_map (segment_of file) o)
  same_by a None found off = refl
  same_by a (Some g) found off =
      let fit = fits a g found in
      segment_same file s g fit longer a (λ below z.
      stored.low (g.p_offset + (a - g.p_vaddr)) (omega (arith, below, fit)) (off_phoff (g.p_offset + (a - g.p_vaddr)) z) (off_phnum (g.p_offset + (a - g.p_vaddr)) z)
      (λ k d lt. away a g (get_or patches k d) found below (λ q f. (places k d lt q f).within) (off k d lt)))

  pub byte_same : (a : ℕ) → in_span key a ≡ false → All (λ p. IsOff p.at a) patches → loaded_byte (stored_view (contents file) s base block start) a ≡ loaded_byte (contents file) a
  unfolding loaded_byte stored_view contents
  byte_same a out off =
      ap (byte_in a) (find_out (covers a) (map (over_file s) (map (segment_of file) hs)) (block_segment file base block) out ∙ segments_at a)
      ∙ (same_by a (found_at a) refl off ∙ sym (ap (byte_in a) (find-map (covers a) (segment_of file) hs)))

  none_at : (a : ℕ) (o : Option ProgramHeader) → found_at a ≡ o → in_span key a ≡ true → o ≡ None
  none_at a None found on = refl
  none_at a (Some g) found on = absurd (covered a g found on)

  pub byte_of_block : (j : ℕ) → j < length block → loaded_byte (stored_view (contents file) s base block start) (base + j) ≡ get_or block j 0
  unfolding loaded_byte stored_view contents
  byte_of_block j lt =
      let a = base + j in
      let on : in_span key a ≡ true = and_from (nat_le base a) (nat_lt a (base + length block)) (le-leb base a (omega arith)) (lt-ltb a (base + length block) (omega arith)) in
      let none : find (covers a) (map (over_file s) (map (segment_of file) hs)) ≡ None = segments_at a ∙ ap (λ o. option_map (over_file s) (option_map (segment_of file) o)) (none_at a (found_at a) refl on) in
      let above = page_at-le (length file) in
      let back : base + j - base ≡ j = omega arith in
      let one : nat_lt j (length block) ≡ true = lt-ltb j (length block) lt in
      let two : is_zeroed (round_up 4096 (length file) + j) ≡ false = not_zeroed (round_up 4096 (length file) + j) (omega (arith, above, long)) in
      ap (byte_in a) (find_new (covers a) (map (over_file s) (map (segment_of file) hs)) (block_segment file base block) on none)
      ∙ rw (back, one, two) refl

  word_found : (pc j : ℕ) (g : ProgramHeader) → find (header_has_word pc) hs ≡ Some g → j < 4 → found_at (pc + j) ≡ Some g
  word_found pc j g found lt = one_covers (header_has_word pc) (pc + j) hs g (λ k has fit. in_memory k has fit) kept.fit kept.apart found
    where
      in_memory : (k : ProgramHeader) → header_has_word pc k ≡ true → is_fit k ≡ true → in_span (memory_range k) (pc + j) ≡ true
      in_memory k has fit =
          let w = has_word k pc has in
          let small = file_fits k fit in
          and_from (nat_le k.p_vaddr (pc + j)) (nat_lt (pc + j) (k.p_vaddr + k.p_memsz)) (le-leb k.p_vaddr (pc + j) (omega (arith, w.from))) (lt-ltb (pc + j) (k.p_vaddr + k.p_memsz) (omega (arith, w.to, small)))

  -- the bytes of a patched word
  pub byte_of_patch : (pc w j : ℕ) → ArePatchesApart patches → All (λ p. p.at % 4 ≡ 0) patches → pc % 4 ≡ 0 → (q : ℕ) → file_place file pc ≡ Some q → word_for patches pc ≡ Some w → j < 4
      → TextPlace file q → loaded_byte (stored_view (contents file) s base block start) (pc + j) ≡ get_or (little 4 w) j 0
  unfolding loaded_byte stored_view contents
  byte_of_patch pc w j apart even word q place is lt text =
      let m = mapped_from (λ k. k.p_offset + (pc - k.p_vaddr)) (find (header_has_word pc) hs) q place in
      let g = m.0 in
      let found = word_found pc j g m.1 lt in
      let has = has_word g pc (found_passes (header_has_word pc) hs g m.1) in
      let out : in_span key (pc + j) ≡ false = false_from_ne_true (in_span key (pc + j)) (λ on. covered (pc + j) g found on) in
      let below : pc + j - g.p_vaddr < g.p_filesz = omega (arith, has.from, has.to, lt) in
      let moved : g.p_offset + (pc + j - g.p_vaddr) ≡ q + j = omega (arith, m.2, has.from) in
      let behind = text.behind in
      let within = text.within in
      ap (byte_in (pc + j)) (find_out (covers (pc + j)) (map (over_file s) (map (segment_of file) hs)) (block_segment file base block) out ∙ (segments_at (pc + j) ∙ ap (λ o. option_map (over_file s) (option_map (segment_of file) o)) found))
      ∙ (segment_new file s g (fits (pc + j) g found) longer (pc + j) below (omega (arith, moved, behind))
      ∙ (ap (byte_at s) moved
      ∙ (stored.same (q + j) (omega (arith, within, lt)) (inr (omega (arith, behind))) (inr (omega (arith, behind)))
      ∙ patched_here file file patches pc w q j refl places apart is place lt
      (λ k d l other. subst (λ i. Away file i (get_or patches k d)) moved (away (pc + j) g (get_or patches k d) found below (λ r f. (places k d l r f).within) (off_word (get_or patches k d).at pc j (even k d l) word other lt))))))
    where
      off_word : (at pc j : ℕ) → at % 4 ≡ 0 → pc % 4 ≡ 0 → (at ≡ pc → ⊥) → j < 4 → IsOff at (pc + j)
      off_word at pc j even word other lt = elim (cases_lt (pc + j) at) [
        | inl before ↦ inl before
        | inr from ↦ elim (cases_lt (pc + j) (at + 4)) [
          | inl inside ↦ absurd (other (omega (arith, even, word, from, inside, lt)))
          | inr behind ↦ inr behind
        ]
      ]
