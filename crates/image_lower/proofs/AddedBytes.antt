-- A file with a block added, byte by byte: its header, its block and its tables.
use Rattle.std.proofs.Common.{◌≡◌, ℕ, ◌+◌, ◌*◌, ◌-◌, ◌^◌, ◌<◌, ◌≤◌, Bool, true, false, Some, List, ◌++◌, length, replicate, get_or, refl, ap, sym, ◌∙◌, arith, add-zero, inl, inr, ◌⊎◌}
use Rattle.std.specs.Prelude.{All, nat_le, nat_lt, ◌&&◌, ◌||◌, if◌then◌else◌}
use Rattle.std.proofs.lemmas.Bool.{cases_lt, both_ways, and_from, le-leb, lt-ltb}
use Rattle.std.proofs.lemmas.List.{length-append, length-replicate, get_or_append_left}
use Rattle.scale_base.specs.declared.ranges.Patch.{Patch}
use Rattle.scale_base.specs.Bytes.{list_half_at, list_word_at}
use Rattle.scale_base.specs.Elf.{e_phoff, e_phnum, e_shoff, e_shnum, has_sections}
use Rattle.scale_base.specs.Image.{file_place, is_zeroed}
use Rattle.elf_patch.specs.Stored.{little, put, patched, block_start, changed}
use Rattle.elf_patch.specs.Added.{code_table, code_sections, moved_sections, sections_start, added_file}
use Rattle.elf_patch.proofs.Laws.{page_at-le}
use Rattle.stored_laws.proofs.Laws.{put-inside, half-same, word-same, word_little, half_little, length-put, put-outside, get_or-behind, length-patched, Places}

-- ---- the bytes that are loaded as they are

outside : (a b p : ℕ) → (nat_le a p && nat_lt p b) ≡ false → (p < a) ⊎ (b ≤ p)
outside a b p e = elim (cases_lt p a) [
  | inl low ↦ inl low
  | inr from ↦ elim (cases_lt p b) [
    | inl inside ↦ absurd (both_ways (nat_le a p && nat_lt p b) e (and_from (nat_le a p) (nat_lt p b) (le-leb a p from) (lt-ltb p b inside)))
    | inr past ↦ inr past
  ]
]

neither : (a b : Bool) → (a || b) ≡ false → (a ≡ false) × (b ≡ false)
neither true b h = let never : ⊥ = cc in absurd never
neither false b h = (refl, h)

pub record IsLoaded (p : ℕ) : Type 0 where
  pub tables : (p < 28) ⊎ (36 ≤ p)
  pub phnum : (p < 44) ⊎ (46 ≤ p)
  pub shnum : (p < 48) ⊎ (50 ≤ p)

pub off_zeroed : (p : ℕ) → is_zeroed p ≡ false → IsLoaded p
off_zeroed p e =
    let a = neither ((nat_le 28 p && nat_lt p 36) || (nat_le 44 p && nat_lt p 46)) (nat_le 48 p && nat_lt p 50) e in
    let b = neither (nat_le 28 p && nat_lt p 36) (nat_le 44 p && nat_lt p 46) a.0 in
    record { tables = outside 28 36 p b.0; phnum = outside 44 46 p b.1; shnum = outside 48 50 p a.1 }

wider : (p a b c d : ℕ) → a ≤ c → d ≤ b → (p < a) ⊎ (b ≤ p) → (p < c) ⊎ (d ≤ p)
wider p a b c d low high (inl h) = inl (omega (arith, low, h))
wider p a b c d low high (inr h) = inr (omega (arith, high, h))

-- ---- the header

pub record IsFront (old new : List ℕ) (at n so m : ℕ) (has : Bool) : Type 0 where
  pub size : length new ≡ length old
  pub same : (i : ℕ) → IsLoaded i → get_or new i 0 ≡ get_or old i 0
  pub phoff : (j : ℕ) → j < 4 → get_or new (28 + j) 0 ≡ get_or (little 4 at) j 0
  pub phnum : (j : ℕ) → j < 2 → get_or new (44 + j) 0 ≡ get_or (little 2 n) j 0
  pub shoff : has ≡ true → (j : ℕ) → j < 4 → get_or new (32 + j) 0 ≡ get_or (little 4 so) j 0
  pub shnum : has ≡ true → (j : ℕ) → j < 2 → get_or new (48 + j) 0 ≡ get_or (little 2 m) j 0
  pub kept : has ≡ false → (i : ℕ) → (i < 28) ⊎ (32 ≤ i) → (i < 44) ⊎ (46 ≤ i) → get_or new i 0 ≡ get_or old i 0

front_is : (old : List ℕ) (at n so m : ℕ) (has : Bool) → 52 ≤ length old →
    let c = put (put old 28 (little 4 at)) 44 (little 2 n) in IsFront old (if has then put (put c 32 (little 4 so)) 48 (little 2 m) else c) at n so m has
front_is old at n so m true long =
    let a = put old 28 (little 4 at) in
    let c = put a 44 (little 2 n) in
    let d = put c 32 (little 4 so) in
    let la = length-put old (little 4 at) 28 (omega (arith, long)) in
    let lc = length-put a (little 2 n) 44 (omega (arith, long, la)) in
    let ld = length-put c (little 4 so) 32 (omega (arith, long, la, lc)) in
    let le = length-put d (little 2 m) 48 (omega (arith, long, la, lc, ld)) in
    let ra : 28 + 4 ≤ length old = omega (arith, long) in
    let rc : 44 + 2 ≤ length a = omega (arith, long, la) in
    let rd : 32 + 4 ≤ length c = omega (arith, long, la, lc) in
    let re : 48 + 2 ≤ length d = omega (arith, long, la, lc, ld) in
    record {
      size = le ∙ (ld ∙ (lc ∙ la));
      same = λ i h.
          put-outside d (little 2 m) 48 i re h.shnum
          ∙ (put-outside c (little 4 so) 32 i rd (wider i 28 36 32 36 (omega arith) (omega arith) h.tables)
          ∙ (put-outside a (little 2 n) 44 i rc h.phnum
          ∙ put-outside old (little 4 at) 28 i ra (wider i 28 36 28 32 (omega arith) (omega arith) h.tables)));
      phoff = λ j lt.
          put-outside d (little 2 m) 48 (28 + j) re (inl (omega arith))
          ∙ (put-outside c (little 4 so) 32 (28 + j) rd (inl (omega arith))
          ∙ (put-outside a (little 2 n) 44 (28 + j) rc (inl (omega arith))
          ∙ put-inside old (little 4 at) 28 j ra lt));
      phnum = λ j lt.
          put-outside d (little 2 m) 48 (44 + j) re (inl (omega arith))
          ∙ (put-outside c (little 4 so) 32 (44 + j) rd (inr (omega arith))
          ∙ put-inside a (little 2 n) 44 j rc lt);
      shoff = λ on j lt. put-outside d (little 2 m) 48 (32 + j) re (inl (omega arith)) ∙ put-inside c (little 4 so) 32 j rd lt;
      shnum = λ on j lt. put-inside d (little 2 m) 48 j re lt;
      kept = λ off. absurd cc;
    }
front_is old at n so m false long =
    let a = put old 28 (little 4 at) in
    let la = length-put old (little 4 at) 28 (omega (arith, long)) in
    let lc = length-put a (little 2 n) 44 (omega (arith, long, la)) in
    let ra : 28 + 4 ≤ length old = omega (arith, long) in
    let rc : 44 + 2 ≤ length a = omega (arith, long, la) in
    record {
      size = lc ∙ la;
      same = λ i h. put-outside a (little 2 n) 44 i rc h.phnum ∙ put-outside old (little 4 at) 28 i ra (wider i 28 36 28 32 (omega arith) (omega arith) h.tables);
      phoff = λ j lt. put-outside a (little 2 n) 44 (28 + j) rc (inl (omega arith)) ∙ put-inside old (little 4 at) 28 j ra lt;
      phnum = λ j lt. put-inside a (little 2 n) 44 j rc lt;
      shoff = λ on. absurd cc;
      shnum = λ on. absurd cc;
      kept = λ off i x y. put-outside a (little 2 n) 44 i rc y ∙ put-outside old (little 4 at) 28 i ra x;
    }

word-from : (xs : List ℕ) (at x : ℕ) → x < 2 ^ 32 → ((j : ℕ) → j < 4 → get_or xs (at + j) 0 ≡ get_or (little 4 x) j 0) → list_word_at xs at ≡ x
word-from xs at x lt h = word-same xs (little 4 x) at 0 (λ i low. h i low ∙ ap (λ (k : ℕ). get_or (little 4 x) k 0) (let e : i ≡ 0 + i = omega arith in e)) ∙ word_little x lt

half-from : (xs : List ℕ) (at x : ℕ) → x < 65536 → ((j : ℕ) → j < 2 → get_or xs (at + j) 0 ≡ get_or (little 2 x) j 0) → list_half_at xs at ≡ x
half-from xs at x lt h = half-same xs (little 2 x) at 0 (ap (λ (k : ℕ). get_or xs k 0) (sym (add-zero at)) ∙ h 0 (omega arith)) (h 1 (omega arith)) ∙ half_little x lt

-- ---- the whole file

pub record IsAdded (file made table sections block : List ℕ) (patches : List Patch) (at : ℕ) : Type 0 where
  pub size : length made ≡ at + length table + length sections
  pub at_is : at ≡ block_start file + length block
  pub above : length file ≤ block_start file
  pub same : (i : ℕ) → i < length file → IsLoaded i → get_or made i 0 ≡ get_or (patched file patches) i 0
  pub phoff : e_phoff made ≡ at
  pub phnum : e_phnum made ≡ e_phnum file + 1
  pub shoff : has_sections file ≡ true → e_shoff made ≡ at + length table
  pub shnum : has_sections file ≡ true → e_shnum made ≡ e_shnum file + 1
  pub kept : has_sections file ≡ false → (i : ℕ) → i < length file → (i < 28) ⊎ (32 ≤ i) → (i < 44) ⊎ (46 ≤ i) → get_or made i 0 ≡ get_or (patched file patches) i 0
  pub block_is : (j : ℕ) → j < length block → get_or made (block_start file + j) 0 ≡ get_or block j 0
  pub table_is : (m : ℕ) → m < length table → get_or made (at + m) 0 ≡ get_or table m 0
  pub sections_are : (m : ℕ) → get_or made (at + length table + m) 0 ≡ get_or sections m 0

fits : (file : List ℕ) (patches : List Patch) → Places file patches → All (λ p. (q : ℕ) → file_place file p.at ≡ Some q → q + 4 ≤ length file) patches
fits file patches h = λ k d lt q e. (h k d lt q e).within

pub added-is : (file : List ℕ) (patches : List Patch) (base : ℕ) (block : List ℕ) → 52 ≤ length file → length file ≤ 4194304 → e_phnum file ≤ 64 → length block ≤ 4194304 → Places file patches
    → (has_sections file ≡ true → e_shnum file < 65535) → length (code_table file (block_start file) base (length block)) ≡ 32 * (e_phnum file + 1)
    → IsAdded file (added_file file patches base block) (code_table file (block_start file) base (length block)) (code_sections file (block_start file) base (length block)) block patches (block_start file + length block)
unfolding added_file
added-is file patches base block long short few small places room tables =
    let at = block_start file + length block in
    let so = sections_start file block in
    let table = code_table file (block_start file) base (length block) in
    let sections = code_sections file (block_start file) base (length block) in
    let old = patched file patches in
    let front = moved_sections file so (changed file patches at) in
    let zeros : List ℕ = replicate (block_start file - length file) 0 in
    let len = length-patched file patches (fits file patches places) in
    let c = front_is old at (e_phnum file + 1) so (e_shnum file + 1) (has_sections file) (omega (arith, long, len)) in
    let above = page_at-le (length file) in
    let size = c.size in
    let zeros-len : length zeros ≡ block_start file - length file = length-replicate (block_start file - length file) 0 in
    let one : length (front ++ zeros) ≡ block_start file = omega (arith, length-append front zeros, size, len, zeros-len, above) in
    let two : length (front ++ zeros ++ block) ≡ at = omega (arith, length-append (front ++ zeros) block, one) in
    let three : length (front ++ zeros ++ block ++ table) ≡ at + length table = omega (arith, length-append (front ++ zeros ++ block) table, two) in
    let made = front ++ zeros ++ block ++ table ++ sections in
    let limit : at < 2 ^ 32 = omega arith in
    let limit_too : so < 2 ^ 32 = omega arith in
    let so_is : so ≡ at + length table = omega (arith, tables) in
    let in_front = λ (i : ℕ) (lt : i < length file).
    get_or_append_left (front ++ zeros ++ block ++ table) sections 0 i (omega (arith, three, above))
    ∙ (get_or_append_left (front ++ zeros ++ block) table 0 i (omega (arith, two, above))
    ∙ (get_or_append_left (front ++ zeros) block 0 i (omega (arith, one, above))
    ∙ get_or_append_left front zeros 0 i (omega (arith, size, len)))) in
    record {
      size = omega (arith, length-append (front ++ zeros ++ block ++ table) sections, three);
      at_is = refl;
      above = above;
      same = λ i lt h. in_front i lt ∙ c.same i h;
      phoff = word-from made 28 at limit (λ j lt. in_front (28 + j) (omega (arith, long)) ∙ c.phoff j lt);
      phnum = half-from made 44 (e_phnum file + 1) (omega (arith, few)) (λ j lt. in_front (44 + j) (omega (arith, long)) ∙ c.phnum j lt);
      shoff = λ on. word-from made 32 so limit_too (λ j lt. in_front (32 + j) (omega (arith, long)) ∙ c.shoff on j lt) ∙ so_is;
      shnum = λ on. half-from made 48 (e_shnum file + 1) (omega (arith, room on)) (λ j lt. in_front (48 + j) (omega (arith, long)) ∙ c.shnum on j lt);
      kept = λ off i lt x y. in_front i lt ∙ c.kept off i x y;
      block_is = λ j lt.
          get_or_append_left (front ++ zeros ++ block ++ table) sections 0 (block_start file + j) (omega (arith, three, lt))
          ∙ (get_or_append_left (front ++ zeros ++ block) table 0 (block_start file + j) (omega (arith, two, lt))
          ∙ get_or-behind (front ++ zeros) block (block_start file) j one);
      table_is = λ m lt. get_or_append_left (front ++ zeros ++ block ++ table) sections 0 (at + m) (omega (arith, three, lt)) ∙ get_or-behind (front ++ zeros ++ block) table at m two;
      sections_are = λ m. get_or-behind (front ++ zeros ++ block ++ table) sections (at + length table) m three;
    }
