-- The program headers of a stored file.
use Rattle.std.proofs.Common.{◌≡◌, ℕ, zero, suc, ◌+◌, ◌*◌, ◌-◌, ◌^◌, ◌<◌, ◌≤◌, Bool, true, false, not, cond, ◌&&◌, List, [], ◌∷◌, ◌++◌, length, map, get_or, take, drop, refl, sym, ap, ◌∙◌, append_assoc, arith}
use Rattle.std.specs.Prelude.{nat_le, ◌==◌, if◌then◌else◌}
use Rattle.std.specs.List.{range_with_len, flat_map}
use Rattle.std.proofs.lemmas.Bool.Decides.{nat_tests}
use Rattle.std.proofs.lemmas.List.{length-append, map-append, length-drop, get_or-drop}
use Rattle.std.proofs.lemmas.List.FromFn.{length-map-range_with_len, get_or-map-range_with_len, take-map-range_with_len}
use Rattle.std.proofs.lemmas.List.Sums.{prefix_len-le-length}
use Rattle.std.proofs.lemmas.Grind.{flat_map-append}
use Rattle.std.proofs.lemmas.List.Concat.{flat_map-cons}
use Rattle.scale_base.specs.declared.headers.ProgramHeader.{ProgramHeader}
use Rattle.scale_base.specs.declared.ranges.Patch.{Patch}
use Rattle.scale_base.specs.Bytes.{list_half_at, list_word_at}
use Rattle.scale_base.specs.Elf.{e_phoff, e_phnum, program_header, program_headers}
use Rattle.scale_base.specs.Image.{is_load, load_headers}
use Rattle.elf_patch.specs.Stored.{entry_bytes, kept_entry, entries, block_entry, keyed_number, stored_table}
use Rattle.elf_view.proofs.Laws.{length-headers}
use Rattle.stored_laws.proofs.Bytes.{word-same, word_little, Are32, row-byte, flat_map-map, map-range, get_or-slice_range, length-slice_range}
use Rattle.stored_laws.proofs.Fields.{IsStored}

-- the header of a row of 32 bytes
header_of : List ℕ → ProgramHeader
header_of row = record {
  p_type = list_word_at row 0;
  p_offset = list_word_at row 4;
  p_vaddr = list_word_at row 8;
  p_paddr = list_word_at row 12;
  p_filesz = list_word_at row 16;
  p_memsz = list_word_at row 20;
  p_flags = list_word_at row 24;
}

-- the header of the block's segment
abbrev pub keyed_header : ℕ → ℕ → ℕ → ℕ → ProgramHeader
keyed_header place base start len = record { p_type = 1; p_offset = place; p_vaddr = base; p_paddr = start; p_filesz = len; p_memsz = len; p_flags = 0x00100005 }

-- the header as it is written again
abbrev pub kept_header : ProgramHeader → ProgramHeader
kept_header h = if h.p_type == 6 then record h { p_type = 0 } else h

abbrev is_above : ℕ → ProgramHeader → Bool
is_above base h = is_load h && nat_le base h.p_vaddr

-- ---- the rows of the table

rows : List ℕ → ℕ → List ℕ → List (List ℕ)
rows file k key = map (kept_entry file) (range_with_len 0 k) ++ key ∷ map (kept_entry file) (range_with_len k (e_phnum file - k))

joined : (file : List ℕ) (k : ℕ) (key : List ℕ) → flat_map (λ r. r) (rows file k key) ≡ entries file 0 k ++ key ++ entries file k (e_phnum file - k)
unfolding rows
joined file k key =
    let a = map (kept_entry file) (range_with_len 0 k) in
    let b = map (kept_entry file) (range_with_len k (e_phnum file - k)) in
    flat_map-append (λ r. r) a (key ∷ b) ∙ ap (λ (t : List ℕ). flat_map (λ r. r) a ++ t) (flat_map-cons (λ r. r) key b)
    ∙ rw (flat_map-map (kept_entry file) (range_with_len 0 k), flat_map-map (kept_entry file) (range_with_len k (e_phnum file - k))) (sym (append_assoc (entries file 0 k) key (entries file k (e_phnum file - k))))

length-entry : (file : List ℕ) (j : ℕ) → e_phoff file + 32 * e_phnum file ≤ length file → j < e_phnum file → length (kept_entry file j) ≡ 32
length-entry file j table lt =
    let whole : length (entry_bytes file j) ≡ 32 = length-slice_range file (e_phoff file + 32 * j) 32 (omega arith) in
    step ((program_header file j).p_type == 6) whole
  where
    step : (b : Bool) → length (entry_bytes file j) ≡ 32 → length (cond b (0 ∷ 0 ∷ 0 ∷ 0 ∷ drop 4 (entry_bytes file j)) (entry_bytes file j)) ≡ 32
    step true whole = omega (arith, whole, length-drop 4 (entry_bytes file j))
    step false whole = whole

length-rows : (file : List ℕ) (k : ℕ) (key : List ℕ) → k ≤ e_phnum file → length (rows file k key) ≡ e_phnum file + 1
unfolding rows
length-rows file k key le =
    omega (arith, length-append (map (kept_entry file) (range_with_len 0 k)) (key ∷ map (kept_entry file) (range_with_len k (e_phnum file - k))), length-map-range_with_len (kept_entry file) 0 k, length-map-range_with_len (kept_entry file) k (e_phnum file - k))

all32-append : (a b : List (List ℕ)) → Are32 a → Are32 b → Are32 (a ++ b)
all32-append [] b h k j lt = k j lt
all32-append (x ∷ a) b h k zero lt = h 0 (omega arith)
all32-append (x ∷ a) b h k (suc j) lt = all32-append a b (λ i l. h (suc i) (omega arith)) k j (omega arith)

entries32 : (file : List ℕ) (a n : ℕ) → e_phoff file + 32 * e_phnum file ≤ length file → a + n ≤ e_phnum file → Are32 (map (kept_entry file) (range_with_len a n))
entries32 file a n table le j lt =
    let low : j < n = omega (arith, length-map-range_with_len (kept_entry file) a n) in
    rw (get_or-map-range_with_len (kept_entry file) a n j (a + j) [] low refl) (length-entry file (a + j) table (omega arith))

cons32 : (row : List ℕ) (rows : List (List ℕ)) → length row ≡ 32 → Are32 rows → Are32 (row ∷ rows)
cons32 row rows len h zero lt = len
cons32 row rows len h (suc j) lt = h j (omega arith)

rows32 : (file : List ℕ) (k : ℕ) (key : List ℕ) → e_phoff file + 32 * e_phnum file ≤ length file → k ≤ e_phnum file → length key ≡ 32 → Are32 (rows file k key)
unfolding rows
rows32 file k key table le len =
    all32-append (map (kept_entry file) (range_with_len 0 k)) (key ∷ map (kept_entry file) (range_with_len k (e_phnum file - k))) (entries32 file 0 k table (omega arith))
    (cons32 key (map (kept_entry file) (range_with_len k (e_phnum file - k))) len (entries32 file k (e_phnum file - k) table (omega arith)))

-- ---- the headers of the rows

header-at : (stored : List ℕ) (rows : List (List ℕ)) (at j : ℕ) → e_phoff stored ≡ at → ((m : ℕ) → get_or stored (at + m) 0 ≡ get_or (flat_map (λ r. r) rows) m 0) → Are32 rows → j < length rows → program_header stored j ≡ header_of (get_or rows j [])
unfolding program_header header_of
header-at stored rows at j phoff behind all lt =
    let byte = λ (c : ℕ) (low : c < 32). let e : at + (32 * j + c) ≡ at + 32 * j + c = omega arith in rw e at (behind (32 * j + c)) ∙ row-byte rows j c all lt low in
    let word = λ (c : ℕ) (low : c + 4 ≤ 32). word-same stored (get_or rows j []) (at + 32 * j + c) c (λ i l. let e : at + 32 * j + c + i ≡ at + 32 * j + (c + i) = omega arith in rw e (byte (c + i) (omega arith))) in
    let first : list_word_at stored (at + 32 * j) ≡ list_word_at (get_or rows j []) 0 = word-same stored (get_or rows j []) (at + 32 * j) 0 (λ i l. byte i (omega arith) ∙ ap (λ (n : ℕ). get_or (get_or rows j []) n 0) (let e : i ≡ 0 + i = omega arith in e)) in
    rw (phoff, first, word 4 (omega arith), word 8 (omega arith), word 12 (omega arith), word 16 (omega arith), word 20 (omega arith), word 24 (omega arith)) refl

same-header : (h : ProgramHeader) (t o v p f m g : ℕ) → t ≡ h.p_type → o ≡ h.p_offset → v ≡ h.p_vaddr → p ≡ h.p_paddr → f ≡ h.p_filesz → m ≡ h.p_memsz → g ≡ h.p_flags
    → record { p_type = t; p_offset = o; p_vaddr = v; p_paddr = p; p_filesz = f; p_memsz = m; p_flags = g } ≡ h
same-header h t o v p f m g a b c d e i j = rw (a, b, c, d, e, i, j) refl

entry-word : (file : List ℕ) (j c : ℕ) → c + 4 ≤ 32 → list_word_at (entry_bytes file j) c ≡ list_word_at file (e_phoff file + 32 * j + c)
entry-word file j c low =
    word-same (entry_bytes file j) file c (e_phoff file + 32 * j + c) (λ i l.
    get_or-slice_range file (e_phoff file + 32 * j) 32 (c + i) (omega arith) ∙ ap (λ (n : ℕ). get_or file n 0) (let e : e_phoff file + 32 * j + (c + i) ≡ e_phoff file + 32 * j + c + i = omega arith in e))

entry-first : (file : List ℕ) (j : ℕ) → list_word_at (entry_bytes file j) 0 ≡ list_word_at file (e_phoff file + 32 * j)
entry-first file j = entry-word file j 0 (omega arith) ∙ ap (list_word_at file) (let e : e_phoff file + 32 * j + 0 ≡ e_phoff file + 32 * j = omega arith in e)

zeros-byte : (rest : List ℕ) (m : ℕ) → get_or (0 ∷ 0 ∷ 0 ∷ 0 ∷ rest) (4 + m) 0 ≡ get_or rest m 0
zeros-byte rest m = let e : 4 + m ≡ suc (suc (suc (suc m))) = omega arith in rw e refl

-- the rest of a row whose first four bytes are zeros
zeros-word : (row : List ℕ) (c : ℕ) → list_word_at (0 ∷ 0 ∷ 0 ∷ 0 ∷ drop 4 row) (4 + c) ≡ list_word_at row (4 + c)
zeros-word row c =
    word-same (0 ∷ 0 ∷ 0 ∷ 0 ∷ drop 4 row) row (4 + c) (4 + c) (λ i l.
    let e : 4 + c + i ≡ 4 + (c + i) = omega arith in
    rw e (zeros-byte (drop 4 row) (c + i) ∙ get_or-drop 4 row (c + i) 0))

zeros-first : (rest : List ℕ) → list_word_at (0 ∷ 0 ∷ 0 ∷ 0 ∷ rest) 0 ≡ 0
unfolding list_word_at list_half_at
zeros-first rest = refl

kept-entry : (file : List ℕ) (j : ℕ) → header_of (kept_entry file j) ≡ kept_header (program_header file j)
unfolding header_of program_header
kept-entry file j =
    step (list_word_at file (e_phoff file + 32 * j) == 6)
  where
    step : (b : Bool) → header_of (cond b (0 ∷ 0 ∷ 0 ∷ 0 ∷ drop 4 (entry_bytes file j)) (entry_bytes file j)) ≡ cond b (record (program_header file j) { p_type = 0 }) (program_header file j)
    step true =
        rw (zeros-first (drop 4 (entry_bytes file j)), zeros-word (entry_bytes file j) 0, zeros-word (entry_bytes file j) 4, zeros-word (entry_bytes file j) 8, zeros-word (entry_bytes file j) 12, zeros-word (entry_bytes file j) 16, zeros-word (entry_bytes file j) 20)
        (rw (entry-word file j 4 (omega arith), entry-word file j 8 (omega arith), entry-word file j 12 (omega arith), entry-word file j 16 (omega arith), entry-word file j 20 (omega arith), entry-word file j 24 (omega arith)) refl)
    step false =
        rw (entry-first file j, entry-word file j 4 (omega arith), entry-word file j 8 (omega arith), entry-word file j 12 (omega arith), entry-word file j 16 (omega arith), entry-word file j 20 (omega arith), entry-word file j 24 (omega arith)) refl

keyed-entry : (place base start len : ℕ) → place < 2 ^ 32 → base < 2 ^ 32 → start < 2 ^ 32 → len < 2 ^ 32 → header_of (block_entry place base start len) ≡ keyed_header place base start len
unfolding header_of list_word_at list_half_at
keyed-entry place base start len a b c d =
    same-header (keyed_header place base start len) _ _ _ _ _ _ _ refl (word_little place a) (word_little base b) (word_little start c) (word_little len d) (word_little len d) refl

map-same : {A B : Type 0} (f g : A → B) (xs : List A) → ((x : A) → f x ≡ g x) → map f xs ≡ map g xs
map-same f g [] h = refl
map-same f g (x ∷ xs) h = rw (h x, map-same f g xs h) refl

map-map : {A B C : Type 0} (f : A → B) (g : B → C) (xs : List A) → map g (map f xs) ≡ map (λ x. g (f x)) xs
map-map f g [] = refl
map-map f g (x ∷ xs) = ap (λ (ys : List _). g (f x) ∷ ys) (map-map f g xs)

-- the headers of the entries that are written again
entry-headers : (file : List ℕ) (a n : ℕ) → map header_of (map (kept_entry file) (range_with_len a n)) ≡ map kept_header (map (program_header file) (range_with_len a n))
entry-headers file a n =
    map-map (kept_entry file) header_of (range_with_len a n) ∙ map-same (λ j. header_of (kept_entry file j)) (λ j. kept_header (program_header file j)) (range_with_len a n) (kept-entry file)
    ∙ sym (map-map (program_header file) kept_header (range_with_len a n))

drop-range : {A : Type 0} (f : ℕ → A) (a n k : ℕ) → k ≤ n → drop k (map f (range_with_len a n)) ≡ map f (range_with_len (a + k) (n - k))
drop-range f a n zero le = let e : a + 0 ≡ a = omega arith in let z : n - 0 ≡ n = omega arith in rw (e, z) refl
drop-range f a zero (suc k) le = absurd (omega arith)
drop-range f a (suc n) (suc k) le =
    let e : a + 1 + k ≡ a + suc k = omega arith in
    let z : n - k ≡ suc n - suc k = omega arith in
    rw (← e, ← z) (drop-range f (a + 1) n k (omega arith))

-- the program headers of the stored file
pub stored-headers : (file stored block : List ℕ) (patches : List Patch) (place base start len at : ℕ) → IsStored file stored (stored_table file place base start len) block patches at → e_phoff file + 32 * e_phnum file ≤ length file
    → place < 2 ^ 32 → base < 2 ^ 32 → start < 2 ^ 32 → len < 2 ^ 32
    → program_headers stored ≡ map kept_header (take (keyed_number file base) (program_headers file)) ++ keyed_header place base start len ∷ map kept_header (drop (keyed_number file base) (program_headers file))
unfolding program_headers stored_table rows
stored-headers file stored block patches place base start len at s table a b c d =
    let k = keyed_number file base in
    let le : k ≤ e_phnum file = omega (arith, prefix_len-le-length (λ h. not (is_above base h)) (program_headers file), length-headers file) in
    let key = block_entry place base start len in
    let all = rows file k key in
    let n : e_phnum stored ≡ length all = s.phnum ∙ sym (length-rows file k key le) in
    let behind = λ (m : ℕ). s.behind m ∙ ap (λ (t : List ℕ). get_or t m 0) (sym (joined file k key)) in
    let whole : map (program_header stored) (range_with_len 0 (length all)) ≡ map header_of all = map-range (program_header stored) header_of all [] (λ j lt. header-at stored all at j s.phoff behind (rows32 file k key table le refl) lt) in
    let zero : 0 + k ≡ k = omega arith in
    let back : drop k (map (program_header file) (range_with_len 0 (e_phnum file))) ≡ map (program_header file) (range_with_len k (e_phnum file - k)) = rw zero at (drop-range (program_header file) 0 (e_phnum file) k le) in
    rw n whole
    ∙ map-append header_of (map (kept_entry file) (range_with_len 0 k)) (key ∷ map (kept_entry file) (range_with_len k (e_phnum file - k)))
    ∙ rw (entry-headers file 0 k, entry-headers file k (e_phnum file - k), keyed-entry place base start len a b c d, ← take-map-range_with_len (program_header file) 0 (e_phnum file) k le, ← back) refl

length-joined : (rows : List (List ℕ)) → Are32 rows → length (flat_map (λ r. r) rows) ≡ 32 * length rows
length-joined [] h = refl
length-joined (row ∷ rows) h = omega (arith, length-append row (flat_map (λ r. r) rows), h 0 (omega arith), length-joined rows (λ j lt. h (suc j) (omega arith)))

pub length-table : (file : List ℕ) (place base start len : ℕ) → e_phoff file + 32 * e_phnum file ≤ length file → length (stored_table file place base start len) ≡ 32 * (e_phnum file + 1)
unfolding stored_table
length-table file place base start len table =
    let k = keyed_number file base in
    let le : k ≤ e_phnum file = omega (arith, prefix_len-le-length (λ h. not (is_above base h)) (program_headers file), length-headers file) in
    let key = block_entry place base start len in
    ap (λ (t : List ℕ). length t) (sym (joined file k key)) ∙ length-joined (rows file k key) (rows32 file k key table le refl) ∙ ap (λ (n : ℕ). 32 * n) (length-rows file k key le)

-- ---- the loaded segments among them

load-kept : (h : ProgramHeader) (xs : List ProgramHeader) → load_headers (kept_header h ∷ xs) ≡ load_headers (h ∷ []) ++ load_headers xs
load-kept h xs = step (h.p_type == 6) refl (h.p_type == 1) refl
  where
    not_one : (t : ℕ) → (t == 6) ≡ true → (t == 1) ≡ false
    not_one t e = grind (arith, nat_tests)

    step : (b : Bool) → (h.p_type == 6) ≡ b → (l : Bool) → (h.p_type == 1) ≡ l → load_headers (cond b (record h { p_type = 0 }) h ∷ xs) ≡ load_headers (h ∷ []) ++ load_headers xs
    step true e l f = rw (not_one h.p_type e) refl
    step false e true f = rw f refl
    step false e false f = rw f refl

pub loads-kept : (xs : List ProgramHeader) → load_headers (map kept_header xs) ≡ load_headers xs
loads-kept [] = refl
loads-kept (h ∷ xs) = load-kept h (map kept_header xs) ∙ rw (loads-kept xs) (join (is_load h))
  where
    join : (b : Bool) → cond b (h ∷ []) [] ++ load_headers xs ≡ cond b (h ∷ load_headers xs) (load_headers xs)
    join true = refl
    join false = refl
