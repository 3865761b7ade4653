-- The loaded segments of a stored file: those of the original, and the block's among them.
use Rattle.std.proofs.Common.{◌≡◌, ℕ, suc, ◌+◌, ◌%◌, ◌<◌, ◌≤◌, Bool, true, false, not, cond, ◌&&◌, ◌||◌, List, [], ◌∷◌, ◌++◌, length, map, take, take_all, drop, Some, None, refl, sym, ap, ◌∙◌, arith, inl, inr}
use Rattle.std.specs.Prelude.{nat_lt, nat_le, find, option_map, ◌==◌}
use Rattle.std.specs.List.{position_or_len, list_any, list_all, filter, sum_by}
use Rattle.std.proofs.lemmas.Bool.{cases_lt, lt-ltb, le-leb}
use Rattle.std.proofs.lemmas.Bool.Decides.{nat_tests}
use Rattle.std.proofs.lemmas.List.{length-append, length-take-le, take-append-drop}
use Rattle.std.proofs.lemmas.List.Elements.{filter-append}
use Rattle.std.proofs.lemmas.List.Folds.{list_all-append}
use Rattle.std.proofs.lemmas.List.Sums.{sum_by-append}
use Rattle.scale_base.specs.declared.headers.ProgramHeader.{ProgramHeader}
use Rattle.scale_base.specs.declared.ranges.Span.{Span}
use Rattle.scale_base.specs.declared.refusal.Refusal.TheVariants.{BadSegment}
use Rattle.scale_base.specs.Rules.{rule, AllHold}
use Rattle.scale_base.specs.Spans.{overlap, ends_by, each_pair}
use Rattle.scale_base.specs.Elf.{e_phnum, program_headers}
use Rattle.scale_base.specs.Image.{Image, addresses_of, segment_of, keyed_of, stack, is_load, load_headers, has_key, is_plain, memory_range, file_part, is_fit, may_follow, are_placed, are_few, leave_room, keeps_load_rules, keeps_segment_rules, segment_rules}
use Rattle.elf_patch.specs.Stored.{window, is_free}
use Rattle.elf_view.proofs.Laws.{both_true, le_of, none_broken}
use Rattle.stored_laws.proofs.Table.{keyed_header}

-- ---- lists of which each two pass a test

pub pairs-join : {A : Type 0} (test : A → A → Bool) (xs ys : List A) → each_pair test xs ≡ true → each_pair test ys ≡ true → list_all (λ x. list_all (test x) ys) xs ≡ true → each_pair test (xs ++ ys) ≡ true
pairs-join test [] ys a b c = b
pairs-join test (x ∷ xs) ys a b c =
    let p = both_true (list_all (test x) xs) (each_pair test xs) a in
    let q = both_true (list_all (test x) ys) (list_all (λ x. list_all (test x) ys) xs) c in
    let one : list_all (test x) (xs ++ ys) ≡ true = list_all-append (test x) xs ys ∙ rw (p.0, q.0) refl in
    rw (one, pairs-join test xs ys p.1 b q.1) refl

record Pairs {A : Type 0} (test : A → A → Bool) (xs ys : List A) : Type 0 where
  front : each_pair test xs ≡ true
  back : each_pair test ys ≡ true
  across : list_all (λ x. list_all (test x) ys) xs ≡ true

pairs-split : {A : Type 0} (test : A → A → Bool) (xs ys : List A) → each_pair test (xs ++ ys) ≡ true → Pairs test xs ys
pairs-split test [] ys e = record { front = refl; back = e; across = refl }
pairs-split test (x ∷ xs) ys e =
    let p = both_true (list_all (test x) (xs ++ ys)) (each_pair test (xs ++ ys)) e in
    let q = both_true (list_all (test x) xs) (list_all (test x) ys) (sym (list_all-append (test x) xs ys) ∙ p.0) in
    let rest = pairs-split test xs ys p.1 in
    record { front = rw (q.0, rest.front) refl; back = rest.back; across = rw (q.1, rest.across) refl }

all-split : {A : Type 0} (p : A → Bool) (xs ys : List A) → list_all p (xs ++ ys) ≡ true → (list_all p xs ≡ true) × (list_all p ys ≡ true)
all-split p xs ys e = both_true (list_all p xs) (list_all p ys) (sym (list_all-append p xs ys) ∙ e)

all-both : {A : Type 0} (p q : A → Bool) (xs : List A) → list_all p xs ≡ true → list_all q xs ≡ true → list_all (λ x. p x && q x) xs ≡ true
all-both p q [] a b = refl
all-both p q (x ∷ xs) a b =
    let c = both_true (p x) (list_all p xs) a in
    let d = both_true (q x) (list_all q xs) b in
    rw (c.0, d.0, all-both p q xs c.1 d.1) refl

-- ---- where the block's entry stands among the segments

lt_of : (x y : ℕ) → nat_lt x y ≡ true → x < y
lt_of x y e = grind (arith, nat_tests)

lt_from_not_le : (x y : ℕ) → nat_le x y ≡ false → nat_lt y x ≡ true
lt_from_not_le x y e = grind (arith, nat_tests)

-- the segments before the first at or above the base, and the rest
record SplitAt (base : ℕ) (before after : List ProgramHeader) : Type 0 where
  below : list_all (λ h. nat_lt h.p_vaddr base) before ≡ true
  first : (x : ProgramHeader) (rest : List ProgramHeader) → after ≡ x ∷ rest → base ≤ x.p_vaddr

split-at : (base : ℕ) (hs : List ProgramHeader) → let k = position_or_len (λ h. is_load h && nat_le base h.p_vaddr) hs in SplitAt base (load_headers (take k hs)) (load_headers (drop k hs))
split-at base [] = record { below = refl; first = λ x rest e. absurd cc }
split-at base (h ∷ hs) = step (is_load h) refl (nat_le base h.p_vaddr) refl (split-at base hs)
  where
    step : (l : Bool) → is_load h ≡ l → (b : Bool) → nat_le base h.p_vaddr ≡ b
        → (let k = position_or_len (λ h. is_load h && nat_le base h.p_vaddr) hs in SplitAt base (load_headers (take k hs)) (load_headers (drop k hs)))
        → let k = cond (not (l && b)) (1 + position_or_len (λ h. is_load h && nat_le base h.p_vaddr) hs) 0 in SplitAt base (load_headers (take k (h ∷ hs))) (load_headers (drop k (h ∷ hs)))
    step true e true f go = record { below = refl; first = λ x rest is. let head : h ≡ x = (let r : load_headers (h ∷ hs) ≡ h ∷ load_headers hs = rw e refl in let s : h ∷ load_headers hs ≡ x ∷ rest = sym r ∙ is in cc) in rw (← head) (le_of _ _ f) }
    step true e false f go =
        let n = position_or_len (λ h. is_load h && nat_le base h.p_vaddr) hs in
        let one : 1 + n ≡ suc n = omega arith in
        rw (one, e) (record { below = rw (lt_from_not_le base h.p_vaddr f, go.below) refl; first = go.first })
    step false e b f go =
        let n = position_or_len (λ h. is_load h && nat_le base h.p_vaddr) hs in
        let one : 1 + n ≡ suc n = omega arith in
        rw (one, e) go

-- those behind a segment begin no lower
after-all : (base : ℕ) (x : ProgramHeader) (xs : List ProgramHeader) → base ≤ x.p_vaddr → list_all (may_follow x) xs ≡ true → list_all (λ h. nat_le base h.p_vaddr) xs ≡ true
after-all base x [] le e = refl
after-all base x (y ∷ xs) le e =
    let a = both_true (may_follow x y) (list_all (may_follow x) xs) e in
    let b = both_true (nat_le x.p_vaddr y.p_vaddr && not (overlap (memory_range x) (memory_range y))) (not (overlap (file_part x) (file_part y))) a.0 in
    let c = le_of _ _ (both_true (nat_le x.p_vaddr y.p_vaddr) (not (overlap (memory_range x) (memory_range y))) b.0).0 in
    rw (le-leb base y.p_vaddr (omega (arith, c)), after-all base x xs le a.1) refl

above-all : (base : ℕ) (xs : List ProgramHeader) → each_pair may_follow xs ≡ true → ((x : ProgramHeader) (rest : List ProgramHeader) → xs ≡ x ∷ rest → base ≤ x.p_vaddr) → list_all (λ h. nat_le base h.p_vaddr) xs ≡ true
above-all base [] e first = refl
above-all base (x ∷ xs) e first =
    let a = both_true (list_all (may_follow x) xs) (each_pair may_follow xs) e in
    let low = first x xs refl in
    rw (le-leb base x.p_vaddr low, after-all base x xs low a.0) refl

-- ---- the block's segment beside the others

overlap-sym : (a b : Span) → overlap a b ≡ overlap b a
overlap-sym a b = swap (nat_lt 0 a.len) (nat_lt 0 b.len) (nat_lt a.from (b.from + b.len)) (nat_lt b.from (a.from + a.len))
  where
    swap : (p q r s : Bool) → (p && q && r && s) ≡ (q && p && s && r)
    swap true true true true = refl
    swap true true true false = refl
    swap true true false true = refl
    swap true true false false = refl
    swap true false r s = refl
    swap false true r s = refl
    swap false false r s = refl

behind : (a b : Span) → a.from + a.len ≤ b.from → overlap a b ≡ false
behind a b le = grind (arith, nat_tests)

not_true : (b : Bool) → not b ≡ true → b ≡ false
not_true true e = absurd cc
not_true false e = refl

-- no address of these segments is one of the block
abbrev pub spare : ℕ → ℕ → ProgramHeader → Bool
spare base len h = not (overlap (record { from = base; len = len }) (memory_range h))

follow_before : (size place base start len : ℕ) (xs : List ProgramHeader) → size ≤ place → list_all (λ h. nat_lt h.p_vaddr base) xs ≡ true → list_all (spare base len) xs ≡ true → list_all (λ h. ends_by size (file_part h)) xs ≡ true
    → list_all (λ h. may_follow h (keyed_header place base start len)) xs ≡ true
follow_before size place base start len [] le a b c = refl
follow_before size place base start len (h ∷ xs) le a b c =
    let p = both_true (nat_lt h.p_vaddr base) (list_all (λ h. nat_lt h.p_vaddr base) xs) a in
    let q = both_true (spare base len h) (list_all (spare base len) xs) b in
    let r = both_true (ends_by size (file_part h)) (list_all (λ h. ends_by size (file_part h)) xs) c in
    let low : nat_le h.p_vaddr base ≡ true = le-leb h.p_vaddr base (omega (arith, lt_of _ _ p.0)) in
    let memory : overlap (memory_range h) (record { from = base; len = len }) ≡ false = overlap-sym (memory_range h) (record { from = base; len = len }) ∙ not_true _ q.0 in
    let file : overlap (file_part h) (record { from = place; len = len }) ≡ false = behind (file_part h) (record { from = place; len = len }) (omega (arith, le_of _ _ r.0, le)) in
    rw (low, memory, file, follow_before size place base start len xs le p.1 q.1 r.1) refl

follow_after : (size place base start len : ℕ) (xs : List ProgramHeader) → size ≤ place → list_all (λ h. nat_le base h.p_vaddr) xs ≡ true → list_all (spare base len) xs ≡ true → list_all (λ h. ends_by size (file_part h)) xs ≡ true
    → list_all (may_follow (keyed_header place base start len)) xs ≡ true
follow_after size place base start len [] le a b c = refl
follow_after size place base start len (h ∷ xs) le a b c =
    let p = both_true (nat_le base h.p_vaddr) (list_all (λ h. nat_le base h.p_vaddr) xs) a in
    let q = both_true (spare base len h) (list_all (spare base len) xs) b in
    let r = both_true (ends_by size (file_part h)) (list_all (λ h. ends_by size (file_part h)) xs) c in
    let memory : overlap (record { from = base; len = len }) (memory_range h) ≡ false = not_true _ q.0 in
    let file : overlap (record { from = place; len = len }) (file_part h) ≡ false = overlap-sym (record { from = place; len = len }) (file_part h) ∙ behind (file_part h) (record { from = place; len = len }) (omega (arith, le_of _ _ r.0, le)) in
    rw (p.0, memory, file, follow_after size place base start len xs le p.1 q.1 r.1) refl

same_eq : (x : ℕ) → (x == x) ≡ true
same_eq x = grind (arith, nat_tests)

is_zero : (x : ℕ) → x ≡ 0 → (x == 0) ≡ true
is_zero x e = grind (arith, nat_tests)

pub keyed_fit : (place base start len : ℕ) → base % 4096 ≡ 0 → len ≤ 4194304 → base ≤ 0xFF800000 → overlap (record { from = base; len = len }) stack ≡ false → is_fit (keyed_header place base start len) ≡ true
keyed_fit place base start len page short low free =
    rw (le-leb len len (omega arith), is_zero (base % 4096) page, same_eq len, le-leb len 4194304 short, le-leb (base + len) 0xFFFFF800 (omega arith), free) refl

-- ---- the rules for segments hold again

-- what is so of the original's segments and of the block
pub record Beside (file : List ℕ) (before after : List ProgramHeader) (place base len : ℕ) : Type 0 where
  pub fit : list_all is_fit (before ++ after) ≡ true
  pub ordered : each_pair may_follow (before ++ after) ≡ true
  pub counts : are_few (before ++ after) ≡ true
  pub no_key : filter has_key (before ++ after) ≡ []
  pub in_file : list_all (λ h. ends_by (length file) (file_part h)) (before ++ after) ≡ true
  pub spare : list_all (spare base len) (before ++ after) ≡ true
  pub below : list_all (λ h. nat_lt h.p_vaddr base) before ≡ true
  pub above : list_all (λ h. nat_le base h.p_vaddr) after ≡ true
  pub behind : length file ≤ place

placed_with : (file : List ℕ) (before after : List ProgramHeader) (place base start len : ℕ) → Beside file before after place base len → is_fit (keyed_header place base start len) ≡ true
    → are_placed (before ++ keyed_header place base start len ∷ after) ≡ true
placed_with file before after place base start len h fit =
    let key = keyed_header place base start len in
    let a = all-split is_fit before after h.fit in
    let all : list_all is_fit (before ++ key ∷ after) ≡ true = list_all-append is_fit before (key ∷ after) ∙ rw (a.0, fit, a.1) refl in
    let p = pairs-split may_follow before after h.ordered in
    let spare = all-split (spare base len) before after h.spare in
    let ends = all-split (λ h. ends_by (length file) (file_part h)) before after h.in_file in
    let first = follow_before (length file) place base start len before h.behind h.below spare.0 ends.0 in
    let last = follow_after (length file) place base start len after h.behind h.above spare.1 ends.1 in
    let pairs = pairs-join may_follow before (key ∷ after) p.front (rw (last, p.back) refl) (all-both (λ x. may_follow x key) (λ x. list_all (may_follow x) after) before first p.across) in
    rw (all, pairs) refl

plain_with : (before after : List ProgramHeader) (place base start len : ℕ) → filter is_plain (before ++ keyed_header place base start len ∷ after) ≡ filter is_plain (before ++ after)
plain_with before after place base start len = filter-append is_plain before (keyed_header place base start len ∷ after) ∙ sym (filter-append is_plain before after)

nil_of : {A : Type 0} (xs ys : List A) → xs ++ ys ≡ [] → (xs ≡ []) × (ys ≡ [])
nil_of [] ys e = (refl, e)
nil_of (x ∷ xs) ys e = absurd cc

pub key_with : (before after : List ProgramHeader) (place base start len : ℕ) → filter has_key (before ++ after) ≡ [] → filter has_key (before ++ keyed_header place base start len ∷ after) ≡ keyed_header place base start len ∷ []
key_with before after place base start len none =
    let n = nil_of (filter has_key before) (filter has_key after) (sym (filter-append has_key before after) ∙ none) in
    filter-append has_key before (keyed_header place base start len ∷ after) ∙ rw (n.0, n.1) refl

few_with : (before after : List ProgramHeader) (place base start len : ℕ) → are_few (before ++ after) ≡ true → filter has_key (before ++ after) ≡ [] → are_few (before ++ keyed_header place base start len ∷ after) ≡ true
few_with before after place base start len few none =
    let hs = before ++ after in
    let a = both_true (nat_le (length (filter is_plain hs)) 16 && nat_le (sum_by (λ h. h.p_memsz) (filter is_plain hs)) 16777216) (nat_le (length (filter has_key hs)) 1) few in
    rw (plain_with before after place base start len, key_with before after place base start len none, a.0) refl

-- what the segments of a table keep, those of its first entries keep
front_placed : (xs ys : List ProgramHeader) → are_placed (xs ++ ys) ≡ true → are_placed xs ≡ true
front_placed xs ys e =
    let a = both_true (list_all is_fit (xs ++ ys)) (each_pair may_follow (xs ++ ys)) e in
    rw ((all-split is_fit xs ys a.0).0, (pairs-split may_follow xs ys a.1).front) refl

front_few : (xs ys : List ProgramHeader) → are_few (xs ++ ys) ≡ true → are_few xs ≡ true
front_few xs ys e =
    let all = xs ++ ys in
    let a = both_true (nat_le (length (filter is_plain all)) 16 && nat_le (sum_by (λ h. h.p_memsz) (filter is_plain all)) 16777216) (nat_le (length (filter has_key all)) 1) e in
    let b = both_true (nat_le (length (filter is_plain all)) 16) (nat_le (sum_by (λ h. h.p_memsz) (filter is_plain all)) 16777216) a.0 in
    let plain = filter-append is_plain xs ys in
    let keys = filter-append has_key xs ys in
    let one : length (filter is_plain xs) ≤ 16 = omega (arith, le_of _ _ b.0, ap (λ (zs : List ProgramHeader). length zs) plain, length-append (filter is_plain xs) (filter is_plain ys)) in
    let two : sum_by (λ h. h.p_memsz) (filter is_plain xs) ≤ 16777216 = omega (arith, le_of _ _ b.1, ap (sum_by (λ (h : ProgramHeader). h.p_memsz)) plain, sum_by-append (λ (h : ProgramHeader). h.p_memsz) (filter is_plain xs) (filter is_plain ys)) in
    let three : length (filter has_key xs) ≤ 1 = omega (arith, le_of _ _ a.1, ap (λ (zs : List ProgramHeader). length zs) keys, length-append (filter has_key xs) (filter has_key ys)) in
    rw (le-leb _ _ one, le-leb _ _ two, le-leb _ _ three) refl

loads-append : (xs ys : List ProgramHeader) → load_headers (xs ++ ys) ≡ load_headers xs ++ load_headers ys
loads-append xs ys = filter-append is_load xs ys

-- each front of a table of at most 64 entries, where the key is in a table of 64
front_kept : (headers : List ProgramHeader) (m : ℕ) → m ≤ length headers → length headers ≤ 64 → are_placed (load_headers headers) ≡ true → are_few (load_headers headers) ≡ true → nat_lt 0 (length (filter has_key (load_headers headers))) ≡ true
    → keeps_segment_rules (take m headers) ≡ true
unfolding keeps_load_rules
front_kept headers m le limit placed few key =
    let xs = take m headers in
    let split : load_headers headers ≡ load_headers xs ++ load_headers (drop m headers) = ap load_headers (sym (take-append-drop m headers)) ∙ loads-append xs (drop m headers) in
    let len : length xs ≡ m = length-take-le m headers le in
    let one = front_placed (load_headers xs) (load_headers (drop m headers)) (rw split at placed) in
    let two = front_few (load_headers xs) (load_headers (drop m headers)) (rw split at few) in
    let three : leave_room (length xs) (load_headers xs) ≡ true = elim (cases_lt m 64) [
      | inl low ↦ rw (len, lt-ltb m 64 low) refl
      | inr high ↦ let whole : xs ≡ headers = take_all m headers (omega arith) in rw (whole, key) (or_true (nat_lt (length headers) 64))
    ] in
    rw (one, two, three) refl
  where
    or_true : (a : Bool) → (a || true) ≡ true
    or_true true = refl
    or_true false = refl

pub segments_hold : (stored : List ℕ) (before after : List ProgramHeader) (file : List ℕ) (place base start len : ℕ) → load_headers (program_headers stored) ≡ before ++ keyed_header place base start len ∷ after → length (program_headers stored) ≡ e_phnum stored → e_phnum stored ≤ 64
    → Beside file before after place base len → is_fit (keyed_header place base start len) ≡ true → AllHold (segment_rules stored)
unfolding segment_rules
segments_hold stored before after file place base start len are count limit h fit =
    let placed : are_placed (load_headers (program_headers stored)) ≡ true = rw are (placed_with file before after place base start len h fit) in
    let few : are_few (load_headers (program_headers stored)) ≡ true = rw are (few_with before after place base start len h.counts h.no_key) in
    let key : nat_lt 0 (length (filter has_key (load_headers (program_headers stored)))) ≡ true = rw (are, key_with before after place base start len h.no_key) refl in
    none_broken (λ k. rule (keeps_segment_rules (take (k + 1) (program_headers stored))) (BadSegment k)) (e_phnum stored) (λ j lt. front_kept (program_headers stored) (j + 1) (omega (arith, count)) (omega (arith, count, limit)) placed few key)

-- ---- what is so beside the block

clear : (base len : ℕ) (file : List ℕ) (hs : List ProgramHeader) → list_any (overlap (record { from = base; len = len })) (map addresses_of (map (segment_of file) hs)) ≡ false → list_all (spare base len) hs ≡ true
clear base len file [] e = refl
clear base len file (h ∷ hs) e =
    let a = neither (overlap (record { from = base; len = len }) (memory_range h)) (list_any (overlap (record { from = base; len = len })) (map addresses_of (map (segment_of file) hs))) e in
    rw (a.0, clear base len file hs a.1) refl
  where
    neither : (a b : Bool) → (a || b) ≡ false → (a ≡ false) × (b ≡ false)
    neither true b e = absurd cc
    neither false b e = (refl, e)

pub record Free (file : List ℕ) (hs : List ProgramHeader) (base len : ℕ) : Type 0 where
  pub off_stack : overlap (record { from = base; len = len }) stack ≡ false
  pub off_segments : list_all (spare base len) hs ≡ true

three_false : (a b c : Bool) → not (a || (b || c)) ≡ true → (a ≡ false) × (c ≡ false)
three_false true b c e = absurd cc
three_false false true c e = absurd cc
three_false false false true e = absurd cc
three_false false false false e = (refl, refl)

pub free_of : (file : List ℕ) (image : Image) (hs : List ProgramHeader) (base len : ℕ) → image.segments ≡ map (segment_of file) hs → is_free image len base ≡ true → Free file hs base len
free_of file image hs base len are e =
    let a = three_false (overlap (record { from = base; len = len }) stack) (overlap (record { from = base; len = len }) window) (list_any (overlap (record { from = base; len = len })) (map addresses_of image.segments)) e in
    record { off_stack = a.0; off_segments = clear base len file hs (rw are at a.1) }

pub keys_none : (hs : List ProgramHeader) → option_map keyed_of (find has_key hs) ≡ None → filter has_key hs ≡ []
keys_none [] e = refl
keys_none (h ∷ hs) e = step (has_key h) e (keys_none hs)
  where
    step : (b : Bool) → option_map keyed_of (cond b (Some h) (find has_key hs)) ≡ None → (option_map keyed_of (find has_key hs) ≡ None → filter has_key hs ≡ []) → cond b (h ∷ filter has_key hs) (filter has_key hs) ≡ []
    step true e go = absurd cc
    step false e go = go e

-- the segments of the original, in two parts round the block's
pub loads-split : (hs : List ProgramHeader) (k : ℕ) → load_headers hs ≡ load_headers (take k hs) ++ load_headers (drop k hs)
loads-split hs k = ap load_headers (sym (take-append-drop k hs)) ∙ loads-append (take k hs) (drop k hs)

pub record Round (base : ℕ) (before after : List ProgramHeader) : Type 0 where
  pub below : list_all (λ h. nat_lt h.p_vaddr base) before ≡ true
  pub above : list_all (λ h. nat_le base h.p_vaddr) after ≡ true

pub round : (base : ℕ) (hs : List ProgramHeader) → each_pair may_follow (load_headers hs) ≡ true → let k = position_or_len (λ h. is_load h && nat_le base h.p_vaddr) hs in Round base (load_headers (take k hs)) (load_headers (drop k hs))
round base hs ordered =
    let k = position_or_len (λ h. is_load h && nat_le base h.p_vaddr) hs in
    let s = split-at base hs in
    let p = pairs-split may_follow (load_headers (take k hs)) (load_headers (drop k hs)) (rw (loads-split hs k) at ordered) in
    record { below = s.below; above = above-all base (load_headers (drop k hs)) p.back s.first }
