-- Ranges in ascending order, and where one more belongs.
use Rattle.std.proofs.Common.{◌≡◌, ℕ, ◌+◌, ◌<◌, ◌≤◌, Bool, true, false, ◌&&◌, ◌||◌, not, cond, List, [], ◌∷◌, ◌++◌, map, fold, refl, sym, ap, ◌∙◌, arith}
use Rattle.std.specs.Prelude.{nat_lt, nat_le, ◌==◌}
use Rattle.std.specs.List.{list_all}
use Rattle.std.proofs.lemmas.Bool.{lt-ltb, le-leb}
use Rattle.std.proofs.lemmas.Bool.Decides.{nat_tests}
use Rattle.std.specs.BTreeMap.{insert_entry}
use Rattle.std.specs.BTreeMap.Range.{entries_between}
use Rattle.std.specs.Ordering.{nat_cmp, is_le, match_ordering}
use Rattle.std.specs.declared.cmp.Ordering.TheVariants.{Less, Equal, Greater}
use Rattle.std.specs.declared.ops.Bound.TheVariants.{Unbounded, Excluded}
use Rattle.scale_base.specs.declared.ranges.Range.{Range}
use Rattle.scale_base.specs.declared.ranges.TextPart.{TextPart}
use Rattle.scale_base.specs.Image.{insert_range, range_of, are_apart}
use Rattle.elf_image.proofs.Laws.{both_true, le_of}
use Rattle.elf_image.specs.Ascending.{AscendFrom}
use Rattle.elf_view.specs.Beside.{are_separate, range_between}

-- ---- one more range

insert_step : (low : ℕ) (x r : Range) (rs : List Range) (b : Bool) → nat_lt r.from x.from ≡ b → AscendFrom low (x ∷ rs) → low ≤ r.from → r.from < r.to → are_separate x r ≡ true
    → (x.to ≤ r.from → AscendFrom x.to (insert_range rs r)) → AscendFrom low (cond b (r ∷ x ∷ rs) (x ∷ insert_range rs r))
insert_step low x r rs true is h le some e go = (le, some, let first = h.1 in let end : r.to ≤ x.from = grind (arith, nat_tests) in (end, h.1, h.2))
insert_step low x r rs false is h le some e go = (h.0, h.1, let first = h.1 in let end : x.to ≤ r.from = grind (arith, nat_tests) in go end)

pub ascend-insert : (low : ℕ) (rs : List Range) (r : Range) → AscendFrom low rs → low ≤ r.from → r.from < r.to → list_all (λ x. are_separate x r) rs ≡ true → AscendFrom low (insert_range rs r)
ascend-insert low [] r h le some e = (le, some, tt)
ascend-insert low (x ∷ rs) r h le some e =
    let a = both_true (are_separate x r) (list_all (λ x. are_separate x r) rs) e in
    insert_step low x r rs (nat_lt r.from x.from) refl h le some a.0 (λ end. ascend-insert x.to rs r h.2 end some a.1)

-- ---- the ranges of a map from their starts to their ends

-- the entries that begin below an address, as a look-up up to it has them
abbrev pub begun : ℕ → List (ℕ × ℕ) → List (ℕ × ℕ)
begun to es = entries_between nat_cmp Unbounded (Excluded to) es

le_step : (b c d : Bool) → (b ≡ true → d ≡ true) → (c ≡ true → d ≡ true) → (b ≡ false → c ≡ false → d ≡ false) → is_le (cond b Less (cond c Equal Greater)) ≡ d
le_step true c d one two none = sym (one refl)
le_step false true d one two none = sym (two refl)
le_step false false d one two none = sym (none refl refl)

is_le-nat : (x y : ℕ) → is_le (nat_cmp x y) ≡ nat_le x y
is_le-nat x y = le_step (nat_lt x y) (x == y) (nat_le x y) (λ e. grind (arith, nat_tests)) (λ e. grind (arith, nat_tests)) (λ e f. grind (arith, nat_tests))

-- whether the first entry is among those that begin below an address
begun-cons : (to : ℕ) (e : ℕ × ℕ) (es : List (ℕ × ℕ)) → begun to (e ∷ es) ≡ cond (nat_le to e.0) (begun to es) (e ∷ begun to es)
begun-cons to e es = rw (is_le-nat to e.0) (flip (nat_le to e.0))
  where
    flip : (b : Bool) → cond (not b) (e ∷ begun to es) (begun to es) ≡ cond b (begun to es) (e ∷ begun to es)
    flip true = refl
    flip false = refl

-- a range is separate from those that begin at or above its end
none_step : (b : Bool) (x r : Range) (rest : Bool) (e : ℕ × ℕ) (es : List (ℕ × ℕ)) → nat_le r.to x.from ≡ b → cond b es (e ∷ es) ≡ [] → (es ≡ [] → rest ≡ true) → (are_separate x r && rest) ≡ true
none_step true x r rest e es is none go = rw (is, go none) (or_true (nat_le x.to r.from))
  where
    or_true : (b : Bool) → ((b || true) && true) ≡ true
    or_true true = refl
    or_true false = refl
none_step false x r rest e es is none go = absurd cc

pub none-begun : (es : List (ℕ × ℕ)) (r : Range) → begun r.to es ≡ [] → list_all (λ x. are_separate x r) (map range_between es) ≡ true
none-begun [] r none = refl
none-begun (e ∷ es) r none =
    none_step (nat_le r.to e.0) (range_between e) r (list_all (λ x. are_separate x r) (map range_between es)) e (begun r.to es) refl (sym (begun-cons r.to e es) ∙ none) (none-begun es r)

-- the last of them ends above where they begin
last_above : (low to : ℕ) (es front : List (ℕ × ℕ)) (last : ℕ × ℕ) → AscendFrom low (map range_between es) → begun to es ≡ front ++ last ∷ [] → low < last.1
last_above low to [] [] last h are = absurd cc
last_above low to [] (f ∷ front) last h are = absurd cc
last_above low to (e ∷ es) front last h are = above_step low to e last (begun to es) (nat_le to e.0) front (sym (begun-cons to e es) ∙ are) h.0 h.1 (λ ys rest. last_above e.1 to es ys last h.2 rest)
  where
    above_step : (low to : ℕ) (e last : ℕ × ℕ) (bs : List (ℕ × ℕ)) (b : Bool) (front : List (ℕ × ℕ)) → cond b bs (e ∷ bs) ≡ front ++ last ∷ [] → low ≤ e.0 → e.0 < e.1 → ((ys : List (ℕ × ℕ)) → bs ≡ ys ++ last ∷ [] → e.1 < last.1) → low < last.1
    above_step low to e last bs true front are from some go = omega (arith, go front are, from, some)
    above_step low to e last bs false [] are from some go = (let same : e ≡ last = cc in let end : e.1 ≡ last.1 = ap (λ (p : ℕ × ℕ). p.1) same in omega (arith, end, from, some))
    above_step low to e last bs false (f ∷ front) are from some go = (let rest : bs ≡ front ++ last ∷ [] = cc in omega (arith, go front rest, from, some))

below_true : (a b : Bool) → (b ≡ true → a ≡ true) → (a && b) ≡ b
below_true a true go = rw (go refl) refl
below_true true false go = refl
below_true false false go = refl

-- whether the last of them is separate decides
some_step : (b : Bool) (e last : ℕ × ℕ) (r : Range) (rest : Bool) (bs front : List (ℕ × ℕ)) → nat_le r.to e.0 ≡ b → cond b bs (e ∷ bs) ≡ front ++ last ∷ [] → (bs ≡ [] → rest ≡ true)
    → ((ys : List (ℕ × ℕ)) → bs ≡ ys ++ last ∷ [] → (rest ≡ nat_le last.1 r.from) × (e.1 < last.1)) → (are_separate (range_between e) r && rest) ≡ nat_le last.1 r.from
some_step true e last r rest bs front is are none go = rw (is, (go front are).0) (or_true (nat_le e.1 r.from) (nat_le last.1 r.from))
  where
    or_true : (a b : Bool) → ((a || true) && b) ≡ b
    or_true true b = refl
    or_true false b = refl
some_step false e last r rest bs [] is are none go =
    let same : e ≡ last = cc in
    let end : bs ≡ [] = cc in
    let ends : e.1 ≡ last.1 = ap (λ (p : ℕ × ℕ). p.1) same in
    rw (is, none end, ← ends) (or_and (nat_le e.1 r.from))
  where
    or_and : (a : Bool) → ((a || false) && true) ≡ a
    or_and true = refl
    or_and false = refl
some_step false e last r rest bs (f ∷ front) is are none go =
    let more : bs ≡ front ++ last ∷ [] = cc in
    let g = go front more in
    rw (is, g.0) (below_true (nat_le e.1 r.from || false) (nat_le last.1 r.from) (λ on. rw (le-leb e.1 r.from (omega (arith, g.1, le_of _ _ on))) refl))

pub some-begun : (low : ℕ) (es front : List (ℕ × ℕ)) (last : ℕ × ℕ) (r : Range) → AscendFrom low (map range_between es) → begun r.to es ≡ front ++ last ∷ [] → list_all (λ x. are_separate x r) (map range_between es) ≡ nat_le last.1 r.from
some-begun low [] [] last r h are = absurd cc
some-begun low [] (f ∷ front) last r h are = absurd cc
some-begun low (e ∷ es) front last r h are =
    some_step (nat_le r.to e.0) e last r (list_all (λ x. are_separate x r) (map range_between es)) (begun r.to es) front refl (sym (begun-cons r.to e es) ∙ are) (none-begun es r)
    (λ ys more. (some-begun e.1 es ys last r h.2 more, last_above e.1 r.to es ys last h.2 more))

-- a new entry stands in its place among the ranges
insert_ranges_step : (b c : Bool) (e : ℕ × ℕ) (es : List (ℕ × ℕ)) (r : Range) → c ≡ false → map range_between (insert_entry nat_cmp es r.from r.to) ≡ insert_range (map range_between es) r
    → map range_between (match_ordering (cond b Less (cond c Equal Greater)) ((r.from, r.to) ∷ e ∷ es) ((e.0, r.to) ∷ es) (e ∷ insert_entry nat_cmp es r.from r.to))
    ≡ cond b (r ∷ range_between e ∷ map range_between es) (range_between e ∷ insert_range (map range_between es) r)
insert_ranges_step true c e es r off go = refl
insert_ranges_step false true e es r off go = absurd cc
insert_ranges_step false false e es r off go = ap (λ (ys : List Range). range_between e ∷ ys) go

pub insert-ranges : (low : ℕ) (es : List (ℕ × ℕ)) (r : Range) → AscendFrom low (map range_between es) → r.from < r.to → list_all (λ x. are_separate x r) (map range_between es) ≡ true
    → map range_between (insert_entry nat_cmp es r.from r.to) ≡ insert_range (map range_between es) r
insert-ranges low [] r h some apart = refl
insert-ranges low (e ∷ es) r h some apart =
    let a = both_true (are_separate (range_between e) r) (list_all (λ x. are_separate x r) (map range_between es)) apart in
    insert_ranges_step (nat_lt r.from e.0) (r.from == e.0) e es r (other e.0 e.1 r.from r.to h.1 some a.0) (insert-ranges e.1 es r h.2 some a.1)
  where
    other : (f g from to : ℕ) → f < g → from < to → (nat_le g from || nat_le to f) ≡ true → (from == f) ≡ false
    other f g from to some one e = grind (arith, nat_tests)

-- ---- parts that share no address

pub apart-separate : (a b : TextPart) → 0 < a.span.len → 0 < b.span.len → are_apart a b ≡ are_separate (range_of a) (range_of b)
apart-separate a b some one =
    rw (lt-ltb 0 a.span.len some, lt-ltb 0 b.span.len one) (step a.span.from a.span.len b.span.from b.span.len some one)
  where
    step : (f m g n : ℕ) → 0 < m → 0 < n → not (nat_lt f (g + n) && nat_lt g (f + m)) ≡ (nat_le (f + m) g || nat_le (g + n) f)
    step f m g n some one = grind (arith, nat_tests)

pub all_apart : (parts : List TextPart) (part : TextPart) → list_all (λ p. nat_lt 0 p.span.len) parts ≡ true → 0 < part.span.len
    → list_all (λ a. are_apart a part) parts ≡ list_all (λ r. are_separate r (range_of part)) (map range_of parts)
all_apart [] part some one = refl
all_apart (p ∷ parts) part some one =
    let a = both_true (nat_lt 0 p.span.len) (list_all (λ p. nat_lt 0 p.span.len) parts) some in
    rw (apart-separate p part (lt_of _ _ a.0) one, all_apart parts part a.1 one) refl
  where
    lt_of : (x y : ℕ) → nat_lt x y ≡ true → x < y
    lt_of x y e = grind (arith, nat_tests)

swap_and : (a b c : Bool) → (a && (b && c)) ≡ (b && (a && c))
swap_and true true c = refl
swap_and true false c = refl
swap_and false true c = refl
swap_and false false c = refl

all-insert : (p : Range → Bool) (xs : List Range) (r : Range) → list_all p (insert_range xs r) ≡ (p r && list_all p xs)
all-insert p [] r = refl
all-insert p (x ∷ xs) r = all_step (nat_lt r.from x.from) p x r xs (all-insert p xs r)
  where
    all_step : (b : Bool) (p : Range → Bool) (x r : Range) (xs : List Range) → list_all p (insert_range xs r) ≡ (p r && list_all p xs)
        → list_all p (cond b (r ∷ x ∷ xs) (x ∷ insert_range xs r)) ≡ (p r && (p x && list_all p xs))
    all_step true p x r xs go = refl
    all_step false p x r xs go = ap (λ (b : Bool). p x && b) go ∙ swap_and (p x) (p r) (list_all p xs)

and_assoc : (a b c : Bool) → ((a && b) && c) ≡ (b && (a && c))
and_assoc true b c = refl
and_assoc false true c = refl
and_assoc false false c = refl

-- putting ranges in order changes nothing of what each of them passes
pub all-fold : (p : Range → Bool) (acc ranges : List Range) → list_all p (fold insert_range acc ranges) ≡ (list_all p ranges && list_all p acc)
all-fold p acc [] = refl
all-fold p acc (r ∷ ranges) =
    all-fold p (insert_range acc r) ranges ∙ ap (λ (b : Bool). list_all p ranges && b) (all-insert p acc r) ∙ sym (and_assoc (p r) (list_all p ranges) (list_all p acc))
