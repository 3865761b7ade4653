-- Ranges in order: at most one of them has an address.
use Rattle.std.proofs.Common.{◌≡◌, ℕ, zero, suc, ◌+◌, ◌<◌, ◌≤◌, Bool, true, false, ◌&&◌, ◌||◌, List, [], ◌∷◌, length, get_or, map, refl, ap, sym, ◌∙◌, arith, inl, inr, vec_len}
use Rattle.std.specs.Prelude.{nat_lt, ◌==◌}
use Rattle.std.specs.List.{list_any, list_all}
use Rattle.std.specs.List.Sorted.{IsNonDecreasingBy}
use Rattle.std.proofs.lemmas.Bool.{cases_lt, cases_eq, and_parts, cond-true, cond-false}
use Rattle.std.proofs.lemmas.Bool.Decides.{nat_tests}
use Rattle.scale_base.specs.declared.ranges.Range.{Range}
use Rattle.scale_base.specs.declared.ranges.Span.{Span}
use Rattle.scale_base.specs.Spans.{in_span, each_pair}
use Rattle.scale_base.specs.Image.{is_in}
use Rattle.flat_memory.specs.Blocks.{span_of, holds, byte_in_blocks, allows, may_be_used}
use Rattle.flat_memory.specs.Ordered.{comes_before, are_ordered, HasBlock, range_before, is_ordered_text}
use Rattle.flat_memory.specs.declared.block.Block.{Block}
use Rattle.flat_memory.proofs.BlockLaws.{read, IsFirst}

-- ---- lists of which each pair passes a test

all_at : {A : Type 0} (test : A → Bool) (xs : List A) (i : ℕ) (d : A) → list_all test xs ≡ true → i < length xs → test (get_or xs i d) ≡ true
all_at test [] i d e lt = absurd (omega arith)
all_at test (x ∷ xs) zero d e lt = (and_parts (test x) (list_all test xs) e).0
all_at test (x ∷ xs) (suc i) d e lt = all_at test xs i d (and_parts (test x) (list_all test xs) e).1 (omega arith)

pub pair_at : {A : Type 0} (test : A → A → Bool) (xs : List A) (i j : ℕ) (d : A) → each_pair test xs ≡ true → i < j → j < length xs → test (get_or xs i d) (get_or xs j d) ≡ true
pair_at test [] i j d e lt inside = absurd (omega arith)
pair_at test (x ∷ xs) i zero d e lt inside = absurd (omega arith)
pair_at test (x ∷ xs) zero (suc j) d e lt inside = all_at (test x) xs j d (and_parts (list_all (test x) xs) (each_pair test xs) e).0 (omega arith)
pair_at test (x ∷ xs) (suc i) (suc j) d e lt inside = pair_at test xs i j d (and_parts (list_all (test x) xs) (each_pair test xs) e).1 (omega arith) (omega arith)

all_map : {A B : Type 0} (u : A → Bool) (v : B → Bool) (f : A → B) → ((a : A) → u a ≡ true → v (f a) ≡ true) → (xs : List A) → list_all u xs ≡ true → list_all v (map f xs) ≡ true
all_map u v f h [] e = refl
all_map u v f h (x ∷ xs) e =
    let p = and_parts (u x) (list_all u xs) e in
    rw (h x p.0, all_map u v f h xs p.1) refl

pub pair_map : {A B : Type 0} (u : A → A → Bool) (v : B → B → Bool) (f : A → B) → ((a b : A) → u a b ≡ true → v (f a) (f b) ≡ true) → (xs : List A) → each_pair u xs ≡ true → each_pair v (map f xs) ≡ true
pair_map u v f h [] e = refl
pair_map u v f h (x ∷ xs) e =
    let p = and_parts (list_all (u x) xs) (each_pair u xs) e in
    rw (all_map (u x) (v (f x)) f (h x) xs p.0, pair_map u v f h xs p.1) refl

-- ---- lists of which at most one element passes a test

pub any_none : {A : Type 0} (test : A → Bool) (xs : List A) → ((i : ℕ) (d : A) → i < length xs → test (get_or xs i d) ≡ false) → list_any test xs ≡ false
any_none test [] h = refl
any_none test (x ∷ xs) h = rw (h 0 x (omega arith), any_none test xs (λ i d lt. h (suc i) d (omega arith))) refl

or_false : (b : Bool) → (b || false) ≡ b
or_false true = refl
or_false false = refl

pub any_single : {A : Type 0} (test : A → Bool) (xs : List A) (k : ℕ) (d : A) → k < length xs → ((i : ℕ) (e : A) → i < length xs → (i ≡ k → ⊥) → test (get_or xs i e) ≡ false) → list_any test xs ≡ test (get_or xs k d)
any_single test [] k d lt h = absurd (omega arith)
any_single test (x ∷ xs) zero d lt h = rw (any_none test xs (λ i e l. h (suc i) e (omega arith) (omega arith))) (or_false (test x))
any_single test (x ∷ xs) (suc k) d lt h =
    rw (h 0 x (omega arith) (omega arith)) (any_single test xs k d (omega arith) (λ i e l ne. h (suc i) e (omega arith) (omega arith)))

-- ---- blocks

span_pair : (xs : List Block) (i j : ℕ) (d : Block) → are_ordered xs ≡ true → i < j → j < length xs → comes_before (span_of (get_or xs i d)) (span_of (get_or xs j d)) ≡ true
span_pair [] i j d e lt inside = absurd (omega arith)
span_pair (x ∷ xs) i zero d e lt inside = absurd (omega arith)
span_pair (x ∷ xs) zero (suc j) d e lt inside = span_first x xs j d (and_parts (list_all (comes_before (span_of x)) (map span_of xs)) (are_ordered xs) e).0 (omega arith)
  where
    span_first : (x : Block) (xs : List Block) (j : ℕ) (d : Block) → list_all (comes_before (span_of x)) (map span_of xs) ≡ true → j < length xs → comes_before (span_of x) (span_of (get_or xs j d)) ≡ true
    span_first x [] j d e inside = absurd (omega arith)
    span_first x (y ∷ ys) zero d e inside = (and_parts (comes_before (span_of x) (span_of y)) (list_all (comes_before (span_of x)) (map span_of ys)) e).0
    span_first x (y ∷ ys) (suc j) d e inside = span_first x ys j d (and_parts (comes_before (span_of x) (span_of y)) (list_all (comes_before (span_of x)) (map span_of ys)) e).1 (omega arith)
span_pair (x ∷ xs) (suc i) (suc j) d e lt inside = span_pair xs i j d (and_parts (list_all (comes_before (span_of x)) (map span_of xs)) (are_ordered xs) e).1 (omega arith) (omega arith)

rise_from : (a b : Span) → comes_before a b ≡ true → a.from ≤ b.from
rise_from a b e = grind (arith, nat_tests)

pub rise : (xs : List Block) → are_ordered xs ≡ true → IsNonDecreasingBy (λ b. b.from) xs
rise xs e i j d le lt =
    elim (cases_lt i j) [
      | inl l ↦ rise_from (span_of (get_or xs i d)) (span_of (get_or xs j d)) (span_pair xs i j d e l lt)
      | inr g ↦ (let same : i ≡ j = omega arith in rw same (omega arith))
    ]

-- a span that comes before one that has the address doesn't have it, and neither does one that comes behind
low_away : (a b : Span) (at : ℕ) → comes_before a b ≡ true → in_span b at ≡ true → in_span a at ≡ false
low_away a b at e here = grind (arith, nat_tests)

high_away : (a b : Span) (at : ℕ) → comes_before a b ≡ true → in_span a at ≡ true → in_span b at ≡ false
high_away a b at e here = grind (arith, nat_tests)

-- of blocks in order no other one has the address
pub others_away : (xs : List Block) (at k : ℕ) → are_ordered xs ≡ true → HasBlock xs at k → (i : ℕ) (d : Block) → i < length xs → (i ≡ k → ⊥) → holds at (get_or xs i d) ≡ false
others_away xs at k e h i d lt ne =
    elim (cases_lt i k) [
      | inl l ↦ low_away (span_of (get_or xs i d)) (span_of (get_or xs k d)) at (span_pair xs i k d e l h.inside) (h.here d)
      | inr g ↦ high_away (span_of (get_or xs k d)) (span_of (get_or xs i d)) at (span_pair xs k i d e (omega arith) lt) (h.here d)
    ]

pub is_first : (xs : List Block) (at k : ℕ) → are_ordered xs ≡ true → HasBlock xs at k → IsFirst xs k at
is_first xs at k e h = record { before = λ j b l is. ap (holds at) is ∙ others_away xs at k e h j b (omega (arith, h.inside)) (omega arith) }

byte_first : (xs : List Block) (k at : ℕ) (d : Block) → k < length xs → IsFirst xs k at → holds at (get_or xs k d) ≡ true → byte_in_blocks xs at ≡ read (get_or xs k d) at
unfolding byte_in_blocks
byte_first [] k at d lt first here = absurd (omega arith)
byte_first (x ∷ xs) zero at d lt first here = cond-true (holds at x) (read x at) (byte_in_blocks xs at) here
byte_first (x ∷ xs) (suc k) at d lt first here =
    cond-false (holds at x) (read x at) (byte_in_blocks xs at) (first.before 0 x (omega arith) refl)
    ∙ byte_first xs k at d (omega arith) (record { before = λ j b l is. first.before (suc j) b (omega arith) is }) here

pub byte_found : (xs : List Block) (at k : ℕ) (d : Block) → are_ordered xs ≡ true → HasBlock xs at k → byte_in_blocks xs at ≡ read (get_or xs k d) at
byte_found xs at k d e h = byte_first xs k at d h.inside (is_first xs at k e h) (h.here d)

or_none : (a b : Bool) → (a || b) ≡ false → (a ≡ false) × (b ≡ false)
or_none false b e = (refl, e)
or_none true b e = absurd cc

pub byte_none : (xs : List Block) (at : ℕ) → list_any (holds at) xs ≡ false → byte_in_blocks xs at ≡ 0
unfolding byte_in_blocks
byte_none [] at e = refl
byte_none (x ∷ xs) at e =
    let p = or_none (holds at x) (list_any (holds at) xs) e in
    cond-false (holds at x) (read x at) (byte_in_blocks xs at) p.0 ∙ byte_none xs at p.1

and_false : (a b : Bool) → b ≡ false → (a && b) ≡ false
and_false true b e = e
and_false false b e = refl

and_true : (a b : Bool) → b ≡ true → (a && b) ≡ a
and_true true b e = e
and_true false b e = refl

pub used_found : (xs : List Block) (flag at k : ℕ) (d : Block) → are_ordered xs ≡ true → HasBlock xs at k → list_any (may_be_used flag at) xs ≡ allows flag (get_or xs k d)
used_found xs flag at k d e h =
    any_single (may_be_used flag at) xs k d h.inside (λ i x lt ne. and_false (allows flag (get_or xs i x)) (holds at (get_or xs i x)) (others_away xs at k e h i x lt ne))
    ∙ and_true (allows flag (get_or xs k d)) (holds at (get_or xs k d)) (h.here d)

pub used_none : (xs : List Block) (flag at : ℕ) → list_any (holds at) xs ≡ false → list_any (may_be_used flag at) xs ≡ false
used_none [] flag at e = refl
used_none (x ∷ xs) flag at e =
    let p = or_none (holds at x) (list_any (holds at) xs) e in
    rw (and_false (allows flag x) (holds at x) p.0, used_none xs flag at p.1) refl

-- ---- the search for a block

-- the blocks below the k-th begin at or below the address, and none of the others has it
pub record Searched (xs : List Block) (at k : ℕ) : Type 0 where
  pub bound : k ≤ length xs
  pub below : (i : ℕ) (d : Block) → i < k → (get_or xs i d).from ≤ at
  pub above : (i : ℕ) (d : Block) → k ≤ i → i < length xs → holds at (get_or xs i d) ≡ false

get_same : (xs : List Block) (k : ℕ) (d e : Block) → k < length xs → get_or xs k d ≡ get_or xs k e
get_same [] k d e lt = absurd (omega arith)
get_same (x ∷ xs) zero d e lt = refl
get_same (x ∷ xs) (suc k) d e lt = get_same xs k d e (omega arith)

-- the element of an index is one, whatever stands for one that is missing
pub same_block : (xs : List Block) (k : ℕ) (b c : Block) → k < length xs → b ≡ get_or xs k b → c ≡ get_or xs k c → b ≡ c
same_block xs k b c lt is other = is ∙ (get_same xs k b c lt ∙ sym other)

pub searched_more : (xs : List Block) (at k : ℕ) (b : Block) → Searched xs at (k + 1) → b ≡ get_or xs k b → holds at b ≡ false → Searched xs at k
searched_more xs at k b h is away = record {
  bound = omega (arith, h.bound);
  below = λ i d lt. h.below i d (omega arith);
  above = λ i d le lt.
      elim (cases_eq i k) [
        | inl e ↦ (let same : get_or xs k d ≡ b = get_same xs k d b (omega (arith, h.bound)) ∙ sym is in ap (λ n. holds at (get_or xs n d)) e ∙ (ap (holds at) same ∙ away))
        | inr ne ↦ h.above i d (omega arith) lt
      ];
}

-- a block that isn't empty, begins at or below the address and doesn't have it ends at or below it, and so do those before it
past : (a b : Span) (at : ℕ) → comes_before a b ≡ true → (b.len == 0) ≡ false → b.from ≤ at → in_span b at ≡ false → in_span a at ≡ false
past a b at e some le away = grind (arith, nat_tests)

pub searched_past : (xs : List Block) (at k : ℕ) (b : Block) → are_ordered xs ≡ true → Searched xs at (k + 1) → b ≡ get_or xs k b → holds at b ≡ false → (vec_len b.bytes == 0) ≡ false → list_any (holds at) xs ≡ false
searched_past xs at k b e h is away some =
    let s = searched_more xs at k b h is away in
    any_none (holds at) xs (λ i d lt.
    elim (cases_lt i k) [
      | inl l ↦ ap (holds at) (get_same xs i d b lt) ∙ past (span_of (get_or xs i b)) (span_of b) at (ap (λ c. comes_before (span_of (get_or xs i b)) (span_of c)) is ∙ span_pair xs i k b e l (omega (arith, h.bound))) some (rw is (h.below k b (omega arith))) away
      | inr g ↦ s.above i d g lt
    ])

pub searched_all : (xs : List Block) (at k : ℕ) → k ≡ 0 → Searched xs at k → list_any (holds at) xs ≡ false
searched_all xs at k e h = any_none (holds at) xs (λ i d lt. h.above i d (omega arith) lt)

-- ---- text

from_pair : (a b : Range) → range_before a b ≡ true → a.from ≤ b.from
from_pair a b e = grind (arith, nat_tests)

pub text_rise : (xs : List Range) → is_ordered_text xs ≡ true → IsNonDecreasingBy (λ r. r.from) xs
text_rise xs e i j d le lt =
    elim (cases_lt i j) [
      | inl l ↦ from_pair (get_or xs i d) (get_or xs j d) (pair_at range_before xs i j d e l lt)
      | inr g ↦ (let same : i ≡ j = omega arith in rw same (omega arith))
    ]

range_past : (a b : Range) (at : ℕ) → range_before a b ≡ true → b.from ≤ at → is_in at a ≡ false
range_past a b at e le = grind (arith, nat_tests)

range_not_yet : (a : Range) (at : ℕ) → at < a.from → is_in at a ≡ false
range_not_yet a at lt = grind (arith, nat_tests)

range_here : (a : Range) (at : ℕ) → a.from ≤ at → is_in at a ≡ nat_lt at a.to
range_here a at le = grind (arith, nat_tests)

-- the last range that begins at or below the address decides
pub text_last : (xs : List Range) (at k : ℕ) (d : Range) → is_ordered_text xs ≡ true → k < length xs → ((i : ℕ) (e : Range) → i < k + 1 → (get_or xs i e).from ≤ at)
    → ((i : ℕ) (e : Range) → k + 1 ≤ i → i < length xs → at < (get_or xs i e).from) → list_any (is_in at) xs ≡ nat_lt at (get_or xs k d).to
text_last xs at k d e lt below above =
    any_single (is_in at) xs k d lt (λ i x l ne.
    elim (cases_lt i k) [
      | inl low ↦ range_past (get_or xs i x) (get_or xs k x) at (pair_at range_before xs i k x e low lt) (below k x (omega arith))
      | inr high ↦ range_not_yet (get_or xs i x) at (above i x (omega arith) l)
    ])
    ∙ range_here (get_or xs k d) at (below k d (omega arith))

pub text_none : (xs : List Range) (at : ℕ) → ((i : ℕ) (e : Range) → 0 ≤ i → i < length xs → at < (get_or xs i e).from) → list_any (is_in at) xs ≡ false
text_none xs at above = any_none (is_in at) xs (λ i x l. range_not_yet (get_or xs i x) at (above i x (omega arith) l))
