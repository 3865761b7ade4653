-- The byte at an address, block by block.
use Rattle.std.proofs.Common.{rules, ◌≡◌, ℕ, zero, suc, ◌-◌, ◌<◌, ◌≤◌, Bool, true, false, List, [], ◌∷◌, length, get_or, drop, take, ◌++◌, arith, refl, ap, ◌∙◌, set, map, cond, vec_len, inl, inr, get_or-set_same, get_or-set_other}
use Rattle.std.specs.Prelude.{slice_index, slice_set, filter, ◌&&◌, ◌||◌}
use Rattle.std.specs.List.{list_any}
use Rattle.std.proofs.Math.Path.{fun_ext}
use Rattle.std.proofs.lemmas.Bool.{or_cases, or_left, or_right, and_parts}
use Rattle.std.proofs.lemmas.Bool.Decides.{nat_tests}
use Rattle.std.proofs.lemmas.List.{drop_all, append-nil, take_all}
use Rattle.scale_base.specs.Spans.{in_span}
use Rattle.scale_base.specs.State.{with_byte}
use Rattle.scale_base.specs.Elf.{has}
use Rattle.scale_base.specs.Image.{PF_R, PF_W}
use Rattle.scale_base.specs.Layout.{Part}
use Rattle.flat_memory.specs.Blocks.{span_of, holds, byte_in_blocks, block_part, parts_of, is_plain_block, allows, may_be_used, HasValue}
use Rattle.flat_memory.specs.declared.block.Block.{Block}
use Rattle.flat_memory.proofs.Chosen.{put_here, put_behind}

-- ---- a byte that is written

abbrev pub read : Block → ℕ → ℕ
read b a = slice_index b.bytes.items (a - b.from)

-- a block with another byte has the same addresses
holds_same : (b c : Block) (at value : ℕ) → HasValue b c at value → (a : ℕ) → holds a c ≡ holds a b
holds_same b c at value h a = ap (λ s. in_span s a) h.span

read_same : (b c : Block) (at value : ℕ) → HasValue b c at value → holds at b ≡ true → read c at ≡ value
read_same b c at value h here =
    let from : c.from ≡ b.from = ap (λ s. s.from) h.span in
    let size : length b.bytes.items ≡ vec_len b.bytes = search rules in
    let below : at - b.from < length b.bytes.items = grind (arith, nat_tests) in
    ap (λ xs. slice_index xs (at - c.from)) h.items ∙ (ap (λ n. slice_index (slice_set b.bytes.items (at - b.from) value) (at - n)) from ∙ get_or-set_same b.bytes.items (at - b.from) value 0 below)

read_other : (b c : Block) (at value a : ℕ) → HasValue b c at value → holds at b ≡ true → holds a b ≡ true → (a ≡ at → ⊥) → read c a ≡ read b a
read_other b c at value a h here there ne =
    let from : c.from ≡ b.from = ap (λ s. s.from) h.span in
    let low : b.from ≤ at = grind (arith, nat_tests) in
    let lower : b.from ≤ a = grind (arith, nat_tests) in
    let apart : (a - b.from ≡ at - b.from → ⊥) = omega arith in
    ap (λ xs. slice_index xs (a - c.from)) h.items ∙ (ap (λ n. slice_index (slice_set b.bytes.items (at - b.from) value) (a - n)) from ∙ get_or-set_other b.bytes.items (at - b.from) (a - b.from) value 0 apart)

put_first : (b c : Block) (xs : List Block) (at value : ℕ) → HasValue b c at value → holds at b ≡ true → (a : ℕ) → byte_in_blocks (c ∷ xs) a ≡ with_byte (byte_in_blocks (b ∷ xs)) at value a
unfolding byte_in_blocks
put_first b c xs at value h here a =
    ap (λ t. cond t (read c a) (byte_in_blocks xs a)) (holds_same b c at value h a)
    ∙ put_here (λ i. holds i b) (read b) (read c) (byte_in_blocks xs) at value here (read_same b c at value h here) (λ i. read_other b c at value i h here) a

put_rest : (b : Block) (xs ys : List Block) (at value : ℕ) → holds at b ≡ false → ((a : ℕ) → byte_in_blocks ys a ≡ with_byte (byte_in_blocks xs) at value a) → (a : ℕ) → byte_in_blocks (b ∷ ys) a ≡ with_byte (byte_in_blocks (b ∷ xs)) at value a
unfolding byte_in_blocks
put_rest b xs ys at value away h a = put_behind (λ i. holds i b) (read b) (byte_in_blocks xs) (byte_in_blocks ys) at value away h a

-- no block before the k-th has the address
pub record IsFirst (xs : List Block) (k at : ℕ) : Type 0 where
  pub before : (j : ℕ) (b : Block) → j < k → b ≡ get_or xs j b → holds at b ≡ false

put_bytes_at : (xs : List Block) (k : ℕ) (b c : Block) (at value : ℕ) → k < length xs → b ≡ get_or xs k b → IsFirst xs k at → HasValue b c at value → holds at b ≡ true → (a : ℕ) → byte_in_blocks (set xs k c) a ≡ with_byte (byte_in_blocks xs) at value a
put_bytes_at [] k b c at value lt is first h here a = absurd (omega arith)
put_bytes_at (x ∷ xs) zero b c at value lt is first h here a =
    put_first b c xs at value h here a ∙ ap (λ y. with_byte (byte_in_blocks (y ∷ xs)) at value a) is
put_bytes_at (x ∷ xs) (suc k) b c at value lt is first h here a =
    put_rest x xs (set xs k c) at value (first.before 0 x (omega arith) refl)
    (put_bytes_at xs k b c at value (omega arith) is (record { before = λ j d l e. first.before (suc j) d (omega arith) e }) h here) a

pub put_bytes : (xs : List Block) (k : ℕ) (b c : Block) (at value : ℕ) → k < length xs → b ≡ get_or xs k b → IsFirst xs k at → HasValue b c at value → holds at b ≡ true → byte_in_blocks (set xs k c) ≡ with_byte (byte_in_blocks xs) at value
put_bytes xs k b c at value lt is first h here = fun_ext (put_bytes_at xs k b c at value lt is first h here)

parts_first : (b c : Block) (xs : List Block) (at value : ℕ) → HasValue b c at value → parts_of (c ∷ xs) ≡ parts_of (b ∷ xs)
parts_first b c xs at value h =
    let part : block_part c ≡ block_part b = ap (λ s. record { span = s; readable = has c.flags PF_R; writable = has c.flags PF_W }) h.span ∙ ap (λ f. record { span = span_of b; readable = has f PF_R; writable = has f PF_W }) h.flags in
    parts_step (is_plain_block c) (is_plain_block b) b c (filter is_plain_block xs) (ap (λ f. is_plain_block (record b { flags = f })) h.flags) part
  where
    parts_step : (t u : Bool) (b c : Block) (ys : List Block) → t ≡ u → block_part c ≡ block_part b → map block_part (cond t (c ∷ ys) ys) ≡ map block_part (cond u (b ∷ ys) ys)
    parts_step true true b c ys e part = ap (λ p. p ∷ map block_part ys) part
    parts_step false false b c ys e part = refl
    parts_step true false b c ys e part = absurd cc
    parts_step false true b c ys e part = absurd cc

parts_rest : (b : Block) (xs ys : List Block) → parts_of xs ≡ parts_of ys → parts_of (b ∷ xs) ≡ parts_of (b ∷ ys)
parts_rest b xs ys h = parts_tail (is_plain_block b) b (filter is_plain_block xs) (filter is_plain_block ys) h
  where
    parts_tail : (t : Bool) (b : Block) (us vs : List Block) → map block_part us ≡ map block_part vs → map block_part (cond t (b ∷ us) us) ≡ map block_part (cond t (b ∷ vs) vs)
    parts_tail true b us vs h = ap (λ ps. block_part b ∷ ps) h
    parts_tail false b us vs h = h

pub put_parts : (xs : List Block) (k : ℕ) (b c : Block) (at value : ℕ) → k < length xs → b ≡ get_or xs k b → HasValue b c at value → parts_of (set xs k c) ≡ parts_of xs
put_parts [] k b c at value lt is h = refl
put_parts (x ∷ xs) zero b c at value lt is h = parts_first b c xs at value h ∙ ap (λ y. parts_of (y ∷ xs)) is
put_parts (x ∷ xs) (suc k) b c at value lt is h = parts_rest x (set xs k c) xs (put_parts xs k b c at value (omega arith) is h)

pub put_spans : (xs : List Block) (k : ℕ) (b c : Block) (at value : ℕ) → k < length xs → b ≡ get_or xs k b → HasValue b c at value → map span_of (set xs k c) ≡ map span_of xs
put_spans [] k b c at value lt is h = refl
put_spans (x ∷ xs) zero b c at value lt is h = ap (λ s. s ∷ map span_of xs) (h.span ∙ ap span_of is)
put_spans (x ∷ xs) (suc k) b c at value lt is h = ap (λ ss. span_of x ∷ ss) (put_spans xs k b c at value (omega arith) is h)

-- ---- parts and blocks

any_in_parts : (test : Part → Bool) (xs : List Block) → list_any test (parts_of xs) ≡ list_any (λ b. is_plain_block b && test (block_part b)) xs
any_in_parts test [] = refl
any_in_parts test (x ∷ xs) = any_step (is_plain_block x) test x (filter is_plain_block xs) ∙ ap (λ r. (is_plain_block x && test (block_part x)) || r) (any_in_parts test xs)
  where
    any_step : (b : Bool) (test : Part → Bool) (x : Block) (ys : List Block) → list_any test (map block_part (cond b (x ∷ ys) ys)) ≡ ((b && test (block_part x)) || list_any test (map block_part ys))
    any_step true test x ys = refl
    any_step false test x ys = refl

any_same : (u v : Block → Bool) → ((b : Block) → u b ≡ v b) → (xs : List Block) → list_any u xs ≡ list_any v xs
any_same u v h [] = refl
any_same u v h (x ∷ xs) = ap (λ t. t || list_any u xs) (h x) ∙ ap (λ r. v x || r) (any_same u v h xs)

and_assoc : (a b c : Bool) → (a && (b && c)) ≡ ((a && b) && c)
and_assoc true b c = refl
and_assoc false b c = refl

pub readable_in_parts : (xs : List Block) (at : ℕ) → list_any (λ p. p.readable && in_span p.span at) (parts_of xs) ≡ list_any (may_be_used PF_R at) xs
readable_in_parts xs at = any_in_parts (λ p. p.readable && in_span p.span at) xs ∙ any_same _ _ (λ b. and_assoc (is_plain_block b) (has b.flags PF_R) (holds at b)) xs

pub writable_in_parts : (xs : List Block) (at : ℕ) → list_any (λ p. p.writable && in_span p.span at) (parts_of xs) ≡ list_any (may_be_used PF_W at) xs
writable_in_parts xs at = any_in_parts (λ p. p.writable && in_span p.span at) xs ∙ any_same _ _ (λ b. and_assoc (is_plain_block b) (has b.flags PF_W) (holds at b)) xs

-- a block that passes a further test has the address
pub used_holds : (flag at : ℕ) (xs : List Block) → list_any (may_be_used flag at) xs ≡ true → list_any (holds at) xs ≡ true
used_holds flag at [] h = h
used_holds flag at (x ∷ xs) h =
    elim (or_cases (may_be_used flag at x) (list_any (may_be_used flag at) xs) h) [
      | inl e ↦ or_left (holds at x) (list_any (holds at) xs) (and_parts (allows flag x) (holds at x) e).1
      | inr e ↦ or_right (holds at x) (list_any (holds at) xs) (used_holds flag at xs e)
    ]

-- a list of the same length, written back over the old one
pub whole_again : {X : Type 0} (new old : List X) (n : ℕ) → length new ≡ length old → n ≡ length old → take n (new ++ drop (length new) old) ≡ new
whole_again new old n same is =
    let rest : drop (length new) old ≡ [] = drop_all (length new) old (omega arith) in
    ap (λ l. take n (new ++ l)) rest ∙ (ap (take n) (append-nil new) ∙ take_all n new (omega arith))
