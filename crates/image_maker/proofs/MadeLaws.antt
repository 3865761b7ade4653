-- What is so of each block of a made program, and of all of them.
use Rattle.std.proofs.Common.{◌<◌, ◌≤◌, ℕ, zero, suc, ◌+◌, ◌*◌, ◌%◌, ◌^◌, Bool, true, false, cond, List, [], ◌∷◌, ◌++◌, length, arith, length-append}
use Rattle.std.specs.Prelude.{◌==◌, replicate}
use Rattle.std.proofs.lemmas.List.{length-replicate}
use Rattle.std.proofs.lemmas.List.Elements.{All-append, All-push}
use Rattle.std.specs.List.{All}
use Rattle.scale_base.specs.declared.instruction.RegOp.TheVariants.{Div}
use Rattle.scale_base.specs.declared.instruction.Instr.TheVariants.{Reg}
use Rattle.image_maker.specs.declared.line.Line.{Line}
use Rattle.image_maker.specs.declared.line.Line.TheVariants.{Op, JalTo}
use Rattle.image_maker.specs.Drawing.{drawn, next}
use Rattle.image_maker.specs.Making.{mul, skipped, loop, made_block, block, kind, blocks, state_at, opening, closing, leaf_functions, program, headers, header_in}

-- what is so of a block of each kind
pub by_kind : (P : List Line → Type 0) (k sort n : ℕ) → P (replicate (1 + n % 8) mul) → P (skipped (k % 256) (1 + n % 16)) → P (loop (k % 256)) → P (JalTo 1 (n % 4) ∷ []) → P (made_block k sort n)
unfolding made_block
by_kind P k sort n a b c d = go (sort == 0) (sort == 1) (sort == 2)
  where
    go : (x y z : Bool) → P (cond x (replicate (1 + n % 8) mul) (cond y (skipped (k % 256) (1 + n % 16)) (cond z (loop (k % 256)) (JalTo 1 (n % 4) ∷ []))))
    go true y z = a
    go false true z = b
    go false false true = c
    go false false false = d

short_block : (k sort n : ℕ) → length (made_block k sort n) ≤ 18
short_block k sort n =
    by_kind (λ lines. length lines ≤ 18) k sort n
    (let l = length-replicate (1 + n % 8) mul in omega arith)
    (let l = length-replicate (1 + n % 16) (Op (Reg Div 6 6 8)) in omega arith)
    (omega arith) (omega arith)

short_blocks : (number k : ℕ) → length (blocks number k) ≤ 18 * k
short_blocks number zero = omega arith
short_blocks number (suc k) =
    let before = short_blocks number k in
    let here = short_block k (kind (state_at number k)) (drawn (next (state_at number k))) in
    let both = length-append (blocks number k) (block k (state_at number k)) in
    omega arith

pub few_lines : (number k : ℕ) → k ≤ 2000 → length (opening ++ blocks number k) ≤ 36008
few_lines number k h =
    let short = short_blocks number k in
    let both = length-append opening (blocks number k) in
    omega arith

pub program_is_short : (number size : ℕ) → size ≤ 2000 → length (program number size) ≤ 131072
program_is_short number size h =
    let first = few_lines number size h in
    let a = length-append (opening ++ blocks number size ++ closing) leaf_functions in
    let b = length-append (opening ++ blocks number size) closing in
    omega arith

pub headers_are_low : (number k : ℕ) → k ≤ 2000 → All (λ header. header + 12 < 2 ^ 32) (headers number k)
headers_are_low number zero h = λ j d lt. absurd (omega arith)
headers_are_low number (suc k) h =
    let few = few_lines number k (omega arith) in
    All-append (λ header. header + 12 < 2 ^ 32) (headers number k) (header_in (length (opening ++ blocks number k)) (state_at number k)) (headers_are_low number k (omega arith)) (one (length (opening ++ blocks number k)) (kind (state_at number k) == 2) few)
  where
    one : (before : ℕ) (b : Bool) → before ≤ 36008 → All (λ header. header + 12 < 2 ^ 32) (cond b ((0x10000 + 4 * (before + 2)) ∷ []) [])
    one before true few = All-push (λ header. header + 12 < 2 ^ 32) [] (0x10000 + 4 * (before + 2)) (λ j d lt. absurd (omega arith)) (omega arith)
    one before false few = λ j d lt. absurd (omega arith)
