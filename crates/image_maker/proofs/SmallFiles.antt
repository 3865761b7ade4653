-- The files that go with a made program are small.
use Rattle.std.proofs.Common.{All, ◌≡◌, ◌<◌, ◌≤◌, ℕ, zero, suc, ◌+◌, ◌*◌, ◌^◌, Bool, true, false, cond, List, [], ◌∷◌, ◌++◌, length, length-append, ap, ◌∙◌, arith}
use Rattle.std.specs.Prelude.{◌==◌, codes, nat_lt, slice_index}
use Rattle.std.specs.Fmt.{decimal}
use Rattle.std.proofs.lemmas.Fmt.{length-decimal-le}
use Rattle.image_maker.specs.Made.{IsImageOf}
use Rattle.image_maker.specs.MadeTexts.{header_line, ranges_line, counted_line, loop_table, made_loop_tables, loops_text, machine_rest, machine_text}
use Rattle.image_maker.specs.Making.{program, headers, header_in, opening, blocks, state_at, kind}
use Rattle.image_maker.proofs.MadeLaws.{program_is_short, headers_are_low}
use Rattle.image_maker.proofs.PlainLaw.{file-length}
use Rattle.image_maker.proofs.WordLaws.{assembled-short}

-- ---- the image

pub small_image : (number size : ℕ) (file : List ℕ) → size ≤ 2000 → IsImageOf (program number size) file → length file ≤ 4194304
small_image number size file h is =
    let short = assembled-short (program number size) is.words (program_is_short number size h) is.assembled in
    let whole = file-length is.words in
    rw is.plain (omega arith)

-- ---- the machine file

pub small_machine : (size : ℕ) → size ≤ 2000 → length (machine_text size) ≤ 1048576
small_machine size h =
    let number = length-decimal-le 7 (500 * size + 200) (omega arith) (omega arith) (omega arith) in
    let a = length-append (codes "version = 1\ndeadline = " ++ decimal (500 * size + 200)) (10 ∷ machine_rest) in
    let b = length-append (codes "version = 1\ndeadline = ") (decimal (500 * size + 200)) in
    omega arith

-- ---- the loop file

short_address : (n : ℕ) → n < 2 ^ 32 → length (decimal n) ≤ 10
short_address n h = length-decimal-le 10 n (omega arith) (omega arith) (omega arith)

short_header : (header : ℕ) → header < 2 ^ 32 → length (header_line header) ≤ 20
unfolding header_line
short_header header h =
    let number = short_address header h in
    let a = length-append (codes "header = " ++ decimal header) (codes "\n") in
    let b = length-append (codes "header = ") (decimal header) in
    omega arith

short_ranges : (header : ℕ) → header + 12 < 2 ^ 32 → length (ranges_line header) ≤ 36
unfolding ranges_line
short_ranges header h =
    let from = short_address header (omega arith) in
    let to = short_address (header + 12) h in
    let a = length-append (codes "ranges = [[" ++ decimal header ++ codes ", " ++ decimal (header + 12)) (codes "]]\n") in
    let b = length-append (codes "ranges = [[" ++ decimal header ++ codes ", ") (decimal (header + 12)) in
    let c = length-append (codes "ranges = [[" ++ decimal header) (codes ", ") in
    let d = length-append (codes "ranges = [[") (decimal header) in
    omega arith

short_counted : (c : ℕ) → length (counted_line c) ≤ 16
unfolding counted_line
short_counted c = go (nat_lt c 509)
  where
    go : (b : Bool) → length (codes "counted = " ++ cond b (codes "true") (codes "false") ++ codes "\n") ≤ 16
    go true = omega arith
    go false = omega arith

short_table : (c header : ℕ) → header + 12 < 2 ^ 32 → length (loop_table c header) ≤ 100
short_table c header h =
    let first = short_header header (omega arith) in
    let ranges = short_ranges header h in
    let last = short_counted c in
    let p = length-append (codes "[[loop]]\n" ++ header_line header ++ ranges_line header ++ codes "bound = 14\n") (counted_line c) in
    let q = length-append (codes "[[loop]]\n" ++ header_line header ++ ranges_line header) (codes "bound = 14\n") in
    let r = length-append (codes "[[loop]]\n" ++ header_line header) (ranges_line header) in
    let s = length-append (codes "[[loop]]\n") (header_line header) in
    omega arith

short_tables : (headers : List ℕ) (n : ℕ) → All (λ header. header + 12 < 2 ^ 32) headers → n ≤ length headers → length (made_loop_tables headers n) ≤ 100 * n
short_tables headers zero low h = omega arith
short_tables headers (suc n) low h =
    let before = short_tables headers n low (omega arith) in
    let here = short_table n (slice_index headers n) (low n 0 (omega arith)) in
    let both = length-append (made_loop_tables headers n) (loop_table n (slice_index headers n)) in
    omega arith

-- a block has one loop or none
few_headers : (number k : ℕ) → length (headers number k) ≤ k
few_headers number zero = omega arith
few_headers number (suc k) =
    let before = few_headers number k in
    let here = one (length (opening ++ blocks number k)) (kind (state_at number k) == 2) in
    let both = length-append (headers number k) (header_in (length (opening ++ blocks number k)) (state_at number k)) in
    omega arith
  where
    one : (before : ℕ) (b : Bool) → length (cond b ((0x10000 + 4 * (before + 2)) ∷ []) []) ≤ 1
    one before true = omega arith
    one before false = omega arith

short_loops : (number size : ℕ) → size ≤ 2000 → length (loops_text (headers number size)) ≤ 1048576
short_loops number size h =
    let few = few_headers number size in
    let tables = short_tables (headers number size) (length (headers number size)) (headers_are_low number size h) (omega arith) in
    let whole = length-append (codes "version = 1\n") (made_loop_tables (headers number size) (length (headers number size))) in
    omega arith

pub small_loops : (number size : ℕ) (heads text : List ℕ) → size ≤ 2000 → text ≡ loops_text heads → heads ≡ headers number size → length text ≤ 1048576
small_loops number size heads text h is same = let whole = is ∙ ap loops_text same in rw whole (short_loops number size h)
