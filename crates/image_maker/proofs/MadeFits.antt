-- The lines of a made program assemble: each label stands once, each that is gone to is there, and each line has a word.
use Rattle.std.proofs.Common.{◌≡◌, ◌<◌, ◌≤◌, ℕ, ℤ, pos, negsuc, zero, suc, ◌+◌, ◌*◌, ◌%◌, Bool, false, cond, List, [], ◌∷◌, ◌++◌, length, take, take_all, Option, Some, None, refl, sym, ap, ◌∙◌, arith, rules, eqb, subst}
use Rattle.std.specs.Prelude.{◌-ℤ◌, replicate, count_by, slice_get, MatchOption}
use Rattle.std.proofs.lemmas.Int.{ints}
use Rattle.std.proofs.lemmas.Bool.Decides.{nat_tests}
use Rattle.std.proofs.lemmas.List.Sums.{sum_by-append, sum_by-cons, count_by-le-length}
use Rattle.std.proofs.lemmas.List.Folds.{sum_by-replicate}
use Rattle.std.proofs.lemmas.List.{length-take}
use Rattle.scale_base.specs.declared.instruction.Instr.{Instr}
use Rattle.scale_base.specs.declared.instruction.Instr.TheVariants.{Jal, Jalr}
use Rattle.scale_base.specs.Word.{FieldsInRange, IsEven, IsSignedField}
use Rattle.image_maker.specs.declared.line.Line.{Line}
use Rattle.image_maker.specs.declared.line.Line.TheVariants.{Label, Op, BranchTo, JalTo}
use Rattle.image_maker.specs.declared.line.AsmError.TheVariants.{NoLabel, TwoLabels, Unfit, Memory}
use Rattle.image_maker.specs.Assembling.{is_label, goes_to, has_word, label_count, words_before, line_address, Means, IsTwice, IsMissing, IsUnfit, NoneIs, Assemble}
use Rattle.image_maker.specs.Drawing.{drawn, next}
use Rattle.image_maker.specs.Making.{mul, div, skipped, loop, leaf_function, leaf_functions, made_block, block, kind, blocks, state_at, opening, closing, program}
use Rattle.image_maker.proofs.MadeLaws.{by_kind}

-- ---- distances

-- between two words of a program of at most 2^17 words
near : (z : ℤ) (a b : ℕ) → z ≡ pos (65536 + 4 * a) -ℤ pos (65536 + 4 * b) → a ≤ 131072 → b ≤ 131072 → IsEven z × IsSignedField 21 z
near (pos n) a b e ha hb = let sum : n + 4 * b ≡ 4 * a = omega (arith, ints) in (omega arith, omega arith)
near (negsuc n) a b e ha hb = let sum : n + 1 + 4 * a ≡ 4 * b = omega (arith, ints) in (omega arith, omega arith)

-- ---- counts

count-append : (p : Line → Bool) (xs ys : List Line) → count_by p (xs ++ ys) ≡ count_by p xs + count_by p ys
count-append p xs ys = sum_by-append (λ x. cond (p x) 1 0) xs ys

count-cons : (p : Line → Bool) (x : Line) (xs : List Line) → count_by p (x ∷ xs) ≡ cond (p x) 1 0 + count_by p xs
count-cons p x xs = sum_by-cons (λ x. cond (p x) 1 0) x xs

count-replicate : (p : Line → Bool) (n : ℕ) (x : Line) → p x ≡ false → count_by p (replicate n x) ≡ 0
count-replicate p n x e = sum_by-replicate (λ x. cond (p x) 1 0) n x ∙ ap (λ b. n * cond b 1 0) e ∙ (let z : n * 0 ≡ 0 = omega arith in z)

-- ---- labels

labels_in_block : (l k sort n : ℕ) → label_count (made_block k sort n) l ≡ 0
labels_in_block l k sort n =
    by_kind (λ lines. label_count lines l ≡ 0) k sort n
    (count-replicate (is_label l) (1 + n % 8) mul refl)
    (let tail = count-replicate (is_label l) (1 + n % 16) div refl in let whole = count-append (is_label l) (skipped (k % 256) 0) (replicate (1 + n % 16) div) in whole ∙ ap (λ (c : ℕ). 0 + c) tail)
    refl refl

labels_in_blocks : (l number k : ℕ) → label_count (blocks number k) l ≡ 0
labels_in_blocks l number zero = refl
labels_in_blocks l number (suc k) =
    let before = labels_in_blocks l number k in
    let here = labels_in_block l k (kind (state_at number k)) (drawn (next (state_at number k))) in
    let both = count-append (is_label l) (blocks number k) (block k (state_at number k)) in
    omega arith

labels_in_leaf : (l j : ℕ) → label_count (leaf_function j) l ≡ cond (eqb l j) 1 0
labels_in_leaf l j =
    let first = count-cons (is_label l) (Label j) (replicate (j + 1) mul ++ Op (Jalr 0 1 (pos 0)) ∷ []) in
    let rest = count-append (is_label l) (replicate (j + 1) mul) (Op (Jalr 0 1 (pos 0)) ∷ []) in
    let muls = count-replicate (is_label l) (j + 1) mul refl in
    omega arith

labels_in_leaves : (l : ℕ) → label_count leaf_functions l ≡ cond (eqb l 0) 1 0 + (cond (eqb l 1) 1 0 + (cond (eqb l 2) 1 0 + cond (eqb l 3) 1 0))
labels_in_leaves l =
    let a = count-append (is_label l) (leaf_function 0) (leaf_function 1 ++ (leaf_function 2 ++ leaf_function 3)) in
    let b = count-append (is_label l) (leaf_function 1) (leaf_function 2 ++ leaf_function 3) in
    let c = count-append (is_label l) (leaf_function 2) (leaf_function 3) in
    let w = labels_in_leaf l 0 in
    let x = labels_in_leaf l 1 in
    let y = labels_in_leaf l 2 in
    let z = labels_in_leaf l 3 in
    omega arith

parts : (p : Line → Bool) (number size : ℕ) → count_by p (program number size) ≡ count_by p opening + count_by p (blocks number size) + count_by p closing + count_by p leaf_functions
parts p number size =
    let a = count-append p (opening ++ blocks number size ++ closing) leaf_functions in
    let b = count-append p (opening ++ blocks number size) closing in
    let c = count-append p opening (blocks number size) in
    omega arith

labels_in_program : (l number size : ℕ) → label_count (program number size) l ≡ cond (eqb l 0) 1 0 + (cond (eqb l 1) 1 0 + (cond (eqb l 2) 1 0 + cond (eqb l 3) 1 0))
labels_in_program l number size =
    let whole = parts (is_label l) number size in
    let b = labels_in_blocks l number size in
    let d = labels_in_leaves l in
    omega arith

at_most_one : (l : ℕ) → cond (eqb l 0) 1 0 + (cond (eqb l 1) 1 0 + (cond (eqb l 2) 1 0 + cond (eqb l 3) 1 0)) ≤ 1
at_most_one l = grind (arith, nat_tests)

some_below : (l : ℕ) → cond (eqb l 0) 1 0 + (cond (eqb l 1) 1 0 + (cond (eqb l 2) 1 0 + cond (eqb l 3) 1 0)) ≡ 0 → 4 ≤ l
some_below l e = grind (arith, nat_tests)

-- ---- lines that go to a label

goes_in_block : (l k sort n : ℕ) → 4 ≤ l → count_by (goes_to l) (made_block k sort n) ≡ 0
goes_in_block l k sort n h =
    by_kind (λ lines. count_by (goes_to l) lines ≡ 0) k sort n
    (count-replicate (goes_to l) (1 + n % 8) mul refl)
    (let tail = count-replicate (goes_to l) (1 + n % 16) div refl in let whole = count-append (goes_to l) (skipped (k % 256) 0) (replicate (1 + n % 16) div) in whole ∙ ap (λ (c : ℕ). 0 + c) tail)
    refl
    (let other : eqb l (n % 4) ≡ false = grind (arith, nat_tests) in count-cons (goes_to l) (JalTo 1 (n % 4)) [] ∙ ap (λ b. cond b 1 0 + 0) other)

goes_in_blocks : (l number k : ℕ) → 4 ≤ l → count_by (goes_to l) (blocks number k) ≡ 0
goes_in_blocks l number zero h = refl
goes_in_blocks l number (suc k) h =
    let before = goes_in_blocks l number k h in
    let here = goes_in_block l k (kind (state_at number k)) (drawn (next (state_at number k))) h in
    let both = count-append (goes_to l) (blocks number k) (block k (state_at number k)) in
    omega arith

goes_in_leaf : (l j : ℕ) → count_by (goes_to l) (leaf_function j) ≡ 0
goes_in_leaf l j =
    let first = count-cons (goes_to l) (Label j) (replicate (j + 1) mul ++ Op (Jalr 0 1 (pos 0)) ∷ []) in
    let rest = count-append (goes_to l) (replicate (j + 1) mul) (Op (Jalr 0 1 (pos 0)) ∷ []) in
    let muls = count-replicate (goes_to l) (j + 1) mul refl in
    omega arith

goes_in_leaves : (l : ℕ) → count_by (goes_to l) leaf_functions ≡ 0
goes_in_leaves l =
    let a = count-append (goes_to l) (leaf_function 0) (leaf_function 1 ++ (leaf_function 2 ++ leaf_function 3)) in
    let b = count-append (goes_to l) (leaf_function 1) (leaf_function 2 ++ leaf_function 3) in
    let c = count-append (goes_to l) (leaf_function 2) (leaf_function 3) in
    let w = goes_in_leaf l 0 in
    let x = goes_in_leaf l 1 in
    let y = goes_in_leaf l 2 in
    let z = goes_in_leaf l 3 in
    omega arith

goes_in_program : (l number size : ℕ) → 4 ≤ l → count_by (goes_to l) (program number size) ≡ 0
goes_in_program l number size h =
    let whole = parts (goes_to l) number size in
    let b = goes_in_blocks l number size h in
    let d = goes_in_leaves l in
    omega arith

-- ---- fields

abbrev Fits : Line → Type 0
Fits (Label l) = Unit {0}
Fits (Op i) = FieldsInRange i
Fits (BranchTo op rs1 rs2 l) = ⊥
Fits (JalTo rd l) = rd < 32

abbrev AllFit : List Line → Type 0
AllFit [] = Unit {0}
AllFit (x ∷ xs) = Fits x × AllFit xs

fit-append : (xs ys : List Line) → AllFit xs → AllFit ys → AllFit (xs ++ ys)
fit-append [] ys h g = g
fit-append (x ∷ xs) ys h g = (h.0, fit-append xs ys h.1 g)

fit-replicate : (n : ℕ) (x : Line) → Fits x → AllFit (replicate n x)
fit-replicate zero x h = tt
fit-replicate (suc n) x h = (h, fit-replicate n x h)

fit-at : (xs : List Line) (k : ℕ) (x : Line) → slice_get xs k ≡ Some x → AllFit xs → Fits x
fit-at [] k x e h = absurd cc
fit-at (y ∷ ys) zero x e h = let same : y ≡ x = cc in subst Fits same h.0
fit-at (y ∷ ys) (suc k) x e h = fit-at ys k x e h.1

fit-mul : Fits mul
fit-mul = search rules

fit-div : Fits div
fit-div = search rules

fit_skipped : (q n : ℕ) → q < 256 → n ≤ 16 → AllFit (skipped q n)
fit_skipped q n a b = ((omega arith, omega arith, omega arith), ((omega arith, omega arith, omega arith, omega arith), fit-replicate n div fit-div))

fit_loop : (q : ℕ) → q < 256 → AllFit (loop q)
fit_loop q a = ((omega arith, omega arith, omega arith), search rules)

fit_block : (k sort n : ℕ) → AllFit (made_block k sort n)
fit_block k sort n =
    by_kind AllFit k sort n (fit-replicate (1 + n % 8) mul fit-mul) (fit_skipped (k % 256) (1 + n % 16) (omega arith) (omega arith)) (fit_loop (k % 256) (omega arith)) (omega arith, tt)

fit_blocks : (number k : ℕ) → AllFit (blocks number k)
fit_blocks number zero = tt
fit_blocks number (suc k) =
    fit-append (blocks number k) (block k (state_at number k)) (fit_blocks number k) (fit_block k (kind (state_at number k)) (drawn (next (state_at number k))))

fit_leaf : (j : ℕ) → AllFit (leaf_function j)
fit_leaf j = (tt, fit-append (replicate (j + 1) mul) (Op (Jalr 0 1 (pos 0)) ∷ []) (fit-replicate (j + 1) mul fit-mul) (search rules))

fit_opening : AllFit opening
fit_opening = search rules

fit_closing : AllFit closing
fit_closing = search rules

fit_program : (number size : ℕ) → AllFit (program number size)
fit_program number size =
    fit-append (opening ++ blocks number size ++ closing) leaf_functions
    (fit-append (opening ++ blocks number size) closing (fit-append opening (blocks number size) fit_opening (fit_blocks number size)) fit_closing)
    (fit-append (leaf_function 0) (leaf_function 1 ++ (leaf_function 2 ++ leaf_function 3)) (fit_leaf 0) (fit-append (leaf_function 1) (leaf_function 2 ++ leaf_function 3) (fit_leaf 1) (fit-append (leaf_function 2) (leaf_function 3) (fit_leaf 2) (fit_leaf 3))))

-- ---- no cause but memory

-- an address of a line, in a program of at most 2^17 lines
near_lines : (lines : List Line) (j k : ℕ) → length lines ≤ 131072 → IsEven (pos (line_address lines j) -ℤ pos (line_address lines k)) × IsSignedField 21 (pos (line_address lines j) -ℤ pos (line_address lines k))
near_lines lines j k few =
    let a = count-le has_word lines j in
    let b = count-le has_word lines k in
    near (pos (line_address lines j) -ℤ pos (line_address lines k)) (count_by has_word (take j lines)) (count_by has_word (take k lines)) refl (omega arith) (omega arith)
  where
    count-le : (p : Line → Bool) (xs : List Line) (i : ℕ) → count_by p (take i xs) ≤ length xs
    count-le p xs i = let a = count_by-le-length p (take i xs) in let b = length-take i xs in omega arith

meant-fits : (lines : List Line) (k : ℕ) (x : Line) (i : Instr) → length lines ≤ 131072 → Fits x → Means lines (line_address lines k) x i → FieldsInRange i
meant-fits lines k (Label l) i few fit m = absurd m
meant-fits lines k (Op j) i few fit m = rw m fit
meant-fits lines k (BranchTo op rs1 rs2 l) i few fit m = absurd fit
meant-fits lines k (JalTo rd l) i few fit m =
    let stands = m.1 in
    let distance = near_lines lines stands.line k few in
    let made : i ≡ Jal rd (pos (line_address lines stands.line) -ℤ pos (line_address lines k)) = m.2 ∙ ap (λ (to : ℕ). Jal rd (pos to -ℤ pos (line_address lines k))) stands.place in
    rw made (fit, distance.0, distance.1)

none_unfit : (lines : List Line) → length lines ≤ 131072 → AllFit lines → NoneIs (IsUnfit lines)
none_unfit lines few fit = λ k bad. bad.2 (go k bad.0 (slice_get lines k) refl bad.1)
  where
    go : (k : ℕ) (i : Instr) (o : Option Line) → slice_get lines k ≡ o → MatchOption o ⊥ (λ line. Means lines (line_address lines k) line i) → FieldsInRange i
    go k i None e m = absurd m
    go k i (Some x) e m = meant-fits lines k x i few (fit-at lines k x e fit) m

none_twice : (number size : ℕ) → NoneIs (IsTwice (program number size))
none_twice number size = λ l t. let c = labels_in_program l number size in let one = at_most_one l in omega arith

none_missing : (number size : ℕ) → NoneIs (IsMissing (program number size))
none_missing number size = λ l m.
    let c = labels_in_program l number size in
    let high = some_below l (sym c ∙ m.1) in
    let gone = goes_in_program l number size high in
    let some = m.0 in
    omega arith

pub program-assembles : (number size : ℕ) → length (program number size) ≤ 131072 → Assemble (program number size)
program-assembles number size few (TwoLabels l) cause = absurd (none_twice number size l cause.is_so)
program-assembles number size few (NoLabel l) cause = absurd (none_missing number size l cause.1.is_so)
program-assembles number size few (Unfit k) cause = absurd (none_unfit (program number size) few (fit_program number size) k cause.1.is_so)
program-assembles number size few Memory cause = refl

-- its first line has a word
pub program-has_words : (number size : ℕ) → 0 < words_before (program number size) (length (program number size))
program-has_words number size =
    let whole = parts has_word number size in
    let all : take (length (program number size)) (program number size) ≡ program number size = take_all (length (program number size)) (program number size) (omega arith) in
    let same = ap (λ (xs : List Line). count_by has_word xs) all in
    omega arith
