-- The parts of a tree, and how long it is.
use Rattle.std.proofs.Common.{◌≡◌, ℕ, suc, ◌+◌, ◌-◌, ◌*◌, ◌≤◌, Bool, true, false, not, List, [], ◌∷◌, length, refl, arith, ap, sym, subst, ◌∙◌, Result, Ok, Err}
use Rattle.std.specs.Prelude.{filter, ◌||◌, ◌&&◌, if◌then◌else◌, IfOk, max}
use Rattle.std.specs.List.{list_all}
use Rattle.std.proofs.lemmas.List.{length-append}
use Rattle.scale_base.specs.declared.instruction.Instr.{Instr}
use Rattle.image_lower.specs.Trees.{has_bit, lacks_bit, are_alike, fork, tree, tree_depth}

or_both_false : (a b : Bool) → (a || b) ≡ false → (a ≡ false) × (b ≡ false)
or_both_false true b e = absurd cc
or_both_false false b e = (refl, e)

len_parts : (b : Bool) (x : ℕ) (xs ys all : List ℕ) → length xs + length ys ≡ length all → length (if not b then x ∷ xs else xs) + length (if b then x ∷ ys else ys) ≡ length (x ∷ all)
len_parts true x xs ys all h = omega (arith, h)
len_parts false x xs ys all h = omega (arith, h)

-- the two parts of a list have its elements
parts_len : (p : ℕ → Bool) (xs : List ℕ) → length (filter (λ x. not (p x)) xs) + length (filter p xs) ≡ length xs
parts_len p [] = refl
parts_len p (x ∷ xs) = len_parts (p x) x (filter (λ y. not (p y)) xs) (filter p xs) xs (parts_len p xs)

pass_more : (b rest : Bool) (x : ℕ) (xs : List ℕ) → (rest ≡ false → 1 ≤ length xs) → (not b && rest) ≡ false → 1 ≤ length (if b then x ∷ xs else xs)
pass_more true rest x xs go h = omega arith
pass_more false rest x xs go h = go h

fail_more : (b rest : Bool) (x : ℕ) (xs : List ℕ) → (rest ≡ false → 1 ≤ length xs) → (b && rest) ≡ false → 1 ≤ length (if not b then x ∷ xs else xs)
fail_more true rest x xs go h = go h
fail_more false rest x xs go h = omega arith

-- where not all lack it, some have it
some_pass : (p : ℕ → Bool) (xs : List ℕ) → list_all (λ x. not (p x)) xs ≡ false → 1 ≤ length (filter p xs)
some_pass p [] e = absurd cc
some_pass p (x ∷ xs) e = pass_more (p x) (list_all (λ y. not (p y)) xs) x (filter p xs) (some_pass p xs) e

some_fail : (p : ℕ → Bool) (xs : List ℕ) → list_all p xs ≡ false → 1 ≤ length (filter (λ x. not (p x)) xs)
some_fail p [] e = absurd cc
some_fail p (x ∷ xs) e = fail_more (p x) (list_all p xs) x (filter (λ y. not (p y)) xs) (some_fail p xs) e

pub record Parts (b : ℕ) (xs : List ℕ) : Type 0 where
  pub without : 1 ≤ length (filter (lacks_bit b) xs)
  pub having : 1 ≤ length (filter (has_bit b) xs)
  pub whole : length (filter (lacks_bit b) xs) + length (filter (has_bit b) xs) ≡ length xs

pub parts : (b : ℕ) (xs : List ℕ) → are_alike b xs ≡ false → Parts b xs
parts b xs e =
    let p = or_both_false (list_all (has_bit b) xs) (list_all (lacks_bit b) xs) e in
    record { without = some_fail (has_bit b) xs p.0; having = some_pass (has_bit b) xs p.1; whole = parts_len (has_bit b) xs }

-- ---- one bit less

pub pick : {A : Type 0} (b : Bool) (x y : A) → b ≡ true → (if b then x else y) ≡ x
pick true x y e = refl
pick false x y e = absurd cc

pub pass : {A : Type 0} (b : Bool) (x y : A) → b ≡ false → (if b then x else y) ≡ y
pass true x y e = absurd cc
pass false x y e = refl

pub alike_more : (rs b shifted at : ℕ) (xs : List ℕ) → are_alike b xs ≡ true → tree rs (suc b) shifted at xs ≡ tree rs b shifted at xs
unfolding tree
alike_more rs b shifted at xs e = pick (are_alike b xs) (tree rs b shifted at xs) _ e

pub tree_alike : (rs bits shifted at : ℕ) (xs : List ℕ) → 1 ≤ bits → are_alike (bits - 1) xs ≡ true → tree rs bits shifted at xs ≡ tree rs (bits - 1) shifted at xs
tree_alike rs bits shifted at xs some e =
    let same : suc (bits - 1) ≡ bits = omega (arith, some) in
    let P : ℕ → Type 0 = λ n. tree rs n shifted at xs ≡ tree rs (bits - 1) shifted at xs in
    subst P same (alike_more rs (bits - 1) shifted at xs e)

pub forks_more : (rs b shifted at : ℕ) (xs : List ℕ) → are_alike b xs ≡ false →
    tree rs (suc b) shifted at xs ≡ fork rs (31 - b - shifted) (tree rs b (31 - b) (at + 8) (filter (lacks_bit b) xs))
    (tree rs b (31 - b) (at + 8 + 4 * length (tree rs b (31 - b) (at + 8) (filter (lacks_bit b) xs))) (filter (has_bit b) xs))
unfolding tree
forks_more rs b shifted at xs e = pass (are_alike b xs) (tree rs b shifted at xs) _ e

forks_as : (rs b shifted shift at at2 : ℕ) (xs : List ℕ) (first second : List Instr) → are_alike b xs ≡ false → shift ≡ 31 - b - shifted →
    first ≡ tree rs b (31 - b) (at + 8) (filter (lacks_bit b) xs) → at2 ≡ at + 8 + 4 * length first →
    second ≡ tree rs b (31 - b) at2 (filter (has_bit b) xs) → tree rs (suc b) shifted at xs ≡ fork rs shift first second
forks_as rs b shifted shift at at2 xs first second e s f a g =
    forks_more rs b shifted at xs e
    ∙ (ap (λ (t : List Instr). fork rs (31 - b - shifted) t (tree rs b (31 - b) (at + 8 + 4 * length t) (filter (has_bit b) xs))) (sym f)
    ∙ (ap (λ (n : ℕ). fork rs (31 - b - shifted) first (tree rs b (31 - b) n (filter (has_bit b) xs))) (sym a)
    ∙ (ap (λ (t : List Instr). fork rs (31 - b - shifted) first t) (sym g)
    ∙ ap (λ (k : ℕ). fork rs k first second) (sym s))))

pub tree_forks : (rs bits shifted shift at at2 : ℕ) (xs : List ℕ) (first second : List Instr) → 1 ≤ bits → are_alike (bits - 1) xs ≡ false → shift ≡ 31 - (bits - 1) - shifted →
    first ≡ tree rs (bits - 1) (31 - (bits - 1)) (at + 8) (filter (lacks_bit (bits - 1)) xs) → at2 ≡ at + 8 + 4 * length first →
    second ≡ tree rs (bits - 1) (31 - (bits - 1)) at2 (filter (has_bit (bits - 1)) xs) → tree rs bits shifted at xs ≡ fork rs shift first second
tree_forks rs bits shifted shift at at2 xs first second some e s f a g =
    let same : suc (bits - 1) ≡ bits = omega (arith, some) in
    let P : ℕ → Type 0 = λ n. tree rs n shifted at xs ≡ fork rs shift first second in
    subst P same (forks_as rs (bits - 1) shifted shift at at2 xs first second e s f a g)

pub depth_more : (b : ℕ) (xs : List ℕ) → are_alike b xs ≡ true → tree_depth (suc b) xs ≡ tree_depth b xs
unfolding tree_depth
depth_more b xs e = pick (are_alike b xs) (tree_depth b xs) _ e

pub depth_forks : (b : ℕ) (xs : List ℕ) → are_alike b xs ≡ false → tree_depth (suc b) xs ≡ 1 + max (tree_depth b (filter (lacks_bit b) xs)) (tree_depth b (filter (has_bit b) xs))
unfolding tree_depth
depth_forks b xs e = pass (are_alike b xs) (tree_depth b xs) _ e

pub depth_alike : (bits : ℕ) (xs : List ℕ) → 1 ≤ bits → are_alike (bits - 1) xs ≡ true → tree_depth bits xs ≡ tree_depth (bits - 1) xs
depth_alike bits xs some e =
    let same : suc (bits - 1) ≡ bits = omega (arith, some) in
    let P : ℕ → Type 0 = λ n. tree_depth n xs ≡ tree_depth (bits - 1) xs in
    subst P same (depth_more (bits - 1) xs e)

-- ---- lengths

pub fork_len : (rs shift : ℕ) (first second : List Instr) → length (fork rs shift first second) ≡ 2 + length first + length second
fork_len rs shift first second = let h = length-append first second in omega (arith, h)

pub ok_short : {C E : Type 0} (items : C → List Instr) (r : Result C E) (xs : List Instr) (n : ℕ) → IfOk r (λ c. items c ≡ xs) → length xs + 2 ≤ n → IfOk r (λ c. length (items c) + 2 ≤ n)
ok_short items (Ok c) xs n e le = let P : List Instr → Type 0 = λ ys. length ys + 2 ≤ n in subst P (sym e) le
ok_short items (Err e) xs n h le = tt
