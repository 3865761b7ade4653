-- What a comparison says of a difference of its registers.
use Rattle.std.proofs.Common.{◌≡◌, ℕ, ◌+◌, ◌-◌, ◌*◌, ◌<◌, ◌≤◌, ◌%◌, ◌^◌, true, List, sym, ap, ◌∙◌, subst, arith, Option, Some, None}
use Rattle.std.specs.Prelude.{◌==◌, ◌&&◌, int_lt, nat_lt, min, max, option_map}
use Rattle.std.proofs.lemmas.Bool.{cond_both, and_parts, eqb-true, ltb-true, ltb-false, not-true}
use Rattle.scale_base.specs.declared.instruction.BranchOp.{BranchOp}
use Rattle.scale_base.specs.declared.instruction.BranchOp.TheVariants.{Beq, Bne, Blt, Bge, Bltu, Bgeu}
use Rattle.scale_base.specs.Arith.{plus, signed, is_taken}
use Rattle.scale_base.specs.State.{reg}
use Rattle.bound_laws.specs.Registers.{Measure, measured}
use Rattle.bound_laws.specs.Values.{Arc, IsIn, IsHeld, held, negated, sum_with, Said, Interval, between, biased, view, first_range, second_range, differences, ordered, of_differences, difference_by, is_minus, compared}
use Rattle.bound_laws.proofs.Arcs.{in_arc, in_word, sum_with_in, negated_in, IsBetween}
use Rattle.bound_laws.proofs.Transfers.{seen, seen_in, signed_order, first_between, second_between}

-- ---- differences in the view of a comparison

in_differences : (i j : Interval) (u w : ℕ) → IsBetween i u → IsBetween j w → IsBetween (differences i j) (u + 2 ^ 32 - w)
in_differences i j u w x y = let p = x.0 in let q = x.1 in let r = y.0 in let s = y.1 in (omega arith, omega arith)

same : (d : Interval) (u w : ℕ) → u ≡ w → IsBetween (between (2 ^ 32) (2 ^ 32)) (u + 2 ^ 32 - w)
same d u w e = (omega arith, omega arith)

less : (d : Interval) (u w : ℕ) → u < w → IsBetween d (u + 2 ^ 32 - w) → IsBetween (between d.from (min d.to (2 ^ 32 - 1))) (u + 2 ^ 32 - w)
less d u w lt x = let p = x.0 in let q = x.1 in (p, omega arith)

not_less : (d : Interval) (u w : ℕ) → w ≤ u → IsBetween d (u + 2 ^ 32 - w) → IsBetween (between (max d.from (2 ^ 32)) d.to) (u + 2 ^ 32 - w)
not_less d u w le x = let p = x.0 in let q = x.1 in (omega arith, q)

in_order : (op : BranchOp) (d : Interval) (a b : ℕ) → a < 2 ^ 32 → b < 2 ^ 32 → is_taken op a b ≡ true → IsBetween d (seen op a + 2 ^ 32 - seen op b) → IsBetween (ordered op d) (seen op a + 2 ^ 32 - seen op b)
in_order Beq d a b v w h x = same d a b (eqb-true a b h)
in_order Bne d a b v w h x = x
in_order Blt d a b v w h x = less d (biased a) (biased b) ((signed_order a b v w).0 h) x
in_order Bge d a b v w h x = not_less d (biased a) (biased b) ((signed_order a b v w).1 (not-true (int_lt (signed a) (signed b)) h)) x
in_order Bltu d a b v w h x = less d a b (ltb-true a b h) x
in_order Bgeu d a b v w h x = not_less d a b (ltb-false a b (not-true (nat_lt a b) h)) x

plain_minus : (a b : ℕ) → b < 2 ^ 32 → (a + 2 ^ 32 - b) % 2 ^ 32 ≡ (a + (2 ^ 32 - b)) % 2 ^ 32
plain_minus a b h = omega arith

signed_minus : (a b : ℕ) → a < 2 ^ 32 → b < 2 ^ 32 → ((a + 2 ^ 31) % 2 ^ 32 + 2 ^ 32 - (b + 2 ^ 31) % 2 ^ 32) % 2 ^ 32 ≡ (a + (2 ^ 32 - b)) % 2 ^ 32
signed_minus a b h k = omega arith

seen_minus : (op : BranchOp) (a b : ℕ) → a < 2 ^ 32 → b < 2 ^ 32 → (seen op a + 2 ^ 32 - seen op b) % 2 ^ 32 ≡ (a + (2 ^ 32 - b)) % 2 ^ 32
seen_minus Beq a b v w = plain_minus a b w
seen_minus Bne a b v w = plain_minus a b w
seen_minus Blt a b v w = signed_minus a b v w
seen_minus Bge a b v w = signed_minus a b v w
seen_minus Bltu a b v w = plain_minus a b w
seen_minus Bgeu a b v w = plain_minus a b w

near_from : (from to n : ℕ) → from ≤ n → n ≤ to → (n % 2 ^ 32 + (2 ^ 32 - from % 2 ^ 32)) % 2 ^ 32 ≤ min (to - from) (2 ^ 32 - 1)
near_from from to n a b = omega arith

rest_small : (n : ℕ) → n % 2 ^ 32 < 2 ^ 32
rest_small n = omega arith

of_differences_in : (d : Interval) (n : ℕ) → IsBetween d n → IsIn (of_differences d) (n % 2 ^ 32)
of_differences_in d n x = in_arc (d.from % 2 ^ 32) (min (d.to - d.from) (2 ^ 32 - 1)) (n % 2 ^ 32) (rest_small n) (rest_small d.from) (near_from d.from d.to n x.0 x.1)

minus_in : (op : BranchOp) (i j : Arc) (a b : ℕ) → IsIn i a → IsIn j b → is_taken op a b ≡ true → IsHeld (difference_by op (Some i) (Some j)) ((a + (2 ^ 32 - b)) % 2 ^ 32)
minus_in op i j a b x y h =
    let first : Interval = first_range op (view op i) (view op j) in
    let second : Interval = second_range op (view op i) (view op j) in
    let u = first_between op (view op i) (view op j) a b x.word y.word (seen_in op i a x) (seen_in op j b y) h in
    let w = second_between op (view op i) (view op j) a b x.word y.word (seen_in op i a x) (seen_in op j b y) h in
    let d = in_order op (differences first second) a b x.word y.word h (in_differences first second (seen op a) (seen op b) u w) in
    subst (λ n. IsIn (of_differences (ordered op (differences first second))) n) (seen_minus op a b x.word y.word)
    (of_differences_in (ordered op (differences first second)) (seen op a + 2 ^ 32 - seen op b) d)

-- ---- of a measure

straight_is : (s a b : ℕ) → b < 2 ^ 32 → plus ((a + (2 ^ 32 - b)) % 2 ^ 32) s ≡ (s + 1 * a + (2 ^ 32 - 1) * b) % 2 ^ 32
straight_is s a b h = omega arith

turned_is : (s a b : ℕ) → a < 2 ^ 32 → b < 2 ^ 32 → plus ((2 ^ 32 - (a + (2 ^ 32 - b)) % 2 ^ 32) % 2 ^ 32) s ≡ (s + 1 * b + (2 ^ 32 - 1) * a) % 2 ^ 32
turned_is s a b h k = omega arith

straight_in : (op : BranchOp) (i j : Option Arc) (s a b : ℕ) → IsHeld i a → IsHeld j b → is_taken op a b ≡ true → IsHeld (sum_with (difference_by op i j) s) ((s + 1 * a + (2 ^ 32 - 1) * b) % 2 ^ 32)
straight_in op None j s a b x y h = in_word ((s + 1 * a + (2 ^ 32 - 1) * b) % 2 ^ 32) (rest_small (s + 1 * a + (2 ^ 32 - 1) * b))
straight_in op (Some i) None s a b x y h = in_word ((s + 1 * a + (2 ^ 32 - 1) * b) % 2 ^ 32) (rest_small (s + 1 * a + (2 ^ 32 - 1) * b))
straight_in op (Some i) (Some j) s a b x y h =
    subst (λ n. IsHeld (sum_with (difference_by op (Some i) (Some j)) s) n) (straight_is s a b y.word)
    (sum_with_in (difference_by op (Some i) (Some j)) s ((a + (2 ^ 32 - b)) % 2 ^ 32) (minus_in op i j a b x y h))

turned_in : (op : BranchOp) (i j : Option Arc) (s a b : ℕ) → IsHeld i a → IsHeld j b → is_taken op a b ≡ true → IsHeld (sum_with (option_map negated (difference_by op i j)) s) ((s + 1 * b + (2 ^ 32 - 1) * a) % 2 ^ 32)
turned_in op None j s a b x y h = in_word ((s + 1 * b + (2 ^ 32 - 1) * a) % 2 ^ 32) (rest_small (s + 1 * b + (2 ^ 32 - 1) * a))
turned_in op (Some i) None s a b x y h = in_word ((s + 1 * b + (2 ^ 32 - 1) * a) % 2 ^ 32) (rest_small (s + 1 * b + (2 ^ 32 - 1) * a))
turned_in op (Some i) (Some j) s a b x y h =
    let d : Arc = of_differences (ordered op (differences (first_range op (view op i) (view op j)) (second_range op (view op i) (view op j)))) in
    subst (λ n. IsHeld (sum_with (Some (negated d)) s) n) (turned_is s a b x.word y.word)
    (sum_with_in (Some (negated d)) s ((2 ^ 32 - (a + (2 ^ 32 - b)) % 2 ^ 32) % 2 ^ 32) (negated_in d ((a + (2 ^ 32 - b)) % 2 ^ 32) (minus_in op i j a b x y h)))

measured_minus : (m : Measure) (r q : ℕ) (regs : List ℕ) → is_minus m r q ≡ true → measured m regs ≡ (m.shift + 1 * reg regs r + (2 ^ 32 - 1) * reg regs q) % 2 ^ 32
measured_minus m r q regs h =
    let p = and_parts ((m.register == r) && (m.factor == 1)) ((m.other == q) && (m.other_factor == 2 ^ 32 - 1)) h in
    let x = and_parts (m.register == r) (m.factor == 1) p.0 in
    let y = and_parts (m.other == q) (m.other_factor == 2 ^ 32 - 1) p.1 in
    ap (λ n. (m.shift + m.factor * reg regs n + m.other_factor * reg regs m.other) % 2 ^ 32) (eqb-true m.register r x.0)
    ∙ (ap (λ n. (m.shift + n * reg regs r + m.other_factor * reg regs m.other) % 2 ^ 32) (eqb-true m.factor 1 x.1)
    ∙ (ap (λ n. (m.shift + 1 * reg regs r + m.other_factor * reg regs n) % 2 ^ 32) (eqb-true m.other q y.0)
    ∙ ap (λ n. (m.shift + 1 * reg regs r + n * reg regs q) % 2 ^ 32) (eqb-true m.other_factor (2 ^ 32 - 1) y.1)))

pub compared_in : (x : Said) (m : Measure) (at : ℕ → Option Arc) (regs : List ℕ) → ((r : ℕ) → IsHeld (held at r) (reg regs r)) → is_taken x.op (reg regs x.first) (reg regs x.second) ≡ true → IsHeld (compared (Some x) m at) (measured m regs)
compared_in x m at regs are so =
    let i : Option Arc = held at x.first in
    let j : Option Arc = held at x.second in
    let a : ℕ = reg regs x.first in
    let b : ℕ = reg regs x.second in
    cond_both (is_minus m x.first x.second) _ _ (λ k. IsHeld k (measured m regs))
    (λ h. subst (λ n. IsHeld (sum_with (difference_by x.op i j) m.shift) n) (sym (measured_minus m x.first x.second regs h)) (straight_in x.op i j m.shift a b (are x.first) (are x.second) so))
    (λ _. cond_both (is_minus m x.second x.first) _ _ (λ k. IsHeld k (measured m regs))
    (λ h. subst (λ n. IsHeld (sum_with (option_map negated (difference_by x.op i j)) m.shift) n) (sym (measured_minus m x.second x.first regs h)) (turned_in x.op i j m.shift a b (are x.first) (are x.second) so))
    (λ _. tt))
