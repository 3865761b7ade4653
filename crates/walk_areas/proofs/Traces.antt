-- What instructions make of values that depend on two numbers.
use Rattle.std.proofs.Common.{◌≡◌, ℕ, ◌+◌, ◌*◌, ◌%◌, ◌^◌, sym, ap, ◌∙◌, arith, Option, Some, None}
use Rattle.std.proofs.lemmas.Nat.{mul-mod_second}
use Rattle.std.proofs.Math.Nat.{add-mod-mod, add-mul, mul-add, mul_assoc}
use Rattle.scale_base.specs.Arith.{plus}
use Rattle.bound_laws.specs.Values.{Arc, IsHeld, strided}
use Rattle.bound_laws.proofs.Laws.{in_covers, in_exactly, scaled_in, sum_in, sum_with_in}
use Rattle.walk_areas.specs.Walking.{Trace, traced, IsTraced, IsWider, moved_by_number, sum_of_both, multiplied, by_interval, trace_or}

pub wider_in : (b z : Option Trace) (x y n : ℕ) → IsTraced z x y n → IsWider b z → IsTraced b x y n
wider_in None z x y n h q = tt
wider_in (Some s) None x y n h q = absurd q
wider_in (Some s) (Some z) x y n h q = (
  h.0,
  in_covers z.more s.more h.0 h.1 q.2,
  h.2 ∙ (ap (λ f. (f * x + z.seconds * y + h.0) % 2 ^ 32) (sym q.0) ∙ ap (λ f. (s.firsts * x + f * y + h.0) % 2 ^ 32) (sym q.1)),
)

pub same_in : (z : Option Trace) (x y n m : ℕ) → n % 2 ^ 32 ≡ m % 2 ^ 32 → IsTraced z x y n → IsTraced z x y m
same_in None x y n m e h = tt
same_in (Some s) x y n m e h = (h.0, h.1, sym e ∙ h.2)

one_more : (n f d k : ℕ) → n % 2 ^ 32 ≡ (f + d) % 2 ^ 32 → plus n k % 2 ^ 32 ≡ (f + plus d k) % 2 ^ 32
one_more n f d k e = omega arith

pub number_in : (z : Option Trace) (x y n k : ℕ) → IsTraced z x y n → IsTraced (moved_by_number z k) x y (plus n k)
number_in None x y n k h = tt
number_in (Some s) x y n k h = (plus h.0 k, sum_with_in s.more k h.0 h.1, one_more n (s.firsts * x + s.seconds * y) h.0 k h.2)

both_more : (n m f g d e : ℕ) → n % 2 ^ 32 ≡ (f + d) % 2 ^ 32 → m % 2 ^ 32 ≡ (g + e) % 2 ^ 32 → plus n m % 2 ^ 32 ≡ (f + g + plus d e) % 2 ^ 32
both_more n m f g d e a b = omega arith

four : (a b p q x y : ℕ) → (a * x + b * y) + (p * x + q * y) ≡ (a + p) * x + (b + q) * y
four a b p q x y =
    let e : (a + p) * x ≡ a * x + p * x = add-mul a p x in
    let f : (b + q) * y ≡ b * y + q * y = add-mul b q y in
    omega arith

pub both_in : (z u : Option Trace) (x y n m : ℕ) → IsTraced z x y n → IsTraced u x y m → IsTraced (sum_of_both z u) x y (plus n m)
both_in None u x y n m h k = tt
both_in (Some s) None x y n m h k = tt
both_in (Some s) (Some z) x y n m h k = (
  plus h.0 k.0,
  sum_in s.more z.more h.0 k.0 h.1 k.1,
  both_more n m (s.firsts * x + s.seconds * y) (z.firsts * x + z.seconds * y) h.0 k.0 h.2 k.2
      ∙ ap (λ f. (f + plus h.0 k.0) % 2 ^ 32) (four s.firsts s.seconds z.firsts z.seconds x y),
)

twice : (n : ℕ) → n % 2 ^ 32 % 2 ^ 32 ≡ n % 2 ^ 32
twice n = omega arith

times_two : (k a b x y : ℕ) → k * (a * x + b * y) ≡ k * a * x + k * b * y
times_two k a b x y =
    mul-add k (a * x) (b * y)
    ∙ (ap (λ n. n + k * (b * y)) (sym (mul_assoc k a x)) ∙ ap (λ n. k * a * x + n) (sym (mul_assoc k b y)))

times_more : (k n f d : ℕ) → n % 2 ^ 32 ≡ (f + d) % 2 ^ 32 → k * n % 2 ^ 32 % 2 ^ 32 ≡ (k * f + k * d % 2 ^ 32) % 2 ^ 32
times_more k n f d e =
    twice (k * n)
    ∙ (sym (mul-mod_second k n (2 ^ 32))
    ∙ (ap (λ m. k * m % 2 ^ 32) e
    ∙ (mul-mod_second k (f + d) (2 ^ 32)
    ∙ (ap (λ m. m % 2 ^ 32) (mul-add k f d) ∙ sym (add-mod-mod (k * f) (k * d) (2 ^ 32))))))

pub times_in : (z : Option Trace) (x y n k : ℕ) → IsTraced z x y n → IsTraced (multiplied z k) x y (k * n % 2 ^ 32)
times_in None x y n k h = tt
times_in (Some s) x y n k h = (
  k * h.0 % 2 ^ 32,
  scaled_in k s.more h.0 h.1,
  times_more k n (s.firsts * x + s.seconds * y) h.0 h.2 ∙ ap (λ f. (f + k * h.0 % 2 ^ 32) % 2 ^ 32) (times_two k s.firsts s.seconds x y),
)

alone : (x y n : ℕ) → n % 2 ^ 32 ≡ (0 * x + 0 * y + n) % 2 ^ 32
alone x y n = omega arith

interval_in : (i : Option Arc) (x y n : ℕ) → IsHeld i n → IsTraced (by_interval i) x y n
interval_in None x y n h = tt
interval_in (Some i) x y n h = (n, h, alone x y n)

pub or_in : (z : Option Trace) (i : Option Arc) (x y n : ℕ) → IsTraced z x y n → IsHeld i n → IsTraced (trace_or z i) x y n
or_in None i x y n h k = interval_in i x y n k
or_in (Some s) i x y n h k = h

first_one : (x y n : ℕ) → n % 2 ^ 32 ≡ x → n % 2 ^ 32 ≡ (1 * x + 0 * y + 0) % 2 ^ 32
first_one x y n e = omega arith

second_one : (x y n : ℕ) → n % 2 ^ 32 ≡ y → n % 2 ^ 32 ≡ (0 * x + 1 * y + 0) % 2 ^ 32
second_one x y n e = omega arith

pub first_in : (x y n : ℕ) → n % 2 ^ 32 ≡ x → IsTraced (traced 1 0 (Some (strided 0 0 0))) x y n
first_in x y n e = (0, in_exactly 0, first_one x y n e)

pub second_in : (x y n : ℕ) → n % 2 ^ 32 ≡ y → IsTraced (traced 0 1 (Some (strided 0 0 0))) x y n
second_in x y n e = (0, in_exactly 0, second_one x y n e)
