-- No split takes less than the bound.
use Rattle.std.proofs.Common.{◌≡◌, ℕ, ◌+◌, ◌-◌, ◌*◌, ◌≤◌, List, [], ◌∷◌, length, map, sym, subst, arith}
use Rattle.std.specs.Prelude.{min, max, fold, sum}
use Rattle.std.specs.List.{All, range_with_len}
use Rattle.std.proofs.lemmas.List.Elements.{All-nil, All-cons, All-head, All-tail}
use Rattle.std.proofs.lemmas.List.Sums.{sum_by-cons}
use Rattle.std.proofs.Math.Nat.{add-mul, mul-add, mul-le-mul_left, mul_left_comm, min-le_left, min-le_right, max-le, div-le_of_le-mul}
use Rattle.power_model.specs.declared.power.Level.{Level}
use Rattle.power_model.specs.Levels.{level}
use Rattle.power_model.specs.Numbers.{PowerModel}
use Rattle.pace_fit.specs.Least.{IsSplit, split_energy, weighed, rate, least_rate, bound_at, bound_with, pair_bound, greatest, least_energy}

through : (x y z : ℕ) → x ≤ y → y ≤ z → x ≤ z
through x y z h h' = omega (arith, h, h')

-- ---- the least rate is that of no level

module _ (f : Level → ℕ) where
  abbrev lowest : ℕ → List Level → ℕ
  lowest m levels = fold (λ n l. min n (f l)) m levels

  pub lowest_start : (m : ℕ) (levels : List Level) → lowest m levels ≤ m
  lowest_start m [] = omega arith
  lowest_start m (l ∷ levels) = through (lowest (min m (f l)) levels) (min m (f l)) m (lowest_start (min m (f l)) levels) (min-le_left m (f l))

  pub lowest_each : (m : ℕ) (levels : List Level) → All (λ l. lowest m levels ≤ f l) levels
  lowest_each m levels = go m levels (lowest m levels) (omega arith)
    where
      go : (m : ℕ) (levels : List Level) (x : ℕ) → x ≤ lowest m levels → All (λ l. x ≤ f l) levels
      go m [] x le = All-nil (λ l. x ≤ f l)
      go m (l ∷ levels) x le = All-cons (λ l. x ≤ f l) l levels
          (through x (min m (f l)) (f l) (through x (lowest (min m (f l)) levels) (min m (f l)) le (lowest_start (min m (f l)) levels)) (min-le_right m (f l)))
          (go (min m (f l)) levels x le)

-- ---- a split at a price

-- one level more
level_more : (m a b n total energy period times works : ℕ) → m ≤ b * energy + a * period → total * m ≤ b * works + a * times → (n + total) * m ≤ b * (n * energy + works) + a * (n * period + times)
level_more m a b n total energy period times works h ih =
    let all : (n + total) * m ≡ n * m + total * m = add-mul n total m in
    let one : n * m ≤ n * (b * energy + a * period) = mul-le-mul_left n h in
    let parts : n * (b * energy + a * period) ≡ n * (b * energy) + n * (a * period) = mul-add n (b * energy) (a * period) in
    let work : n * (b * energy) ≡ b * (n * energy) = mul_left_comm n b energy in
    let time : n * (a * period) ≡ a * (n * period) = mul_left_comm n a period in
    let left : b * (n * energy + works) ≡ b * (n * energy) + b * works = mul-add b (n * energy) works in
    let right : a * (n * period + times) ≡ a * (n * period) + a * times = mul-add a (n * period) times in
    omega (arith, all, one, parts, work, time, left, right, ih)

pub split_at : (m a b : ℕ) (levels : List Level) (split : List ℕ) → All (λ l. m ≤ rate a b l) levels → length split ≡ length levels →
    sum split * m ≤ b * weighed (λ l. l.energy) levels split + a * weighed (λ l. l.period) levels split
split_at m a b [] [] h e = let none : 0 * m ≡ 0 = omega arith in omega (arith, none)
split_at m a b [] (n ∷ split) h e = absurd (omega (arith, e))
split_at m a b (l ∷ levels) [] h e = absurd (omega (arith, e))
split_at m a b (l ∷ levels) (n ∷ split) h e =
    let more : sum (n ∷ split) ≡ n + sum split = sum_by-cons (λ x. x) n split in
    subst (λ s. s * m ≤ b * weighed (λ l. l.energy) (l ∷ levels) (n ∷ split) + a * weighed (λ l. l.period) (l ∷ levels) (n ∷ split)) (sym more)
    (level_more m a b n (sum split) l.energy l.period (weighed (λ l. l.period) levels split) (weighed (λ l. l.energy) levels split) (All-head (λ l. m ≤ rate a b l) l levels h)
    (split_at m a b levels split (All-tail (λ l. m ≤ rate a b l) l levels h) (omega (arith, e))))

module _ (power : PowerModel) (cycles : ℕ) (split : List ℕ) (is : IsSplit power cycles split) where
  paid_for : (a b works times : ℕ) → cycles * least_rate power.levels a b ≤ b * works + a * times → times ≤ power.deadline → cycles * least_rate power.levels a b - a * power.deadline ≤ b * works
  paid_for a b works times h le =
      let most : a * times ≤ a * power.deadline = mul-le-mul_left a le in
      omega (arith, h, most)

  pub bound_below : (a b : ℕ) → bound_at power cycles a b ≤ split_energy power split
  bound_below a b =
      let m = least_rate power.levels a b in
      let paid = split_at m a b power.levels split (lowest_each (rate a b) (rate a b (level power.levels 0)) power.levels) is.size in
      let whole = subst (λ n. n * m ≤ b * weighed (λ l. l.energy) power.levels split + a * weighed (λ l. l.period) power.levels split) is.all paid in
      div-le_of_le-mul b (paid_for a b (split_energy power split) (weighed (λ l. l.period) power.levels split) whole is.in_time)

-- ---- the greatest of them

greatest_below : (f : ℕ → ℕ) (energy m : ℕ) (ns : List ℕ) → m ≤ energy → ((n : ℕ) → f n ≤ energy) → greatest m (map f ns) ≤ energy
greatest_below f energy m [] h each = h
greatest_below f energy m (n ∷ ns) h each = greatest_below f energy (max m (f n)) ns (max-le h (each n)) each

pub least_below : (power : PowerModel) (cycles : ℕ) (split : List ℕ) → IsSplit power cycles split → least_energy power cycles ≤ split_energy power split
unfolding least_energy
least_below power cycles split is =
    let energy = split_energy power split in
    greatest_below (bound_with power cycles) energy (bound_at power cycles 0 1) (range_with_len 0 (length power.levels)) (bound_below power cycles split is 0 1) (λ j.
    let some : 0 ≤ energy = omega arith in
    greatest_below (λ i. pair_bound power cycles i j) energy 0 (range_with_len 0 j) some (λ i. bound_below power cycles split is _ _))
