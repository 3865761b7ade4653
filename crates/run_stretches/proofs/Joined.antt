-- Lists one after another, and the numbers of a run behind them.
use Rattle.std.proofs.Common.{◌≡◌, ℕ, ◌+◌, List, [], ◌∷◌, ◌++◌, length, refl, sym, ap, ◌∙◌, arith, append-nil, add-zero, length-append}
use Rattle.std.specs.List.{fold}
use Rattle.std.proofs.lemmas.List.Sums.{fold-append}
use Rattle.std.proofs.lemmas.Grind.{flat_map-append}
use Rattle.scale_base.specs.declared.stepping.Stepped.{Stepped}
use Rattle.power_model.specs.Numbers.{PowerModel, RunPrice}
use Rattle.power_model.specs.Price.{level_after, metered}
use Rattle.run_stretches.specs.declared.bars.BarEnd.{BarEnd}
use Rattle.run_stretches.specs.Stretches.{joined, level_behind, price_behind, bar_end, bars_from}
use Rattle.run_stretches.specs.Recorded.{longer}

pub joined-append : {A : Type 0} (xs ys : List (List A)) → joined (xs ++ ys) ≡ joined xs ++ joined ys
joined-append xs ys = flat_map-append (λ list. list) xs ys

pub joined-one : {A : Type 0} (xs : List (List A)) (x : List A) → joined (xs ++ x ∷ []) ≡ joined xs ++ x
joined-one {A = A} xs x = joined-append xs (x ∷ []) ∙ ap (λ (l : List A). joined xs ++ l) (append-nil x)

-- the level behind some steps is that of their price
pub level-price : (power : PowerModel) (paid : RunPrice) (steps : List Stepped) → (fold (metered power) paid steps).level ≡ level_behind paid.level steps
level-price power paid [] = refl
level-price power paid (x ∷ xs) = level-price power (metered power paid x) xs

pub steps-price : (power : PowerModel) (paid : RunPrice) (steps : List Stepped) → (fold (metered power) paid steps).steps ≡ paid.steps + length steps
steps-price power paid [] = sym (add-zero paid.steps)
steps-price power paid (x ∷ xs) =
    let more : (fold (metered power) (metered power paid x) xs).steps ≡ (paid.steps + 1) + length xs = steps-price power (metered power paid x) xs in
    more ∙ (let e : (paid.steps + 1) + length xs ≡ paid.steps + length (x ∷ xs) = omega arith in e)

-- the numbers behind more stretches
pub behind-append : (power : PowerModel) (paid : RunPrice) (xs ys : List (List Stepped)) → price_behind power paid (xs ++ ys) ≡ price_behind power (price_behind power paid xs) ys
behind-append power paid xs ys = ap (fold (metered power) paid) (joined-append xs ys) ∙ fold-append (metered power) paid (joined xs) (joined ys)

module _ (power : PowerModel) where
  -- the bars of more groups
  pub bars-append : (paid : RunPrice) (count : ℕ) (gs hs : List (List (List Stepped)))
      → bars_from power paid count (gs ++ hs) ≡ bars_from power paid count gs ++ bars_from power (price_behind power paid (joined gs)) (count + length (joined gs)) hs
  bars-append paid count [] hs = ap (λ k. bars_from power paid k hs) (sym (add-zero count))
  bars-append paid count (g ∷ gs) hs =
      let next : RunPrice = price_behind power paid g in
      let same : price_behind power next (joined gs) ≡ price_behind power paid (g ++ joined gs) = sym (behind-append power paid g (joined gs)) in
      let long : length (g ++ joined gs) ≡ length g + length (joined gs) = length-append g (joined gs) in
      let many : (count + length g) + length (joined gs) ≡ count + length (g ++ joined gs) = omega (arith, long) in
      ap (λ (bars : List BarEnd). bar_end power paid count g ∷ bars)
      (bars-append next (count + length g) gs hs
      ∙ ap (λ (p : RunPrice). bars_from power next (count + length g) gs ++ bars_from power p ((count + length g) + length (joined gs)) hs) same
      ∙ ap (λ (k : ℕ). bars_from power next (count + length g) gs ++ bars_from power (price_behind power paid (g ++ joined gs)) k hs) many)

  -- a bar that stands for more stretches
  pub bar-longer : (paid : RunPrice) (count : ℕ) (g h : List (List Stepped))
      → bar_end power paid count (g ++ h) ≡ longer (bar_end power paid count g) (bar_end power (price_behind power paid g) (count + length g) h)
  bar-longer paid count g h =
      let long : length (g ++ h) ≡ length g + length h = length-append g h in
      let many : count + length (g ++ h) ≡ (count + length g) + length h = omega (arith, long) in
      let made : RunPrice → ℕ → BarEnd = λ p k. record { level = paid.level; time = p.time; energy = p.energy; stretches = k } in
      ap (λ (p : RunPrice). made p (count + length (g ++ h))) (behind-append power paid g h)
      ∙ ap (λ (k : ℕ). made (price_behind power (price_behind power paid g) h) k) many
