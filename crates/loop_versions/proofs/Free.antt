-- Ways by the number of what may stand on them.
use Rattle.std.proofs.Common.{◌≡◌, ℕ, zero, suc, ◌-◌, ◌<◌, List, ap, sym, arith}
use Rattle.std.specs.List.{list_all}
use Rattle.loop_versions.specs.Fitting.{is_free}

pub free_step : (ways : ℕ → List ℕ) (n v : ℕ) → 0 < n → is_free ways n v ≡ list_all (is_free ways (n - 1)) (ways v)
free_step ways zero v some = absurd (omega (arith, some))
free_step ways (suc n) v some = let e : suc n - 1 ≡ n = omega arith in ap (λ k. list_all (is_free ways k) (ways v)) (sym e)
