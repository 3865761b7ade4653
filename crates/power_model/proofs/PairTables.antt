-- Tables by pair of levels.
use Rattle.std.proofs.Common.{◌≡◌, ℕ, ◌<◌, ◌==◌, false, if◌then◌else◌, [], map, slice_index, ap, ◌∙◌, arith}
use Rattle.std.specs.List.{range_with_len}
use Rattle.std.proofs.lemmas.Bool.Decides.{nat_tests}
use Rattle.std.proofs.lemmas.List.FromFn.{get_or-map-range_with_len}
use Rattle.power_model.specs.Numbers.{PowerModel}
use Rattle.power_model.specs.Pairs.{pair_at, pairs_by, uniform}
use Rattle.power_model.specs.Price.{switch_time}
use Rattle.power_model.specs.declared.power.PairTable.{PairTable}

pub pairs-hold : (f : ℕ → ℕ → ℕ) (i l : ℕ) → i < 8 → l < 8 → pair_at (pairs_by f) i l ≡ f i l
pairs-hold f i l row column =
    ap (λ r. slice_index r l) (get_or-map-range_with_len (λ k. map (f k) (range_with_len 0 8)) 0 8 i i [] row (omega arith))
    ∙ get_or-map-range_with_len (f i) 0 8 l l 0 column (omega arith)

pub one-taken : (power : PowerModel) (n i l : ℕ) → power.switch_time ≡ uniform n → i < 8 → l < 8 → (i ≡ l → ⊥) → switch_time power i l ≡ n
one-taken power n i l is row column apart =
    let other : (i == l) ≡ false = grind (arith, nat_tests) in
    let number : pair_at power.switch_time i l ≡ (if i == l then 0 else n) = ap (λ (t : PairTable). pair_at t i l) is ∙ pairs-hold (λ i l. if i == l then 0 else n) i l row column in
    rw (other, number, other)
