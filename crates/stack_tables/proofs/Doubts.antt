-- Where none of a list is so, none of it is beside an address.
use Rattle.std.proofs.Common.{◌≡◌, ℕ, suc, Bool, false, true, List, [], ◌∷◌, refl, arith}
use Rattle.std.specs.List.{All}
use Rattle.std.specs.Prelude.{nat_eq, if◌then◌else◌}
use Rattle.value_checks.specs.Tables.{beside}

either_none : (b x rest : Bool) → x ≡ false → rest ≡ false → (if b then x else rest) ≡ false
either_none true x rest first others = first
either_none false x rest first others = others

pub none_beside : (flags : List Bool) (nodes : List ℕ) (a : ℕ) → All (λ is. is ≡ false) flags → beside false nodes flags a ≡ false
none_beside flags [] a none = refl
none_beside [] (u ∷ us) a none = refl
none_beside (x ∷ xs) (u ∷ us) a none =
    either_none (nat_eq u a) x (beside false us xs a) (none 0 x (omega arith)) (none_beside xs us a (λ k other lt. none (suc k) other (omega (arith, lt))))
