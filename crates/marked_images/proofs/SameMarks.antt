-- Marks that are the same take the same jumps.
use Rattle.std.proofs.Common.{◌≡◌, ℕ, zero, suc, ◌<◌, Bool, cond, List, refl, ap, ◌∙◌, arith}
use Rattle.std.specs.Prelude.{◌&&◌, ◌||◌, nat_eq}
use Rattle.cost_theory.specs.Graph.{Graph, any_below}
use Rattle.scale_base.specs.declared.fragments.Mark.{Mark}
use Rattle.scale_sites.specs.Weights.{some_mark, jumps_of}

any_same : (n : ℕ) (p q : ℕ → Bool) → ((k : ℕ) → k < n → p k ≡ q k) → any_below n p ≡ any_below n q
any_same zero p q h = refl
any_same (suc n) p q h = ap (λ b. b || p n) (any_same n p q (λ k lt. h k (omega arith))) ∙ ap (λ b. any_below n q || b) (h n (omega arith))

pub jumps_same : (g : Graph) (branch : ℕ → Bool) (one other : ℕ → List Mark) (e : ℕ) → ((d : ℕ) → d < g.edges → one d ≡ other d) → jumps_of g branch one e ≡ jumps_of g branch other e
jumps_same g branch one other e same =
    ap (λ b. cond b (cond (branch e) 2 1) 0) (any_same g.edges (λ d. nat_eq (g.source d) (g.source e) && some_mark (one d)) (λ d. nat_eq (g.source d) (g.source e) && some_mark (other d)) (λ d lt. ap (λ ms. nat_eq (g.source d) (g.source e) && some_mark ms) (same d lt)))
