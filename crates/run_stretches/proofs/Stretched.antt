-- Stretches that end where the level changes, and steps that keep it.
use Rattle.std.proofs.Common.{◌≡◌, ℕ, List, [], ◌∷◌, ◌++◌, refl, sym, ap, ◌∙◌, subst}
use Rattle.std.proofs.lemmas.List.Sums.{fold-append}
use Rattle.scale_base.specs.declared.stepping.Stepped.{Stepped}
use Rattle.power_model.specs.Price.{level_after}
use Rattle.run_stretches.specs.Stretches.{joined, level_behind, IsStretch, AreStretchesFrom}

-- steps that leave the level as it is
abbrev pub Stays : ℕ → List Stepped → Type 0
Stays level [] = Unit {0}
Stays level (x ∷ xs) = (level_after level x ≡ level) × Stays level xs

-- stretches behind each of which the level changes
abbrev pub AreShut : ℕ → List (List Stepped) → Type 0
AreShut level [] = Unit {0}
AreShut level (s ∷ ss) = IsStretch level s × (level_behind level s ≡ level → ⊥) × AreShut (level_behind level s) ss

pub stays_behind : (level : ℕ) (xs : List Stepped) → Stays level xs → level_behind level xs ≡ level
stays_behind level [] h = refl
stays_behind level (x ∷ xs) h = ap (λ l. level_behind l xs) h.0 ∙ stays_behind level xs h.1

pub stays_more : (level : ℕ) (xs : List Stepped) (x : Stepped) → Stays level xs → level_after level x ≡ level → Stays level (xs ++ x ∷ [])
stays_more level [] x h e = (e, tt)
stays_more level (y ∷ ys) x h e = (h.0, stays_more level ys x h.1 e)

-- steps that stay, and one more, are a stretch
pub stretch_more : (level : ℕ) (xs : List Stepped) (x : Stepped) → Stays level xs → IsStretch level (xs ++ x ∷ [])
stretch_more level [] x h = tt
stretch_more level (y ∷ []) x h = (h.0, tt)
stretch_more level (y ∷ z ∷ zs) x h = (h.0, stretch_more level (z ∷ zs) x h.1)

pub stretch_stays : (level : ℕ) (x : Stepped) (xs : List Stepped) → Stays level (x ∷ xs) → IsStretch level (x ∷ xs)
stretch_stays level x [] h = tt
stretch_stays level x (y ∷ ys) h = (h.0, stretch_stays level y ys h.1)

pub behind_append : (level : ℕ) (xs ys : List Stepped) → level_behind level (xs ++ ys) ≡ level_behind (level_behind level xs) ys
behind_append level xs ys = fold-append level_after level xs ys

-- one more
pub shut_more : (level : ℕ) (ss : List (List Stepped)) (s : List Stepped) → AreShut level ss → IsStretch (level_behind level (joined ss)) s
    → (level_behind (level_behind level (joined ss)) s ≡ level_behind level (joined ss) → ⊥) → AreShut level (ss ++ s ∷ [])
shut_more level [] s are is change = (is, change, tt)
shut_more level (t ∷ ts) s are is change =
    let e : level_behind level (joined (t ∷ ts)) ≡ level_behind (level_behind level t) (joined ts) = behind_append level t (joined ts) in (
      are.0,
      are.1,
      shut_more (level_behind level t) ts s are.2 (subst (λ l. IsStretch l s) e is) (subst (λ l. level_behind l s ≡ l → ⊥) e change),
    )

-- they are stretches, alone and with one more behind them
pub shut_stretches : (level : ℕ) (ss : List (List Stepped)) → AreShut level ss → AreStretchesFrom level ss
shut_stretches level [] are = tt
shut_stretches level (s ∷ []) are = are.0
shut_stretches level (s ∷ t ∷ ts) are = (are.0, are.1, shut_stretches (level_behind level s) (t ∷ ts) are.2)

pub shut_and_last : (level : ℕ) (ss : List (List Stepped)) (s : List Stepped) → AreShut level ss → IsStretch (level_behind level (joined ss)) s → AreStretchesFrom level (ss ++ s ∷ [])
shut_and_last level [] s are is = is
shut_and_last level (t ∷ []) s are is =
    (are.0, are.1, subst (λ l. IsStretch l s) (behind_append level t []) is)
shut_and_last level (t ∷ u ∷ us) s are is =
    (are.0, are.1, shut_and_last (level_behind level t) (u ∷ us) s are.2 (subst (λ l. IsStretch l s) (behind_append level t (joined (u ∷ us))) is))
