-- What holds of each register below a number, and of it, and what holds of each word up to a row's end, and of each line of one.
use Rattle.std.proofs.Common.{◌≡◌, ◌<◌, ◌≤◌, ◌+◌, ◌⊎◌, ℕ, List, length, get_or, ⊎_elim, subst, sym, ◌∙◌, arith}
use Rattle.std.proofs.lemmas.List.{get_or_default}
use Rattle.bound_laws.specs.Values.{IsRegister}
use Rattle.flow_graph.proofs.Laws.{less_same_more}
use Rattle.value_checks.specs.declared.tables.Line.{Line}

pub register_more : (P : ℕ → Type 0) (n : ℕ) → ((r : ℕ) → IsRegister r → r < n → P r) → P n → (r : ℕ) → IsRegister r → r < n + 1 → P r
register_more P n below here r register lt = ⊎_elim
    (λ (before : r < n). below r register before)
    (λ (rest : (r ≡ n) ⊎ (n < r)). ⊎_elim
    (λ (same : r ≡ n). subst P (sym same) here)
    (λ (after : n < r). let bad : ⊥ = omega (arith, lt, after) in absurd bad)
    rest)
    (less_same_more r n)

pub each_register : (P : ℕ → Type 0) (n : ℕ) → 32 ≤ n → ((r : ℕ) → IsRegister r → r < n → P r) → (r : ℕ) → IsRegister r → P r
each_register P n enough below r register = below r register (let small : r < 32 = register.1 in omega (arith, enough, small))

pub each_word : (P : ℕ → Type 0) (n count : ℕ) → count ≤ n → ((j : ℕ) → j < n → P j) → ((j : ℕ) → count ≤ j → P j) → (j : ℕ) → P j
each_word P n count enough below behind j = ⊎_elim
    (λ (before : j < n). below j before)
    (λ (rest : (j ≡ n) ⊎ (n < j)). behind j (⊎_elim (λ (same : j ≡ n). omega (arith, same, enough)) (λ (after : n < j). omega (arith, after, enough)) rest))
    (less_same_more j n)

-- of each line up to a place, and of the one there
pub line_so_far : (P : ℕ → Type 0) (xs : List Line) (n : ℕ) (x : Line) → n < length xs → x ≡ get_or xs n x → P x.form → ((i : ℕ) (other : Line) → i < n → P (get_or xs i other).form) → (i : ℕ) (other : Line) → i < n + 1 → P (get_or xs i other).form
line_so_far P xs n x within is here before i other lt = ⊎_elim
    (λ (less : i < n). before i other less)
    (λ (rest : (i ≡ n) ⊎ (n < i)). ⊎_elim
    (λ (same : i ≡ n). subst (λ (k : ℕ). P (get_or xs k other).form) (sym same) (subst (λ (y : Line). P y.form) (is ∙ get_or_default xs n x other within) here))
    (λ (after : n < i). let bad : ⊥ = omega (arith, lt, after) in absurd bad)
    rest)
    (less_same_more i n)
