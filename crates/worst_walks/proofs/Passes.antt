-- Tables that passes fill: one more item, one more cost, one more edge that is taken.
use Rattle.std.proofs.Common.{◌≡◌, ℕ, zero, suc, ◌+◌, ◌*◌, ◌-◌, ◌<◌, ◌≤◌, Bool, true, false, nat_eq, List, [], ◌∷◌, ◌++◌, length, get_or, take, Vec, refl, sym, ap, ap₂, ◌∙◌, subst, arith, add-one, length-append, ⊎_elim, eqb-true, eq-eqb}
use Rattle.std.proofs.lemmas.Bool.{cases_lt}
use Rattle.std.proofs.lemmas.List.{get_or_append_left}
use Rattle.std.proofs.Math.Seq.{get_or-append_right, take-suc}
use Rattle.cost_theory.specs.Graph.{total, sum_below, only}
use Rattle.cost_theory.specs.Lists.{body_of}
use Rattle.cost_theory.proofs.Laws.{sum-same, sum-none, sum-one}
use Rattle.std.specs.declared.alloc.Global.{Global}
use Rattle.graph_algorithms.specs.Nesting.{bodies_of}
use Rattle.graph_algorithms.specs.Arcs.{number_in_place}
use Rattle.walk_laws.proofs.Laws.{sum-add, total-append, mul-add}
use Rattle.worst_walks.specs.Tallies.{taken_sum, lists_sum}

-- an item is put behind the others
pub placed : {X : Type 0} (P : ℕ → X → Type 0) (none : X) (xs : List X) (x : X) (m : ℕ) → length xs ≡ m →
    ((i : ℕ) → i < m → P i (get_or xs i none)) → P m x → (i : ℕ) → i < m + 1 → P i (get_or (xs ++ x ∷ []) i none)
placed P none xs x m size are this i lt = ⊎_elim
    (λ (low : i < m). subst (P i) (sym (get_or_append_left xs (x ∷ []) none i (let h : i < length xs = omega arith in h))) (are i low))
    (λ (high : m ≤ i).
    let same : i ≡ m = omega arith in
    let at : get_or (xs ++ x ∷ []) i none ≡ get_or (x ∷ []) (i - length xs) none = get_or-append_right xs (x ∷ []) i none (let h : length xs ≤ i = omega arith in h) in
    let first : i - length xs ≡ 0 = omega arith in
    subst (P i) (sym (at ∙ ap (λ j. get_or (x ∷ []) j none) first)) (subst (λ j. P j x) (sym same) this))
    (cases_lt i m)

pub placed_size : {X : Type 0} (xs : List X) (x : X) (m : ℕ) → length xs ≡ m → length (xs ++ x ∷ []) ≡ m + 1
placed_size xs x m size = length-append xs (x ∷ []) ∙ ap (λ n. n + 1) size

-- ---- tallies

pub tally_more : (f : ℕ → ℕ) (e x y : ℕ) → x ≡ sum_below e f → y ≡ x + f e → y ≡ sum_below (e + 1) f
tally_more f e x y before now = now ∙ ap (λ z. z + f e) before ∙ ap (λ n. sum_below n f) (sym (add-one e))

-- ---- taken edges

pub taken_more : (old new : List ℕ) (i times : ℕ) → length new ≡ length old → i < length old →
    ((k : ℕ) → number_in_place new k ≡ number_in_place old k + times * only (nat_eq i k) 1) → (c : ℕ → ℕ) → taken_sum new c ≡ taken_sum old c + times * c i
taken_more old new i times size lt added c =
    ap (λ n. sum_below n (λ e. number_in_place new e * c e)) size ∙
    sum-same (length old) (λ e. number_in_place new e * c e) (λ e. number_in_place old e * c e + times * only (nat_eq i e) 1 * c e)
    (λ e el. ap (λ x. x * c e) (added e) ∙ spread (number_in_place old e) (times * only (nat_eq i e) 1) (c e)) ∙
    sum-add (length old) (λ e. number_in_place old e * c e) (λ e. times * only (nat_eq i e) 1 * c e) ∙
    ap (λ x. taken_sum old c + x)
    (sum-one (length old) (λ e. times * only (nat_eq i e) 1 * c e) i lt (λ k kl ne. other k (nat_eq i k) ne refl) ∙ ap (λ b. times * only b 1 * c i) (eq-eqb i i refl) ∙ ap (λ x. x * c i) (let one : times * 1 ≡ times = omega arith in one))
  where
    spread : (a b d : ℕ) → (a + b) * d ≡ a * d + b * d
    spread a b d = grind arith

    other : (k : ℕ) (b : Bool) → (k ≡ i → ⊥) → nat_eq i k ≡ b → times * only b 1 * c k ≡ 0
    other k false ne is = ap (λ x. x * c k) (let z : times * 0 ≡ 0 = omega arith in z) ∙ (omega arith)
    other k true ne is = absurd (ne (sym (eqb-true i k is)))

pub total_more : (c : ℕ → ℕ) (es : List ℕ) (j e : ℕ) → j < length es → get_or es j 0 ≡ e → total c (take (j + 1) es) ≡ total c (take j es) + c e
total_more c es j e lt at =
    ap (λ n. total c (take n es)) (add-one j) ∙ ap (total c) (take-suc es j 0 lt) ∙ total-append c (take j es) (get_or es j 0 ∷ []) ∙
    ap (λ x. total c (take j es) + x) (let z : c (get_or es j 0) + 0 ≡ c (get_or es j 0) = omega arith in z ∙ ap c at)

pub list_more : (old mid new : List ℕ) (i times j : ℕ) (es : List ℕ) → length new ≡ length mid → i < length mid → j < length es → get_or es j 0 ≡ i →
    ((k : ℕ) → number_in_place new k ≡ number_in_place mid k + times * only (nat_eq i k) 1) →
    ((c : ℕ → ℕ) → taken_sum mid c ≡ taken_sum old c + times * total c (take j es)) → (c : ℕ → ℕ) → taken_sum new c ≡ taken_sum old c + times * total c (take (j + 1) es)
list_more old mid new i times j es size lt jl at added before c =
    let a : taken_sum new c ≡ taken_sum mid c + times * c i = taken_more mid new i times size lt added c in
    let b : taken_sum mid c ≡ taken_sum old c + times * total c (take j es) = before c in
    let d : times * total c (take (j + 1) es) ≡ times * total c (take j es) + times * c i = ap (λ x. times * x) (total_more c es j i jl at) ∙ mul-add times (total c (take j es)) (c i) in
    omega arith

pub lists_more : (lists : List (List ℕ)) (counts old mid new es : List ℕ) (l times : ℕ) → body_of lists l ≡ es → number_in_place counts l ≡ times →
    ((c : ℕ → ℕ) → taken_sum new c ≡ taken_sum mid c + times * total c es) →
    ((c : ℕ → ℕ) → taken_sum mid c ≡ taken_sum old c + lists_sum l lists counts c) → (c : ℕ → ℕ) → taken_sum new c ≡ taken_sum old c + lists_sum (l + 1) lists counts c
lists_more lists counts old mid new es l times at count added before c =
    let a : taken_sum new c ≡ taken_sum mid c + times * total c es = added c in
    let b : taken_sum mid c ≡ taken_sum old c + lists_sum l lists counts c = before c in
    let d : lists_sum (l + 1) lists counts c ≡ lists_sum l lists counts c + number_in_place counts l * total c (body_of lists l) = ap (λ n. lists_sum n lists counts c) (add-one l) in
    let e : number_in_place counts l * total c (body_of lists l) ≡ times * total c es = ap₂ (λ x ys. x * total c ys) count at in
    omega arith

-- ---- lists of lists

pub list_of : (lists : List (Vec ℕ Global)) (l : ℕ) (x : Vec ℕ Global) → l < length lists → x ≡ get_or lists l x → body_of (bodies_of lists) l ≡ x.items
list_of [] l x lt is = let bad : ⊥ = omega arith in absurd bad
list_of (y ∷ ys) zero x lt is = ap (λ (z : Vec ℕ Global). z.items) (sym is)
list_of (y ∷ ys) (suc l) x lt is = list_of ys l x (omega arith) is

pub next_below : (P : ℕ → Type 0) (n : ℕ) → ((k : ℕ) → k < n → P k) → P n → (k : ℕ) → k < n + 1 → P k
next_below P n are this k lt = ⊎_elim (λ (low : k < n). are k low) (λ (high : n ≤ k). subst P (let e : n ≡ k = omega arith in e) this) (cases_lt k n)

-- ---- parts

pub taken_none : (taken : List ℕ) (c : ℕ → ℕ) → ((e : ℕ) → e < length taken → number_in_place taken e ≡ 0) → taken_sum taken c ≡ 0
taken_none taken c none = sum-none (length taken) (λ e. number_in_place taken e * c e) (λ e el. ap (λ x. x * c e) (none e el) ∙ (omega arith))

-- iterations that are gone as often as their entries and their bounds say
pub gone_sum : (n : ℕ) (bound : ℕ → ℕ) (lists : List (List ℕ)) (entries gone : List ℕ) (c : ℕ → ℕ) → ((k : ℕ) → k < n → number_in_place gone k ≡ number_in_place entries k * bound k) →
    lists_sum n lists gone c ≡ sum_below n (λ k. number_in_place entries k * (bound k * total c (body_of lists k)))
gone_sum n bound lists entries gone c is =
    sum-same n (λ k. number_in_place gone k * total c (body_of lists k)) (λ k. number_in_place entries k * (bound k * total c (body_of lists k)))
    (λ k kl. ap (λ x. x * total c (body_of lists k)) (is k kl) ∙ across (number_in_place entries k) (bound k) (total c (body_of lists k)))
  where
    across : (a b d : ℕ) → (a * b) * d ≡ a * (b * d)
    across a b d = grind arith
