-- An interval ends where nothing that is sought is.
use Rattle.std.proofs.Common.{◌≡◌, ◌<◌, ◌≤◌, ◌+◌, ◌*◌, ◌/◌, ◌%◌, ◌^◌, ◌⊎◌, inl, inr, ⊎_elim, ℕ, List, sym, ap, ◌∙◌, subst, arith, true, Option, Some, None}
use Rattle.std.specs.Prelude.{is_some, IfSome}
use Rattle.std.proofs.lemmas.Bool.{cases_lt}
use Rattle.std.proofs.Math.Nat.{div-add-mod, mul-add, mul-le-mul_left}
use Rattle.bound_laws.specs.Values.{Arc, IsIn, IsHeld, ahead}
use Rattle.stack_tables.specs.declared.tables.FixedPart.{FixedPart}
use Rattle.walk_checks.specs.declared.tables.Sought.{Sought}
use Rattle.walk_checks.specs.Walked.{IsEnding, IsIdle}

-- ---- where an interval ends

moved_ahead : (low more a b s : ℕ) → low < 2 ^ 32 → a < 2 ^ 32 → b ≡ (a + s) % 2 ^ 32 → ahead low a + s ≤ more → more < 2 ^ 32 → ahead low b ≡ ahead low a + s
moved_ahead low more a b s start word e fits less = omega arith

last_one : (low more was now s : ℕ) → low < 2 ^ 32 → was < 2 ^ 32 → ahead low was ≡ more → now ≡ (was + s) % 2 ^ 32 → (low + more + s) % 2 ^ 32 ≡ now
last_one low more was now s start word at e = omega arith

-- multiples of a number up to another one: the greatest, or one more is there
next_multiple : (s k m : ℕ) → s * k ≤ s * m → (s * k + s ≤ s * m) ⊎ (s * k ≡ s * m)
next_multiple s k m le = ⊎_elim
    (λ (less : k < m). inl (let up : s * (k + 1) ≤ s * m = mul-le-mul_left s (omega arith) in let e : s * (k + 1) ≡ s * k + s * 1 = mul-add s k 1 in let one : s * 1 ≡ s = omega arith in omega (arith, up, e, one)))
    (λ (more : m ≤ k). inr (let down : s * m ≤ s * k = mul-le-mul_left s more in omega (arith, down, le))) (cases_lt k m)

pub ending_in : (parts : List FixedPart) (s : Sought) (least : ℕ) (x : Arc) (count : ℕ) → x.stride ≡ least → x.more ≡ least * count → x.more < 2 ^ 32 → IsIdle parts s ((x.low + x.more + least) % 2 ^ 32) → IsEnding parts s least x
ending_in parts s least x count stride more short idle was now inside e word = ⊎_elim
    (λ (fits : least * k + least ≤ least * count).
    let within : ahead x.low was + least ≤ x.more = omega (arith, fits, d, more) in
    let next : ahead x.low now ≡ ahead x.low was + least = moved_ahead x.low x.more was now least inside.start inside.word e within short in
    inr (record { word = word; start = inside.start; near = (omega (arith, next, within)); step = (k + 1, next ∙ step_more) }))
    (λ (last : least * k ≡ least * count). inl (subst (IsIdle parts s) (last_one x.low x.more was now least inside.start inside.word (d ∙ (last ∙ sym more)) e) idle))
    (next_multiple least k count (let near = inside.near in omega (arith, near, d, more)))
  where
    k : ℕ
    k = inside.step.0

    d : ahead x.low was ≡ least * k
    d = inside.step.1 ∙ ap (λ (n : ℕ). n * k) stride

    step_more : ahead x.low was + least ≡ x.stride * (k + 1)
    step_more =
        let a : x.stride * (k + 1) ≡ x.stride * k + x.stride * 1 = mul-add x.stride k 1 in
        let b : x.stride * 1 ≡ x.stride = omega arith in
        let f : x.stride * k ≡ least * k = ap (λ (n : ℕ). n * k) stride in
        omega (arith, a, b, f, d, stride)

-- what is so at each address of an interval is so at those that it holds
pub begun_for : (o start place : Option Arc) (B : ℕ → Type 0) → is_some o ≡ true → IfSome o (λ x. (at : ℕ) → IsHeld start at → IsHeld place at → IsIn x at) → IfSome o (λ x. (at : ℕ) → IsIn x at → B at) →
    (at : ℕ) → IsHeld start at → IsHeld place at → B at
begun_for None start place B some holds begun at a b = let bad : ⊥ = cc in absurd bad
begun_for (Some x) start place B some holds begun at a b = begun at (holds at a b)

pub whole_multiple : (more least : ℕ) → more % least ≡ 0 → more ≡ least * (more / least)
whole_multiple more least none = let e : least * (more / least) + more % least ≡ more = div-add-mod more least in omega (arith, e, none)
