-- What the slack of an edge lacks for a switch to the next lower level.
use Rattle.std.proofs.Common.{◌≡◌, ℕ, ◌+◌, ◌-◌, ◌*◌, ◌<◌, ◌≤◌, true, sym, ap, ◌∙◌, subst, arith, ⊎_elim}
use Rattle.std.specs.Int.{div_ceil}
use Rattle.std.proofs.Math.Nat.{mul-le-mul_right}
use Rattle.std.proofs.lemmas.Bool.{leb-true, le-leb, lt-leb, both_ways, cases_lt}
use Rattle.power_model.specs.Levels.{level}
use Rattle.power_model.specs.Numbers.{PowerModel}
use Rattle.power_model.specs.Price.{switch_time}
use Rattle.level_tables.specs.declared.edge_numbers.EdgeNumbers.{EdgeNumbers}
use Rattle.level_reasons.specs.Reasons.{IsLack, goes_down, with_more}
use Rattle.level_reasons.proofs.Numbers.{ceil_enough, ceil_least}

module _ (power : PowerModel) (i : ℕ) (told : EdgeNumbers) where
  abbrev fast : ℕ
  fast = (level power.levels i).period

  -- the time that what is left takes at the next lower level, with the switch, and the cycles that have to be left before the edge for it
  abbrev behind : ℕ
  behind = told.left * (level power.levels (i - 1)).period + switch_time power i (i - 1)

  abbrev need : ℕ
  need = div_ceil behind fast

  abbrev pub lack_by : ℕ
  lack_by = need - (told.left + told.slack)

  pub lack_is : 0 < fast → IsLack power i told lack_by
  lack_is pos = record {
    enough = le-leb behind ((told.left + (told.slack + lack_by)) * fast) (ceil_enough behind fast (told.left + (told.slack + lack_by)) pos (let h : need ≤ told.left + (told.slack + lack_by) = omega arith in h));
    least = λ x lt. lt-leb behind ((told.left + (told.slack + x)) * fast) (ceil_least behind fast (told.left + (told.slack + x)) pos (let h : told.left + (told.slack + x) < need = omega (arith, lt) in h));
  }

-- more slack is enough where less is
pub down_more : (power : PowerModel) (i : ℕ) (told : EdgeNumbers) (x y : ℕ) → x ≤ y → goes_down power i (with_more x told) ≡ true → goes_down power i (with_more y told) ≡ true
down_more power i told x y le e =
    let before = leb-true (behind power i told) ((told.left + (told.slack + x)) * fast power i told) e in
    let more : (told.left + (told.slack + x)) * fast power i told ≤ (told.left + (told.slack + y)) * fast power i told =
    mul-le-mul_right (fast power i told) (let h : told.left + (told.slack + x) ≤ told.left + (told.slack + y) = omega (arith, le) in h) in
    le-leb (behind power i told) ((told.left + (told.slack + y)) * fast power i told) (omega (arith, before, more))

-- so many cycles are enough just where they are no fewer than the lack
pub lack_enough : (power : PowerModel) (i : ℕ) (told : EdgeNumbers) (lack x : ℕ) → IsLack power i told lack → lack ≤ x → goes_down power i (with_more x told) ≡ true
lack_enough power i told lack x is le = down_more power i told lack x le is.enough

-- there is one lack
pub lack_once : (power : PowerModel) (i : ℕ) (told : EdgeNumbers) (one other : ℕ) → IsLack power i told one → IsLack power i told other → one ≡ other
lack_once power i told one other p q = ⊎_elim
    (λ (lt : one < other). absurd (both_ways (goes_down power i (with_more one told)) (q.least one lt) p.enough))
    (λ (ge : other ≤ one). ⊎_elim
    (λ (lt : other < one). absurd (both_ways (goes_down power i (with_more other told)) (p.least other lt) q.enough))
    (λ (le : one ≤ other). let e : one ≡ other = omega (arith, ge, le) in e)
    (cases_lt other one))
    (cases_lt one other)

-- as it is computed
pub lack_from : (power : PowerModel) (i : ℕ) (told : EdgeNumbers) → 0 < (level power.levels i).period → (need left low switch high have lack : ℕ)
    → need ≡ div_ceil (left * low + switch) high → left ≡ told.left → low ≡ (level power.levels (i - 1)).period → switch ≡ switch_time power i (i - 1) → high ≡ (level power.levels i).period
    → have ≡ told.left + told.slack → lack ≡ need - have → IsLack power i told lack
lack_from power i told pos need left low switch high have lack n l w s h v e =
    let same : lack ≡ lack_by power i told =
    e ∙ ap (λ x. need - x) v ∙ ap (λ x. x - (told.left + told.slack)) (n ∙ ap (λ x. div_ceil (x * low + switch) high) l ∙ ap (λ x. div_ceil (told.left * x + switch) high) w
    ∙ ap (λ x. div_ceil (told.left * (level power.levels (i - 1)).period + x) high) s ∙ ap (λ x. div_ceil (told.left * (level power.levels (i - 1)).period + switch_time power i (i - 1)) x) h) in
    subst (IsLack power i told) (sym same) (lack_is power i told pos)
