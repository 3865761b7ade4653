-- What the bounds of loops let pass, by the counts after a step.
use Rattle.std.proofs.Common.{◌≡◌, ℕ, ◌+◌, ◌-◌, ◌<◌, ◌≤◌, Bool, true, false, nat_lt, ◌&&◌, ◌||◌, ◌⊎◌, inl, inr, List, length, map, Option, Some, None, refl, sym, ap, ◌∙◌, subst, arith}
use Rattle.std.proofs.lemmas.Bool.{ltb-true, ltb-false, le-ltb, lt-ltb}
use Rattle.scale_base.specs.declared.stepping.Move.{Move}
use Rattle.scale_base.specs.declared.stepping.Move.TheVariants.{Local, Call, Return}
use Rattle.scale_base.specs.declared.stepping.Stepped.{Stepped}
use Rattle.cost_theory.specs.Graph.{Loops, find_below}
use Rattle.graph_runs.specs.KeptSteps.{breaks, leaves_by}
use Rattle.loop_file.specs.declared.notes.LoopNote.{LoopNote}
use Rattle.loop_file.specs.Kept.{note_at, noted_loops}
use Rattle.keep_monitor.specs.Watch.{loop_broken}
use Rattle.keep_monitor.proofs.BreakLaws.{not_found}
use Rattle.keep_monitor.proofs.CountLaws.{find_none, find_first}

-- no loop has to turn before it is left
pub record NeedNotTurn (notes : List LoopNote) : Type 0 where
  pub least : (k : ℕ) → k < length notes → (note_at notes k).at_least ≡ 0

or_false : (b : Bool) → (b || false) ≡ b
or_false true = refl
or_false false = refl

and_false : (b c : Bool) → c ≡ false → (b && c) ≡ false
and_false true c e = e
and_false false c e = refl

-- then a count above the bound alone breaks
pub breaks_is : (notes : List LoopNote) → NeedNotTurn notes → (counts : ℕ → ℕ) (x : Stepped) (k : ℕ) → k < length notes → breaks (noted_loops notes) counts x k ≡ nat_lt (note_at notes k).bound (counts k)
breaks_is notes free counts x k kl =
    let none : nat_lt (counts k) (note_at notes k).at_least ≡ false = le-ltb _ _ (subst (λ n. n ≤ counts k) (sym (free.least k kl)) (omega arith)) in
    ap (λ b. nat_lt (note_at notes k).bound (counts k) || b) (and_false (leaves_by x.moved (noted_loops notes) x.pc x.next k) _ none) ∙ or_false _

-- each count is within its bound, so nothing is broken
pub within_none : (notes : List LoopNote) → NeedNotTurn notes → (counts : ℕ → ℕ) (x : Stepped) → ((k : ℕ) → k < length notes → counts k ≤ (note_at notes k).bound) → loop_broken notes counts x ≡ None
within_none notes free counts x low = find_none (length notes) (breaks (noted_loops notes) counts x) (λ k kl. breaks_is notes free counts x k kl ∙ le-ltb _ _ (low k kl))

-- one count is above its bound, and each other within it
pub above_found : (notes : List LoopNote) → NeedNotTurn notes → (counts : ℕ → ℕ) (x : Stepped) (l : ℕ) → l < length notes → (note_at notes l).bound < counts l →
    ((k : ℕ) → k < length notes → k < l → counts k ≤ (note_at notes k).bound) → loop_broken notes counts x ≡ Some l
above_found notes free counts x l ll high low =
    find_first (length notes) (breaks (noted_loops notes) counts x) l ll (breaks_is notes free counts x l ll ∙ lt-ltb _ _ high)
    (λ i il. let within : i < length notes = omega arith in breaks_is notes free counts x i within ∙ le-ltb _ _ (low i within il))

or_left : (a b : Bool) → (a || b) ≡ false → a ≡ false
or_left true b e = let bad : ⊥ = cc in absurd bad
or_left false b e = refl

-- where nothing is broken each count is within its bound
pub none_within : (notes : List LoopNote) (counts : ℕ → ℕ) (x : Stepped) → loop_broken notes counts x ≡ None → (k : ℕ) → k < length notes → counts k ≤ (note_at notes k).bound
none_within notes counts x none k kl = ltb-false _ _ (or_left _ _ (not_found (length notes) (breaks (noted_loops notes) counts x) none k kl))
