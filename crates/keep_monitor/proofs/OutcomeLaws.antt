-- What a step may do to a run that has broken nothing: break the rules on calls and returns, break the bounds of a loop, or keep them all.
use Rattle.std.proofs.Common.{◌≡◌, ℕ, ◌+◌, ◌<◌, ◌≤◌, Bool, true, false, nat_lt, ◌⊎◌, inl, inr, List, length, map, Option, Some, None, refl, sym, ap, ◌∙◌, subst, arith}
use Rattle.std.proofs.lemmas.Bool.{cond-true, cond-false, ltb-true, ltb-false, le-ltb}
use Rattle.std.specs.List.{range_with_len}
use Rattle.scale_base.specs.declared.endings.Kept.{Kept}
use Rattle.scale_base.specs.declared.endings.Kept.TheVariants.{BrokeBound, BrokeReturn, BrokeDepth}
use Rattle.scale_base.specs.declared.endings.Kept.TheVariants as kinds
use Rattle.scale_base.specs.declared.stepping.Stepped.{Stepped}
use Rattle.graph_runs.specs.ReturnAddresses.{returns_after}
use Rattle.graph_runs.specs.KeptRuns.{most_returns}
use Rattle.loop_file.specs.declared.notes.LoopNote.{LoopNote}
use Rattle.keep_monitor.specs.Steps.{broken_by}
use Rattle.keep_monitor.specs.Watch.{Watched, watch, watch_returns, watch_loops, next_counts, loop_broken}
use Rattle.keep_monitor.proofs.StepLaws.{watch_goes_on, returns_broken, returns_kept}
use Rattle.keep_monitor.proofs.AlikeLaws.{going_with}

pub record BreaksReturns (notes : List LoopNote) (returns counts : List ℕ) (x : Stepped) : Type 0 where
  pub broken : Kept
  pub why : broken_by x (returns_after returns x) ≡ Some broken
  pub is : watch (going_with notes returns counts) x ≡ record { notes = notes; returns = returns; counts = counts; kept = broken }

pub record BreaksBound (notes : List LoopNote) (returns counts : List ℕ) (x : Stepped) : Type 0 where
  pub after : List ℕ
  pub returns_are : returns_after returns x ≡ Some after
  pub shallow : length after ≤ most_returns
  pub at : ℕ
  pub found : loop_broken notes (next_counts (going_with notes returns counts) x) x ≡ Some at
  pub is : watch (going_with notes returns counts) x ≡
      record { notes = notes; returns = returns; counts = counts; kept = BrokeBound (at + 1) (next_counts (going_with notes returns counts) x at) }

pub record KeepsAll (notes : List LoopNote) (returns counts : List ℕ) (x : Stepped) : Type 0 where
  pub after : List ℕ
  pub returns_are : returns_after returns x ≡ Some after
  pub shallow : length after ≤ most_returns
  pub found : loop_broken notes (next_counts (going_with notes returns counts) x) x ≡ None
  pub is : watch (going_with notes returns counts) x ≡ going_with notes after (map (next_counts (going_with notes returns counts) x) (range_with_len 0 (length notes)))

abbrev pub Outcome : List LoopNote → List ℕ → List ℕ → Stepped → Type 0
Outcome notes returns counts x = BreaksReturns notes returns counts x ⊎ (BreaksBound notes returns counts x ⊎ KeepsAll notes returns counts x)

-- what breaks the rules on calls and returns
pub shallow_of : (x : Stepped) (rs : List ℕ) → broken_by x (Some rs) ≡ None → length rs ≤ most_returns
shallow_of x rs e = go (nat_lt most_returns (length rs)) refl
  where
    go : (t : Bool) → nat_lt most_returns (length rs) ≡ t → length rs ≤ most_returns
    go true is = let q : broken_by x (Some rs) ≡ Some (BrokeDepth x.pc) = cond-true _ _ _ is in let bad : ⊥ = cc in absurd bad
    go false is = ltb-false _ _ is

pub none_broken : (x : Stepped) (o : Option (List ℕ)) (rs : List ℕ) → o ≡ Some rs → length rs ≤ most_returns → broken_by x o ≡ None
none_broken x o rs e low = ap (broken_by x) e ∙ cond-false _ _ _ (le-ltb _ _ low)

pub outcome : (notes : List LoopNote) (returns counts : List ℕ) (x : Stepped) → Outcome notes returns counts x
outcome notes returns counts x = by_returns (broken_by x (returns_after returns x)) refl
  where
    w : Watched
    w = going_with notes returns counts

    by_loop : (rs : List ℕ) → returns_after returns x ≡ Some rs → length rs ≤ most_returns →
        watch (going_with notes returns counts) x ≡ watch_loops (going_with notes returns counts) x rs (loop_broken notes (next_counts (going_with notes returns counts) x) x) →
        (f : Option ℕ) → loop_broken notes (next_counts (going_with notes returns counts) x) x ≡ f → Outcome notes returns counts x
    by_loop rs e low is None found = inr (inr (record { after = rs; returns_are = e; shallow = low; found = found; is = is ∙ ap (watch_loops (going_with notes returns counts) x rs) found }))
    by_loop rs e low is (Some k) found = inr (inl (record { after = rs; returns_are = e; shallow = low; at = k; found = found; is = is ∙ ap (watch_loops (going_with notes returns counts) x rs) found }))

    by_returns : (b : Option Kept) → broken_by x (returns_after returns x) ≡ b → Outcome notes returns counts x
    by_returns (Some b) e = inl (record {
      broken = b;
      why = e;
      is = sym (watch_goes_on (going_with notes returns counts) x refl) ∙ sym (returns_broken (going_with notes returns counts) x (returns_after returns x) b e);
    })
    by_returns None e =
        let p = returns_kept (going_with notes returns counts) x (returns_after returns x) e in
        by_loop p.0 p.1 (shallow_of x p.0 (ap (broken_by x) (sym p.1) ∙ e)) (sym (watch_goes_on (going_with notes returns counts) x refl) ∙ p.2)
        (loop_broken notes (next_counts (going_with notes returns counts) x) x) refl

-- what is broken of the rules on calls and returns is no bound, and not nothing
pub broken_is : (x : Stepped) (o : Option (List ℕ)) (b : Kept) → broken_by x o ≡ Some b → (b ≡ BrokeReturn x.pc x.next) ⊎ (b ≡ BrokeDepth x.pc)
broken_is x None b e = inl (let r : b ≡ BrokeReturn x.pc x.next = cc in r)
broken_is x (Some rs) b e = go (nat_lt most_returns (length rs)) refl
  where
    go : (t : Bool) → nat_lt most_returns (length rs) ≡ t → (b ≡ BrokeReturn x.pc x.next) ⊎ (b ≡ BrokeDepth x.pc)
    go true is = let q : broken_by x (Some rs) ≡ Some (BrokeDepth x.pc) = cond-true _ _ _ is in inr (let r : b ≡ BrokeDepth x.pc = cc in r)
    go false is = let q : broken_by x (Some rs) ≡ None = cond-false _ _ _ is in let bad : ⊥ = cc in absurd bad

pub broken_not : (x : Stepped) (o : Option (List ℕ)) (b : Kept) → broken_by x o ≡ Some b → b ≡ kinds.Kept → ⊥
broken_not x o b e k = elim (broken_is x o b e) [ inl r ↦ (let bad : ⊥ = cc in bad) | inr r ↦ (let bad : ⊥ = cc in bad) ]
