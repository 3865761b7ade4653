-- What a step that breaks a rule leaves, and what one that keeps them all.
use Rattle.std.proofs.Common.{◌≡◌, ℕ, ◌+◌, ◌<◌, Bool, true, false, nat_lt, List, length, map, get_or, Option, Some, None, refl, sym, ap, ◌∙◌, subst}
use Rattle.std.proofs.lemmas.Bool.{cond-true, cond-false}
use Rattle.std.specs.List.{range_with_len}
use Rattle.std.specs.Option.{option_map, option_or}
use Rattle.scale_base.specs.declared.endings.Kept.{Kept}
use Rattle.scale_base.specs.declared.endings.Kept.TheVariants.{BrokeBound, BrokeDepth}
use Rattle.scale_base.specs.declared.endings.Kept.TheVariants as kinds
use Rattle.scale_base.specs.declared.stepping.Stepped.{Stepped}
use Rattle.graph_runs.specs.ReturnAddresses.{returns_after}
use Rattle.graph_runs.specs.KeptSteps.{source_of}
use Rattle.loop_file.specs.declared.notes.LoopNote.{LoopNote}
use Rattle.graph_runs.specs.KeptRuns.{most_returns}
use Rattle.keep_monitor.specs.Watch.{Watched, watch, watch_after, next_counts, loop_broken, watch_loops, watch_returns}
use Rattle.keep_monitor.specs.Steps.{broken_by, counts_after_step, broken_loop}
use Rattle.keep_monitor.proofs.CountLaws.{counts_listed}

-- a break of the rules on calls and returns
pub returns_broken : (w : Watched) (x : Stepped) (o : Option (List ℕ)) (b : Kept) → broken_by x o ≡ Some b → record w { kept = b } ≡ watch_returns w x o
returns_broken w x None b e = ap (λ k. record w { kept = k }) (let r : b ≡ kinds.BrokeReturn x.pc x.next = cc in r)
returns_broken w x (Some rs) b e = go (nat_lt most_returns (length rs)) refl
  where
    go : (t : Bool) → nat_lt most_returns (length rs) ≡ t → record w { kept = b } ≡ watch_returns w x (Some rs)
    go true is =
        let q : broken_by x (Some rs) ≡ Some (BrokeDepth x.pc) = cond-true _ _ _ is in
        let r : b ≡ BrokeDepth x.pc = cc in
        ap (λ k. record w { kept = k }) r ∙ sym (cond-true _ _ _ is)
    go false is = let q : broken_by x (Some rs) ≡ None = cond-false _ _ _ is in let bad : ⊥ = cc in absurd bad

-- where they are kept, the rules on loops decide
pub returns_kept : (w : Watched) (x : Stepped) (o : Option (List ℕ)) → broken_by x o ≡ None →
    (rs : List ℕ) × (o ≡ Some rs) × (watch_returns w x o ≡ watch_loops w x rs (loop_broken w.notes (next_counts w x) x))
returns_kept w x None e = let bad : ⊥ = cc in absurd bad
returns_kept w x (Some rs) e = go (nat_lt most_returns (length rs)) refl
  where
    go : (t : Bool) → nat_lt most_returns (length rs) ≡ t → (ss : List ℕ) × (Some rs ≡ Some ss) × (watch_returns w x (Some rs) ≡ watch_loops w x ss (loop_broken w.notes (next_counts w x) x))
    go true is = let q : broken_by x (Some rs) ≡ Some (BrokeDepth x.pc) = cond-true _ _ _ is in let bad : ⊥ = cc in absurd bad
    go false is = (rs, refl, cond-false _ _ _ is)

abbrev unbroken : List LoopNote → List ℕ → List ℕ → Watched
unbroken notes returns counts = record { notes = notes; returns = returns; counts = counts; kept = kinds.Kept }

-- where the rules on calls and returns are kept, what is told is a loop whose bounds are broken
loops_broken : (notes : List LoopNote) (returns counts : List ℕ) (x : Stepped) (o : Option (List ℕ)) (b : Kept) → broken_by x o ≡ None →
    broken_loop notes counts (source_of x.moved x.pc returns) x ≡ Some b → record { notes = notes; returns = returns; counts = counts; kept = b } ≡ watch_returns (unbroken notes returns counts) x o
loops_broken notes returns counts x o b none told =
    let w : Watched = unbroken notes returns counts in
    let p = returns_kept w x o none in
    by_loop (loop_broken notes (next_counts w x) x) refl told p.0 p.2
  where
    by_loop : (f : Option ℕ) → loop_broken notes (next_counts (unbroken notes returns counts) x) x ≡ f →
        option_map (λ k. BrokeBound (k + 1) (next_counts (unbroken notes returns counts) x k)) (loop_broken notes (next_counts (unbroken notes returns counts) x) x) ≡ Some b →
        (rs : List ℕ) → watch_returns (unbroken notes returns counts) x o ≡ watch_loops (unbroken notes returns counts) x rs (loop_broken notes (next_counts (unbroken notes returns counts) x) x) →
        record { notes = notes; returns = returns; counts = counts; kept = b } ≡ watch_returns (unbroken notes returns counts) x o
    by_loop None e told rs is =
        let q : None ≡ Some b = sym (ap (λ f. option_map (λ k. BrokeBound (k + 1) (next_counts (unbroken notes returns counts) x k)) f) e) ∙ told in
        let bad : ⊥ = cc in absurd bad
    by_loop (Some k) e told rs is =
        let w : Watched = unbroken notes returns counts in
        let q : Some (BrokeBound (k + 1) (next_counts w x k)) ≡ Some b = sym (ap (λ f. option_map (λ k. BrokeBound (k + 1) (next_counts w x k)) f) e) ∙ told in
        let r : BrokeBound (k + 1) (next_counts w x k) ≡ b = cc in
        ap (λ (t : Kept). record w { kept = t }) (sym r) ∙ sym (is ∙ ap (watch_loops w x rs) e)

-- The rules on calls and returns come first: what is told is what breaks them, or else a loop whose bounds are broken,
pub rule_broken : (notes : List LoopNote) (returns counts : List ℕ) (x : Stepped) (o : Option (List ℕ)) (r l : Option Kept) (b : Kept) →
    r ≡ broken_by x o → l ≡ broken_loop notes counts (source_of x.moved x.pc returns) x →
    Some b ≡ option_or r l → record { notes = notes; returns = returns; counts = counts; kept = b } ≡ watch_returns (unbroken notes returns counts) x o
rule_broken notes returns counts x o (Some a) l b is loops e =
    returns_broken (unbroken notes returns counts) x o b (sym is ∙ sym e)
rule_broken notes returns counts x o None l b is loops e = loops_broken notes returns counts x o b (sym is) (sym loops ∙ sym e)

-- and where nothing is told, neither is broken
pub neither_broken : (r l : Option Kept) → None ≡ option_or r l → (r ≡ None) × (l ≡ None)
neither_broken None None e = (refl, refl)
neither_broken None (Some b) e = let bad : ⊥ = cc in absurd bad
neither_broken (Some b) l e = let bad : ⊥ = cc in absurd bad

-- a step that keeps all rules
pub step_kept : (notes : List LoopNote) (returns counts : List ℕ) (x : Stepped) (o : Option (List ℕ)) (rs after : List ℕ) →
    broken_by x o ≡ None → broken_loop notes counts (source_of x.moved x.pc returns) x ≡ None → o ≡ Some rs → length after ≡ length notes →
    ((k : ℕ) → k < length notes → get_or after k 0 ≡ counts_after_step notes counts (source_of x.moved x.pc returns) x.next k) →
    record { notes = notes; returns = rs; counts = after; kept = kinds.Kept } ≡ watch_returns (unbroken notes returns counts) x o
step_kept notes returns counts x o rs after none no_loop moved size each =
    let w : Watched = unbroken notes returns counts in
    let source : Option ℕ = source_of x.moved x.pc returns in
    let p = returns_kept w x o none in
    let over : loop_broken notes (next_counts w x) x ≡ None = none_of (loop_broken notes (next_counts w x) x) no_loop in
    let listed : after ≡ map (next_counts w x) (range_with_len 0 (length notes)) = counts_listed notes counts source x.next after size each in
    let same : rs ≡ p.0 = some_same rs p.0 (sym moved ∙ p.1) in
    ap (λ (cs : List ℕ). record { notes = notes; returns = rs; counts = cs; kept = kinds.Kept }) listed ∙
    ap (λ (ss : List ℕ). watch_loops w x ss None) same ∙ sym (p.2 ∙ ap (watch_loops w x p.0) over)
  where
    some_same : (a b : List ℕ) → Some a ≡ Some b → a ≡ b
    some_same a b e = let r : a ≡ b = cc in r

    none_of : (f : Option ℕ) → option_map (λ k. BrokeBound (k + 1) (next_counts (unbroken notes returns counts) x k)) f ≡ None → f ≡ None
    none_of None e = refl
    none_of (Some k) e = let bad : ⊥ = cc in absurd bad

-- watching goes on as long as nothing is broken
pub watch_goes_on : (w : Watched) (x : Stepped) → w.kept ≡ kinds.Kept → watch_returns (unbroken w.notes w.returns w.counts) x (returns_after w.returns x) ≡ watch w x
unfolding watch
watch_goes_on w x e =
    subst (λ (k : Kept). watch_returns (unbroken w.notes w.returns w.counts) x (returns_after w.returns x) ≡ watch_after k (record { notes = w.notes; returns = w.returns; counts = w.counts; kept = k }) x) (sym e) refl

pub watch_stays : (w : Watched) (x : Stepped) → (w.kept ≡ kinds.Kept → ⊥) → w ≡ watch w x
unfolding watch
watch_stays w x broken = go w.kept broken
  where
    go : (k : Kept) → (k ≡ kinds.Kept → ⊥) → w ≡ watch_after k w x
    go kinds.Kept n = absurd (n refl)
    go (BrokeBound loop_no count) n = refl
    go (kinds.BrokeReturn at to) n = refl
    go (BrokeDepth at) n = refl
