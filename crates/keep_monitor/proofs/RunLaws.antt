-- Watching a run finds nothing broken exactly where the run is kept.
use Rattle.std.proofs.Common.{◌≡◌, ◌↔◌, ℕ, zero, suc, ◌+◌, ◌<◌, ◌≤◌, Bool, true, false, ◌&&◌, ◌||◌, nat_lt, cond, ◌⊎◌, inl, inr, ⊎_elim, List, length, map, replicate, get_or, Option, Some, None, refl, sym, ap, ◌∙◌, subst, arith}
use Rattle.std.proofs.lemmas.List.{get_or-replicate}
use Rattle.std.proofs.lemmas.Bool.{cond-true, cond-false, ltb-true, ltb-false}
use Rattle.std.proofs.lemmas.List.FromFn.{get_or-map-range_with_len}
use Rattle.std.specs.List.{range_with_len}
use Rattle.scale_base.specs.declared.endings.Kept.TheVariants as kinds
use Rattle.scale_base.specs.declared.stepping.Stepped.{Stepped}
use Rattle.scale_base.specs.declared.stepping.StepEnd.{StepEnd}
use Rattle.scale_base.specs.declared.stepping.StepEnd.TheVariants.{Went, Exited, Trapped}
use Rattle.scale_base.specs.Image.{Image}
use Rattle.scale_base.specs.State.{Setting, State}
use Rattle.scale_base.specs.Step.{step}
use Rattle.scale_base.specs.Run.{Standing, GoesOn, HasExited, HasTrapped, run, setting_of, start_of}
use Rattle.cost_theory.specs.Graph.{Loops, is_header, is_round}
use Rattle.cost_theory.proofs.Laws.{find-holds, none-any, any-some}
use Rattle.graph_runs.specs.ReturnAddresses.{returns_after}
use Rattle.graph_runs.specs.KeptSteps.{Carried, carried_first, source_of, counts_after, leaves_by, breaks, is_broken, keeps_counts, kept_more}
use Rattle.graph_runs.specs.KeptRuns.{watched, kept_at, kept_of, most_returns, IsKeptUpTo}
use Rattle.graph_runs.proofs.Laws.{kept_parts}
use Rattle.loop_file.specs.declared.notes.LoopNote.{LoopNote}
use Rattle.loop_file.specs.Kept.{note_at, noted_loops}
use Rattle.keep_monitor.specs.Watch.{Watched, watch, watch_returns, watch_loops, watch_end, watched_from, watched_at, next_counts, loop_broken}
use Rattle.keep_monitor.proofs.BreakLaws.{not_found}
use Rattle.keep_monitor.proofs.StepLaws.{watch_stays}

abbrev at_work : List LoopNote → List ℕ → List ℕ → Watched
at_work notes returns counts = record { notes = notes; returns = returns; counts = counts; kept = kinds.Kept }

abbrev AreSame : List LoopNote → Carried → List ℕ → Type 0
AreSame notes c counts = (k : ℕ) → k < length notes → c.counts k ≡ get_or counts k 0

-- nothing is broken so far, and what is carried is the same
record Goes (notes : List LoopNote) (w : Watched) (o : Option Carried) : Type 0 where
  carried : Carried
  counts : List ℕ
  at : o ≡ Some carried
  is : w ≡ at_work notes carried.returns counts
  same : AreSame notes carried counts
  low : length carried.returns ≤ most_returns

-- something is broken: what is carried is none, or has too many return addresses
record Stops (w : Watched) (o : Option Carried) : Type 0 where
  broken : w.kept ≡ kinds.Kept → ⊥
  never : (d : Carried) → o ≡ Some d → length d.returns ≤ most_returns → ⊥

abbrev Told : List LoopNote → Watched → Option Carried → Type 0
Told notes w o = Goes notes w o ⊎ Stops w o

-- a step from the same numbers gives the same
step_told : (notes : List LoopNote) (c : Carried) (counts : List ℕ) (x : Stepped) → AreSame notes c counts →
    Told notes (watch (at_work notes c.returns counts) x) (kept_more (noted_loops notes) (Some c) x)
unfolding watch
step_told notes c counts x same = go (returns_after c.returns x)
  where
    l : Loops
    l = noted_loops notes

    after : ℕ → ℕ
    after = counts_after (noted_loops notes) c x

    w : Watched
    w = at_work notes c.returns counts

    agree : (k : ℕ) → k < length notes → counts_after (noted_loops notes) c x k ≡ next_counts (at_work notes c.returns counts) x k
    agree k kl = ap (λ (v : ℕ). cond (is_header (noted_loops notes) k (Some x.next)) (cond (is_round (noted_loops notes) k (source_of x.moved x.pc c.returns)) (v + 1) 0) v) (same k kl)

    test : ℕ → Bool
    test k = breaks (noted_loops notes) (next_counts (at_work notes c.returns counts) x) x k

    alike : (k : ℕ) → k < length notes → breaks (noted_loops notes) after x k ≡ test k
    alike k kl = ap (λ n. nat_lt (note_at notes k).bound n || (leaves_by x.moved (noted_loops notes) x.pc x.next k && nat_lt n (note_at notes k).at_least)) (agree k kl)

    by_loop : (rs : List ℕ) → length rs ≤ most_returns → (f : Option ℕ) → loop_broken notes (next_counts w x) x ≡ f →
        Told notes (watch_loops w x rs f) (keeps_counts l after x (Some rs))
    by_loop rs low None e =
        let none : is_broken l after x ≡ false = none-any (length notes) _ (λ k kl. alike k kl ∙ not_found (length notes) test e k kl) in
        inl (record {
          carried = record { returns = rs; counts = after };
          counts = map (next_counts w x) (range_with_len 0 (length notes));
          at = cond-false _ _ _ none;
          is = refl;
          same = λ k kl. agree k kl ∙ sym (get_or-map-range_with_len (next_counts w x) 0 (length notes) k k 0 kl (omega arith));
          low = low;
        })
    by_loop rs low (Some k) e =
        let held = find-holds (length notes) test k e in
        let some : is_broken l after x ≡ true = any-some (length notes) _ k held.0 (alike k held.0 ∙ held.1) in
        let none : keeps_counts l after x (Some rs) ≡ None = cond-true _ _ _ some in
        inr (record {
          broken = λ h. let bad : ⊥ = cc in bad;
          never = λ d h less. let bad : ⊥ = cc in bad;
        })

    by_depth : (rs : List ℕ) (t : Bool) → nat_lt most_returns (length rs) ≡ t → Told notes (watch_returns w x (Some rs)) (keeps_counts l after x (Some rs))
    by_depth rs true e = subst (λ (v : Watched). Told notes v (keeps_counts l after x (Some rs))) (sym (cond-true _ _ _ e)) (inr (record {
      broken = λ h. let bad : ⊥ = cc in bad;
      never = λ d h less.
          let p = kept_parts l after x (Some rs) d h in
          let r : rs ≡ d.returns = some_list rs d.returns p.0 in
          let size : length rs ≡ length d.returns = ap length r in
          let deep : most_returns < length rs = ltb-true _ _ e in
          let bad : ⊥ = omega arith in bad;
    }))
      where
        some_list : (a b : List ℕ) → Some a ≡ Some b → a ≡ b
        some_list a b e = let r : a ≡ b = cc in r
    by_depth rs false e = subst (λ (v : Watched). Told notes v (keeps_counts l after x (Some rs))) (sym (cond-false _ _ _ e))
        (by_loop rs (ltb-false _ _ e) (loop_broken notes (next_counts w x) x) refl)

    go : (r : Option (List ℕ)) → Told notes (watch_returns w x r) (keeps_counts l after x r)
    go None = inr (record {
      broken = λ h. let bad : ⊥ = cc in bad;
      never = λ d h less. let bad : ⊥ = cc in bad;
    })
    go (Some rs) = by_depth rs (nat_lt most_returns (length rs)) refl

end_told : (notes : List LoopNote) (w : Watched) (o : Option Carried) (q : Standing) (end : StepEnd) → Goes notes w o → Told notes (watch_end w q end) (watched (noted_loops notes) o q end)
end_told notes w o GoesOn (Went x) g =
    subst (λ (v : Watched). Told notes (watch v x) (kept_more (noted_loops notes) o x)) (sym g.is)
    (subst (λ (p : Option Carried). Told notes (watch (at_work notes g.carried.returns g.counts) x) (kept_more (noted_loops notes) p x)) (sym g.at)
    (step_told notes g.carried g.counts x g.same))
end_told notes w o GoesOn (Exited x status) g = inl g
end_told notes w o GoesOn (Trapped trap) g = inl g
end_told notes w o (HasExited status) end g = inl g
end_told notes w o (HasTrapped trap) end g = inl g

-- after a break nothing is kept again
stays_broken : (w : Watched) (q : Standing) (end : StepEnd) → (w.kept ≡ kinds.Kept → ⊥) → (watch_end w q end).kept ≡ kinds.Kept → ⊥
stays_broken w GoesOn (Went x) broken h = broken (ap (λ (v : Watched). v.kept) (watch_stays w x broken) ∙ h)
stays_broken w GoesOn (Exited x status) broken h = broken h
stays_broken w GoesOn (Trapped trap) broken h = broken h
stays_broken w (HasExited status) end broken h = broken h
stays_broken w (HasTrapped trap) end broken h = broken h

some_before : (l : Loops) (o : Option Carried) (q : Standing) (end : StepEnd) (d : Carried) → watched l o q end ≡ Some d → (c : Carried) × (o ≡ Some c)
some_before l (Some c) q end d h = (c, refl)
some_before l None GoesOn (Went x) d h = let bad : ⊥ = cc in absurd bad
some_before l None GoesOn (Exited x status) d h = let bad : ⊥ = cc in absurd bad
some_before l None GoesOn (Trapped trap) d h = let bad : ⊥ = cc in absurd bad
some_before l None (HasExited status) end d h = let bad : ⊥ = cc in absurd bad
some_before l None (HasTrapped trap) end d h = let bad : ⊥ = cc in absurd bad

some_carried : (x y : Carried) → Some x ≡ Some y → x ≡ y
some_carried x y e = let r : x ≡ y = cc in r

module _ (image : Image) (levels : ℕ) (input : List ℕ) (notes : List LoopNote) where
  abbrev AreShallow : ℕ → Type 0
  AreShallow n = (m : ℕ) (c : Carried) → m ≤ n → kept_of image levels input (noted_loops notes) m ≡ Some c → length c.returns ≤ most_returns

  abbrev Going : ℕ → Type 0
  Going n = Goes notes (watched_at image levels input notes n) (kept_of image levels input (noted_loops notes) n) × AreShallow n

  abbrev Broken : ℕ → Type 0
  Broken n = ((watched_at image levels input notes n).kept ≡ kinds.Kept → ⊥) × (IsKeptUpTo image levels input (noted_loops notes) n → ⊥)

  one_less : (n : ℕ) → IsKeptUpTo image levels input (noted_loops notes) (suc n) → IsKeptUpTo image levels input (noted_loops notes) n
  unfolding kept_at
  one_less n k =
      let env : Setting = setting_of image levels input in
      let s : State = start_of image levels in
      let c = some_before (noted_loops notes) (kept_at env s (noted_loops notes) n) (run env s n).standing (step env (run env s n).state).end k.carried k.kept in
      record {
        carried = c.0;
        kept = c.1;
        shallow = λ m d le h. k.shallow m d (omega arith) h;
      }

  first_shallow : AreShallow 0
  unfolding kept_at
  first_shallow m c le h =
      let none : m ≡ 0 = omega arith in
      let start : Some carried_first ≡ Some c = subst (λ i. kept_of image levels input (noted_loops notes) i ≡ Some c) none h in
      let same : carried_first ≡ c = some_carried carried_first c start in
      subst (λ (d : Carried). length d.returns ≤ most_returns) same (omega arith)

  more_shallow : (n : ℕ) (d : Carried) → AreShallow n → kept_of image levels input (noted_loops notes) (suc n) ≡ Some d → length d.returns ≤ most_returns → AreShallow (suc n)
  more_shallow n d shallow at low m c le h = ⊎_elim
      (λ (less : m ≤ n). shallow m c less h)
      (λ (e : m ≡ suc n).
      let last : kept_of image levels input (noted_loops notes) (suc n) ≡ Some c = subst (λ i. kept_of image levels input (noted_loops notes) i ≡ Some c) e h in
      subst (λ (c : Carried). length c.returns ≤ most_returns) (some_carried d c (sym at ∙ last)) low)
      (split m n le)
    where
      split : (m n : ℕ) → m ≤ suc n → (m ≤ n) ⊎ (m ≡ suc n)
      split m n le = grind arith

  run_told : (n : ℕ) → Going n ⊎ Broken n
  unfolding kept_at watched_from
  run_told zero = inl (
    record {
      carried = carried_first;
      counts = replicate (length notes) 0;
      at = refl;
      is = refl;
      same = λ k kl. sym (get_or-replicate (length notes) k 0 0 kl);
      low = omega arith;
    },
    first_shallow,
  )
  run_told (suc n) = ⊎_elim
      (λ (going : Going n). after_going going (end_told notes (watched_from env s notes n) (kept_at env s (noted_loops notes) n) (run env s n).standing (step env (run env s n).state).end going.0))
      (λ (broken : Broken n). inr (stays_broken (watched_from env s notes n) (run env s n).standing (step env (run env s n).state).end broken.0, λ k. broken.1 (one_less n k)))
      (run_told n)
    where
      env : Setting
      env = setting_of image levels input

      s : State
      s = start_of image levels

      after_going : Going n → Told notes (watched_at image levels input notes (suc n)) (kept_of image levels input (noted_loops notes) (suc n)) → Going (suc n) ⊎ Broken (suc n)
      after_going going told = ⊎_elim
          (λ (g : Goes notes (watched_at image levels input notes (suc n)) (kept_of image levels input (noted_loops notes) (suc n))). inl (g, more_shallow n g.carried going.1 g.at g.low))
          (λ (stop : Stops (watched_at image levels input notes (suc n)) (kept_of image levels input (noted_loops notes) (suc n))).
          inr (stop.broken, λ k. stop.never k.carried k.kept (k.shallow (suc n) k.carried (omega arith) k.kept)))
          told

pub watched_is_kept : (image : Image) (levels : ℕ) (input : List ℕ) (notes : List LoopNote) (n : ℕ) →
    ((watched_at image levels input notes n).kept ≡ kinds.Kept) ↔ IsKeptUpTo image levels input (noted_loops notes) n
watched_is_kept image levels input notes n = ⊎_elim
    (λ (going : Going image levels input notes n). (
      λ kept. record { carried = going.0.carried; kept = going.0.at; shallow = going.1 },
      λ k. ap (λ (w : Watched). w.kept) going.0.is,
    ))
    (λ (broken : Broken image levels input notes n). (λ kept. absurd (broken.0 kept), λ k. absurd (broken.1 k)))
    (run_told image levels input notes n)
