-- One kept step is a kept transition of the graph, with the counts by bodies.
use Rattle.std.proofs.Common.{◌≡◌, ℕ, zero, suc, ◌-◌, ◌^◌, ◌<◌, ◌≤◌, Bool, true, false, not, ◌&&◌, ◌⊎◌, List, [], ◌∷◌, map, refl, sym, ap, ◌∙◌, subst, arith, Option, Some, None, ⊎_elim, nat_lt}
use Rattle.std.proofs.lemmas.Bool.{cond-true, cond-false, or_parts, ltb-false}
use Rattle.scale_base.specs.declared.stepping.Move.{Move}
use Rattle.scale_base.specs.declared.stepping.Move.TheVariants.{Local, Call, Return}
use Rattle.scale_base.specs.declared.stepping.Stepped.{Stepped}
use Rattle.scale_base.specs.Arith.{plus}
use Rattle.cost_theory.specs.Graph.{Graph, Loops, leaves, count_step, any_below, AreWithin}
use Rattle.cost_theory.specs.Accepted.{IsNode, IsProgram, IsInBody, AreAccepted, HaveWholeExtents}
use Rattle.cost_theory.specs.Steps as steps
use Rattle.cost_theory.specs.Steps.Transition.{Along as OverAlong, Call as OverCall, Return as OverReturn, Exit as OverExit}
use Rattle.cost_theory.specs.Reached.{Code, graph_of}
use Rattle.cost_theory.proofs.Laws.{below_suc, and_left, and_right, and_both, not_true, some_same}
use Rattle.code_text.specs.Text.{Text, kind_at}
use Rattle.graph_runs.specs.ReturnAddresses.{returns_after}
use Rattle.graph_runs.specs.RunTransitions.{after_call}
use Rattle.graph_runs.proofs.StepTransitions.{place, IsTransitionOf, IsTransitionKind, first_site, source_by}
use Rattle.graph_runs.specs.KeptSteps.{by_extents, Carried, source_of, counts_after, leaves_by, breaks, keeps_counts, kept_more}
use Rattle.graph_runs.specs.KeptRuns.{AreSameBelow}
use Rattle.graph_runs.proofs.CountLaws.{move_counts}

none_below : (n : ℕ) (p : ℕ → Bool) → any_below n p ≡ false → (k : ℕ) → k < n → p k ≡ false
none_below zero p h k lt = let bad : ⊥ = omega arith in absurd bad
none_below (suc n) p h k lt =
    let q = or_parts (any_below n p) (p n) h in
    ⊎_elim (λ (low : k < n). none_below n p q.0 k low) (λ (e : k ≡ n). ap p e ∙ q.1) (below_suc k n lt)

-- no loop is left with a count below its least
abbrev pub AreLate : Loops → (ℕ → ℕ) → Stepped → Type 0
AreLate l counts x = (k : ℕ) → k < l.loops → leaves_by x.moved l x.pc x.next k ≡ true → l.least_trips k ≤ counts k

-- a kept step: the return addresses go on, no count is over its bound, and no loop is left early
pub kept_parts : (l : Loops) (counts : ℕ → ℕ) (x : Stepped) (o : Option (List ℕ)) (c : Carried) → keeps_counts l counts x o ≡ Some c → (o ≡ Some c.returns) × (counts ≡ c.counts) × AreWithin l counts × AreLate l counts x
kept_parts l counts x None c h = let bad : ⊥ = cc in absurd bad
kept_parts l counts x (Some rs) c h = go (any_below l.loops (breaks l counts x)) refl
  where
    go : (b : Bool) → any_below l.loops (breaks l counts x) ≡ b → (Some rs ≡ Some c.returns) × (counts ≡ c.counts) × AreWithin l counts × AreLate l counts x
    go true e = let q : keeps_counts l counts x (Some rs) ≡ None = cond-true _ _ _ e in let bad : ⊥ = cc in absurd bad
    go false e =
        let q : keeps_counts l counts x (Some rs) ≡ Some (record { returns = rs; counts = counts }) = cond-false _ _ _ e in
        let same : record { returns = rs; counts = counts } ≡ c = some_carried (record { returns = rs; counts = counts }) c (sym q ∙ h) in (
          ap (λ d. Some d.returns) same,
          ap (λ d. d.counts) same,
          λ k kl. ltb-false (l.bound k) (counts k) (unbroken k kl).0,
          λ k kl left. late k left (unbroken k kl).1,
        )
      where
        unbroken : (k : ℕ) → k < l.loops → (nat_lt (l.bound k) (counts k) ≡ false) × ((leaves_by x.moved l x.pc x.next k && nat_lt (counts k) (l.least_trips k)) ≡ false)
        unbroken k kl = or_parts (nat_lt (l.bound k) (counts k)) (leaves_by x.moved l x.pc x.next k && nat_lt (counts k) (l.least_trips k)) (none_below l.loops (breaks l counts x) e k kl)

        late : (k : ℕ) → leaves_by x.moved l x.pc x.next k ≡ true → (leaves_by x.moved l x.pc x.next k && nat_lt (counts k) (l.least_trips k)) ≡ false → l.least_trips k ≤ counts k
        late k left h = ltb-false (counts k) (l.least_trips k) (sym (ap (λ b. b && nat_lt (counts k) (l.least_trips k)) left) ∙ h)

        some_carried : (x y : Carried) → Some x ≡ Some y → x ≡ y
        some_carried x y e = let r : x ≡ y = cc in r

-- the source by sites is that by return addresses
site_source : (moved : Move) (pc : ℕ) (calls : List ℕ) → ((u : ℕ) → first_site calls ≡ Some u → u < 2 ^ 32) → source_of moved pc (map after_call calls) ≡ source_by moved pc calls
site_source Local pc calls small = refl
site_source Call pc calls small = refl
site_source Return pc [] small = refl
site_source Return pc (u ∷ us) small = let e : u < 2 ^ 32 = small u refl in let r : plus (after_call u) (2 ^ 32 - 4) ≡ u = omega arith in ap Some r

-- A step that leaves a body leaves the extent, where that has no other nodes.
late_move : (t : Text) (code : Code) (l : Loops) (extent : ℕ → ℕ → Bool) → IsProgram (graph_of (kind_at t) code) → AreAccepted (graph_of (kind_at t) code) l extent →
    HaveWholeExtents (graph_of (kind_at t) code) l extent → (counts outer : ℕ → ℕ) → AreSameBelow l.loops counts outer →
    (calls calls_after : List ℕ) (x : Stepped) (pc : ℕ) (m : steps.Transition) → x.pc ≡ pc → IsTransitionOf t code pc calls x.class m (Some x.next) calls_after → IsTransitionKind m x.moved →
    AreLate (by_extents l extent) outer x → steps.AreLeftLate (graph_of (kind_at t) code) l m counts
late_move t code l extent prog acc whole counts outer same calls calls_after x pc (OverAlong e) at is kind late k kl left = ⊎_elim
    (λ (none : l.least_trips k ≡ 0). let r : l.least_trips k ≤ counts k = omega arith in r)
    (λ (some : 0 < l.least_trips k).
    let parts = leaving some in
    let outside : leaves (by_extents l extent) k x.pc (Some x.next) ≡ true = and_both (extent k x.pc) (not (extent k x.next)) parts.0 (ap not parts.1) in
    let out : leaves_by x.moved (by_extents l extent) x.pc x.next k ≡ true = subst (λ m. leaves_by m (by_extents l extent) x.pc x.next k ≡ true) (sym kind) outside in
    let r : l.least_trips k ≤ outer k = late k kl out in
    let s : counts k ≡ outer k = same k kl in
    let q : l.least_trips k ≤ counts k = omega arith in q)
    (some_or_none (l.least_trips k))
  where
    g : Graph
    g = graph_of (kind_at t) code

    some_or_none : (n : ℕ) → (n ≡ 0) ⊎ (0 < n)
    some_or_none n = grind arith

    from : g.source e ≡ x.pc
    from = is.from ∙ sym at

    to : g.target e ≡ Some x.next
    to = is.leads l counts

    both : (l.inside k x.pc && not (l.inside k x.next)) ≡ true
    both = subst (λ u. leaves l k u (Some x.next) ≡ true) from (subst (λ o. leaves l k (g.source e) o ≡ true) to left)

    leaving : 0 < l.least_trips k → (extent k x.pc ≡ true) × (extent k x.next ≡ false)
    leaving some = (held, apart (extent k x.next) refl)
      where
        body : IsInBody g (l.header k) (extent k) x.pc
        body = (acc.bodies k x.pc kl).0 (and_left (l.inside k x.pc) (not (l.inside k x.next)) both)

        held : extent k x.pc ≡ true
        held = subst (λ v. extent k v ≡ true) (some_same _ _ (sym body.2.2.1)) body.2.4.0

        node : IsNode g x.next
        node = (prog.stays e x.next is.edge to).0

        apart : (b : Bool) → extent k x.next ≡ b → extent k x.next ≡ false
        apart false h = h
        apart true h =
            let inside : l.inside k x.next ≡ true = whole k x.next kl some node h in
            let outside : l.inside k x.next ≡ false = not_true (l.inside k x.next) (and_right (l.inside k x.pc) (not (l.inside k x.next)) both) in
            let bad : ⊥ = cc in absurd bad
late_move t code l extent prog acc whole counts outer same calls calls_after x pc (OverCall e f) at is kind late k kl left = let bad : ⊥ = cc in absurd bad
late_move t code l extent prog acc whole counts outer same calls calls_after x pc (OverReturn e) at is kind late k kl left = let bad : ⊥ = cc in absurd bad
late_move t code l extent prog acc whole counts outer same calls calls_after x pc (OverExit e) at is kind late k kl left = let bad : ⊥ = cc in absurd bad

-- a kept step is a kept transition
pub kept_move : (t : Text) (code : Code) (l : Loops) (extent : ℕ → ℕ → Bool) → IsProgram (graph_of (kind_at t) code) → AreAccepted (graph_of (kind_at t) code) l extent → HaveWholeExtents (graph_of (kind_at t) code) l extent →
    (one : ℕ → ℕ) (c d : Carried) (calls calls_after : List ℕ) (x : Stepped) (pc : ℕ) (m : steps.Transition) →
    AreSameBelow l.loops one c.counts → c.returns ≡ map after_call calls → ((u : ℕ) → first_site calls ≡ Some u → u < 2 ^ 32) → x.pc ≡ pc →
    kept_more (by_extents l extent) (Some c) x ≡ Some d → IsTransitionOf t code pc calls x.class m (Some x.next) calls_after → IsTransitionKind m x.moved →
    steps.IsKept (graph_of (kind_at t) code) l (place pc calls one) m × AreSameBelow l.loops (steps.after (graph_of (kind_at t) code) l (place pc calls one) m).counts d.counts
kept_move t code l extent prog acc whole one c d calls calls_after x pc m same returns small at kept is kind =
    let g : Graph = graph_of (kind_at t) code in
    let p : (returns_after c.returns x ≡ Some d.returns) × (counts_after (by_extents l extent) c x ≡ d.counts) × AreWithin (by_extents l extent) (counts_after (by_extents l extent) c x) ×
    AreLate (by_extents l extent) (counts_after (by_extents l extent) c x) x =
    kept_parts (by_extents l extent) (counts_after (by_extents l extent) c x) x (returns_after c.returns x) d kept in
    let source : source_of x.moved x.pc c.returns ≡ source_by x.moved pc calls = ap (source_of x.moved x.pc) returns ∙ (site_source x.moved x.pc calls small ∙ ap (λ v. source_by x.moved v calls) at) in
    let counts : AreSameBelow l.loops (steps.after g l (place pc calls one) m).counts (counts_after (by_extents l extent) c x) =
    λ k kl. move_counts t code l extent prog acc one c.counts same pc x.next calls calls_after x.class x.moved m is kind k kl ∙ ap (λ o. count_step (by_extents l extent) o (Some x.next) c.counts k) (sym source) in (
      record {
        edge = is.edge;
        from = ap Some (sym is.from);
        move = is.move one;
        within = λ k kl. subst (λ n. n ≤ l.bound k) (sym (counts k kl)) (p.2 k kl);
        late = late_move t code l extent prog acc whole (steps.after g l (place pc calls one) m).counts (counts_after (by_extents l extent) c x) counts calls calls_after x pc m at is kind p.3;
      },
      λ k kl. counts k kl ∙ ap (λ f. f k) p.1,
    )
