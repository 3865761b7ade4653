-- A kept run that exits is a list of walks, one in each function that it is in, along which no loop is left early.
use Rattle.std.proofs.Common.{◌≡◌, ℕ, ◌+◌, ◌-◌, ◌*◌, ◌<◌, ◌≤◌, Bool, true, false, cond, not, ◌&&◌, ◌||◌, ◌⊎◌, inl, inr, ⊎_elim, List, [], ◌∷◌, ◌++◌, Option, Some, None, is_some, unwrap_or, option_map, refl, sym, ap, ◌∙◌, subst, arith, le_refl, eq-eqb, ne_eqb}
use Rattle.cost_theory.specs.Graph.{Graph, Loops, IsWalk, end_of, total, only, is_round, is_header, enters, leaves, count_step, next_edge}
use Rattle.cost_theory.specs.Worst.{at_some}
use Rattle.cost_theory.specs.Accepted.{IsNode, AreCalls, StaysWithin, IsInBody}
use Rattle.cost_theory.specs.Steps.{GraphState, Transition, edge_of, go_back, after_return, after, ComesBack, IsKept, AreKept, EndsByExit, after_all, graph_start, state_after, cycles}
use Rattle.cost_theory.specs.Steps.Transition.{Along, Call, Return, Exit}
use Rattle.cost_theory.specs.Least.{IsUpTo, callee_value, least_call, IsWay, way_cost}
use Rattle.cost_theory.specs.Least.WayToEnd.{Exits, Returns}
use Rattle.cost_theory.specs.LeastTurns.{IsRun, KeepsLeast}
use Rattle.cost_theory.proofs.Laws.{and_left, and_right, and_both, not_true, only_true, sum-le, some_value, count_same, count_anew, some_same, entered-header, no_numbers, IsChain, Stands, IsSound, next-is, sound_after, sound_run, least_up_to}
use Rattle.cycle_laws.specs.Charged.{Charged, calls_so, calls_exit, is_closed, charge_of, to_end_after, end_behind, leads_on, ends_exit, IsToReturn, IsToExit, owed}
use Rattle.cycle_laws.specs.LeastLaws.{IsCharged, ExitTakesCharged, ExitTakesLeastBehind, ExitTakesLeastBehindReturn, RunTakesLeastBehind}
use Rattle.cycle_laws.proofs.WalkKinds.{trips, price, nest, exit_bound, return_bound, exit_owed, return_owed}

-- counts that agree on the loops of a function, and of the functions of suspended calls
abbrev AgreeOn : Graph → Loops → ℕ → (ℕ → ℕ) → (ℕ → ℕ) → Type 0
AgreeOn g l f one other = (k : ℕ) → k < l.loops → g.owner (l.header k) ≡ f → one k ≡ other k

abbrev AgreeOnCalls : Graph → Loops → List ℕ → (ℕ → ℕ) → (ℕ → ℕ) → Type 0
AgreeOnCalls g l [] one other = Unit {0}
AgreeOnCalls g l (u ∷ calls) one other = AgreeOn g l (g.owner u) one other × AgreeOnCalls g l calls one other

agree_step : (g : Graph) (l : Loops) (f : ℕ) (from to : Option ℕ) (one other : ℕ → ℕ) → AgreeOn g l f one other → AgreeOn g l f (count_step l from to one) (count_step l from to other)
agree_step g l f from to one other agree k kl own = ap (λ c. cond (is_header l k to) (cond (is_round l k from) (c + 1) 0) c) (agree k kl own)

agree_steps : (g : Graph) (l : Loops) (calls : List ℕ) (from to : Option ℕ) (one other : ℕ → ℕ) → AgreeOnCalls g l calls one other → AgreeOnCalls g l calls (count_step l from to one) (count_step l from to other)
agree_steps g l [] from to one other agree = tt
agree_steps g l (u ∷ calls) from to one other agree = (agree_step g l (g.owner u) from to one other agree.0, agree_steps g l calls from to one other agree.1)

module _ (g : Graph) (l : Loops) (extent : ℕ → ℕ → Bool) (w : ℕ → ℕ) (n : Charged) (is : IsCharged g l extent w n) where
  abbrev m : ℕ → ℕ
  m = trips g l extent w n is

  abbrev c : ℕ → ℕ
  c = price g l extent w n is

  -- a step to a node of one function leaves the counts of the loops of others alone
  other_count : (f v : ℕ) (from : Option ℕ) (counts : ℕ → ℕ) → (f ≡ g.owner v → ⊥) → AgreeOn g l f (count_step l from (Some v) counts) counts
  other_count f v from counts apart k kl own = count_same g l k from (Some v) counts (ne_eqb v (l.header k) (λ e. apart (sym own ∙ ap g.owner (sym e))))

  -- so those of the suspended calls, since no function calls itself
  other_counts : (calls : List ℕ) (f v : ℕ) (fs : List ℕ) (from : Option ℕ) (counts : ℕ → ℕ) → IsChain g f calls → AreCalls g f fs (g.owner v) → AgreeOnCalls g l calls (count_step l from (Some v) counts) counts
  other_counts [] f v fs from counts chain path = tt
  other_counts (u ∷ calls) f v fs from counts chain path = (
    other_count (g.owner u) v from counts (λ e. is.program.no_recursion (g.owner u) f fs ((u, refl, chain.0), subst (λ i. AreCalls g f fs i) (sym e) path)),
    other_counts calls (g.owner u) v (f ∷ fs) from counts chain.1 ((u, refl, chain.0), path),
  )

  -- a walk that leaves no loop early does so with counts that agree on the loops of its function
  keeps_same : (last step : ℕ → Bool) (es : List ℕ) (v : ℕ) (one other : ℕ → ℕ) → IsRun g false last step (Some v) es → AgreeOn g l (g.owner v) one other → KeepsLeast g l m one es → KeepsLeast g l m other es
  keeps_same last step [] v one other run agree keeps = tt
  keeps_same last step (e ∷ es) v one other run agree keeps = (
    λ k kl out. subst (λ x. m k ≤ x) (agree k kl (own k kl (g.target e) out)) (keeps.0 k kl out),
    rest run.2 (λ u to more. keeps_same last step es u (count_step l (Some (g.source e)) (g.target e) one) (count_step l (Some (g.source e)) (g.target e) other) more
        (agree_step g l (g.owner u) (Some (g.source e)) (g.target e) one other (subst (λ f. AgreeOn g l f one other) (here ∙ sym (is.program.stays e u run.0 to).1) agree)) keeps.1),
  )
    where
      here : g.owner v ≡ g.owner (g.source e)
      here = ap g.owner (some_same _ _ run.1)

      own : (k : ℕ) → k < l.loops → (o : Option ℕ) → leaves l k (g.source e) o ≡ true → g.owner (l.header k) ≡ g.owner v
      own k kl None out = let bad : ⊥ = cc in absurd bad
      own k kl (Some t) out =
          let body : IsInBody g (l.header k) (extent k) (g.source e) = (is.accepted.bodies k (g.source e) kl).0 (and_left (l.inside k (g.source e)) (not (l.inside k t)) out) in
          sym (here ∙ body.0)

      at : (o : Option ℕ) → g.target e ≡ o → IsRun g false last step (g.target e) es → ((u : ℕ) → g.target e ≡ Some u → IsRun g false last step (Some u) es → KeepsLeast g l m (count_step l (Some (g.source e)) (g.target e) other) es) →
          KeepsLeast g l m (count_step l (Some (g.source e)) (g.target e) other) es
      at None to more ih = absurd (nowhere es (subst (λ o. IsRun g false last step o es) to more))
        where
          nowhere : (xs : List ℕ) → IsRun g false last step None xs → ⊥
          nowhere [] r = let q : false ≡ true = r in let bad : ⊥ = cc in bad
          nowhere (x ∷ xs) r = let q : None ≡ Some (g.source x) = r.1 in let bad : ⊥ = cc in bad
      at (Some u) to more ih = ih u to (subst (λ o. IsRun g false last step o es) to more)

      rest : ((last e ≡ true) × (es ≡ [])) ⊎ ((step e ≡ true) × IsRun g false last step (g.target e) es) →
          ((u : ℕ) → g.target e ≡ Some u → IsRun g false last step (Some u) es → KeepsLeast g l m (count_step l (Some (g.source e)) (g.target e) other) es) →
          KeepsLeast g l m (count_step l (Some (g.source e)) (g.target e) other) es
      rest (inl a) ih = subst (λ (xs : List ℕ). KeepsLeast g l m (count_step l (Some (g.source e)) (g.target e) other) xs) (sym a.1) tt
      rest (inr b) ih = at (g.target e) refl b.1 ih

  -- a walk to an exit, or to a return, within so many cycles
  abbrev ToExit : ℕ → (ℕ → ℕ) → ℕ → Type 0
  ToExit v counts x = (es : List ℕ) × IsToExit g n.least v es × KeepsLeast g l m counts es × (total c es ≤ x)

  abbrev ToReturn : ℕ → (ℕ → ℕ) → ℕ → Type 0
  ToReturn v counts x = (es : List ℕ) × IsToReturn g v es × KeepsLeast g l m counts es × (total c es ≤ x)

  -- The run from v, in these calls, is within so many cycles a walk to an exit; or one to a return and then what is left, from where the call
  -- comes back.
  abbrev Walks : ℕ → List ℕ → (ℕ → ℕ) → ℕ → Type 0
  Walks v [] counts x = ToExit v counts x
  Walks v (u ∷ calls) counts x = ToExit v counts x ⊎
      ((r : ℕ) × (y : ℕ) × (d : ℕ) × (t : ℕ) × ToReturn v counts r × (next_edge g u ≡ Some d) × (g.target d ≡ Some t) × Walks t calls (count_step l (Some u) (Some t) counts) y × (r + y ≤ x))

  exits_here : (v : ℕ) (calls : List ℕ) (counts : ℕ → ℕ) (x : ℕ) → ToExit v counts x → Walks v calls counts x
  exits_here v [] counts x to = to
  exits_here v (u ∷ calls) counts x to = inl to

  walks-le : (v : ℕ) (calls : List ℕ) (counts : ℕ → ℕ) (x y : ℕ) → x ≤ y → Walks v calls counts x → Walks v calls counts y
  walks-le v [] counts x y le a = (a.0, a.1, a.2, (let q : total c a.0 ≤ x = a.3 in let r : total c a.0 ≤ y = omega arith in r))
  walks-le v (u ∷ calls) counts x y le walks = ⊎_elim
      (λ (a : ToExit v counts x). inl (a.0, a.1, a.2, (let q : total c a.0 ≤ x = a.3 in let r : total c a.0 ≤ y = omega arith in r)))
      (λ (b : (r : ℕ) × (y : ℕ) × (d : ℕ) × (t : ℕ) × ToReturn v counts r × (next_edge g u ≡ Some d) × (g.target d ≡ Some t) × Walks t calls (count_step l (Some u) (Some t) counts) y × (r + y ≤ x)).
      inr (b.0, b.1, b.2, b.3, b.4, b.5, b.6, b.7, (let q : b.0 + b.1 ≤ x = b.8 in let r : b.0 + b.1 ≤ y = omega arith in r)))
      walks

  -- counts that agree on the loops of all these functions
  walks_same : (calls : List ℕ) (v : ℕ) (one other : ℕ → ℕ) (x : ℕ) → AgreeOn g l (g.owner v) one other → AgreeOnCalls g l calls one other → Walks v calls one x → Walks v calls other x
  walks_same [] v one other x agree agrees a = (a.0, a.1, keeps_same (ends_exit g n.least) (leads_on g) a.0 v one other a.1 agree a.2, a.3)
  walks_same (u ∷ calls) v one other x agree agrees walks = go walks
      (λ t y own rest. walks_same calls t (count_step l (Some u) (Some t) one) (count_step l (Some u) (Some t) other) y
      (agree_step g l (g.owner t) (Some u) (Some t) one other (subst (λ f. AgreeOn g l f one other) own agrees.0)) (agree_steps g l calls (Some u) (Some t) one other agrees.1) rest)
    where
      go : Walks v (u ∷ calls) one x → ((t y : ℕ) → g.owner u ≡ g.owner t → Walks t calls (count_step l (Some u) (Some t) one) y → Walks t calls (count_step l (Some u) (Some t) other) y) → Walks v (u ∷ calls) other x
      go (inl a) ih = inl (a.0, a.1, keeps_same (ends_exit g n.least) (leads_on g) a.0 v one other a.1 agree a.2, a.3)
      go (inr b) ih =
          let found : (b.2 < g.edges) × (g.source b.2 ≡ u) × ((f : ℕ) × (g.callee b.2 ≡ Some f)) × ((v : ℕ) × (g.target b.2 ≡ Some v)) = next-is g u b.2 b.5 in
          let own : g.owner u ≡ g.owner b.3 = sym ((is.program.stays b.2 b.3 found.0 b.6).1 ∙ ap g.owner found.1) in
          inr (b.0, b.1, b.2, b.3, (b.4.0, b.4.1, keeps_same g.returns (leads_on g) b.4.0 v one other b.4.1 agree b.4.2, b.4.3), b.5, b.6, ih b.3 b.1 own b.7, b.8)

  -- an edge before a walk
  longer : (last : ℕ → Bool) (e t : ℕ) (counts : ℕ → ℕ) → e < g.edges → g.target e ≡ Some t →
      ((k : ℕ) → k < l.loops → leaves l k (g.source e) (Some t) ≡ true → m k ≤ counts k) → (es : List ℕ) →
      IsRun g false last (leads_on g) (Some t) es → KeepsLeast g l m (count_step l (Some (g.source e)) (Some t) counts) es →
      IsRun g false last (leads_on g) (Some (g.source e)) (e ∷ es) × KeepsLeast g l m counts (e ∷ es)
  longer last e t counts el to late es run keeps = (
    (el, refl, inr (ap is_some to, subst (λ o. IsRun g false last (leads_on g) o es) (sym to) run)),
    (
      λ k kl out. late k kl (subst (λ o. leaves l k (g.source e) o ≡ true) to out),
      subst (λ o. KeepsLeast g l m (count_step l (Some (g.source e)) o counts) es) (sym to) keeps,
    ),
  )

  walk_before : (e t : ℕ) (calls : List ℕ) (counts : ℕ → ℕ) (x : ℕ) → e < g.edges → g.target e ≡ Some t → ((k : ℕ) → k < l.loops → leaves l k (g.source e) (Some t) ≡ true → m k ≤ counts k) →
      IsChain g (g.owner (g.source e)) calls → Walks t calls (count_step l (Some (g.source e)) (Some t) counts) x → Walks (g.source e) calls counts (c e + x)
  walk_before e t [] counts x el to late chain a =
      let p = longer (ends_exit g n.least) e t counts el to late a.0 a.1 a.2 in
      let le : total c a.0 ≤ x = a.3 in
      (e ∷ a.0, p.0, p.1, omega arith)
  walk_before e t (u ∷ calls) counts x el to late chain walks = ⊎_elim
      (λ (a : ToExit t (count_step l (Some (g.source e)) (Some t) counts) x).
      let p = longer (ends_exit g n.least) e t counts el to late a.0 a.1 a.2 in
      inl (e ∷ a.0, p.0, p.1, (let le : total c a.0 ≤ x = a.3 in let r : c e + total c a.0 ≤ c e + x = omega arith in r)))
      (λ (b : (r : ℕ) × (y : ℕ) × (d : ℕ) × (s : ℕ) × ToReturn t (count_step l (Some (g.source e)) (Some t) counts) r × (next_edge g u ≡ Some d) × (g.target d ≡ Some s) ×
      Walks s calls (count_step l (Some u) (Some s) (count_step l (Some (g.source e)) (Some t) counts)) y × (r + y ≤ x)).
      let p = longer g.returns e t counts el to late b.4.0 b.4.1 b.4.2 in
      let found : (b.2 < g.edges) × (g.source b.2 ≡ u) × ((f : ℕ) × (g.callee b.2 ≡ Some f)) × ((v : ℕ) × (g.target b.2 ≡ Some v)) = next-is g u b.2 b.5 in
      let own : g.owner u ≡ g.owner b.3 = sym ((is.program.stays b.2 b.3 found.0 b.6).1 ∙ ap g.owner found.1) in
      let agree : AgreeOnCalls g l (u ∷ calls) (count_step l (Some (g.source e)) (Some t) counts) counts =
      other_counts (u ∷ calls) (g.owner (g.source e)) t [] (Some (g.source e)) counts chain (sym (is.program.stays e t el to).1) in
      let rest : Walks b.3 calls (count_step l (Some u) (Some b.3) counts) b.1 =
      walks_same calls b.3 (count_step l (Some u) (Some b.3) (count_step l (Some (g.source e)) (Some t) counts)) (count_step l (Some u) (Some b.3) counts) b.1
      (agree_step g l (g.owner b.3) (Some u) (Some b.3) (count_step l (Some (g.source e)) (Some t) counts) counts (subst (λ f. AgreeOn g l f (count_step l (Some (g.source e)) (Some t) counts) counts) own agree.0))
      (agree_steps g l calls (Some u) (Some b.3) (count_step l (Some (g.source e)) (Some t) counts) counts agree.1) b.7 in
      inr (
        c e + b.0,
        b.1,
        b.2,
        b.3,
        (e ∷ b.4.0, p.0, p.1, (let le : total c b.4.0 ≤ b.0 = b.4.3 in let r : c e + total c b.4.0 ≤ c e + b.0 = omega arith in r)),
        b.5,
        b.6,
        rest,
        (let le : b.0 + b.1 ≤ x = b.8 in let r : c e + b.0 + b.1 ≤ c e + x = omega arith in r),
      ))
      walks

  -- ---- the costs of edges
  plain_cost : (e : ℕ) → g.callee e ≡ None → c e ≡ w e
  plain_cost e calls = by_target (g.target e) refl
    where
      none : (table : ℕ → Option ℕ) → callee_value g table e ≡ 0
      none table = ap (λ o. at_some o (λ f. unwrap_or (table (g.entry f)) 0)) calls

      by_target : (o : Option ℕ) → g.target e ≡ o → c e ≡ w e
      by_target None to =
          let a : least_call g n.least e (g.target e) ≡ 0 = ap (least_call g n.least e) to ∙ none n.least.to_exit in omega arith
      by_target (Some t) to =
          let a : least_call g n.least e (g.target e) ≡ 0 = ap (least_call g n.least e) to ∙ none n.least.to_return in omega arith

  last_exit : (e : ℕ) (counts : ℕ → ℕ) → e < g.edges → ends_exit g n.least e ≡ true → g.target e ≡ None → ToExit (g.source e) counts (c e)
  last_exit e counts el last to = (e ∷ [], (el, refl, inl (last, refl)), (λ k kl out. (let q : false ≡ true = subst (λ o. leaves l k (g.source e) o ≡ true) to out in let bad : ⊥ = cc in absurd bad), tt), omega arith)

  -- an exit in the callee
  exit_in_call : (e f x : ℕ) (counts : ℕ → ℕ) → e < g.edges → g.callee e ≡ Some f → g.target e ≡ None → IsUpTo (n.least.to_exit (g.entry f)) x → ToExit (g.source e) counts (w e + x)
  exit_in_call e f x counts el calls to up =
      let some : calls_exit g n.least e ≡ true = ap (λ o. calls_so o (λ f. is_some (n.least.to_exit (g.entry f)))) calls ∙ ap is_some up.1 in
      let last : ends_exit g n.least e ≡ true = either (g.exits e) (not (is_some (g.target e))) (calls_exit g n.least e) (ap (λ o. not (is_some o)) to) some in
      let here : ToExit (g.source e) counts (c e) = last_exit e counts el last to in
      let a : least_call g n.least e (g.target e) ≡ callee_value g n.least.to_exit e = ap (least_call g n.least e) to in
      let b : callee_value g n.least.to_exit e ≡ unwrap_or (n.least.to_exit (g.entry f)) 0 = ap (λ o. at_some o (λ f. unwrap_or (n.least.to_exit (g.entry f)) 0)) calls in
      let d : unwrap_or (n.least.to_exit (g.entry f)) 0 ≡ up.0 = ap (λ o. unwrap_or o 0) up.1 in
      let le : up.0 ≤ x = up.2 in
      let q : total c here.0 ≤ c e = here.3 in
      (here.0, here.1, here.2, omega arith)
    where
      either : (a b d : Bool) → b ≡ true → d ≡ true → (a || (b && d)) ≡ true
      either true b d p q = refl
      either false b d p q = and_both b d p q

  call_cost : (d f t r : ℕ) → g.callee d ≡ Some f → g.target d ≡ Some t → IsUpTo (n.least.to_return (g.entry f)) r → c d ≤ w d + r
  call_cost d f t r calls to up =
      let a : least_call g n.least d (g.target d) ≡ callee_value g n.least.to_return d = ap (least_call g n.least d) to in
      let b : callee_value g n.least.to_return d ≡ unwrap_or (n.least.to_return (g.entry f)) 0 = ap (λ o. at_some o (λ f. unwrap_or (n.least.to_return (g.entry f)) 0)) calls in
      let e : unwrap_or (n.least.to_return (g.entry f)) 0 ≡ up.0 = ap (λ o. unwrap_or o 0) up.1 in
      let le : up.0 ≤ r = up.2 in
      omega arith

  -- a call comes back into the bodies that it is in
  stays_round : (d f t k : ℕ) → k < l.loops → d < g.edges → g.callee d ≡ Some f → g.target d ≡ Some t → l.inside k (g.source d) ≡ true → l.inside k t ≡ true
  stays_round d f t k kl dl calls to in_u = go (g.target body.2.0) refl
    where
      body : IsInBody g (l.header k) (extent k) (g.source d)
      body = (is.accepted.bodies k (g.source d) kl).0 in_u

      own : g.owner t ≡ g.owner (l.header k)
      own = (is.program.stays d t dl to).1 ∙ body.0

      inside_rest : (es : List ℕ) → IsWalk g (Some t) es → end_of g (Some t) es ≡ Some (l.header k) → StaysWithin g (extent k) es → l.inside k t ≡ true
      inside_rest [] walk ends stays = subst (λ u. l.inside k u ≡ true) (sym (some_same _ _ ends)) ((nest g l extent w n is).ways.holds_header k kl)
      inside_rest (x ∷ xs) walk ends stays = (is.accepted.bodies k t kl).1 (own, body.1, (x, xs, walk, ends, stays))

      go : (o : Option ℕ) → g.target body.2.0 ≡ o → l.inside k t ≡ true
      go None none = absurd (nowhere body.2.1 (subst (λ o. IsWalk g o body.2.1) none body.2.2.2) (subst (λ o. end_of g o body.2.1 ≡ Some (l.header k)) none body.2.3))
        where
          nowhere : (es : List ℕ) → IsWalk g None es → end_of g None es ≡ Some (l.header k) → ⊥
          nowhere [] walk ends = let bad : ⊥ = cc in bad
          nowhere (x ∷ xs) walk ends = let q : None ≡ Some (g.source x) = walk.1 in let bad : ⊥ = cc in bad
      go (Some v) next =
          let same : t ≡ v = is.returns.one_return d body.2.0 f t v dl body.2.2.0 (some_same _ _ body.2.2.1) calls to next in
          let at : g.target body.2.0 ≡ Some t = next ∙ ap Some (sym same) in
          inside_rest body.2.1 (subst (λ o. IsWalk g o body.2.1) at body.2.2.2) (subst (λ o. end_of g o body.2.1 ≡ Some (l.header k)) at body.2.3) body.2.4.1

  -- ---- the steps of a run
  trips-le : (k : ℕ) → m k ≤ l.least_trips k
  trips-le k = go (is_closed g l n.least k)
    where
      go : (b : Bool) → only b (l.least_trips k) ≤ l.least_trips k
      go true = le_refl (l.least_trips k)
      go false = omega arith

  along_late : (s : GraphState) (e v : ℕ) → IsKept g l s (Along e) → g.target e ≡ Some v → (k : ℕ) → k < l.loops → leaves l k (g.source e) (Some v) ≡ true → m k ≤ s.counts k
  along_late s e v kept to k kl out =
      let outside : l.inside k v ≡ false = not_true (l.inside k v) (and_right (l.inside k (g.source e)) (not (l.inside k v)) out) in
      let away : is_header l k (Some v) ≡ false = ne_eqb v (l.header k) (λ e.
      let t : l.inside k v ≡ true = subst (λ u. l.inside k u ≡ true) (sym e) ((nest g l extent w n is).ways.holds_header k kl) in
      let bad : ⊥ = cc in bad) in
      let late : l.least_trips k ≤ count_step l (Some (g.source e)) (g.target e) s.counts k = kept.late k kl (subst (λ o. leaves l k (g.source e) o ≡ true) (sym to) out) in
      let count : count_step l (Some (g.source e)) (g.target e) s.counts k ≡ s.counts k = count_same g l k (Some (g.source e)) (g.target e) s.counts (subst (λ o. is_header l k o ≡ false) (sym to) away) in
      let le : m k ≤ l.least_trips k = trips-le k in
      omega arith

  -- a call: what happens in the callee happens at the site
  walks_call : (e f x : ℕ) (calls : List ℕ) (counts : ℕ → ℕ) → e < g.edges → g.callee e ≡ Some f → g.target e ≡ None → IsChain g (g.owner (g.source e)) calls →
      Walks (g.entry f) (g.source e ∷ calls) (count_step l None (Some (g.entry f)) counts) x → Walks (g.source e) calls counts (w e + x)
  walks_call e f x calls counts el calls_f to chain walks = ⊎_elim
      (λ (a : ToExit (g.entry f) (count_step l None (Some (g.entry f)) counts) x).
      let up : IsUpTo (n.least.to_exit (g.entry f)) (total c a.0) = exit_bound g l extent w n is a.0 (g.entry f) (count_step l None (Some (g.entry f)) counts) a.1 a.2 in
      let le : up.0 ≤ total c a.0 = up.2 in
      let more : total c a.0 ≤ x = a.3 in
      exits_here (g.source e) calls counts (w e + x) (exit_in_call e f x counts el calls_f to (up.0, up.1, omega arith)))
      (λ (b : (r : ℕ) × (y : ℕ) × (d : ℕ) × (t : ℕ) × ToReturn (g.entry f) (count_step l None (Some (g.entry f)) counts) r × (next_edge g (g.source e) ≡ Some d) × (g.target d ≡ Some t) ×
      Walks t calls (count_step l (Some (g.source e)) (Some t) (count_step l None (Some (g.entry f)) counts)) y × (r + y ≤ x)).
      let found : (b.2 < g.edges) × (g.source b.2 ≡ g.source e) × ((f : ℕ) × (g.callee b.2 ≡ Some f)) × ((v : ℕ) × (g.target b.2 ≡ Some v)) = next-is g (g.source e) b.2 b.5 in
      let calls_d : g.callee b.2 ≡ Some f = is.program.one_callee b.2 e found.0 el found.1 ∙ calls_f in
      let up : IsUpTo (n.least.to_return (g.entry f)) (total c b.4.0) = return_bound g l extent w n is b.4.0 (g.entry f) (count_step l None (Some (g.entry f)) counts) b.4.1 b.4.2 in
      let up_le : up.0 ≤ total c b.4.0 = up.2 in
      let walk_le : total c b.4.0 ≤ b.0 = b.4.3 in
      let cost : c b.2 ≤ w b.2 + b.0 = call_cost b.2 f b.3 b.0 calls_d b.6 (up.0, up.1, omega arith) in
      let same : w b.2 ≡ w e = is.weights b.2 e f found.0 el found.1 calls_d in
      let fl : f < g.functions = is.program.callee_function e f el calls_f in
      let agree : AgreeOnCalls g l (g.source e ∷ calls) (count_step l None (Some (g.entry f)) counts) counts =
      other_counts (g.source e ∷ calls) f (g.entry f) [] None counts ((e, el, refl, calls_f), chain) (sym (is.program.entry_owner f fl)) in
      let own : g.owner (g.source e) ≡ g.owner b.3 = sym ((is.program.stays b.2 b.3 found.0 b.6).1 ∙ ap g.owner found.1) in
      let rest : Walks b.3 calls (count_step l (Some (g.source e)) (Some b.3) counts) b.1 =
      walks_same calls b.3 (count_step l (Some (g.source e)) (Some b.3) (count_step l None (Some (g.entry f)) counts)) (count_step l (Some (g.source e)) (Some b.3) counts) b.1
      (agree_step g l (g.owner b.3) (Some (g.source e)) (Some b.3) (count_step l None (Some (g.entry f)) counts) counts (subst (λ i. AgreeOn g l i (count_step l None (Some (g.entry f)) counts) counts) own agree.0))
      (agree_steps g l calls (Some (g.source e)) (Some b.3) (count_step l None (Some (g.entry f)) counts) counts agree.1) b.7 in
      let before : Walks (g.source b.2) calls counts (c b.2 + b.1) =
      walk_before b.2 b.3 calls counts b.1 found.0 b.6
      (λ k kl out. absurd (let inn : l.inside k b.3 ≡ true = stays_round b.2 f b.3 k kl found.0 calls_d b.6 (and_left (l.inside k (g.source b.2)) (not (l.inside k b.3)) out) in
      let gone : l.inside k b.3 ≡ false = not_true (l.inside k b.3) (and_right (l.inside k (g.source b.2)) (not (l.inside k b.3)) out) in let bad : ⊥ = cc in bad))
      (subst (λ u. IsChain g (g.owner u) calls) (sym found.1) chain)
      (subst (λ u. Walks b.3 calls (count_step l (Some u) (Some b.3) counts) b.1) (sym found.1) rest) in
      let sum : b.0 + b.1 ≤ x = b.8 in
      walks-le (g.source e) calls counts (c b.2 + b.1) (w e + x) (omega arith) (subst (λ u. Walks u calls counts (c b.2 + b.1)) found.1 before))
      walks

  walks_step : (s : GraphState) (k : Transition) (v x : ℕ) → IsSound g l s → IsKept g l s k → (after g l s k).node ≡ Some v → Walks v (after g l s k).calls (after g l s k).counts x →
      Walks (g.source (edge_of k)) s.calls s.counts (w (edge_of k) + x)
  walks_step s (Along e) v x sound kept to walks =
      let here : IsNode g (g.source e) × IsChain g (g.owner (g.source e)) s.calls = subst (λ p. Stands g p s.calls) kept.from sound.stands in
      let cost : c e ≡ w e = plain_cost e kept.move.0 in
      subst (λ y. Walks (g.source e) s.calls s.counts (y + x)) cost
      (walk_before e v s.calls s.counts x kept.edge to (along_late s e v kept to) here.1 (subst (λ o. Walks v s.calls (count_step l (Some (g.source e)) o s.counts) x) to walks))
  walks_step s (Call e f) v x sound kept to walks =
      let here : IsNode g (g.source e) × IsChain g (g.owner (g.source e)) s.calls = subst (λ p. Stands g p s.calls) kept.from sound.stands in
      let eq : g.entry f ≡ v = some_same _ _ to in
      walks_call e f x s.calls s.counts kept.edge kept.move.0 kept.move.1 here.1 (subst (λ u. Walks u (g.source e ∷ s.calls) (count_step l None (Some (g.entry f)) s.counts) x) (sym eq) walks)
  walks_step s (Return e) v x sound kept to walks = go s.calls kept.move.1 to walks
    where
      back : (u : ℕ) (calls : List ℕ) (o : Option ℕ) → next_edge g u ≡ o → (go_back g l u o calls s.counts).node ≡ Some v → Walks v (go_back g l u o calls s.counts).calls (go_back g l u o calls s.counts).counts x →
          Walks (g.source e) (u ∷ calls) s.counts (w e + x)
      back u calls None next to walks = let q : None ≡ Some v = to in let bad : ⊥ = cc in absurd bad
      back u calls (Some d) next to walks =
          let ends : (g.target e ≡ None) × (g.callee e ≡ None) = is.program.return_end e kept.edge kept.move.0 in
          let cost : c e ≡ w e = plain_cost e ends.1 in
          inr (
            w e,
            x,
            d,
            v,
            (e ∷ [], (kept.edge, refl, inl (kept.move.0, refl)), (λ k kl out. (let q : false ≡ true = subst (λ o. leaves l k (g.source e) o ≡ true) ends.0 out in let bad : ⊥ = cc in absurd bad), tt), omega arith),
            next,
            to,
            subst (λ o. Walks v calls (count_step l (Some u) o s.counts) x) to walks,
            le_refl (w e + x),
          )

      go : (calls : List ℕ) → ComesBack g calls → (after_return g l calls s.counts).node ≡ Some v → Walks v (after_return g l calls s.counts).calls (after_return g l calls s.counts).counts x → Walks (g.source e) calls s.counts (w e + x)
      go [] comes to walks = absurd comes
      go (u ∷ calls) comes to walks = back u calls (next_edge g u) refl to walks
  walks_step s (Exit e) v x sound kept to walks = let q : None ≡ Some v = to in let bad : ⊥ = cc in absurd bad

  run_walks : (ms : List Transition) (s : GraphState) (v : ℕ) → s.node ≡ Some v → IsSound g l s → AreKept g l s ms → EndsByExit ms → Walks v s.calls s.counts (cycles w ms)
  run_walks [] s v at sound kept exits = absurd exits
  run_walks (k ∷ []) s v at sound kept exits =
      let here : IsKept g l s (Exit exits.0) = subst (λ x. IsKept g l s x) exits.1 kept.0 in
      let ends : (g.target exits.0 ≡ None) × (g.callee exits.0 ≡ None) = is.program.exit_end exits.0 here.edge here.move in
      let last : ends_exit g n.least exits.0 ≡ true = ap (λ b. b || (not (is_some (g.target exits.0)) && calls_exit g n.least exits.0)) here.move in
      let to : ToExit (g.source exits.0) s.counts (c exits.0) = last_exit exits.0 s.counts here.edge last ends.0 in
      let eq : v ≡ g.source exits.0 = some_same _ _ (sym at ∙ here.from) in
      let cost : c exits.0 ≡ w exits.0 = plain_cost exits.0 ends.1 in
      let price : w (edge_of k) ≡ w exits.0 = ap (λ x. w (edge_of x)) exits.1 in
      walks-le v s.calls s.counts (c exits.0) (w (edge_of k) + 0) (omega arith) (exits_here v s.calls s.counts (c exits.0) (subst (λ u. ToExit u s.counts (c exits.0)) (sym eq) to))
  run_walks (k ∷ j ∷ ms) s v at sound kept exits =
      let next : (after g l s k).node ≡ Some (g.source (edge_of j)) = kept.1.0.from in
      let ih : Walks (g.source (edge_of j)) (after g l s k).calls (after g l s k).counts (cycles w (j ∷ ms)) =
      run_walks (j ∷ ms) (after g l s k) (g.source (edge_of j)) next (sound_after g l extent is.program s k sound kept.0) kept.1 exits in
      let eq : v ≡ g.source (edge_of k) = some_same _ _ (sym at ∙ kept.0.from) in
      subst (λ u. Walks u s.calls s.counts (w (edge_of k) + cycles w (j ∷ ms))) (sym eq)
      (walks_step s k (g.source (edge_of j)) (cycles w (j ∷ ms)) sound kept.0 next ih)

  -- ---- the least cycles to an end
  by_exit : (v : ℕ) (counts : ℕ → ℕ) (x : ℕ) → ToExit v counts x → (z : ℕ) × (n.least.to_end v ≡ Some z) × (z + owed g l n v counts ≤ x)
  by_exit v counts x a =
      let e : (z : ℕ) × (n.least.to_exit v ≡ Some z) × (z + owed g l n v counts ≤ total c a.0) = exit_owed g l extent w n is a.0 v counts a.1 a.2 in
      let q : IsUpTo (n.least.to_end v) (way_cost g n.least v Exits) = least_up_to (IsWay g n.least v) (way_cost g n.least v) (n.least.to_end v) (is.numbers.to_end v) Exits (ap is_some e.1) in
      let z : unwrap_or (n.least.to_exit v) 0 ≡ e.0 = ap (λ o. unwrap_or o 0) e.1 in
      let one : q.0 ≤ unwrap_or (n.least.to_exit v) 0 = q.2 in
      let two : e.0 + owed g l n v counts ≤ total c a.0 = e.2 in
      let three : total c a.0 ≤ x = a.3 in
      (q.0, q.1, omega arith)

  walks_end : (calls : List ℕ) (v : ℕ) (counts : ℕ → ℕ) (x : ℕ) → IsChain g (g.owner v) calls → Walks v calls counts x → (z : ℕ) × (n.least.to_end v ≡ Some z) × (z + owed g l n v counts ≤ x)
  walks_end [] v counts x chain walks = by_exit v counts x walks
  walks_end (u ∷ calls) v counts x chain walks = go walks (λ t counts y ch more. walks_end calls t counts y ch more)
    where
      go : Walks v (u ∷ calls) counts x → ((t : ℕ) (counts : ℕ → ℕ) (y : ℕ) → IsChain g (g.owner t) calls → Walks t calls counts y → (z : ℕ) × (n.least.to_end t ≡ Some z) × (z + owed g l n t counts ≤ y)) →
          (z : ℕ) × (n.least.to_end v ≡ Some z) × (z + owed g l n v counts ≤ x)
      go (inl a) ih = by_exit v counts x a
      go (inr b) ih =
          let found : (b.2 < g.edges) × (g.source b.2 ≡ u) × ((f : ℕ) × (g.callee b.2 ≡ Some f)) × ((v : ℕ) × (g.target b.2 ≡ Some v)) = next-is g u b.2 b.5 in
          let calls_f : g.callee b.2 ≡ Some (g.owner v) = is.program.one_callee b.2 chain.0.0 found.0 chain.0.1 (found.1 ∙ sym chain.0.2) ∙ chain.0.3 in
          let owner : g.owner u ≡ g.owner b.3 = sym ((is.program.stays b.2 b.3 found.0 b.6).1 ∙ ap g.owner found.1) in
          let rest : (z : ℕ) × (n.least.to_end b.3 ≡ Some z) × (z + owed g l n b.3 (count_step l (Some u) (Some b.3) counts) ≤ b.1) =
          ih b.3 (count_step l (Some u) (Some b.3) counts) b.1 (subst (λ f. IsChain g f calls) owner chain.1) b.7 in
          let r : (z : ℕ) × (n.least.to_return v ≡ Some z) × (z + owed g l n v counts ≤ total c b.4.0) = return_owed g l extent w n is b.4.0 v counts b.4.1 b.4.2 in
          let q : IsUpTo (n.least.to_end v) (way_cost g n.least v (Returns b.2)) = least_up_to (IsWay g n.least v) (way_cost g n.least v) (n.least.to_end v) (is.numbers.to_end v) (Returns b.2)
          (ap is_some r.1, (found.0, calls_f, (b.3, b.6, ap is_some rest.1))) in
          let z : unwrap_or (n.least.to_return v) 0 ≡ r.0 = ap (λ o. unwrap_or o 0) r.1 in
          let e : at_some (g.target b.2) (λ u. unwrap_or (n.least.to_end u) 0) ≡ rest.0 = ap (λ o. at_some o (λ u. unwrap_or (n.least.to_end u) 0)) b.6 ∙ ap (λ o. unwrap_or o 0) rest.1 in
          let le0 : q.0 ≤ unwrap_or (n.least.to_return v) 0 + at_some (g.target b.2) (λ u. unwrap_or (n.least.to_end u) 0) = q.2 in
          let le1 : r.0 + owed g l n v counts ≤ total c b.4.0 = r.2 in
          let le2 : rest.0 + owed g l n b.3 (count_step l (Some u) (Some b.3) counts) ≤ b.1 = rest.2 in
          let le3 : b.0 + b.1 ≤ x = b.8 in
          let le4 : total c b.4.0 ≤ b.0 = b.4.3 in
          (q.0, q.1, omega arith)

  -- where a run stands
  node_end : (s : GraphState) (v : ℕ) (more : List Transition) → s.node ≡ Some v → IsSound g l s → AreKept g l s more → EndsByExit more → (z : ℕ) × (n.least.to_end v ≡ Some z) × (z + owed g l n v s.counts ≤ cycles w more)
  node_end s v more at sound kept exits =
      let here : IsNode g v × IsChain g (g.owner v) s.calls = subst (λ p. Stands g p s.calls) at sound.stands in
      walks_end s.calls v s.counts (cycles w more) here.1 (run_walks more s v at sound kept exits)

  -- what an edge is charged is owed behind it
  charge_owed : (e v : ℕ) (counts : ℕ → ℕ) → e < g.edges → g.target e ≡ Some v → charge_of g l n e ≤ owed g l n v (count_step l (Some (g.source e)) (g.target e) counts)
  charge_owed e v counts el to =
      sum-le l.loops (λ k. only (enters l k (g.source e) (g.target e)) (m k * n.turn k)) (λ k. only (is_header l k (Some v)) ((m k - count_step l (Some (g.source e)) (g.target e) counts k) * n.turn k))
      (λ k kl. each k kl (enters l k (g.source e) (g.target e)) refl)
    where
      each : (k : ℕ) → k < l.loops → (b : Bool) → enters l k (g.source e) (g.target e) ≡ b →
          only (enters l k (g.source e) (g.target e)) (m k * n.turn k) ≤ only (is_header l k (Some v)) ((m k - count_step l (Some (g.source e)) (g.target e) counts k) * n.turn k)
      each k kl false h = let z : only (enters l k (g.source e) (g.target e)) (m k * n.turn k) ≡ 0 = ap (λ b. only b (m k * n.turn k)) h in omega arith
      each k kl true h =
          let to_header : g.target e ≡ Some (l.header k) = entered-header g l c no_numbers (nest g l extent w n is) e k el kl h in
          let same : v ≡ l.header k = some_same _ _ (sym to ∙ to_header) in
          let at : is_header l k (Some v) ≡ true = eq-eqb v (l.header k) same in
          let at_target : is_header l k (g.target e) ≡ true = subst (λ o. is_header l k o ≡ true) (sym to) at in
          let out : l.inside k (g.source e) ≡ false = not_true (l.inside k (g.source e)) (and_left (not (l.inside k (g.source e))) (is_round l k (g.target e)) h) in
          let fresh : count_step l (Some (g.source e)) (g.target e) counts k ≡ 0 = count_anew g l k (Some (g.source e)) (g.target e) counts at_target out in
          let left : only (enters l k (g.source e) (g.target e)) (m k * n.turn k) ≡ m k * n.turn k = only_true _ _ h in
          let right : only (is_header l k (Some v)) ((m k - count_step l (Some (g.source e)) (g.target e) counts k) * n.turn k) ≡ (m k - count_step l (Some (g.source e)) (g.target e) counts k) * n.turn k = only_true _ _ at in
          let less : (m k - count_step l (Some (g.source e)) (g.target e) counts k) * n.turn k ≡ m k * n.turn k = ap (λ x. (m k - x) * n.turn k) fresh ∙ ap (λ x. x * n.turn k) (let q : m k - 0 ≡ m k = omega arith in q) in
          omega arith

  behind : (e v : ℕ) (counts : ℕ → ℕ) (x : ℕ) → e < g.edges → g.target e ≡ Some v → (z : ℕ) × (n.least.to_end v ≡ Some z) × (z + owed g l n v (count_step l (Some (g.source e)) (g.target e) counts) ≤ x) → IsUpTo (to_end_after g l n e) x
  behind e v counts x el to end =
      let le : charge_of g l n e ≤ owed g l n v (count_step l (Some (g.source e)) (g.target e) counts) = charge_owed e v counts el to in
      let most : end.0 + owed g l n v (count_step l (Some (g.source e)) (g.target e) counts) ≤ x = end.2 in
      (end.0 + charge_of g l n e, ap (λ o. end_behind n o (charge_of g l n e)) to ∙ ap (option_map (λ z. z + charge_of g l n e)) end.1, omega arith)

pub exit_takes_charged : ExitTakesCharged
exit_takes_charged g l extent w n is ms more v kept at going exits =
    let end = node_end g l extent w n is (state_after g l ms) v more at (sound_run g l extent is.program ms kept) going exits in
    (end.0 + owed g l n v (state_after g l ms).counts, ap (option_map (λ z. z + owed g l n v (state_after g l ms).counts)) end.1, end.2)

pub exit_behind : ExitTakesLeastBehind
exit_behind g l extent w n is ms more e kept one going exits =
    let s : GraphState = state_after g l ms in
    let v : (v : ℕ) × (g.target e ≡ Some v) = some_value (g.target e) one.move.1 in
    let sound : IsSound g l (after g l s (Along e)) = sound_after g l extent is.program s (Along e) (sound_run g l extent is.program ms kept) one in
    let end = node_end g l extent w n is (after g l s (Along e)) v.0 more v.1 sound going exits in
    behind g l extent w n is e v.0 s.counts (cycles w more) one.edge v.1 end

pub exit_behind_return : ExitTakesLeastBehindReturn
exit_behind_return g l extent w n is ms more e u d calls kept one suspended next going exits =
    let s : GraphState = state_after g l ms in
    let found : (d < g.edges) × (g.source d ≡ u) × ((f : ℕ) × (g.callee d ≡ Some f)) × ((v : ℕ) × (g.target d ≡ Some v)) = next-is g u d next in
    let sound : IsSound g l (after g l s (Return e)) = sound_after g l extent is.program s (Return e) (sound_run g l extent is.program ms kept) one in
    let back : after g l s (Return e) ≡ go_back g l u (Some d) calls s.counts = ap (λ cs. after_return g l cs s.counts) suspended ∙ ap (λ o. go_back g l u o calls s.counts) next in
    let end : (z : ℕ) × (n.least.to_end found.3.0 ≡ Some z) × (z + owed g l n found.3.0 (count_step l (Some u) (g.target d) s.counts) ≤ cycles w more) =
    node_end g l extent w n is (go_back g l u (Some d) calls s.counts) found.3.0 more found.3.1 (subst (λ r. IsSound g l r) back sound) (subst (λ r. AreKept g l r more) back going) exits in
    behind g l extent w n is d found.3.0 s.counts (cycles w more) found.0 found.3.1
    (subst (λ u. (z : ℕ) × (n.least.to_end found.3.0 ≡ Some z) × (z + owed g l n found.3.0 (count_step l (Some u) (g.target d) s.counts) ≤ cycles w more)) (sym found.1) end)

-- the parts of a kept list of moves
pub kept_parts : (g : Graph) (l : Loops) (s : GraphState) (xs ys : List Transition) → AreKept g l s (xs ++ ys) → AreKept g l s xs × AreKept g l (after_all g l s xs) ys
kept_parts g l s [] ys kept = (tt, kept)
kept_parts g l s (x ∷ xs) ys kept = let r = kept_parts g l (after g l s x) xs ys kept.1 in ((kept.0, r.0), r.1)

pub run_behind : RunTakesLeastBehind
run_behind g l extent w n is ms more e kept exits =
    let p = kept_parts g l (graph_start g) ms (Along e ∷ more) kept in
    exit_behind g l extent w n is ms more e p.0 p.1.0 p.1.1 exits
