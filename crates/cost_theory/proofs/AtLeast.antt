-- Loops that turn at least so often: a walk that keeps these least numbers costs at least the least charged cost.
use Rattle.std.proofs.Common.{◌≡◌, ◌≢◌, ℕ, zero, suc, ◌+◌, ◌*◌, ◌<◌, ◌≤◌, Bool, true, false, not, ◌&&◌, inl, inr, nat_lt, List, [], ◌∷◌, length, Option, Some, None, refl, sym, ap, ◌∙◌, subst, arith, ⊎_elim, le_refl, eqb-true, eq-eqb, ltb-true, ltb-false}
use Rattle.cost_theory.specs.Graph.{Graph, Loops, total, only, is_round, is_header, enters, leaves, count_step}
use Rattle.cost_theory.specs.Least.{IsUpTo}
use Rattle.cost_theory.proofs.Basics.{search_below, and_left, and_right, and_both, not_true, only_true, sum-one, sum-none}
use Rattle.cost_theory.proofs.Append.{count_same, count_anew, count_back}
use Rattle.cost_theory.proofs.Nesting.{some_same}
use Rattle.cost_theory.proofs.Turns.{AreNested, entered-header}
use Rattle.cost_theory.specs.LeastTurns.{IsRun, turn_step, turn_last, KeepsLeast, least_charge, IsKind}
use Rattle.cost_theory.proofs.Tables.{table}
use Rattle.cost_theory.specs.Worst.{Numbers}
use Rattle.cost_theory.proofs.Least.{least_up_to, least_reached, up_to-le}

abbrev pub no_numbers : Numbers
no_numbers = table (λ k. 0)

-- a walk that is cut where it comes to the header of k
pub record Cut (g : Graph) (l : Loops) (c m : ℕ → ℕ) (last step : ℕ → Bool) (k v : ℕ) (es : List ℕ) (counts : ℕ → ℕ) : Type 0 where
  pub first : List ℕ
  pub others : List ℕ
  pub first_run : IsRun g false (turn_last g l k) (turn_step g l k) (Some v) first
  pub others_run : IsRun g false last step (Some (l.header k)) others
  pub first_keeps : KeepsLeast g l m counts first
  pub then : ℕ → ℕ
  pub others_keep : KeepsLeast g l m then others
  pub counted : then k ≡ counts k + 1
  pub costs : total c es ≡ total c first + total c others
  pub shorter : length others < length es
  pub first_le : length first ≤ length es

module _ (g : Graph) (l : Loops) (c m turn : ℕ → ℕ) (nest : AreNested g l) where
  pub cut : (last step : ℕ → Bool) (k : ℕ) → k < l.loops → ((d : ℕ) → d < g.edges → last d ≡ true → l.inside k (g.source d) ≡ true → leaves l k (g.source d) (g.target d) ≡ true) →
      (es : List ℕ) (v : ℕ) (counts : ℕ → ℕ) → IsRun g false last step (Some v) es → l.inside k v ≡ true → KeepsLeast g l m counts es → counts k < m k → Cut g l c m last step k v es counts
  cut last step k kl ends [] v counts run in_v keeps low = let q : false ≡ true = run in let bad : ⊥ = cc in absurd bad
  cut last step k kl ends (e ∷ es) v counts run in_v keeps low = ⊎_elim
      (λ (a : (last e ≡ true) × (es ≡ [])). absurd (let out : leaves l k (g.source e) (g.target e) ≡ true = ends e run.0 a.0 in_u in let h : m k ≤ counts k = keeps.0 k kl out in let bad : ⊥ = omega arith in bad))
      (λ (b : (step e ≡ true) × IsRun g false last step (g.target e) es). at_place (g.target e) refl b.1
      (λ u to in_t same. cut last step k kl ends es u (count_step l (Some (g.source e)) (g.target e) counts) (subst (λ o. IsRun g false last step o es) to b.1) in_t keeps.1 (let s : count_step l (Some (g.source e)) (g.target e) counts k ≡ counts k = same in omega arith)))
      run.2
    where
      here : v ≡ g.source e
      here = some_same _ _ run.1

      in_u : l.inside k (g.source e) ≡ true
      in_u = subst (λ u. l.inside k u ≡ true) here in_v

      leaving : (u : ℕ) → g.target e ≡ Some u → l.inside k u ≡ false → leaves l k (g.source e) (g.target e) ≡ true
      leaving u to out = subst (λ o. leaves l k (g.source e) o ≡ true) (sym to) (and_both (l.inside k (g.source e)) (not (l.inside k u)) in_u (ap not out))

      to_header : (u : ℕ) → g.target e ≡ Some u → is_header l k (Some u) ≡ true → IsRun g false last step (g.target e) es → Cut g l c m last step k v (e ∷ es) counts
      to_header u to at more = record {
        first = e ∷ [];
        others = es;
        first_run = (run.0, run.1, inl (and_both (l.inside k (g.source e)) (is_header l k (g.target e)) in_u (subst (λ o. is_header l k o ≡ true) (sym to) at), refl));
        others_run = subst (λ o. IsRun g false last step o es) (to ∙ ap Some (eqb-true u (l.header k) at)) more;
        first_keeps = (keeps.0, tt);
        then = count_step l (Some (g.source e)) (g.target e) counts;
        others_keep = keeps.1;
        counted = count_back g l k (Some (g.source e)) (g.target e) counts (subst (λ o. is_header l k o ≡ true) (sym to) at) in_u;
        costs = omega arith;
        shorter = omega arith;
        first_le = omega arith;
      }

      further : (u : ℕ) → g.target e ≡ Some u → is_header l k (Some u) ≡ false → l.inside k u ≡ true → Cut g l c m last step k u es (count_step l (Some (g.source e)) (g.target e) counts) → Cut g l c m last step k v (e ∷ es) counts
      further u to away in_t ih = record {
        first = e ∷ ih.first;
        others = ih.others;
        first_run = (
          run.0,
          run.1,
          inr (
            and_both (l.inside k (g.source e)) (is_round l k (g.target e) && not (is_header l k (g.target e))) in_u
                (subst (λ o. (is_round l k o && not (is_header l k o)) ≡ true) (sym to) (and_both (l.inside k u) (not (is_header l k (Some u))) in_t (ap not away))),
            subst (λ o. IsRun g false (turn_last g l k) (turn_step g l k) o ih.first) (sym to) ih.first_run,
          ),
        );
        others_run = ih.others_run;
        first_keeps = (keeps.0, ih.first_keeps);
        then = ih.then;
        others_keep = ih.others_keep;
        counted = ih.counted ∙ ap (λ x. x + 1) (count_same g l k (Some (g.source e)) (g.target e) counts (subst (λ o. is_header l k o ≡ false) (sym to) away));
        costs = (let q : total c es ≡ total c ih.first + total c ih.others = ih.costs in omega arith);
        shorter = (let q : length ih.others < length es = ih.shorter in omega arith);
        first_le = (let q : length ih.first ≤ length es = ih.first_le in omega arith);
      }

      at_node : (u : ℕ) → g.target e ≡ Some u → IsRun g false last step (g.target e) es →
          ((u : ℕ) → g.target e ≡ Some u → l.inside k u ≡ true → count_step l (Some (g.source e)) (g.target e) counts k ≡ counts k → Cut g l c m last step k u es (count_step l (Some (g.source e)) (g.target e) counts)) →
          (inside head : Bool) → l.inside k u ≡ inside → is_header l k (Some u) ≡ head → Cut g l c m last step k v (e ∷ es) counts
      at_node u to more ih false head i h = absurd (let le : m k ≤ counts k = keeps.0 k kl (leaving u to i) in let bad : ⊥ = omega arith in bad)
      at_node u to more ih true true i h = to_header u to h more
      at_node u to more ih true false i h = further u to h i (ih u to i (count_same g l k (Some (g.source e)) (g.target e) counts (subst (λ o. is_header l k o ≡ false) (sym to) h)))

      at_place : (o : Option ℕ) → g.target e ≡ o → IsRun g false last step (g.target e) es →
          ((u : ℕ) → g.target e ≡ Some u → l.inside k u ≡ true → count_step l (Some (g.source e)) (g.target e) counts k ≡ counts k → Cut g l c m last step k u es (count_step l (Some (g.source e)) (g.target e) counts)) →
          Cut g l c m last step k v (e ∷ es) counts
      at_place None to more ih = absurd (nowhere es (subst (λ o. IsRun g false last step o es) to more))
        where
          nowhere : (xs : List ℕ) → IsRun g false last step None xs → ⊥
          nowhere [] r = let q : false ≡ true = r in let bad : ⊥ = cc in bad
          nowhere (x ∷ xs) r = let q : None ≡ Some (g.source x) = r.1 in let bad : ⊥ = cc in bad
      at_place (Some u) to more ih = at_node u to more ih (l.inside k u) (is_header l k (Some u)) refl refl

  -- x turns off the front of a walk from the header, each of at least the least cost
  pub peel : (last step : ℕ → Bool) (k : ℕ) → k < l.loops → ((d : ℕ) → d < g.edges → last d ≡ true → l.inside k (g.source d) ≡ true → leaves l k (g.source d) (g.target d) ≡ true) →
      (most x : ℕ) → ((s : List ℕ) (counts : ℕ → ℕ) → length s ≤ most → IsRun g false (turn_last g l k) (turn_step g l k) (Some (l.header k)) s → KeepsLeast g l m counts s → turn k ≤ total c s) →
      (es : List ℕ) (counts : ℕ → ℕ) → length es ≤ most → IsRun g false last step (Some (l.header k)) es → KeepsLeast g l m counts es → counts k + x ≤ m k →
      (others : List ℕ) × (then : ℕ → ℕ) × IsRun g false last step (Some (l.header k)) others × KeepsLeast g l m then others × (length others ≤ length es) × (x * turn k + total c others ≤ total c es)
  peel last step k kl ends most zero each es counts short run keeps room = (es, counts, run, keeps, le_refl (length es), omega arith)
  peel last step k kl ends most (suc x) each es counts short run keeps room = go (cut last step k kl ends es (l.header k) counts run (nest.ways.holds_header k kl) keeps (omega arith))
      (λ others then sh r ks rm. peel last step k kl ends most x each others then sh r ks rm)
    where
      go : Cut g l c m last step k (l.header k) es counts →
          ((others : List ℕ) (then : ℕ → ℕ) → length others ≤ most → IsRun g false last step (Some (l.header k)) others → KeepsLeast g l m then others → then k + x ≤ m k →
          (o : List ℕ) × (t : ℕ → ℕ) × IsRun g false last step (Some (l.header k)) o × KeepsLeast g l m t o × (length o ≤ length others) × (x * turn k + total c o ≤ total c others)) →
          (others : List ℕ) × (then : ℕ → ℕ) × IsRun g false last step (Some (l.header k)) others × KeepsLeast g l m then others × (length others ≤ length es) × (suc x * turn k + total c others ≤ total c es)
      go p ih =
          let sh : length p.others < length es = p.shorter in
          let fl : length p.first ≤ length es = p.first_le in
          let cd : p.then k ≡ counts k + 1 = p.counted in
          let one : turn k ≤ total c p.first = each p.first counts (omega arith) p.first_run p.first_keeps in
          let r : (o : List ℕ) × (t : ℕ → ℕ) × IsRun g false last step (Some (l.header k)) o × KeepsLeast g l m t o × (length o ≤ length p.others) × (x * turn k + total c o ≤ total c p.others) =
          ih p.others p.then (omega arith) p.others_run p.others_keep (omega arith) in
          let sum : total c es ≡ total c p.first + total c p.others = p.costs in
          let le : x * turn k + total c r.0 ≤ total c p.others = r.5 in
          let ln : length r.0 ≤ length p.others = r.4 in
          let split : suc x * turn k ≡ turn k + x * turn k = omega arith in
          (r.0, r.1, r.2, r.3, omega arith, omega arith)

  -- where no loop that has to turn is entered nothing is charged
  pub charge_none : (e : ℕ) → ((j : ℕ) → j < l.loops → (enters l j (g.source e) (g.target e) && nat_lt 0 (m j)) ≡ false) → least_charge g l m turn e ≡ 0
  charge_none e none = sum-none l.loops (λ k. only (enters l k (g.source e) (g.target e)) (m k * turn k)) (λ k kl. each k (enters l k (g.source e) (g.target e)) (nat_lt 0 (m k)) refl (none k kl))
    where
      each : (k : ℕ) (a b : Bool) → nat_lt 0 (m k) ≡ b → (a && b) ≡ false → only a (m k * turn k) ≡ 0
      each k false b is h = refl
      each k true true is h = let bad : ⊥ = cc in absurd bad
      each k true false is h = let z : m k ≡ 0 = zero_of (ltb-false 0 (m k) is) in ap (λ x. x * turn k) z ∙ (omega arith)
        where
          zero_of : m k ≤ 0 → m k ≡ 0
          zero_of le = omega arith

  -- and where one is it alone is
  pub charge_one : (e j : ℕ) → e < g.edges → j < l.loops → enters l j (g.source e) (g.target e) ≡ true → least_charge g l m turn e ≡ m j * turn j
  charge_one e j lt jl en =
      sum-one l.loops (λ k. only (enters l k (g.source e) (g.target e)) (m k * turn k)) j jl (λ k kl ne. other k (enters l k (g.source e) (g.target e)) kl ne refl) ∙
      only_true (enters l j (g.source e) (g.target e)) (m j * turn j) en
    where
      other : (k : ℕ) (b : Bool) → k < l.loops → k ≢ j → enters l k (g.source e) (g.target e) ≡ b → only b (m k * turn k) ≡ 0
      other k false kl ne is = refl
      other k true kl ne is =
          let same : Some (l.header k) ≡ Some (l.header j) = sym (entered-header g l c no_numbers nest e k lt kl is) ∙ entered-header g l c no_numbers nest e j lt jl en in
          absurd (ne (nest.distinct k j kl jl (some_same _ _ same)))

  -- Each walk that keeps the least numbers costs at least the least charged cost of its kind.
  pub kept-charged : ((k : ℕ) → k < l.loops → 0 < m k → (t : ℕ → Option ℕ) × IsKind g l c m turn (turn_last g l k) (turn_step g l k) t × (t (l.header k) ≡ Some (turn k))) →
      (most : ℕ) (last step : ℕ → Bool) (t : ℕ → Option ℕ) → IsKind g l c m turn last step t →
      (es : List ℕ) (v : ℕ) (counts : ℕ → ℕ) → length es ≤ most → IsRun g false last step (Some v) es → KeepsLeast g l m counts es → IsUpTo (t v) (total c es)
  kept-charged turns most last step t kind [] v counts short run keeps = let q : false ≡ true = run in let bad : ⊥ = cc in absurd bad
  kept-charged turns zero last step t kind (e ∷ es) v counts short run keeps = let bad : ⊥ = omega arith in absurd bad
  kept-charged turns (suc most) last step t kind (e ∷ es) v counts short run keeps = ⊎_elim
      (λ (a : (last e ≡ true) × (es ≡ [])).
      let q : IsUpTo (t v) (c e + least_charge g l m turn e + 0) = least_up_to (IsRun g false last step (Some v)) (total (λ e. c e + least_charge g l m turn e)) (t v) (kind.least v) (e ∷ []) (run.0, run.1, inl (a.0, refl)) in
      let z : least_charge g l m turn e ≡ 0 = kind.free e run.0 a.0 in
      up_to-le _ _ _ (omega arith) q)
      (λ (b : (step e ≡ true) × IsRun g false last step (g.target e) es). onward b.0 b.1
      (λ u xs then sh r ks. kept-charged turns most last step t kind xs u then sh r ks)
      (λ k kl pos s then sh r ks.
      let tk : (t : ℕ → Option ℕ) × IsKind g l c m turn (turn_last g l k) (turn_step g l k) t × (t (l.header k) ≡ Some (turn k)) = turns k kl pos in
      let up : IsUpTo (tk.0 (l.header k)) (total c s) = kept-charged turns most (turn_last g l k) (turn_step g l k) tk.0 tk.1 s (l.header k) then sh r ks in
      let eq : turn k ≡ up.0 = some_same _ _ (sym tk.2 ∙ up.1) in
      let le : up.0 ≤ total c s = up.2 in
      omega arith))
      run.2
    where
      -- a step before a walk
      before : (u x : ℕ) → step e ≡ true → g.target e ≡ Some u → IsUpTo (t u) x → IsUpTo (t v) (c e + least_charge g l m turn e + x)
      before u x st to up =
          let p : (es : List ℕ) × IsRun g false last step (Some u) es × (total (λ e. c e + least_charge g l m turn e) es ≤ x) =
          least_reached (IsRun g false last step (Some u)) (total (λ e. c e + least_charge g l m turn e)) (t u) x (kind.least u) up in
          let q : IsUpTo (t v) (c e + least_charge g l m turn e + total (λ e. c e + least_charge g l m turn e) p.0) =
          least_up_to (IsRun g false last step (Some v)) (total (λ e. c e + least_charge g l m turn e)) (t v) (kind.least v) (e ∷ p.0)
          (run.0, run.1, inr (st, subst (λ o. IsRun g false last step o p.0) (sym to) p.1)) in
          let le : total (λ e. c e + least_charge g l m turn e) p.0 ≤ x = p.2 in
          up_to-le _ _ _ (omega arith) q

      onward : step e ≡ true → IsRun g false last step (g.target e) es →
          ((u : ℕ) (xs : List ℕ) (then : ℕ → ℕ) → length xs ≤ most → IsRun g false last step (Some u) xs → KeepsLeast g l m then xs → IsUpTo (t u) (total c xs)) →
          ((k : ℕ) → k < l.loops → 0 < m k → (s : List ℕ) (then : ℕ → ℕ) → length s ≤ most → IsRun g false (turn_last g l k) (turn_step g l k) (Some (l.header k)) s → KeepsLeast g l m then s → turn k ≤ total c s) →
          IsUpTo (t v) (c e + total c es)
      onward st more ih each = ⊎_elim
          (λ (f : (j : ℕ) × (j < l.loops) × ((enters l j (g.source e) (g.target e) && nat_lt 0 (m j)) ≡ true)). entering f.0 f.1
          (and_left (enters l f.0 (g.source e) (g.target e)) (nat_lt 0 (m f.0)) f.2)
          (ltb-true 0 (m f.0) (and_right (enters l f.0 (g.source e) (g.target e)) (nat_lt 0 (m f.0)) f.2)))
          (λ (none : (j : ℕ) → j < l.loops → (enters l j (g.source e) (g.target e) && nat_lt 0 (m j)) ≡ false). plainly (g.target e) refl none)
          (search_below l.loops (λ j. enters l j (g.source e) (g.target e) && nat_lt 0 (m j)))
        where
          plainly : (o : Option ℕ) → g.target e ≡ o → ((j : ℕ) → j < l.loops → (enters l j (g.source e) (g.target e) && nat_lt 0 (m j)) ≡ false) → IsUpTo (t v) (c e + total c es)
          plainly None to none = absurd (nowhere es (subst (λ o. IsRun g false last step o es) to more))
            where
              nowhere : (xs : List ℕ) → IsRun g false last step None xs → ⊥
              nowhere [] r = let q : false ≡ true = r in let bad : ⊥ = cc in bad
              nowhere (x ∷ xs) r = let q : None ≡ Some (g.source x) = r.1 in let bad : ⊥ = cc in bad
          plainly (Some u) to none =
              let rest : IsUpTo (t u) (total c es) = ih u es (count_step l (Some (g.source e)) (g.target e) counts) (omega arith) (subst (λ o. IsRun g false last step o es) to more) keeps.1 in
              let z : least_charge g l m turn e ≡ 0 = charge_none e none in
              up_to-le _ _ _ (omega arith) (before u (total c es) st to rest)

          entering : (j : ℕ) → j < l.loops → enters l j (g.source e) (g.target e) ≡ true → 0 < m j → IsUpTo (t v) (c e + total c es)
          entering j jl en pos =
              let to : g.target e ≡ Some (l.header j) = entered-header g l c no_numbers nest e j run.0 jl en in
              let at : is_header l j (g.target e) ≡ true = subst (λ o. is_header l j o ≡ true) (sym to) (eq-eqb (l.header j) (l.header j) refl) in
              let out : l.inside j (g.source e) ≡ false = not_true (l.inside j (g.source e)) (and_left (not (l.inside j (g.source e))) (is_round l j (g.target e)) en) in
              let fresh : count_step l (Some (g.source e)) (g.target e) counts j ≡ 0 = count_anew g l j (Some (g.source e)) (g.target e) counts at out in
              let r : (others : List ℕ) × (then : ℕ → ℕ) × IsRun g false last step (Some (l.header j)) others × KeepsLeast g l m then others × (length others ≤ length es) × (m j * turn j + total c others ≤ total c es) =
              peel last step j jl (λ d dl ld in_d. kind.outside e j d run.0 st jl pos en dl ld in_d) most (m j) (λ s then sh rn ks. each j jl pos s then sh rn ks)
              es (count_step l (Some (g.source e)) (g.target e) counts) (omega arith) (subst (λ o. IsRun g false last step o es) to more) keeps.1 (omega arith) in
              let ln : length r.0 ≤ length es = r.4 in
              let le : m j * turn j + total c r.0 ≤ total c es = r.5 in
              let rest : IsUpTo (t (l.header j)) (total c r.0) = ih (l.header j) r.0 r.1 (omega arith) r.2 r.3 in
              let ch : least_charge g l m turn e ≡ m j * turn j = charge_one e j run.0 jl en in
              up_to-le _ _ _ (omega arith) (before (l.header j) (total c r.0) st to rest)
