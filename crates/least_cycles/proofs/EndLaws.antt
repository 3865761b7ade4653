-- The least costs behind the calls of functions, edge by edge and function by function.
use Rattle.std.proofs.Common.{◌≡◌, ◌≢◌, ℕ, zero, suc, ◌+◌, ◌-◌, ◌*◌, ◌^◌, ◌<◌, ◌≤◌, ◌⊎◌, inl, inr, Bool, true, false, cond, nat_eq, nat_le, if◌then◌else◌, List, [], ◌∷◌, ◌++◌, length, length-append, slice_get, slice_set, slice_index_or, Option, Some, None, is_some, IsSome, unwrap_or, refl, sym, ap, ◌∙◌, subst, arith, ⊎_elim, get_or-set_other, get_or-set_same, length-set, replicate}
use Rattle.std.proofs.lemmas.Bool.{cases_lt}
use Rattle.std.proofs.lemmas.Option.{slice_get_within, slice_get-get_or, get_or_from_slice_get, same_Some}
use Rattle.cost_theory.specs.Graph.{Graph, total}
use Rattle.cost_theory.specs.Worst.{at_some}
use Rattle.cost_theory.specs.Least.{Least, IsLeastIfAny, EndsWith, AreLeast, IsReturn, IsExit, IsReturnTo, end_after, least_cost}
use Rattle.flow_graph.specs.FlowGraph.{FlowGraph, graph, IsFlowGraph}
use Rattle.flow_graph.proofs.Laws.{few_once}
use Rattle.loop_forest.specs.Noted.{node_address}
use Rattle.graph_algorithms.specs.Keys.{option_at, HasKey, AreKeys, IsLastBelow}
use Rattle.least_cycles.specs.Hops.{number_in_table}
use Rattle.least_cycles.specs.Local.{lesser_cost, sum_of_both}
use Rattle.loop_forest.proofs.Laws.{source_number}
use Rattle.std.proofs.lemmas.List.{get_or_past, length-replicate}
use Rattle.least_cycles.specs.Tables.{AreBackKeys, back_from, value_beside, least_by, AreWalksOf, IsAnyFunction}
use Rattle.least_cycles.proofs.TableLaws.{at_number, at_node, beside_none, least_moved}
use Rattle.least_cycles.proofs.WalkLaws.{address_is, call_kept}
use Rattle.least_cycles.specs.Ends.{IsBackTo, AreSmallWalks, AreBehindFrom, AreBehind, end_place}
use Rattle.least_cycles.proofs.Transfer.{least-lesser, end-least}

same_or : (a b : ℕ) → (a ≡ b) ⊎ (a ≢ b)
same_or a b = grind arith

-- ---- small numbers

beside_low : (most : ℕ) (nodes : List ℕ) (table : List (Option ℕ)) (a x : ℕ) → ((k y : ℕ) → number_in_table table k ≡ Some y → y ≤ most) → value_beside nodes table a ≡ Some x → x ≤ most
beside_low most [] table a x low at = let bad : ⊥ = cc in absurd bad
beside_low most (u ∷ us) [] a x low at = let bad : ⊥ = cc in absurd bad
beside_low most (u ∷ us) (o ∷ os) a x low at = pick (nat_eq u a) at (beside_low most us os a x (λ k y is. low (suc k) y is))
  where
    pick : (b : Bool) → (if b then o else value_beside us os a) ≡ Some x → (value_beside us os a ≡ Some x → x ≤ most) → x ≤ most
    pick true is more = low 0 x is
    pick false is more = more is

lesser_low : (most : ℕ) (p q : Option ℕ) (x : ℕ) → ((y : ℕ) → p ≡ Some y → y ≤ most) → ((y : ℕ) → q ≡ Some y → y ≤ most) → lesser_cost p q ≡ Some x → x ≤ most
lesser_low most None q x low_p low_q at = low_q x at
lesser_low most (Some a) None x low_p low_q at = low_p x at
lesser_low most (Some a) (Some b) x low_p low_q at = pick (nat_le a b) at
  where
    pick : (t : Bool) → cond t (Some a) (Some b) ≡ Some x → x ≤ most
    pick true is = low_p x is
    pick false is = low_q x is

both_low : (m n : ℕ) (p q : Option ℕ) (x : ℕ) → ((y : ℕ) → p ≡ Some y → y ≤ m) → ((y : ℕ) → q ≡ Some y → y ≤ n) → sum_of_both p q ≡ Some x → x ≤ m + n
both_low m n None q x low_p low_q at = let bad : ⊥ = cc in absurd bad
both_low m n (Some a) None x low_p low_q at = let bad : ⊥ = cc in absurd bad
both_low m n (Some a) (Some b) x low_p low_q at =
    let la = low_p a refl in
    let lb = low_q b refl in
    let same : a + b ≡ x = same_Some (a + b) x at in
    omega arith

back_value : (g : Graph) (n : Least) (f e m : ℕ) → IsBackTo g n f e → end_after g n e ≡ m → (u : ℕ) × (n.to_end u ≡ Some m)
back_value g n f e m back is = (back.2.0, value (n.to_end back.2.0) refl back.2.2)
  where
    after : end_after g n e ≡ unwrap_or (n.to_end back.2.0) 0
    after = ap (λ (o : Option ℕ). at_some o (λ u. unwrap_or (n.to_end u) 0)) back.2.1

    value : (o : Option ℕ) → n.to_end back.2.0 ≡ o → is_some o ≡ true → o ≡ Some m
    value None eq some = let bad : ⊥ = cc in absurd bad
    value (Some y) eq some = let same : y ≡ m = sym (ap (λ (o : Option ℕ). unwrap_or o 0) eq) ∙ sym after ∙ is in ap Some same

module _ (v : FlowGraph) (returns exits behind : List (Option ℕ)) (most : ℕ) (small : AreSmallWalks v returns exits) (low : (h y : ℕ) → number_in_table behind h ≡ Some y → y ≤ most) where
  pub end_low : (a x : ℕ) → (least_by v returns exits behind).to_end a ≡ Some x → x ≤ 2 ^ 67 + most
  end_low a x at =
      lesser_low (2 ^ 67 + most) (value_beside v.code.nodes exits a) (sum_of_both (value_beside v.code.nodes returns a) (number_in_table behind ((graph v).owner a))) x
      (λ y is. let r = beside_low (2 ^ 67) v.code.nodes exits a y small.small_exit is in omega arith)
      (λ y is. both_low (2 ^ 67) most (value_beside v.code.nodes returns a) (number_in_table behind ((graph v).owner a)) y (λ z e. beside_low (2 ^ 67) v.code.nodes returns a z small.small_return e) (λ z e. low ((graph v).owner a) z e) is)
      at

  pub behind_low : (f : ℕ) (o : Option ℕ) → IsLeastIfAny (IsBackTo (graph v) (least_by v returns exits behind) f) (end_after (graph v) (least_by v returns exits behind)) o → (x : ℕ) → o ≡ Some x → x ≤ 2 ^ 67 + most
  behind_low f None least x at = let bad : ⊥ = cc in absurd bad
  behind_low f (Some m) least x at =
      let r = least.reached in
      let at_end = back_value (graph v) (least_by v returns exits behind) f r.0 m r.1 r.2 in
      let l = end_low at_end.0 m at_end.1 in
      let same : m ≡ x = same_Some m x at in
      omega arith

-- ---- one edge more

pub behind_first : (v : FlowGraph) (n : Least) (f from : ℕ) → length v.code.edges ≡ from → AreBehindFrom v n f from None
behind_first v n f from is = λ e back. let lt : e < length v.code.edges = back.0.0 in let le : from ≤ e = back.1 in let bad : ⊥ = omega arith in bad

back_key : (v : FlowGraph) (n : Least) (keys : List (Option ℕ)) (f e : ℕ) → AreBackKeys v (length v.code.edges) keys → IsBackTo (graph v) n f e → HasKey keys e f
back_key v n keys f e are back = are.each e back.0 ∙ ap (λ t. back_from t ((graph v).callee e)) back.2.1 ∙ back.1

pub behind_more : (v : FlowGraph) (n : Least) (keys : List (Option ℕ)) (f from e : ℕ) (least o : Option ℕ) → AreBackKeys v (length v.code.edges) keys → IsLastBelow keys from f (Some e) → e < length v.code.edges → o ≡ end_place n ((graph v).target e) →
    AreBehindFrom v n f from least → AreBehindFrom v n f e (lesser_cost least o)
behind_more v n keys f from e least o are last el is before =
    least-lesser (λ d. IsBackTo (graph v) n f d × (from ≤ d)) (λ d. IsBackTo (graph v) n f d × (d ≡ e)) (λ d. IsBackTo (graph v) n f d × (e ≤ d)) (end_after (graph v) n)
    (λ d old. (old.0, (let low = old.1 in let lt = (last.place e refl).0 in let r : e ≤ d = omega arith in r)))
    (λ d one. (one.0, (let same = one.1 in let r : e ≤ d = omega arith in r)))
    (λ d all. ⊎_elim
    (λ (low : d < from).
    let top = last.greatest d low (back_key v n keys f d are all.0) in
    let same : e ≡ top.0 = same_Some e top.0 top.1 in
    let le = top.2 in let ge = all.1 in
    let r : (IsBackTo (graph v) n f d × (from ≤ d)) ⊎ (IsBackTo (graph v) n f d × (d ≡ e)) = inr (all.0, (let q : d ≡ e = omega arith in q)) in r)
    (λ (high : from ≤ d). let r : (IsBackTo (graph v) n f d × (from ≤ d)) ⊎ (IsBackTo (graph v) n f d × (d ≡ e)) = inl (all.0, high) in r)
    (cases_lt d from))
    least o before (here o is)
  where
    key : back_from ((graph v).target e) ((graph v).callee e) ≡ Some f
    key = sym (are.each e el) ∙ (last.place e refl).1

    parts : (t : Option ℕ) → back_from t ((graph v).callee e) ≡ Some f → ((graph v).callee e ≡ Some f) × ((u : ℕ) × (t ≡ Some u))
    parts None at = let bad : ⊥ = cc in absurd bad
    parts (Some u) at = (at, (u, refl))

    place : ((graph v).callee e ≡ Some f) × ((u : ℕ) × ((graph v).target e ≡ Some u))
    place = parts ((graph v).target e) key

    value : end_place n ((graph v).target e) ≡ n.to_end place.1.0
    value = ap (end_place n) place.1.1

    after : end_after (graph v) n e ≡ unwrap_or (n.to_end place.1.0) 0
    after = ap (λ (t : Option ℕ). at_some t (λ u. unwrap_or (n.to_end u) 0)) place.1.1

    here : (p : Option ℕ) → p ≡ end_place n ((graph v).target e) → IsLeastIfAny (λ d. IsBackTo (graph v) n f d × (d ≡ e)) (end_after (graph v) n) p
    here None eq = λ d one.
        let to : Some place.1.0 ≡ Some one.0.2.0 = sym place.1.1 ∙ ap (graph v).target (sym one.1) ∙ one.0.2.1 in
        let same : place.1.0 ≡ one.0.2.0 = same_Some place.1.0 one.0.2.0 to in
        let none : n.to_end one.0.2.0 ≡ None = ap n.to_end (sym same) ∙ sym (eq ∙ value) in
        let some = one.0.2.2 in
        not_some (n.to_end one.0.2.0) none some
      where
        not_some : (q : Option ℕ) → q ≡ None → is_some q ≡ true → ⊥
        not_some None none some_is = let bad : ⊥ = cc in bad
        not_some (Some y) none some_is = let bad : ⊥ = cc in bad
    here (Some m) eq =
        let to : n.to_end place.1.0 ≡ Some m = sym (eq ∙ value) in
        let worth : end_after (graph v) n e ≡ m = after ∙ ap (λ (q : Option ℕ). unwrap_or q 0) to in
        record {
          reached = (e, ((el, place.0, (place.1.0, place.1.1, ap is_some to)), refl), worth);
          least = λ d one. let same : end_after (graph v) n d ≡ m = ap (end_after (graph v) n) one.1 ∙ worth in let r : m ≤ end_after (graph v) n d = omega arith in r;
        }

pub behind_whole : (v : FlowGraph) (n : Least) (keys : List (Option ℕ)) (f from : ℕ) (least : Option ℕ) → AreBackKeys v (length v.code.edges) keys → IsLastBelow keys from f None → AreBehindFrom v n f from least → IsLeastIfAny (IsBackTo (graph v) n f) (end_after (graph v) n) least
behind_whole v n keys f from least are last before = whole least before
  where
    none_one : (s : ℕ) → None ≡ Some s → ⊥
    none_one s is = let bad : ⊥ = cc in bad

    all_from : (e : ℕ) → IsBackTo (graph v) n f e → from ≤ e
    all_from e back = ⊎_elim
        (λ (low : e < from). let top = last.greatest e low (back_key v n keys f e are back) in absurd (none_one top.0 top.1))
        (λ (high : from ≤ e). high)
        (cases_lt e from)

    whole : (o : Option ℕ) → AreBehindFrom v n f from o → IsLeastIfAny (IsBackTo (graph v) n f) (end_after (graph v) n) o
    whole None none = λ e back. none e (back, all_from e back)
    whole (Some m) some = record { reached = (some.reached.0, some.reached.1.0, some.reached.2); least = λ e back. some.least e (back, all_from e back) }

-- ---- one function more

least_same : (P Q : ℕ → Type 0) (p q : ℕ → ℕ) → ((d : ℕ) → P d → Q d × (p d ≡ q d)) → ((d : ℕ) → Q d → P d × (p d ≡ q d)) → (o : Option ℕ) → IsLeastIfAny P p o → IsLeastIfAny Q q o
least_same P Q p q to back None none = λ d is. none d (back d is).0
least_same P Q p q to back (Some m) some = record {
  reached = let w = to some.reached.0 some.reached.1 in (some.reached.0, w.0, sym w.1 ∙ some.reached.2);
  least = λ d is. let w = back d is in let low = some.least d w.0 in let same = w.1 in omega arith;
}

pub behind_next : (v : FlowGraph) (returns exits behind : List (Option ℕ)) (i f : ℕ) (least : Option ℕ) → IsFlowGraph v → slice_get v.order i ≡ Some f → AreBehind v returns exits (i + 1) behind → ((x : ℕ) → least ≡ Some x → x + i * 2 ^ 67 ≤ length v.order * 2 ^ 67) →
    IsLeastIfAny (IsBackTo (graph v) (least_by v returns exits behind) f) (end_after (graph v) (least_by v returns exits behind)) least → AreBehind v returns exits i (slice_set behind f least)
behind_next v returns exits behind i f least flow at are low is = record {
  size = length-set behind f least ∙ are.size;
  done = λ h j le place. ⊎_elim
      (λ (same : h ≡ f). subst (λ x. IsLeastIfAny (IsBackTo (graph v) now x) (end_after (graph v) now) (number_in_table (slice_set behind f least) x)) (sym same)
      (subst (λ (o : Option ℕ). IsLeastIfAny (IsBackTo (graph v) now f) (end_after (graph v) now) o) (sym here) (move f i (omega arith) at least is)))
      (λ (other : h ≢ f).
      let above : i + 1 ≤ j = ⊎_elim (λ (lt : i < j). let r : i + 1 ≤ j = omega arith in r) (λ (ge : j ≤ i). let same : i ≡ j = omega arith in absurd (other (same_Some h f (sym place ∙ ap (slice_get v.order) (sym same) ∙ at)))) (cases_lt i j) in
      subst (λ (o : Option ℕ). IsLeastIfAny (IsBackTo (graph v) now h) (end_after (graph v) now) o) (sym (get_or-set_other behind f h least None other)) (move h j le place (number_in_table behind h) (are.done h j above place)))
      (same_or h f);
  low = λ h x value. ⊎_elim
      (λ (same : h ≡ f). low x (sym here ∙ ap (number_in_table (slice_set behind f least)) (sym same) ∙ value))
      (λ (other : h ≢ f). let old = are.low h x (sym (get_or-set_other behind f h least None other) ∙ value) in let r : x + i * 2 ^ 67 ≤ length v.order * 2 ^ 67 = omega arith in r)
      (same_or h f);
}
  where
    before : Least
    before = least_by v returns exits behind

    now : Least
    now = least_by v returns exits (slice_set behind f least)

    fl : f < length v.code.functions
    fl = flow.order.within i f at

    here : number_in_table (slice_set behind f least) f ≡ least
    here = get_or-set_same behind f least None (let s = are.size in let l = fl in omega arith)

    -- a caller of a function at place i or behind it is another
    end_same : (h j e u : ℕ) → i ≤ j → slice_get v.order j ≡ Some h → e < length v.code.edges → (graph v).callee e ≡ Some h → (graph v).target e ≡ Some u → before.to_end u ≡ now.to_end u
    end_same h j e u le place el calls to =
        let owner : (graph v).owner u ≡ (graph v).owner ((graph v).source e) = (flow.program.stays e u el to).1 in
        let p = flow.order.whole ((graph v).owner ((graph v).source e)) (flow.program.owner_function e el) in
        let above = flow.order.before ((graph v).source e) h j p.0 (e, el, refl, calls) place p.1 in
        let other : (graph v).owner u ≢ f = (λ same. let one : p.0 ≡ i = flow.order.once p.0 i f (p.1 ∙ ap Some (sym owner ∙ same)) at in let bad : ⊥ = omega arith in bad) in
        ap (λ (o : Option ℕ). lesser_cost (value_beside v.code.nodes exits u) (sum_of_both (value_beside v.code.nodes returns u) o)) (sym (get_or-set_other behind f ((graph v).owner u) least None other))

    move : (h j : ℕ) → i ≤ j → slice_get v.order j ≡ Some h → (o : Option ℕ) → IsLeastIfAny (IsBackTo (graph v) before h) (end_after (graph v) before) o → IsLeastIfAny (IsBackTo (graph v) now h) (end_after (graph v) now) o
    move h j le place o = least_same (IsBackTo (graph v) before h) (IsBackTo (graph v) now h) (end_after (graph v) before) (end_after (graph v) now)
        (λ e back. let same = end_same h j e back.2.0 le place back.0 back.1 back.2.1 in ((back.0, back.1, (back.2.0, back.2.1, subst (λ (q : Option ℕ). IsSome q) same back.2.2)), after e back.2.0 back.2.1 same))
        (λ e back. let same = end_same h j e back.2.0 le place back.0 back.1 back.2.1 in ((back.0, back.1, (back.2.0, back.2.1, subst (λ (q : Option ℕ). IsSome q) (sym same) back.2.2)), after e back.2.0 back.2.1 same))
        o
      where
        after : (e u : ℕ) → (graph v).target e ≡ Some u → before.to_end u ≡ now.to_end u → end_after (graph v) before e ≡ end_after (graph v) now e
        after e u to same =
            ap (λ (t : Option ℕ). at_some t (λ x. unwrap_or (before.to_end x) 0)) to ∙ ap (λ (q : Option ℕ). unwrap_or q 0) same ∙ sym (ap (λ (t : Option ℕ). at_some t (λ x. unwrap_or (now.to_end x) 0)) to)

-- ---- the order of calls

pub few_functions : (v : FlowGraph) → IsFlowGraph v → length v.order ≤ length v.code.functions
few_functions v flow = few_once v.order (length v.code.functions) (λ i j f p q. flow.order.once i j f p q) (λ i f at. flow.order.within i f at)

some_within : (xs : List (Option ℕ)) (i k : ℕ) → slice_index_or xs i None ≡ Some k → i < length xs
some_within [] i k at = let bad : ⊥ = cc in absurd bad
some_within (x ∷ xs) zero k at = omega arith
some_within (x ∷ xs) (suc i) k at = let r = some_within xs i k at in omega arith

pub back_keys_below : (v : FlowGraph) (keys : List (Option ℕ)) → IsFlowGraph v → AreBackKeys v (length v.code.edges) keys → AreKeys keys (length v.code.functions)
back_keys_below v keys flow are s k has =
    let size = are.size in
    let sl : s < length keys = some_within keys s k has in
    let el : s < length v.code.edges = omega arith in
    flow.program.callee_function s k el (callee ((graph v).target s) (sym (are.each s el) ∙ has))
  where
    callee : (t : Option ℕ) → back_from t ((graph v).callee s) ≡ Some k → (graph v).callee s ≡ Some k
    callee None at = let bad : ⊥ = cc in absurd bad
    callee (Some u) at = at

-- ---- all functions

pub behind_none : (v : FlowGraph) (returns exits behind : List (Option ℕ)) (n : ℕ) → n ≡ length v.code.functions → behind ≡ replicate n None → AreBehind v returns exits (length v.order) behind
behind_none v returns exits behind n size is = record {
  size = ap length is ∙ length-replicate n None ∙ size;
  done = λ h j le at. let lt = slice_get_within v.order j h at in let bad : ⊥ = omega arith in absurd bad;
  low = λ h x at. absurd (not_some (number_in_table behind h) x (ap (λ (t : List (Option ℕ)). number_in_table t h) is ∙ none_at n h) at);
}
  where
    none_at : (m k : ℕ) → number_in_table (replicate m None) k ≡ None
    none_at zero k = refl
    none_at (suc m) zero = refl
    none_at (suc m) (suc k) = none_at m k

    not_some : (o : Option ℕ) (x : ℕ) → o ≡ None → o ≡ Some x → ⊥
    not_some o x none some = let bad : ⊥ = cc in bad

pub low_behind : (v : FlowGraph) (returns exits behind : List (Option ℕ)) (i : ℕ) → IsFlowGraph v → length v.code.functions ≤ 131072 → AreBehind v returns exits i behind → (h x : ℕ) → number_in_table behind h ≡ Some x → x ≤ 2 ^ 84
low_behind v returns exits behind i flow few are h x at =
    let low = are.low h x at in
    let order = few_functions v flow in
    omega arith

pub next_low : (v : FlowGraph) (returns exits behind : List (Option ℕ)) (i f : ℕ) (o : Option ℕ) → i < length v.order → AreSmallWalks v returns exits → AreBehind v returns exits (i + 1) behind →
    IsLeastIfAny (IsBackTo (graph v) (least_by v returns exits behind) f) (end_after (graph v) (least_by v returns exits behind)) o → (x : ℕ) → o ≡ Some x → x + i * 2 ^ 67 ≤ length v.order * 2 ^ 67
next_low v returns exits behind i f o il small are least x at =
    let low = behind_low v returns exits behind ((length v.order - (i + 1)) * 2 ^ 67) small (λ h y is. let old = are.low h y is in let r : y ≤ (length v.order - (i + 1)) * 2 ^ 67 = omega arith in r) f o least x at in
    omega arith

-- an address is that of a node, or it is not
pub in_or_not : (nodes : List ℕ) (a : ℕ) → ((k : ℕ) × (slice_get nodes k ≡ Some a)) ⊎ ((k : ℕ) → slice_get nodes k ≡ Some a → ⊥)
in_or_not [] a = inr (λ k at. let bad : ⊥ = cc in bad)
in_or_not (u ∷ us) a = ⊎_elim
    (λ (same : u ≡ a). let r : ((k : ℕ) × (slice_get (u ∷ us) k ≡ Some a)) ⊎ ((k : ℕ) → slice_get (u ∷ us) k ≡ Some a → ⊥) = inl (0, ap Some same) in r)
    (λ (other : u ≢ a). ⊎_elim
    (λ (there : (k : ℕ) × (slice_get us k ≡ Some a)). let r : ((k : ℕ) × (slice_get (u ∷ us) k ≡ Some a)) ⊎ ((k : ℕ) → slice_get (u ∷ us) k ≡ Some a → ⊥) = inl (suc there.0, there.1) in r)
    (λ (none : (k : ℕ) → slice_get us k ≡ Some a → ⊥). let r : ((k : ℕ) × (slice_get (u ∷ us) k ≡ Some a)) ⊎ ((k : ℕ) → slice_get (u ∷ us) k ≡ Some a → ⊥) = inr (nowhere other none) in r)
    (in_or_not us a))
    (same_or u a)
  where
    nowhere : u ≢ a → ((k : ℕ) → slice_get us k ≡ Some a → ⊥) → (k : ℕ) → slice_get (u ∷ us) k ≡ Some a → ⊥
    nowhere other none zero at = other (same_Some u a at)
    nowhere other none (suc k) at = none k at

-- ---- the least numbers

module _ (v : FlowGraph) (own limit : ℕ → ℕ) (returns exits behind : List (Option ℕ)) (flow : IsFlowGraph v) (are : AreWalksOf v own limit IsAnyFunction returns exits) (done : AreBehind v returns exits 0 behind) where
  abbrev numbers : Least
  numbers = least_by v returns exits behind

  no_walk : (last : ℕ → Type 0) (a : ℕ) → ((k : ℕ) → slice_get v.code.nodes k ≡ Some a → ⊥) → (es : List ℕ) → EndsWith (graph v) last (Some a) es → ⊥
  no_walk last a none [] walk = walk
  no_walk last a none (e ∷ es) walk =
      let k = source_number v flow e walk.0 in
      none k.0 (k.1 ∙ sym walk.1)

  same_cost : (e : ℕ) → least_cost (graph v) own (least_by v returns exits []) e ≡ least_cost (graph v) own numbers e
  same_cost e = ap (λ x. own e + x) (call_kept (graph v) (least_by v returns exits []) numbers e ((graph v).target e) (λ h calls. refl) (λ h calls. refl))

  to_return : (a : ℕ) → IsLeastIfAny (EndsWith (graph v) (IsReturn (graph v)) (Some a)) (total (least_cost (graph v) own numbers)) (numbers.to_return a)
  to_return a = ⊎_elim
      (λ (node : (k : ℕ) × (slice_get v.code.nodes k ≡ Some a)).
      let address : node_address v node.0 ≡ a = address_is v node.0 a node.1 in
      subst (λ (o : Option ℕ). IsLeastIfAny (EndsWith (graph v) (IsReturn (graph v)) (Some a)) (total (least_cost (graph v) own numbers)) o) (sym (at_number v flow returns node.0 a node.1))
      (least_moved (graph v) flow.program ((graph v).owner a) (IsReturn (graph v)) (IsReturn (graph v)) (least_cost (graph v) own (least_by v returns exits [])) (least_cost (graph v) own numbers) (λ e el at. same_cost e) (λ e el at yes. yes) (λ e el at yes. yes) a (number_in_table returns node.0) refl
      (subst (λ x. IsLeastIfAny (EndsWith (graph v) (IsReturn (graph v)) (Some x)) (total (least_cost (graph v) own (least_by v returns exits []))) (number_in_table returns node.0)) address (are.to_return node.0 (slice_get_within v.code.nodes node.0 a node.1) tt))))
      (λ (none : (k : ℕ) → slice_get v.code.nodes k ≡ Some a → ⊥).
      subst (λ (o : Option ℕ). IsLeastIfAny (EndsWith (graph v) (IsReturn (graph v)) (Some a)) (total (least_cost (graph v) own numbers)) o) (sym (beside_none v.code.nodes returns a none)) (no_walk (IsReturn (graph v)) a none))
      (in_or_not v.code.nodes a)

  to_exit : (a : ℕ) → IsLeastIfAny (EndsWith (graph v) (IsExit (graph v) numbers) (Some a)) (total (least_cost (graph v) own numbers)) (numbers.to_exit a)
  to_exit a = ⊎_elim
      (λ (node : (k : ℕ) × (slice_get v.code.nodes k ≡ Some a)).
      let address : node_address v node.0 ≡ a = address_is v node.0 a node.1 in
      subst (λ (o : Option ℕ). IsLeastIfAny (EndsWith (graph v) (IsExit (graph v) numbers) (Some a)) (total (least_cost (graph v) own numbers)) o) (sym (at_number v flow exits node.0 a node.1))
      (least_moved (graph v) flow.program ((graph v).owner a) (IsExit (graph v) (least_by v returns exits [])) (IsExit (graph v) numbers) (least_cost (graph v) own (least_by v returns exits [])) (least_cost (graph v) own numbers) (λ e el at. same_cost e) (λ e el at yes. yes) (λ e el at yes. yes) a (number_in_table exits node.0) refl
      (subst (λ x. IsLeastIfAny (EndsWith (graph v) (IsExit (graph v) (least_by v returns exits [])) (Some x)) (total (least_cost (graph v) own (least_by v returns exits []))) (number_in_table exits node.0)) address (are.to_exit node.0 (slice_get_within v.code.nodes node.0 a node.1) tt))))
      (λ (none : (k : ℕ) → slice_get v.code.nodes k ≡ Some a → ⊥).
      subst (λ (o : Option ℕ). IsLeastIfAny (EndsWith (graph v) (IsExit (graph v) numbers) (Some a)) (total (least_cost (graph v) own numbers)) o) (sym (beside_none v.code.nodes exits a none)) (no_walk (IsExit (graph v) numbers) a none))
      (in_or_not v.code.nodes a)

  behind_is : (a : ℕ) → IsLeastIfAny (IsReturnTo (graph v) numbers a) (end_after (graph v) numbers) (number_in_table behind ((graph v).owner a))
  behind_is a = ⊎_elim
      (λ (low : (graph v).owner a < length v.code.functions). let p = flow.order.whole ((graph v).owner a) low in done.done ((graph v).owner a) p.0 (omega arith) p.1)
      (λ (high : length v.code.functions ≤ (graph v).owner a).
      subst (λ (o : Option ℕ). IsLeastIfAny (IsReturnTo (graph v) numbers a) (end_after (graph v) numbers) o) (sym (get_or_past behind ((graph v).owner a) None (let s = done.size in omega arith)))
      (λ e back. let lt = flow.program.callee_function e ((graph v).owner a) back.0 back.1 in let bad : ⊥ = omega arith in bad))
      (cases_lt ((graph v).owner a) (length v.code.functions))

  pub least_numbers : AreLeast (graph v) own (least_by v returns exits behind)
  least_numbers = record {
    to_return = to_return;
    to_exit = to_exit;
    to_end = λ a. end-least (graph v) numbers a (number_in_table behind ((graph v).owner a)) (behind_is a) refl;
  }

pub end_is : (v : FlowGraph) (returns exits behind : List (Option ℕ)) (k f : ℕ) (r x sum result : Option ℕ) → IsFlowGraph v → k < length v.code.nodes → f ≡ (graph v).owner (node_address v k) → r ≡ number_in_table returns k → x ≡ number_in_table exits k → sum ≡ sum_of_both r (number_in_table behind f) → result ≡ lesser_cost x sum →
    result ≡ (least_by v returns exits behind).to_end (node_address v k)
end_is v returns exits behind k f r x sum result flow kl own from_r from_x one two =
    two ∙ ap (lesser_cost x) one
    ∙ ap (λ h. lesser_cost x (sum_of_both r (number_in_table behind h))) own
    ∙ ap (λ (o : Option ℕ). lesser_cost o (sum_of_both r (number_in_table behind ((graph v).owner (node_address v k))))) (from_x ∙ sym (at_node v flow exits k kl))
    ∙ ap (λ (o : Option ℕ). lesser_cost (value_beside v.code.nodes exits (node_address v k)) (sum_of_both o (number_in_table behind ((graph v).owner (node_address v k))))) (from_r ∙ sym (at_node v flow returns k kl))

pub value_at : (xs : List (Option ℕ)) (i : ℕ) (x : Option ℕ) → i < length xs → x ≡ slice_index_or xs i x → x ≡ number_in_table xs i
value_at xs i x lt is = sym (get_or_from_slice_get xs i x None (slice_get-get_or xs i x lt ∙ ap Some (sym is)))

pub back_keys_more : (v : FlowGraph) (e : ℕ) (keys : List (Option ℕ)) (o : Option ℕ) → AreBackKeys v e keys → o ≡ back_from ((graph v).target e) ((graph v).callee e) → AreBackKeys v (e + 1) (keys ++ o ∷ [])
back_keys_more v e keys o are is = record {
  size = let s = are.size in let a : length (keys ++ o ∷ []) ≡ length keys + 1 = length-append keys (o ∷ []) in omega arith;
  each = λ d dl. ⊎_elim
      (λ (low : d < e). before_push keys o d (let s = are.size in omega arith) ∙ are.each d low)
      (λ (high : e ≤ d).
      let s = are.size in
      let last : d ≡ length keys = omega arith in
      let same : d ≡ e = omega arith in
      ap (option_at (keys ++ o ∷ [])) last ∙ at_push keys o ∙ is ∙ ap (λ x. back_from ((graph v).target x) ((graph v).callee x)) (sym same))
      (cases_lt d e);
}
  where
    before_push : (xs : List (Option ℕ)) (x : Option ℕ) (i : ℕ) → i < length xs → option_at (xs ++ x ∷ []) i ≡ option_at xs i
    before_push [] x i lt = let bad : ⊥ = omega arith in absurd bad
    before_push (y ∷ ys) x zero lt = refl
    before_push (y ∷ ys) x (suc i) lt = before_push ys x i (omega arith)

    at_push : (xs : List (Option ℕ)) (x : Option ℕ) → option_at (xs ++ x ∷ []) (length xs) ≡ x
    at_push [] x = refl
    at_push (y ∷ ys) x = at_push ys x
