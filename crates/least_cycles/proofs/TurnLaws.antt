-- The bodies of loops by the numbers of nodes, the edges of a turn, and the edges that enter loops.
use Rattle.std.proofs.Common.{◌≡◌, ◌≢◌, ℕ, zero, suc, ◌<◌, ◌⊎◌, ◌↔◌, Bool, true, false, not, ◌&&◌, nat_eq, List, [], ◌∷◌, map, length, slice_get, slice_set, option_map, Option, Some, None, refl, sym, ap, ◌∙◌, subst, arith, ⊎_elim, get_or-set_other, get_or-set_same, length-set}
use Rattle.std.proofs.lemmas.Bool.{eqb-true, eq-eqb, ne_eqb}
use Rattle.std.proofs.lemmas.List.{length-map}
use Rattle.std.proofs.lemmas.Option.{slice_get-get_or, slice_get_within, get_or_from_slice_get, slice_get-map, same_Some, none-some}
use Rattle.graph_algorithms.specs.Arcs.{number_in_place}
use Rattle.cost_theory.specs.Graph.{is_round, is_header, is_back}
use Rattle.cost_theory.specs.LeastTurns.{turn_step, turn_last}
use Rattle.cost_theory.specs.Lists.{or_true, is_among, body_of}
use Rattle.cost_theory.proofs.Laws.{leads_to_header, headers-distinct, accepted_entered}
use Rattle.flow_graph.specs.FlowGraph.{FlowGraph, graph, IsFlowGraph}
use Rattle.loop_forest.specs.Noted.{node_address}
use Rattle.loop_forest.proofs.Laws.{one_number}
use Rattle.loop_forest.specs.Tree.{LoopView, loops, IsLoopTree}
use Rattle.graph_algorithms.specs.Keys.{HasKey, AreKeys, option_at}
use Rattle.least_cycles.specs.declared.turns.Body.{Body}
use Rattle.least_cycles.specs.Functions.{is_in_flags, IsFromFirst}
use Rattle.least_cycles.specs.Charging.{AreHeaderLoops, IsInto, IsEntered, header_key, AreHeaderKeys}
use Rattle.least_cycles.specs.Passes.{IsLoopBody, AreKindsIn}
use Rattle.least_cycles.proofs.PriceLaws.{owner_below}

same_or : (a b : ℕ) → (a ≡ b) ⊎ (a ≢ b)
same_or a b = grind arith

-- ---- elements

or_any : (b c : Bool) → c ≡ true → or_true b c ≡ true
or_any true c e = refl
or_any false c e = e

among_at : (xs : List ℕ) (i x : ℕ) → slice_get xs i ≡ Some x → is_among x xs ≡ true
among_at [] i x e = let bad : ⊥ = cc in absurd bad
among_at (u ∷ us) zero x e = let same : u ≡ x = same_Some u x e in ap (λ b. or_true b (is_among x us)) (eq-eqb u x same)
among_at (u ∷ us) (suc i) x e = or_any (nat_eq u x) (is_among x us) (among_at us i x e)

at_among : (x : ℕ) (xs : List ℕ) → is_among x xs ≡ true → (i : ℕ) × (slice_get xs i ≡ Some x)
at_among x [] e = let bad : ⊥ = cc in absurd bad
at_among x (u ∷ us) e = go (nat_eq u x) refl (at_among x us)
  where
    go : (b : Bool) → nat_eq u x ≡ b → (is_among x us ≡ true → (i : ℕ) × (slice_get us i ≡ Some x)) → (i : ℕ) × (slice_get (u ∷ us) i ≡ Some x)
    go true here more = (zero, ap Some (eqb-true u x here))
    go false here more = let rest = more (subst (λ b. or_true b (is_among x us) ≡ true) here e) in (suc rest.0, rest.1)

body_map : (f : ℕ → ℕ) (bodies : List (List ℕ)) (k : ℕ) → body_of (map (λ body. map f body) bodies) k ≡ map f (body_of bodies k)
body_map f [] k = refl
body_map f (b ∷ bs) zero = refl
body_map f (b ∷ bs) (suc k) = body_map f bs k

pub inside_at : (v : FlowGraph) (t : LoopView) (k i : ℕ) → i < length (body_of t.bodies k) → (loops v t).inside k (node_address v (number_in_place (body_of t.bodies k) i)) ≡ true
inside_at v t k i lt =
    let at : slice_get (map (node_address v) (body_of t.bodies k)) i ≡ Some (node_address v (number_in_place (body_of t.bodies k) i)) =
    slice_get-map (node_address v) (body_of t.bodies k) i ∙ ap (option_map (node_address v)) (slice_get-get_or (body_of t.bodies k) i 0 lt) in
    subst (λ (xs : List ℕ). is_among (node_address v (number_in_place (body_of t.bodies k) i)) xs ≡ true) (sym (body_map (node_address v) t.bodies k)) (among_at (map (node_address v) (body_of t.bodies k)) i _ at)

pub number_inside : (v : FlowGraph) (t : LoopView) (k at : ℕ) → (loops v t).inside k at ≡ true → (i : ℕ) × (i < length (body_of t.bodies k)) × (at ≡ node_address v (number_in_place (body_of t.bodies k) i))
number_inside v t k at in_k =
    let among : is_among at (map (node_address v) (body_of t.bodies k)) ≡ true = subst (λ (xs : List ℕ). is_among at xs ≡ true) (body_map (node_address v) t.bodies k) in_k in
    let i = at_among at (map (node_address v) (body_of t.bodies k)) among in
    let within : i.0 < length (map (node_address v) (body_of t.bodies k)) = slice_get_within (map (node_address v) (body_of t.bodies k)) i.0 at i.1 in
    let size : length (map (node_address v) (body_of t.bodies k)) ≡ length (body_of t.bodies k) = length-map (body_of t.bodies k) (node_address v) in
    let low : i.0 < length (body_of t.bodies k) = omega arith in
    let here : slice_get (map (node_address v) (body_of t.bodies k)) i.0 ≡ Some (node_address v (number_in_place (body_of t.bodies k) i.0)) =
    slice_get-map (node_address v) (body_of t.bodies k) i.0 ∙ ap (option_map (node_address v)) (slice_get-get_or (body_of t.bodies k) i.0 0 low) in
    (i.0, low, same_Some at _ (sym i.1 ∙ here))

-- ---- nodes and headers

node_here : (v : FlowGraph) (k : ℕ) → k < length v.code.nodes → slice_get v.code.nodes k ≡ Some (node_address v k)
node_here v k lt = slice_get-get_or v.code.nodes k 0 lt

pub same_node : (v : FlowGraph) → IsFlowGraph v → (i j : ℕ) → i < length v.code.nodes → j < length v.code.nodes → node_address v i ≡ node_address v j → i ≡ j
same_node v flow i j il jl same = one_number v flow i j (node_address v j) (node_here v i il ∙ ap Some same) (node_here v j jl)

pub loop_count : (v : FlowGraph) (t : LoopView) → (loops v t).loops ≡ length t.headers
loop_count v t = length-map t.headers (node_address v)

pub loop_below : (v : FlowGraph) (t : LoopView) (k : ℕ) → k < length t.headers → k < (loops v t).loops
loop_below v t k lt = let count = loop_count v t in omega arith

pub header_number : (v : FlowGraph) (t : LoopView) (extent : ℕ → ℕ → Bool) → IsLoopTree v extent t → (k : ℕ) → k < length t.headers → number_in_place t.headers k < length v.code.nodes
header_number v t extent is k lt = is.header k (number_in_place t.headers k) (slice_get-get_or t.headers k 0 lt)

pub header_address : (v : FlowGraph) (t : LoopView) (k : ℕ) → k < length t.headers → (loops v t).header k ≡ node_address v (number_in_place t.headers k)
header_address v t k lt = get_or_from_slice_get (map (node_address v) t.headers) k _ 0 (slice_get-map (node_address v) t.headers k ∙ ap (option_map (node_address v)) (slice_get-get_or t.headers k 0 lt))

-- the loop whose header a node is, by address
pub header_is : (v : FlowGraph) (t : LoopView) (extent : ℕ → ℕ → Bool) (k l : ℕ) → IsFlowGraph v → IsLoopTree v extent t → k < length v.code.nodes → l < length t.headers → (loops v t).header l ≡ node_address v k → slice_get t.headers l ≡ Some k
header_is v t extent k l flow tree kl ll at =
    slice_get-get_or t.headers l 0 ll ∙ ap Some (same_node v flow (number_in_place t.headers l) k (header_number v t extent tree l ll) kl (sym (header_address v t l ll) ∙ at))

pub address_of_header : (v : FlowGraph) (t : LoopView) (k l : ℕ) → slice_get t.headers l ≡ Some k → (loops v t).header l ≡ node_address v k
address_of_header v t k l at =
    let ll = slice_get_within t.headers l k at in
    header_address v t l ll ∙ ap (node_address v) (get_or_from_slice_get t.headers l k 0 at)

pub one_header : (v : FlowGraph) (t : LoopView) (extent : ℕ → ℕ → Bool) (j l : ℕ) → IsFlowGraph v → IsLoopTree v extent t → j < length t.headers → l < length t.headers → (loops v t).header j ≡ (loops v t).header l → j ≡ l
one_header v t extent j l flow tree jl ll same = headers-distinct (graph v) (loops v t) extent flow.program (accepted_entered tree.accepted) j l (loop_below v t j jl) (loop_below v t l ll) same

-- ---- edges that enter loops

pub no_head_entered : (v : FlowGraph) (t : LoopView) (extent : ℕ → ℕ → Bool) (heads : List (Option ℕ)) (e k : ℕ) → IsFlowGraph v → IsLoopTree v extent t → AreHeaderLoops t heads → k < length v.code.nodes → (graph v).target e ≡ Some (node_address v k) → option_at heads k ≡ None → IsEntered v t e None
no_head_entered v t extent heads e k flow tree are kl to none = record {
  some = λ l at. absurd (none-some l at);
  none = λ l at into. are.none k l none (header_is v t extent k l flow tree kl into.0 (same_Some ((loops v t).header l) (node_address v k) (sym into.1 ∙ to)));
}

pub back_entered : (v : FlowGraph) (t : LoopView) (extent : ℕ → ℕ → Bool) (e j : ℕ) → IsFlowGraph v → IsLoopTree v extent t → slice_get t.backs e ≡ Some (Some j) → IsEntered v t e None
back_entered v t extent e j flow tree back = record {
  some = λ m at. absurd (none-some m at);
  none = λ m at into.
      let is = (tree.backs e j).0 back in
      let to : (graph v).target e ≡ Some ((loops v t).header j) = leads_to_header (graph v) (loops v t) e j is.2 in
      let same : m ≡ j = one_header v t extent m j flow tree into.0 is.1 (same_Some ((loops v t).header m) ((loops v t).header j) (sym into.1 ∙ to)) in
      let yes_back : is_back (graph v) (loops v t) j e ≡ true = is.2 in
      let no_back : is_back (graph v) (loops v t) j e ≡ false = ap (λ i. is_back (graph v) (loops v t) i e) (sym same) ∙ into.2 in
      let bad : ⊥ = cc in bad;
}

pub head_entered : (v : FlowGraph) (t : LoopView) (extent : ℕ → ℕ → Bool) (heads : List (Option ℕ)) (e k l : ℕ) → IsFlowGraph v → IsLoopTree v extent t → AreHeaderLoops t heads → k < length v.code.nodes → e < length v.code.edges → (graph v).target e ≡ Some (node_address v k) → option_at heads k ≡ Some l → (slice_get t.backs e ≡ Some (Some l) → ⊥) → IsEntered v t e (Some l)
head_entered v t extent heads e k l flow tree are kl el to head not_back = record {
  some = λ j at.
      let here = are.some k l head in
      let ll = slice_get_within t.headers l k here in
      subst (λ i. IsInto v t e i) (same_Some l j at) (ll, to ∙ ap Some (sym (address_of_header v t k l here)), outside ll (is_back (graph v) (loops v t) l e) refl);
  none = λ j at into. absurd (none-some l (sym at));
}
  where
    outside : l < length t.headers → (b : Bool) → is_back (graph v) (loops v t) l e ≡ b → is_back (graph v) (loops v t) l e ≡ false
    outside ll false is = is
    outside ll true is = absurd (not_back ((tree.backs e l).1 (el, ll, is)))

-- ---- places of headers by functions

some_within : (xs : List (Option ℕ)) (i k : ℕ) → option_at xs i ≡ Some k → i < length xs
some_within [] i k at = let bad : ⊥ = cc in absurd bad
some_within (x ∷ xs) zero k at = omega arith
some_within (x ∷ xs) (suc i) k at = let r = some_within xs i k at in omega arith

-- what a key says
pub key_is : (v : FlowGraph) (order : List ℕ) (heads keys : List (Option ℕ)) (i f : ℕ) → AreHeaderKeys v order heads (length order) keys → HasKey keys i f →
    (l : ℕ) × (i < length order) × (option_at heads (number_in_place order i) ≡ Some l) × ((graph v).owner (node_address v (number_in_place order i)) ≡ f)
key_is v order heads keys i f are has =
    let size = are.size in
    let il : i < length keys = some_within keys i f has in
    let ol : i < length order = omega arith in
    go ol (option_at heads (number_in_place order i)) refl (sym (are.each i ol) ∙ has)
  where
    go : i < length order → (o : Option ℕ) → option_at heads (number_in_place order i) ≡ o → header_key (option_at heads (number_in_place order i)) ((graph v).owner (node_address v (number_in_place order i))) ≡ Some f →
        (l : ℕ) × (i < length order) × (option_at heads (number_in_place order i) ≡ Some l) × ((graph v).owner (node_address v (number_in_place order i)) ≡ f)
    go ol None at key = absurd (none-some f (sym (ap (λ (o : Option ℕ). header_key o ((graph v).owner (node_address v (number_in_place order i)))) at) ∙ key))
    go ol (Some l) at key = (l, ol, at, same_Some ((graph v).owner (node_address v (number_in_place order i))) f (sym (ap (λ (o : Option ℕ). header_key o ((graph v).owner (node_address v (number_in_place order i)))) at) ∙ key))

pub key_of : (v : FlowGraph) (order : List ℕ) (heads keys : List (Option ℕ)) (i l f : ℕ) → AreHeaderKeys v order heads (length order) keys → i < length order → option_at heads (number_in_place order i) ≡ Some l → (graph v).owner (node_address v (number_in_place order i)) ≡ f → HasKey keys i f
key_of v order heads keys i l f are il head own = are.each i il ∙ ap (λ (o : Option ℕ). header_key o ((graph v).owner (node_address v (number_in_place order i)))) head ∙ ap Some own

pub header_keys_below : (v : FlowGraph) (t : LoopView) (extent : ℕ → ℕ → Bool) (heads keys : List (Option ℕ)) → IsFlowGraph v → IsLoopTree v extent t → AreHeaderKeys v t.order heads (length t.order) keys → AreKeys keys (length v.code.functions)
header_keys_below v t extent heads keys flow tree are s k has =
    let is = key_is v t.order heads keys s k are has in
    subst (λ f. f < length v.code.functions) is.3 (owner_below v (number_in_place t.order s) flow (tree.order.within s (number_in_place t.order s) (slice_get-get_or t.order s 0 is.1)))

-- ---- edges of a turn

pub same_bool : (a b : Bool) → (a ≡ true → b ≡ true) → (b ≡ true → a ≡ true) → a ≡ b
same_bool true b to back = sym (to refl)
same_bool false true to back = back refl
same_bool false false to back = refl

module _ (b : Body) (e : ℕ) (is : IsLoopBody b) (from : (loops b.graph.now b.tree.now).inside b.number ((graph b.graph.now).source e) ≡ true) where
  last_is : (o : Option ℕ) → (graph b.graph.now).target e ≡ o → turn_last (graph b.graph.now) (loops b.graph.now b.tree.now) b.number e ≡ is_header (loops b.graph.now b.tree.now) b.number o
  last_is o to = ap (λ x. x && is_header (loops b.graph.now b.tree.now) b.number ((graph b.graph.now).target e)) from ∙ ap (λ p. is_header (loops b.graph.now b.tree.now) b.number p) to

  step_is : (o : Option ℕ) → (graph b.graph.now).target e ≡ o → turn_step (graph b.graph.now) (loops b.graph.now b.tree.now) b.number e ≡ (is_round (loops b.graph.now b.tree.now) b.number o && not (is_header (loops b.graph.now b.tree.now) b.number o))
  step_is o to = ap (λ x. x && (is_round (loops b.graph.now b.tree.now) b.number ((graph b.graph.now).target e) && not (is_header (loops b.graph.now b.tree.now) b.number ((graph b.graph.now).target e)))) from
      ∙ ap (λ p. is_round (loops b.graph.now b.tree.now) b.number p && not (is_header (loops b.graph.now b.tree.now) b.number p)) to

  module _ (k : ℕ) (kl : k < length b.graph.now.code.nodes) (to : (graph b.graph.now).target e ≡ Some (node_address b.graph.now k)) (other : k ≢ number_in_place b.tree.now.headers b.number) where
    off_header : nat_eq (node_address b.graph.now k) ((loops b.graph.now b.tree.now).header b.number) ≡ false
    off_header = ne_eqb (node_address b.graph.now k) ((loops b.graph.now b.tree.now).header b.number)
        (λ same. other (same_node b.graph.now is.flow k (number_in_place b.tree.now.headers b.number) kl (header_number b.graph.now b.tree.now is.tree.0 is.tree.1 b.number is.loop_number) (same ∙ header_address b.graph.now b.tree.now b.number is.loop_number)))

    pub turn_off : false ≡ turn_last (graph b.graph.now) (loops b.graph.now b.tree.now) b.number e
    turn_off = sym (last_is (Some (node_address b.graph.now k)) to ∙ off_header)

    pub stay_off : (here : Bool) → ((here ≡ true) ↔ ((i : ℕ) × (i < length b.nodes.now) × (number_in_place b.nodes.now i ≡ k))) → here ≡ turn_step (graph b.graph.now) (loops b.graph.now b.tree.now) b.number e
    stay_off here means =
        sym (step_is (Some (node_address b.graph.now k)) to ∙ ap (λ c. (loops b.graph.now b.tree.now).inside b.number (node_address b.graph.now k) && not c) off_header ∙ with_true ((loops b.graph.now b.tree.now).inside b.number (node_address b.graph.now k)) ∙ inside)
      where
        with_true : (c : Bool) → (c && true) ≡ c
        with_true true = refl
        with_true false = refl

        inside : (loops b.graph.now b.tree.now).inside b.number (node_address b.graph.now k) ≡ here
        inside = same_bool ((loops b.graph.now b.tree.now).inside b.number (node_address b.graph.now k)) here (λ in_l. means.1 (is.nodes.whole k kl in_l))
            (λ yes_in. let i = means.0 yes_in in subst (λ x. (loops b.graph.now b.tree.now).inside b.number (node_address b.graph.now x) ≡ true) i.2 (is.nodes.inside i.0 i.1))

-- ---- marks

module _ (b : Body) (Set Next : ℕ → Type 0) (turns stays : List Bool) (are : AreKindsIn b Set turns stays) where
  pub kinds_more : (e : ℕ) (turn stay : Bool) → e < length b.graph.now.code.edges → turn ≡ turn_last (graph b.graph.now) (loops b.graph.now b.tree.now) b.number e → stay ≡ turn_step (graph b.graph.now) (loops b.graph.now b.tree.now) b.number e →
      ((d : ℕ) → d < length b.graph.now.code.edges → Next d → Set d ⊎ (d ≡ e)) → AreKindsIn b Next (slice_set turns e turn) (slice_set stays e stay)
  kinds_more e turn stay el is_turn is_stay next = record {
    turns_size = length-set turns e turn ∙ are.turns_size;
    stays_size = length-set stays e stay ∙ are.stays_size;
    turn = λ d dl done. ⊎_elim
        (λ (same : d ≡ e). subst (λ x. is_in_flags (slice_set turns e turn) x ≡ turn_last (graph b.graph.now) (loops b.graph.now b.tree.now) b.number x) (sym same) (get_or-set_same turns e turn false (let s = are.turns_size in omega arith) ∙ is_turn))
        (λ (other : d ≢ e). get_or-set_other turns e d turn false other ∙ are.turn d dl (old d dl other done))
        (same_or d e);
    stay = λ d dl done. ⊎_elim
        (λ (same : d ≡ e). subst (λ x. is_in_flags (slice_set stays e stay) x ≡ turn_step (graph b.graph.now) (loops b.graph.now b.tree.now) b.number x) (sym same) (get_or-set_same stays e stay false (let s = are.stays_size in omega arith) ∙ is_stay))
        (λ (other : d ≢ e). get_or-set_other stays e d stay false other ∙ are.stay d dl (old d dl other done))
        (same_or d e);
  }
    where
      old : (d : ℕ) → d < length b.graph.now.code.edges → d ≢ e → Next d → Set d
      old d dl other done = ⊎_elim (λ (s : Set d). s) (λ (same : d ≡ e). absurd (other same)) (next d dl done)

  pub kinds_for : ((d : ℕ) → d < length b.graph.now.code.edges → Next d → Set d) → AreKindsIn b Next turns stays
  kinds_for less = record {
    turns_size = are.turns_size;
    stays_size = are.stays_size;
    turn = λ d dl done. are.turn d dl (less d dl done);
    stay = λ d dl done. are.stay d dl (less d dl done);
  }

pub kinds_first : (b : Body) (turns stays : List Bool) → length turns ≡ length b.graph.now.code.edges → length stays ≡ length b.graph.now.code.edges → AreKindsIn b (IsFromFirst b.graph.now b.nodes.now 0) turns stays
kinds_first b turns stays one two = record {
  turns_size = one;
  stays_size = two;
  turn = λ d dl done. let lt : done.0 < 0 = done.1 in let bad : ⊥ = omega arith in absurd bad;
  stay = λ d dl done. let lt : done.0 < 0 = done.1 in let bad : ⊥ = omega arith in absurd bad;
}
