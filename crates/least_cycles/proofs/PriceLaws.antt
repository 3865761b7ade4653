-- What edges cost with the functions that they call, edge by edge; and the nodes of functions by chains.
use Rattle.std.proofs.Common.{◌≡◌, ◌≢◌, ℕ, zero, suc, ◌+◌, ◌^◌, ◌<◌, ◌≤◌, ◌⊎◌, ◌↔◌, inl, inr, Bool, true, false, List, [], ◌∷◌, ◌++◌, length, length-append, slice_get, slice_set, slice_index_or, Option, Some, None, IsSome, unwrap_or, refl, sym, ap, ◌∙◌, subst, arith, ⊎_elim, get_or-set_other, get_or-set_same, length-set}
use Rattle.std.proofs.lemmas.Bool.{cases_lt}
use Rattle.std.proofs.lemmas.Option.{slice_get-get_or, same_Some}
use Rattle.graph_algorithms.specs.Arcs.{number_in_place, AreDistinct}
use Rattle.cost_theory.specs.Worst.{at_some}
use Rattle.cost_theory.specs.Least.{IsExit, least_call, least_cost}
use Rattle.flow_graph.specs.FlowGraph.{FlowGraph, graph, IsFlowGraph}
use Rattle.loop_forest.specs.Noted.{node_address}
use Rattle.graph_algorithms.specs.Keys.{HasKey, AreKeys, IsLastBelow}
use Rattle.least_cycles.specs.Functions.{IsNodeFlagged, IsBucket}
use Rattle.least_cycles.specs.declared.prices.Tables.{Tables}
use Rattle.least_cycles.specs.Tables.{AreOwnerKeys, value_beside, least_by, AreSmallTables}
use Rattle.least_cycles.specs.Passes.{ArePriceTables, IsPriceBy, ArePricedBy}

same_or : (a b : ℕ) → (a ≡ b) ⊎ (a ≢ b)
same_or a b = grind arith

node_here : (v : FlowGraph) (k : ℕ) → k < length v.code.nodes → slice_get v.code.nodes k ≡ Some (node_address v k)
node_here v k lt = slice_get-get_or v.code.nodes k 0 lt

pub led_to : (v : FlowGraph) (e k : ℕ) → (graph v).target e ≡ slice_get v.code.nodes k → k < length v.code.nodes → (graph v).target e ≡ Some (node_address v k)
led_to v e k to kl = to ∙ node_here v k kl

pub never_last : (b : Bool) (o : Option ℕ) (a : ℕ) (more : Bool) → b ≡ false → o ≡ Some a → (false ≡ true) ↔ ((b ≡ true) ⊎ ((o ≡ None) × (more ≡ true)))
never_last b o a more false_is to = (
  λ bad. let r : ⊥ = cc in absurd r,
  λ either. ⊎_elim
      (λ (yes : b ≡ true). sym false_is ∙ yes)
      (λ (ends : (o ≡ None) × (more ≡ true)). let none = ends.0 in let r : ⊥ = cc in absurd r)
      either,
)

pub not_both : (o : Option ℕ) (a : ℕ) → o ≡ Some a → o ≡ None → ⊥
not_both o a some none = let bad : ⊥ = cc in bad

-- ---- prices

call_small : (v : FlowGraph) (returns exits : List (Option ℕ)) (e : ℕ) (p : Option ℕ) → IsFlowGraph v → AreSmallTables v returns exits → e < length v.code.edges → least_call (graph v) (least_by v returns exits []) e p ≤ 2 ^ 48
call_small v returns exits e p flow tables el = by_place p
  where
    few : (table : List (Option ℕ)) (f : ℕ) → ((x : ℕ) → value_beside v.code.nodes table ((graph v).entry f) ≡ Some x → x ≤ 2 ^ 48) → (o : Option ℕ) → value_beside v.code.nodes table ((graph v).entry f) ≡ o → unwrap_or o 0 ≤ 2 ^ 48
    few table f small None is = omega arith
    few table f small (Some x) is = small x is

    go : (table : List (Option ℕ)) → ((f x : ℕ) → f < length v.code.functions → value_beside v.code.nodes table ((graph v).entry f) ≡ Some x → x ≤ 2 ^ 48) → (c : Option ℕ) → (graph v).callee e ≡ c → at_some c (λ f. unwrap_or (value_beside v.code.nodes table ((graph v).entry f)) 0) ≤ 2 ^ 48
    go table small None calls = omega arith
    go table small (Some f) calls = few table f (λ x is. small f x (flow.program.callee_function e f el calls) is) (value_beside v.code.nodes table ((graph v).entry f)) refl

    by_place : (q : Option ℕ) → least_call (graph v) (least_by v returns exits []) e q ≤ 2 ^ 48
    by_place None = go exits tables.small_exit ((graph v).callee e) refl
    by_place (Some u) = go returns tables.small_return ((graph v).callee e) refl

pub more_small : (x : Tables) (e : ℕ) (more : Option ℕ) → ArePriceTables x → e < length x.graph.now.code.edges → unwrap_or more 0 ≡ least_call (graph x.graph.now) (least_by x.graph.now x.returns.now x.exits.now []) e ((graph x.graph.now).target e) → (n : ℕ) → more ≡ Some n → n ≤ 2 ^ 48
more_small x e more are el is n some =
    let same : unwrap_or more 0 ≡ n = ap (λ (o : Option ℕ). unwrap_or o 0) some in
    let low = call_small x.graph.now x.returns.now x.exits.now e ((graph x.graph.now).target e) are.flow are.tables el in
    omega arith

-- what is found of the call on an edge, and whether the edge is the last of a walk to an exit
pub record IsCalled (x : Tables) (e : ℕ) (more : Option ℕ) (last : Bool) : Type 0 where
  pub cost : unwrap_or more 0 ≡ least_call (graph x.graph.now) (least_by x.graph.now x.returns.now x.exits.now []) e ((graph x.graph.now).target e)
  pub some : (graph x.graph.now).target e ≡ None → IsSome more → (f : ℕ) × ((graph x.graph.now).callee e ≡ Some f) × IsSome (value_beside x.graph.now.code.nodes x.exits.now ((graph x.graph.now).entry f))
  pub whole : (f : ℕ) → (graph x.graph.now).target e ≡ None → (graph x.graph.now).callee e ≡ Some f → IsSome (value_beside x.graph.now.code.nodes x.exits.now ((graph x.graph.now).entry f)) → IsSome more
  pub ends : (last ≡ true) ↔ (((graph x.graph.now).exits e ≡ true) ⊎ (((graph x.graph.now).target e ≡ None) × IsSome more))

pub price_is : (x : Tables) (e s : ℕ) (more : Option ℕ) (last : Bool) → ArePriceTables x → e < length x.graph.now.code.edges → s ≡ unwrap_or more 0 → IsCalled x e more last → IsPriceBy x e (number_in_place x.own.now e + s) last
price_is x e s more last are el is call = record {
  cost_is = let cost = call.cost in let r : number_in_place x.own.now e + s ≡ number_in_place x.own.now e + least_call (graph x.graph.now) (least_by x.graph.now x.returns.now x.exits.now []) e ((graph x.graph.now).target e) = omega arith in r;
  last_is = (λ yes. to (call.ends.0 yes), λ exit. call.ends.1 (back exit));
  end = λ yes. none (call.ends.0 yes);
  within = let cost = call.cost in let low = are.low e in let small = call_small x.graph.now x.returns.now x.exits.now e ((graph x.graph.now).target e) are.flow are.tables el in omega arith;
}
  where
    to : ((graph x.graph.now).exits e ≡ true) ⊎ (((graph x.graph.now).target e ≡ None) × IsSome more) → IsExit (graph x.graph.now) (least_by x.graph.now x.returns.now x.exits.now []) e
    to (inl exit) = inl exit
    to (inr c) = inr (c.0, call.some c.0 c.1)

    back : IsExit (graph x.graph.now) (least_by x.graph.now x.returns.now x.exits.now []) e → ((graph x.graph.now).exits e ≡ true) ⊎ (((graph x.graph.now).target e ≡ None) × IsSome more)
    back (inl exit) = inl exit
    back (inr c) = inr (c.0, call.whole c.1.0 c.0 c.1.1 c.1.2)

    none : ((graph x.graph.now).exits e ≡ true) ⊎ (((graph x.graph.now).target e ≡ None) × IsSome more) → (graph x.graph.now).target e ≡ None
    none (inl exit) = (are.flow.program.exit_end e el exit).0
    none (inr c) = c.0

module _ (x : Tables) (Set Next : ℕ → Type 0) (costs : List ℕ) (lasts : List Bool) (are : ArePricedBy x Set costs lasts) where
  pub priced_more : (e cost : ℕ) (last : Bool) → e < length x.graph.now.code.edges → IsPriceBy x e cost last → ((d : ℕ) → d < length x.graph.now.code.edges → Next d → Set d ⊎ (d ≡ e)) → ArePricedBy x Next (slice_set costs e cost) (slice_set lasts e last)
  priced_more e cost last el is next = record {
    costs_size = length-set costs e cost ∙ are.costs_size;
    lasts_size = length-set lasts e last ∙ are.lasts_size;
    cost = λ d dl done. ⊎_elim
        (λ (same : d ≡ e). subst (λ i. number_in_place (slice_set costs e cost) i ≡ least_cost (graph x.graph.now) (number_in_place x.own.now) (least_by x.graph.now x.returns.now x.exits.now []) i) (sym same) (price_here ∙ is.cost_is))
        (λ (other : d ≢ e). get_or-set_other costs e d cost 0 other ∙ are.cost d dl (old d dl other done))
        (same_or d e);
    last = λ d dl done. ⊎_elim
        (λ (same : d ≡ e). subst (λ i. IsNodeFlagged (slice_set lasts e last) i ↔ IsExit (graph x.graph.now) (least_by x.graph.now x.returns.now x.exits.now []) i) (sym same) (λ yes. is.last_is.0 (sym flag_here ∙ yes), λ exit. flag_here ∙ is.last_is.1 exit))
        (λ (other : d ≢ e). (λ yes. (are.last d dl (old d dl other done)).0 (sym (flag_there d other) ∙ yes), λ exit. flag_there d other ∙ (are.last d dl (old d dl other done)).1 exit))
        (same_or d e);
    ends = λ d dl yes. ⊎_elim
        (λ (same : d ≡ e). subst (λ i. (graph x.graph.now).target i ≡ None) (sym same) (is.end (sym flag_here ∙ ap (slice_index (slice_set lasts e last)) (sym same) ∙ yes)))
        (λ (other : d ≢ e). are.ends d dl (sym (flag_there d other) ∙ yes))
        (same_or d e);
    within = λ d. ⊎_elim
        (λ (same : d ≡ e). let at : number_in_place (slice_set costs e cost) d ≡ cost = ap (number_in_place (slice_set costs e cost)) same ∙ price_here in let low = is.within in let r : number_in_place (slice_set costs e cost) d ≤ 2 ^ 49 = omega arith in r)
        (λ (other : d ≢ e). subst (λ n. n ≤ 2 ^ 49) (sym (get_or-set_other costs e d cost 0 other)) (are.within d))
        (same_or d e);
  }
    where
      slice_index : List Bool → ℕ → Bool
      slice_index xs i = slice_index_or xs i false

      price_here : number_in_place (slice_set costs e cost) e ≡ cost
      price_here = get_or-set_same costs e cost 0 (let s = are.costs_size in omega arith)

      flag_here : slice_index_or (slice_set lasts e last) e false ≡ last
      flag_here = get_or-set_same lasts e last false (let s = are.lasts_size in omega arith)

      flag_there : (d : ℕ) → d ≢ e → slice_index_or (slice_set lasts e last) d false ≡ slice_index_or lasts d false
      flag_there d other = get_or-set_other lasts e d last false other

      old : (d : ℕ) → d < length x.graph.now.code.edges → d ≢ e → Next d → Set d
      old d dl other done = ⊎_elim (λ (s : Set d). s) (λ (same : d ≡ e). absurd (other same)) (next d dl done)

  pub priced_for : ((d : ℕ) → d < length x.graph.now.code.edges → Next d → Set d) → ArePricedBy x Next costs lasts
  priced_for less = record {
    costs_size = are.costs_size;
    lasts_size = are.lasts_size;
    cost = λ d dl done. are.cost d dl (less d dl done);
    last = λ d dl done. are.last d dl (less d dl done);
    ends = are.ends;
    within = are.within;
  }

-- ---- nodes of functions

pub owner_below : (v : FlowGraph) (k : ℕ) → IsFlowGraph v → k < length v.code.nodes → (graph v).owner (node_address v k) < length v.code.functions
owner_below v k flow kl =
    let node = (flow.nodes (node_address v k)).0 (k, node_here v k kl) in
    subst (λ u. (graph v).owner u < (graph v).functions) node.2 (flow.program.owner_function node.0 node.1)

some_within : (xs : List (Option ℕ)) (i k : ℕ) → slice_index_or xs i None ≡ Some k → i < length xs
some_within [] i k at = let bad : ⊥ = cc in absurd bad
some_within (x ∷ xs) zero k at = omega arith
some_within (x ∷ xs) (suc i) k at = let r = some_within xs i k at in omega arith

pub keys_below : (v : FlowGraph) (keys : List (Option ℕ)) → IsFlowGraph v → AreOwnerKeys v (length v.code.nodes) keys → AreKeys keys (length v.code.functions)
keys_below v keys flow are s k has =
    let size = are.size in
    let sl : s < length keys = some_within keys s k has in
    let nl : s < length v.code.nodes = omega arith in
    let same : (graph v).owner (node_address v s) ≡ k = same_Some ((graph v).owner (node_address v s)) k (sym (are.each s nl) ∙ has) in
    subst (λ f. f < length v.code.functions) same (owner_below v s flow nl)

-- The nodes of function f from some number on, of which the next lies below.
pub record IsBucketFrom (v : FlowGraph) (keys : List (Option ℕ)) (f : ℕ) (next : Option ℕ) (bucket : List ℕ) : Type 0 where
  pub from : ℕ
  pub last : IsLastBelow keys from f next
  pub high : (i : ℕ) → i < length bucket → from ≤ number_in_place bucket i
  pub room : length bucket + from ≤ length v.code.nodes
  pub within : (i : ℕ) → i < length bucket → number_in_place bucket i < length v.code.nodes
  pub own : (i : ℕ) → i < length bucket → (graph v).owner (node_address v (number_in_place bucket i)) ≡ f
  pub whole : (k : ℕ) → from ≤ k → k < length v.code.nodes → (graph v).owner (node_address v k) ≡ f → (i : ℕ) × (i < length bucket) × (number_in_place bucket i ≡ k)
  pub once : AreDistinct bucket

pub bucket_first : (v : FlowGraph) (keys : List (Option ℕ)) (f : ℕ) (next : Option ℕ) → AreOwnerKeys v (length v.code.nodes) keys → IsLastBelow keys (length keys) f next → IsBucketFrom v keys f next []
bucket_first v keys f next are last = record {
  from = length v.code.nodes;
  last = subst (λ n. IsLastBelow keys n f next) are.size last;
  high = λ i il. let bad : ⊥ = omega arith in absurd bad;
  room = omega arith;
  within = λ i il. let bad : ⊥ = omega arith in absurd bad;
  own = λ i il. let bad : ⊥ = omega arith in absurd bad;
  whole = λ k low high own. let bad : ⊥ = omega arith in absurd bad;
  once = λ i j lt jl. let bad : ⊥ = omega arith in absurd bad;
}

pub next_is : (v : FlowGraph) (keys : List (Option ℕ)) (f k : ℕ) (bucket : List ℕ) → AreOwnerKeys v (length v.code.nodes) keys → IsBucketFrom v keys f (Some k) bucket → (k < length v.code.nodes) × HasKey keys k f
next_is v keys f k bucket are is =
    let at = is.last.place k refl in
    let low = at.0 in
    let room = is.room in
    (omega arith, at.1)

before_push : (xs : List ℕ) (x i : ℕ) → i < length xs → number_in_place (xs ++ x ∷ []) i ≡ number_in_place xs i
before_push [] x i lt = let bad : ⊥ = omega arith in absurd bad
before_push (y ∷ ys) x zero lt = refl
before_push (y ∷ ys) x (suc i) lt = before_push ys x i (omega arith)

at_push : (xs : List ℕ) (x : ℕ) → number_in_place (xs ++ x ∷ []) (length xs) ≡ x
at_push [] x = refl
at_push (y ∷ ys) x = at_push ys x

pub bucket_more : (v : FlowGraph) (keys : List (Option ℕ)) (f k : ℕ) (next : Option ℕ) (bucket : List ℕ) → AreOwnerKeys v (length v.code.nodes) keys → IsBucketFrom v keys f (Some k) bucket → IsLastBelow keys k f next → IsBucketFrom v keys f next (bucket ++ k ∷ [])
bucket_more v keys f k next bucket are is last = record {
  from = k;
  last = last;
  high = λ i il. either i il (λ x. k ≤ x) (λ low. let h = is.high i low in let b = below in let r : k ≤ number_in_place bucket i = omega arith in r) (omega arith);
  room = let room = is.room in let s = size in let low = below in omega arith;
  within = λ i il. either i il (λ x. x < length v.code.nodes) (is.within i) here.0;
  own = λ i il. either i il (λ x. (graph v).owner (node_address v x) ≡ f) (is.own i) owned;
  whole = λ j low jl own. ⊎_elim
      (λ (below : j < is.from).
      let key : HasKey keys j f = are.each j jl ∙ ap Some own in
      let top = is.last.greatest j below key in
      let same : k ≡ top.0 = same_Some k top.0 top.1 in
      let high = top.2 in
      (length bucket, (let s = size in let q : length bucket < length (bucket ++ k ∷ []) = omega arith in q), (let r : number_in_place (bucket ++ k ∷ []) (length bucket) ≡ j = at_push bucket k ∙ (let q : k ≡ j = omega arith in q) in r)))
      (λ (above : is.from ≤ j). let w = is.whole j above jl own in let lt = w.1 in (w.0, (let s = size in let q : w.0 < length (bucket ++ k ∷ []) = omega arith in q), before_push bucket k w.0 w.1 ∙ w.2))
      (cases_lt j is.from);
  once = λ i j lt jl same. ⊎_elim
      (λ (low : j < length bucket).
      let il : i < length bucket = omega arith in
      is.once i j lt low (sym (before_push bucket k i il) ∙ same ∙ before_push bucket k j low))
      (λ (high : length bucket ≤ j).
      let last_one : j ≡ length bucket = (let s = size in omega arith) in
      let il : i < length bucket = omega arith in
      let up = is.high i il in let lower = below in
      let eq : number_in_place bucket i ≡ k = sym (before_push bucket k i il) ∙ same ∙ ap (number_in_place (bucket ++ k ∷ [])) last_one ∙ at_push bucket k in
      let bad : ⊥ = omega arith in absurd bad)
      (cases_lt j (length bucket));
}
  where
    size : length (bucket ++ k ∷ []) ≡ length bucket + 1
    size = length-append bucket (k ∷ [])

    here : (k < length v.code.nodes) × HasKey keys k f
    here = next_is v keys f k bucket are is

    below : k < is.from
    below = (is.last.place k refl).0

    owned : (graph v).owner (node_address v k) ≡ f
    owned = same_Some ((graph v).owner (node_address v k)) f (sym (are.each k here.0) ∙ here.1)

    either : (i : ℕ) → i < length (bucket ++ k ∷ []) → (P : ℕ → Type 0) → (i < length bucket → P (number_in_place bucket i)) → P k → P (number_in_place (bucket ++ k ∷ []) i)
    either i il P old new = ⊎_elim
        (λ (low : i < length bucket). subst P (sym (before_push bucket k i low)) (old low))
        (λ (high : length bucket ≤ i). let last_one : i ≡ length bucket = (let s = size in omega arith) in subst P (sym (ap (number_in_place (bucket ++ k ∷ [])) last_one ∙ at_push bucket k)) new)
        (cases_lt i (length bucket))

pub bucket_last : (v : FlowGraph) (keys : List (Option ℕ)) (f : ℕ) (bucket : List ℕ) → AreOwnerKeys v (length v.code.nodes) keys → IsBucketFrom v keys f None bucket → IsBucket v f bucket
bucket_last v keys f bucket are is = record {
  within = is.within;
  own = is.own;
  whole = λ k kl own. ⊎_elim
      (λ (below : k < is.from). let top = is.last.greatest k below (are.each k kl ∙ ap Some own) in absurd (none_one top.0 top.1))
      (λ (above : is.from ≤ k). is.whole k above kl own)
      (cases_lt k is.from);
  once = is.once;
}
  where
    none_one : (s : ℕ) → None ≡ Some s → ⊥
    none_one s is = let bad : ⊥ = cc in bad
