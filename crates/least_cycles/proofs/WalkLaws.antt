-- Functions that are done one after the other, callees first: what stands for them in the tables stays.
use Rattle.std.proofs.Common.{◌≡◌, ◌≢◌, ℕ, zero, suc, ◌+◌, ◌^◌, ◌<◌, ◌≤◌, ◌⊎◌, ◌↔◌, inl, inr, Bool, true, false, nat_eq, if◌then◌else◌, replicate, List, [], ◌∷◌, length, slice_get, Option, Some, None, IsSome, unwrap_or, refl, sym, ap, ◌∙◌, subst, arith, ⊎_elim}
use Rattle.std.proofs.lemmas.Bool.{cases_lt}
use Rattle.std.proofs.lemmas.List.{length-replicate}
use Rattle.std.proofs.lemmas.Option.{slice_get_within, slice_get-get_or, same_Some}
use Rattle.graph_algorithms.specs.Arcs.{number_in_place}
use Rattle.cost_theory.specs.Graph.{Graph, total}
use Rattle.cost_theory.specs.Worst.{at_some}
use Rattle.cost_theory.specs.Least.{Least, IsLeastIfAny, EndsWith, IsReturn, IsExit, least_call, least_cost}
use Rattle.flow_graph.specs.FlowGraph.{FlowGraph, graph, IsFlowGraph}
use Rattle.loop_forest.specs.Noted.{node_address}
use Rattle.loop_forest.proofs.Laws.{source_number}
use Rattle.least_cycles.specs.Hops.{number_in_table}
use Rattle.least_cycles.specs.Functions.{IsNodeFlagged, IsBucket, IsFromFirst, AreLeastIn}
use Rattle.least_cycles.specs.Tables.{value_beside, least_by, AreFunctionLimits, AreWithinLimits, AreSmallTables, AreReturns, AreWalksOf, AreWritten, IsBefore, IsAnyFunction}
use Rattle.least_cycles.proofs.TableLaws.{at_number, least_moved, within_limit}
use Rattle.least_cycles.proofs.PriceLaws.{owner_below}

same_or : (a b : ℕ) → (a ≡ b) ⊎ (a ≢ b)
same_or a b = grind arith

node_here : (v : FlowGraph) (k : ℕ) → k < length v.code.nodes → slice_get v.code.nodes k ≡ Some (node_address v k)
node_here v k lt = slice_get-get_or v.code.nodes k 0 lt

pub address_is : (v : FlowGraph) (k a : ℕ) → slice_get v.code.nodes k ≡ Some a → node_address v k ≡ a
address_is v k a at = same_Some (node_address v k) a (sym (node_here v k (slice_get_within v.code.nodes k a at)) ∙ at)

-- ---- numbers that are written

module _ (v : FlowGraph) (f : ℕ) (bucket : List ℕ) (found old new : List (Option ℕ)) (flow : IsFlowGraph v) (is : IsBucket v f bucket) (written : AreWritten (length bucket) bucket found old new) where
  written_in : (k : ℕ) → k < length v.code.nodes → (graph v).owner (node_address v k) ≡ f → (i : ℕ) × (i < length bucket) × (number_in_place bucket i ≡ k) × (number_in_table new k ≡ number_in_table found i)
  written_in k kl own =
      let i = is.whole k kl own in
      (i.0, i.1, i.2, ap (number_in_table new) (sym i.2) ∙ written.each i.0 i.1)

  written_out : (k : ℕ) → (k < length v.code.nodes → (graph v).owner (node_address v k) ≡ f → ⊥) → number_in_table new k ≡ number_in_table old k
  written_out k out = written.others k (λ i il same. out (subst (λ x. x < length v.code.nodes) same (is.within i il)) (subst (λ x. (graph v).owner (node_address v x) ≡ f) same (is.own i il)))

  entry_kept : (h : ℕ) → h < length v.code.functions → h ≢ f → value_beside v.code.nodes old ((graph v).entry h) ≡ value_beside v.code.nodes new ((graph v).entry h)
  entry_kept h hl other =
      let k = (flow.nodes ((graph v).entry h)).1 (flow.program.entry_node h hl) in
      at_number v flow old k.0 ((graph v).entry h) k.1
      ∙ sym (written_out k.0 (λ kl own. other (sym (flow.program.entry_owner h hl) ∙ ap (graph v).owner (sym (address_is v k.0 ((graph v).entry h) k.1)) ∙ own)))
      ∙ sym (at_number v flow new k.0 ((graph v).entry h) k.1)

  small_kept : (most : ℕ) → ((i x : ℕ) → number_in_table found i ≡ Some x → x ≤ most) → ((k x : ℕ) → number_in_table old k ≡ Some x → x ≤ most) → (k x : ℕ) → number_in_table new k ≡ Some x → x ≤ most
  small_kept most low small k x at = ⊎_elim
      (λ (kl : k < length v.code.nodes). ⊎_elim
      (λ (own : (graph v).owner (node_address v k) ≡ f). let i = written_in k kl own in low i.0 x (sym i.3 ∙ at))
      (λ (other : (graph v).owner (node_address v k) ≢ f). small k x (sym (written_out k (λ l own. other own)) ∙ at))
      (same_or ((graph v).owner (node_address v k)) f))
      (λ (past : length v.code.nodes ≤ k). small k x (sym (written_out k (λ kl own. let bad : ⊥ = omega arith in bad)) ∙ at))
      (cases_lt k (length v.code.nodes))

-- ---- costs of calls

callee_kept : (g : Graph) (t t' : ℕ → Option ℕ) (c : Option ℕ) → ((h : ℕ) → c ≡ Some h → t (g.entry h) ≡ t' (g.entry h)) → at_some c (λ h. unwrap_or (t (g.entry h)) 0) ≡ at_some c (λ h. unwrap_or (t' (g.entry h)) 0)
callee_kept g t t' None kept = refl
callee_kept g t t' (Some h) kept = ap (λ (o : Option ℕ). unwrap_or o 0) (kept h refl)

pub call_kept : (g : Graph) (n n' : Least) (e : ℕ) (p : Option ℕ) → ((h : ℕ) → g.callee e ≡ Some h → n.to_return (g.entry h) ≡ n'.to_return (g.entry h)) → ((h : ℕ) → g.callee e ≡ Some h → n.to_exit (g.entry h) ≡ n'.to_exit (g.entry h)) → least_call g n e p ≡ least_call g n' e p
call_kept g n n' e None returns exits = callee_kept g n.to_exit n'.to_exit (g.callee e) exits
call_kept g n n' e (Some u) returns exits = callee_kept g n.to_return n'.to_return (g.callee e) returns

callee_low : (g : Graph) (t : ℕ → Option ℕ) (limit : ℕ → ℕ) (c : Option ℕ) → ((h x : ℕ) → c ≡ Some h → t (g.entry h) ≡ Some x → x ≤ limit h) → at_some c (λ h. unwrap_or (t (g.entry h)) 0) ≤ at_some c limit
callee_low g t limit None low = omega arith
callee_low g t limit (Some h) low = value (t (g.entry h)) refl
  where
    value : (o : Option ℕ) → t (g.entry h) ≡ o → unwrap_or o 0 ≤ limit h
    value None is = omega arith
    value (Some x) is = low h x refl is

pub cost_low : (v : FlowGraph) (own limit : ℕ → ℕ) (returns exits behind : List (Option ℕ)) → IsFlowGraph v → AreWithinLimits v limit returns → AreWithinLimits v limit exits → (e : ℕ) → e < length v.code.edges →
    least_cost (graph v) own (least_by v returns exits behind) e ≤ own e + at_some ((graph v).callee e) limit
cost_low v own limit returns exits behind flow low_r low_x e el = let r = call ((graph v).target e) in omega arith
  where
    call : (p : Option ℕ) → least_call (graph v) (least_by v returns exits behind) e p ≤ at_some ((graph v).callee e) limit
    call None = callee_low (graph v) (value_beside v.code.nodes exits) limit ((graph v).callee e) (λ h x calls is. low_x h x (flow.program.callee_function e h el calls) is)
    call (Some u) = callee_low (graph v) (value_beside v.code.nodes returns) limit ((graph v).callee e) (λ h x calls is. low_r h x (flow.program.callee_function e h el calls) is)

pub exit_at_end : (v : FlowGraph) (n : Least) → IsFlowGraph v → (e : ℕ) → e < length v.code.edges → IsExit (graph v) n e → (graph v).target e ≡ None
exit_at_end v n flow e el (inl exit) = (flow.program.exit_end e el exit).0
exit_at_end v n flow e el (inr call) = call.0

-- an edge of a function starts at one of its nodes
pub from_first : (v : FlowGraph) (f : ℕ) (bucket : List ℕ) (e : ℕ) → IsFlowGraph v → IsBucket v f bucket → e < length v.code.edges → (graph v).owner ((graph v).source e) ≡ f → IsFromFirst v bucket (length bucket) e
from_first v f bucket e flow is el here =
    let k = source_number v flow e el in
    let address : node_address v k.0 ≡ (graph v).source e = address_is v k.0 ((graph v).source e) k.1 in
    let i = is.whole k.0 (slice_get_within v.code.nodes k.0 ((graph v).source e) k.1) (ap (graph v).owner address ∙ here) in
    (i.0, i.1, sym (ap (node_address v) i.2 ∙ address))

-- ---- one function more

module _ (v : FlowGraph) (own limit : ℕ → ℕ) (Done Next : ℕ → Type 0) (f : ℕ) (bucket : List ℕ) (returns exits found_r found_x returns' exits' : List (Option ℕ)) (c : ℕ → ℕ) (lasts returning : List Bool)
    (flow : IsFlowGraph v) (limits : AreFunctionLimits (graph v) own limit) (are : AreWalksOf v own limit Done returns exits) (fl : f < length v.code.functions) (fresh : Done f → ⊥) (next : (h : ℕ) → Next h → Done h ⊎ (h ≡ f))
    (closed : (e h : ℕ) → e < length v.code.edges → Done ((graph v).owner ((graph v).source e)) ⊎ ((graph v).owner ((graph v).source e) ≡ f) → (graph v).callee e ≡ Some h → Done h)
    (is : IsBucket v f bucket)
    (cost_is : (e : ℕ) → e < length v.code.edges → (graph v).owner ((graph v).source e) ≡ f → c e ≡ least_cost (graph v) own (least_by v returns exits []) e)
    (last_is : (e : ℕ) → e < length v.code.edges → (graph v).owner ((graph v).source e) ≡ f → IsNodeFlagged lasts e ↔ IsExit (graph v) (least_by v returns exits []) e)
    (flags : AreReturns v (length v.code.edges) returning)
    (least_r : AreLeastIn v returning c bucket found_r) (least_x : AreLeastIn v lasts c bucket found_x)
    (low_r : (i x : ℕ) → number_in_table found_r i ≡ Some x → x ≤ 2 ^ 67) (low_x : (i x : ℕ) → number_in_table found_x i ≡ Some x → x ≤ 2 ^ 67)
    (wr : AreWritten (length bucket) bucket found_r returns returns') (wx : AreWritten (length bucket) bucket found_x exits exits') where
  abbrev before : Least
  before = least_by v returns exits []

  abbrev now : Least
  now = least_by v returns' exits' []

  not_f : (e h : ℕ) → e < length v.code.edges → Done ((graph v).owner ((graph v).source e)) ⊎ ((graph v).owner ((graph v).source e) ≡ f) → (graph v).callee e ≡ Some h → h ≢ f
  not_f e h el done calls same = fresh (subst Done same (closed e h el done calls))

  return_kept : (e h : ℕ) → e < length v.code.edges → Done ((graph v).owner ((graph v).source e)) ⊎ ((graph v).owner ((graph v).source e) ≡ f) → (graph v).callee e ≡ Some h → value_beside v.code.nodes returns ((graph v).entry h) ≡ value_beside v.code.nodes returns' ((graph v).entry h)
  return_kept e h el done calls = entry_kept v f bucket found_r returns returns' flow is wr h (flow.program.callee_function e h el calls) (not_f e h el done calls)

  exit_kept : (e h : ℕ) → e < length v.code.edges → Done ((graph v).owner ((graph v).source e)) ⊎ ((graph v).owner ((graph v).source e) ≡ f) → (graph v).callee e ≡ Some h → value_beside v.code.nodes exits ((graph v).entry h) ≡ value_beside v.code.nodes exits' ((graph v).entry h)
  exit_kept e h el done calls = entry_kept v f bucket found_x exits exits' flow is wx h (flow.program.callee_function e h el calls) (not_f e h el done calls)

  cost_kept : (e : ℕ) → e < length v.code.edges → Done ((graph v).owner ((graph v).source e)) ⊎ ((graph v).owner ((graph v).source e) ≡ f) → least_cost (graph v) own before e ≡ least_cost (graph v) own now e
  cost_kept e el done = ap (λ x. own e + x) (call_kept (graph v) before now e ((graph v).target e) (λ h calls. return_kept e h el done calls) (λ h calls. exit_kept e h el done calls))

  last_kept : (e : ℕ) → e < length v.code.edges → Done ((graph v).owner ((graph v).source e)) ⊎ ((graph v).owner ((graph v).source e) ≡ f) → IsExit (graph v) before e → IsExit (graph v) now e
  last_kept e el done (inl exit) = inl exit
  last_kept e el done (inr call) = inr (call.0, (call.1.0, call.1.1, subst (λ (o : Option ℕ). IsSome o) (exit_kept e call.1.0 el done call.1.1) call.1.2))

  last_back : (e : ℕ) → e < length v.code.edges → Done ((graph v).owner ((graph v).source e)) ⊎ ((graph v).owner ((graph v).source e) ≡ f) → IsExit (graph v) now e → IsExit (graph v) before e
  last_back e el done (inl exit) = inl exit
  last_back e el done (inr call) = inr (call.0, (call.1.0, call.1.1, subst (λ (o : Option ℕ). IsSome o) (sym (exit_kept e call.1.0 el done call.1.1)) call.1.2))

  -- by the costs before
  solved_return : (k : ℕ) → k < length v.code.nodes → (graph v).owner (node_address v k) ≡ f → IsLeastIfAny (EndsWith (graph v) (IsReturn (graph v)) (Some (node_address v k))) (total (least_cost (graph v) own before)) (number_in_table returns' k)
  solved_return k kl here =
      let i = written_in v f bucket found_r returns returns' flow is wr k kl here in
      subst (λ (o : Option ℕ). IsLeastIfAny (EndsWith (graph v) (IsReturn (graph v)) (Some (node_address v k))) (total (least_cost (graph v) own before)) o) (sym i.3)
      (least_moved (graph v) flow.program f (IsNodeFlagged returning) (IsReturn (graph v)) c (least_cost (graph v) own before) cost_is (λ e el at yes. (flags.each e el).0 yes) (λ e el at yes. (flags.each e el).1 yes) (node_address v k) (number_in_table found_r i.0) here
      (subst (λ j. IsLeastIfAny (EndsWith (graph v) (IsNodeFlagged returning) (Some (node_address v j))) (total c) (number_in_table found_r i.0)) i.2 (least_r i.0 i.1)))

  solved_exit : (k : ℕ) → k < length v.code.nodes → (graph v).owner (node_address v k) ≡ f → IsLeastIfAny (EndsWith (graph v) (IsExit (graph v) before) (Some (node_address v k))) (total (least_cost (graph v) own before)) (number_in_table exits' k)
  solved_exit k kl here =
      let i = written_in v f bucket found_x exits exits' flow is wx k kl here in
      subst (λ (o : Option ℕ). IsLeastIfAny (EndsWith (graph v) (IsExit (graph v) before) (Some (node_address v k))) (total (least_cost (graph v) own before)) o) (sym i.3)
      (least_moved (graph v) flow.program f (IsNodeFlagged lasts) (IsExit (graph v) before) c (least_cost (graph v) own before) cost_is (λ e el at yes. (last_is e el at).0 yes) (λ e el at yes. (last_is e el at).1 yes) (node_address v k) (number_in_table found_x i.0) here
      (subst (λ j. IsLeastIfAny (EndsWith (graph v) (IsNodeFlagged lasts) (Some (node_address v j))) (total c) (number_in_table found_x i.0)) i.2 (least_x i.0 i.1)))

  next_return : (k : ℕ) → k < length v.code.nodes → Next ((graph v).owner (node_address v k)) → IsLeastIfAny (EndsWith (graph v) (IsReturn (graph v)) (Some (node_address v k))) (total (least_cost (graph v) own now)) (number_in_table returns' k)
  next_return k kl done = ⊎_elim
      (λ (old : Done ((graph v).owner (node_address v k))).
      subst (λ (o : Option ℕ). IsLeastIfAny (EndsWith (graph v) (IsReturn (graph v)) (Some (node_address v k))) (total (least_cost (graph v) own now)) o)
      (sym (written_out v f bucket found_r returns returns' flow is wr k (λ l same. fresh (subst Done same old))))
      (least_moved (graph v) flow.program ((graph v).owner (node_address v k)) (IsReturn (graph v)) (IsReturn (graph v)) (least_cost (graph v) own before) (least_cost (graph v) own now) (λ e el at. cost_kept e el (inl (subst Done (sym at) old))) (λ e el at yes. yes) (λ e el at yes. yes) (node_address v k) (number_in_table returns k) refl (are.to_return k kl old)))
      (λ (same : (graph v).owner (node_address v k) ≡ f).
      least_moved (graph v) flow.program f (IsReturn (graph v)) (IsReturn (graph v)) (least_cost (graph v) own before) (least_cost (graph v) own now) (λ e el at. cost_kept e el (inr at)) (λ e el at yes. yes) (λ e el at yes. yes) (node_address v k) (number_in_table returns' k) same (solved_return k kl same))
      (next ((graph v).owner (node_address v k)) done)

  next_exit : (k : ℕ) → k < length v.code.nodes → Next ((graph v).owner (node_address v k)) → IsLeastIfAny (EndsWith (graph v) (IsExit (graph v) now) (Some (node_address v k))) (total (least_cost (graph v) own now)) (number_in_table exits' k)
  next_exit k kl done = ⊎_elim
      (λ (old : Done ((graph v).owner (node_address v k))).
      subst (λ (o : Option ℕ). IsLeastIfAny (EndsWith (graph v) (IsExit (graph v) now) (Some (node_address v k))) (total (least_cost (graph v) own now)) o)
      (sym (written_out v f bucket found_x exits exits' flow is wx k (λ l same. fresh (subst Done same old))))
      (least_moved (graph v) flow.program ((graph v).owner (node_address v k)) (IsExit (graph v) before) (IsExit (graph v) now) (least_cost (graph v) own before) (least_cost (graph v) own now) (λ e el at. cost_kept e el (inl (subst Done (sym at) old))) (λ e el at yes. last_kept e el (inl (subst Done (sym at) old)) yes) (λ e el at yes. last_back e el (inl (subst Done (sym at) old)) yes) (node_address v k) (number_in_table exits k) refl (are.to_exit k kl old)))
      (λ (same : (graph v).owner (node_address v k) ≡ f).
      least_moved (graph v) flow.program f (IsExit (graph v) before) (IsExit (graph v) now) (least_cost (graph v) own before) (least_cost (graph v) own now) (λ e el at. cost_kept e el (inr at)) (λ e el at yes. last_kept e el (inr at) yes) (λ e el at yes. last_back e el (inr at) yes) (node_address v k) (number_in_table exits' k) same (solved_exit k kl same))
      (next ((graph v).owner (node_address v k)) done)

  entry_at : (h x : ℕ) (table : List (Option ℕ)) → h < length v.code.functions → value_beside v.code.nodes table ((graph v).entry h) ≡ Some x → (k : ℕ) × (k < length v.code.nodes) × (node_address v k ≡ (graph v).entry h) × (number_in_table table k ≡ Some x)
  entry_at h x table hl at =
      let k = (flow.nodes ((graph v).entry h)).1 (flow.program.entry_node h hl) in
      (k.0, slice_get_within v.code.nodes k.0 ((graph v).entry h) k.1, address_is v k.0 ((graph v).entry h) k.1, sym (at_number v flow table k.0 ((graph v).entry h) k.1) ∙ at)

  low_return : AreWithinLimits v limit returns'
  low_return h x hl at = ⊎_elim
      (λ (same : h ≡ f).
      let k = entry_at h x returns' hl at in
      let here : (graph v).owner (node_address v k.0) ≡ f = ap (graph v).owner k.2 ∙ flow.program.entry_owner h hl ∙ same in
      subst (λ j. x ≤ limit j) (sym same)
      (within_limit (graph v) own limit flow.program limits (IsReturn (graph v)) (least_cost (graph v) own before) (cost_low v own limit returns exits [] flow are.low_return are.low_exit) (λ e el yes. (flow.program.return_end e el yes).0) f x fl
      (subst (λ a. IsLeastIfAny (EndsWith (graph v) (IsReturn (graph v)) (Some a)) (total (least_cost (graph v) own before)) (Some x)) (k.2 ∙ ap (graph v).entry same)
      (subst (λ (o : Option ℕ). IsLeastIfAny (EndsWith (graph v) (IsReturn (graph v)) (Some (node_address v k.0))) (total (least_cost (graph v) own before)) o) k.3 (solved_return k.0 k.1 here)))))
      (λ (other : h ≢ f). are.low_return h x hl (entry_kept v f bucket found_r returns returns' flow is wr h hl other ∙ at))
      (same_or h f)

  low_exit : AreWithinLimits v limit exits'
  low_exit h x hl at = ⊎_elim
      (λ (same : h ≡ f).
      let k = entry_at h x exits' hl at in
      let here : (graph v).owner (node_address v k.0) ≡ f = ap (graph v).owner k.2 ∙ flow.program.entry_owner h hl ∙ same in
      subst (λ j. x ≤ limit j) (sym same)
      (within_limit (graph v) own limit flow.program limits (IsExit (graph v) before) (least_cost (graph v) own before) (cost_low v own limit returns exits [] flow are.low_return are.low_exit) (λ e el yes. exit_at_end v before flow e el yes) f x fl
      (subst (λ a. IsLeastIfAny (EndsWith (graph v) (IsExit (graph v) before) (Some a)) (total (least_cost (graph v) own before)) (Some x)) (k.2 ∙ ap (graph v).entry same)
      (subst (λ (o : Option ℕ). IsLeastIfAny (EndsWith (graph v) (IsExit (graph v) before) (Some (node_address v k.0))) (total (least_cost (graph v) own before)) o) k.3 (solved_exit k.0 k.1 here)))))
      (λ (other : h ≢ f). are.low_exit h x hl (entry_kept v f bucket found_x exits exits' flow is wx h hl other ∙ at))
      (same_or h f)

  pub walks_more : AreWalksOf v own limit Next returns' exits'
  walks_more = record {
    returns_size = wr.size ∙ are.returns_size;
    exits_size = wx.size ∙ are.exits_size;
    to_return = next_return;
    to_exit = next_exit;
    low_return = low_return;
    low_exit = low_exit;
    small_return = small_kept v f bucket found_r returns returns' flow is wr (2 ^ 67) low_r are.small_return;
    small_exit = small_kept v f bucket found_x exits exits' flow is wx (2 ^ 67) low_x are.small_exit;
  }

-- ---- the order of calls

pub not_before : (v : FlowGraph) (i f : ℕ) → IsFlowGraph v → slice_get v.order i ≡ Some f → IsBefore v i f → ⊥
not_before v i f flow at done =
    let same : done.0 ≡ i = flow.order.once done.0 i f done.2 at in
    let lt : done.0 < i = done.1 in
    let bad : ⊥ = omega arith in bad

pub next_before : (v : FlowGraph) (i f h : ℕ) → slice_get v.order i ≡ Some f → IsBefore v (i + 1) h → IsBefore v i h ⊎ (h ≡ f)
next_before v i f h at done = ⊎_elim
    (λ (low : done.0 < i). let r : IsBefore v i h ⊎ (h ≡ f) = inl (done.0, low, done.2) in r)
    (λ (high : i ≤ done.0).
    let lt : done.0 < i + 1 = done.1 in
    let same : done.0 ≡ i = omega arith in
    let r : IsBefore v i h ⊎ (h ≡ f) = inr (same_Some h f (sym done.2 ∙ ap (slice_get v.order) same ∙ at)) in r)
    (cases_lt done.0 i)

pub callees_before : (v : FlowGraph) (i f : ℕ) → IsFlowGraph v → slice_get v.order i ≡ Some f → (e h : ℕ) → e < length v.code.edges → IsBefore v i ((graph v).owner ((graph v).source e)) ⊎ ((graph v).owner ((graph v).source e) ≡ f) → (graph v).callee e ≡ Some h → IsBefore v i h
callees_before v i f flow at e h el done calls =
    let p = flow.order.whole h (flow.program.callee_function e h el calls) in
    let caller : (j : ℕ) × (slice_get v.order j ≡ Some ((graph v).owner ((graph v).source e))) × (j ≤ i) = ⊎_elim
    (λ (old : IsBefore v i ((graph v).owner ((graph v).source e))). let lt : old.0 < i = old.1 in (old.0, old.2, omega arith))
    (λ (same : (graph v).owner ((graph v).source e) ≡ f). (i, at ∙ ap Some (sym same), omega arith))
    done in
    let lt = flow.order.before ((graph v).source e) h p.0 caller.0 (e, el, refl, calls) p.1 caller.1 in
    let le : caller.0 ≤ i = caller.2 in
    (p.0, omega arith, p.1)

pub all_before : (v : FlowGraph) (h : ℕ) → IsFlowGraph v → h < length v.code.functions → IsBefore v (length v.order) h
all_before v h flow hl = let p = flow.order.whole h hl in (p.0, slice_get_within v.order p.0 h p.1, p.1)

-- ---- tables and costs for one function more

pub tables_small : (v : FlowGraph) (own limit : ℕ → ℕ) (Done : ℕ → Type 0) (returns exits : List (Option ℕ)) → AreFunctionLimits (graph v) own limit → AreWalksOf v own limit Done returns exits → AreSmallTables v returns exits
tables_small v own limit Done returns exits limits are = record {
  returns_size = are.returns_size;
  exits_size = are.exits_size;
  small_return = λ f x fl at. let low = are.low_return f x fl at in let most = limits.small f fl in omega arith;
  small_exit = λ f x fl at. let low = are.low_exit f x fl at in let most = limits.small f fl in omega arith;
}

-- ---- at first

none_at : (n k : ℕ) → number_in_table (replicate n None) k ≡ None
none_at zero k = refl
none_at (suc n) zero = refl
none_at (suc n) (suc k) = none_at n k

beside_empty : (nodes : List ℕ) (n a : ℕ) → value_beside nodes (replicate n None) a ≡ None
beside_empty [] n a = refl
beside_empty (u ∷ us) zero a = refl
beside_empty (u ∷ us) (suc n) a = pick (nat_eq u a) (beside_empty us n a)
  where
    pick : (b : Bool) → value_beside us (replicate n None) a ≡ None → (if b then None else value_beside us (replicate n None) a) ≡ None
    pick true is = refl
    pick false is = is

zero_at : (n k : ℕ) → number_in_place (replicate n 0) k ≡ 0
zero_at zero k = refl
zero_at (suc n) zero = refl
zero_at (suc n) (suc k) = zero_at n k

not_some : (o : Option ℕ) (x : ℕ) → o ≡ None → o ≡ Some x → ⊥
not_some o x none some = let bad : ⊥ = cc in bad

pub walks_first : (v : FlowGraph) (own limit : ℕ → ℕ) (n : ℕ) (returns exits : List (Option ℕ)) → n ≡ length v.code.nodes → returns ≡ replicate n None → exits ≡ replicate n None → AreWalksOf v own limit (IsBefore v 0) returns exits
walks_first v own limit n returns exits size one two = record {
  returns_size = ap length one ∙ length-replicate n None ∙ size;
  exits_size = ap length two ∙ length-replicate n None ∙ size;
  to_return = λ k kl done. let lt : done.0 < 0 = done.1 in let bad : ⊥ = omega arith in absurd bad;
  to_exit = λ k kl done. let lt : done.0 < 0 = done.1 in let bad : ⊥ = omega arith in absurd bad;
  low_return = λ f x fl at. absurd (not_some (value_beside v.code.nodes returns ((graph v).entry f)) x (ap (λ (t : List (Option ℕ)). value_beside v.code.nodes t ((graph v).entry f)) one ∙ beside_empty v.code.nodes n ((graph v).entry f)) at);
  low_exit = λ f x fl at. absurd (not_some (value_beside v.code.nodes exits ((graph v).entry f)) x (ap (λ (t : List (Option ℕ)). value_beside v.code.nodes t ((graph v).entry f)) two ∙ beside_empty v.code.nodes n ((graph v).entry f)) at);
  small_return = λ k x at. absurd (not_some (number_in_table returns k) x (ap (λ (t : List (Option ℕ)). number_in_table t k) one ∙ none_at n k) at);
  small_exit = λ k x at. absurd (not_some (number_in_table exits k) x (ap (λ (t : List (Option ℕ)). number_in_table t k) two ∙ none_at n k) at);
}

pub none_before : {A : Type 0} (v : FlowGraph) (f : ℕ) → IsBefore v 0 f → A
none_before v f done = let lt : done.0 < 0 = done.1 in let bad : ⊥ = omega arith in absurd bad

pub zero_low : (found : List ℕ) (n : ℕ) → found ≡ replicate n 0 → (k : ℕ) → number_in_place found k ≤ 2 ^ 48
zero_low found n is k = let value : number_in_place found k ≡ 0 = ap (λ (t : List ℕ). number_in_place t k) is ∙ zero_at n k in omega arith

pub walks_whole : (v : FlowGraph) (own limit : ℕ → ℕ) (returns exits : List (Option ℕ)) → IsFlowGraph v → AreWalksOf v own limit (IsBefore v (length v.order)) returns exits → AreWalksOf v own limit IsAnyFunction returns exits
walks_whole v own limit returns exits flow are = record {
  returns_size = are.returns_size;
  exits_size = are.exits_size;
  to_return = λ k kl any. are.to_return k kl (all_before v ((graph v).owner (node_address v k)) flow (owner_below v k flow kl));
  to_exit = λ k kl any. are.to_exit k kl (all_before v ((graph v).owner (node_address v k)) flow (owner_below v k flow kl));
  low_return = are.low_return;
  low_exit = are.low_exit;
  small_return = are.small_return;
  small_exit = are.small_exit;
}
