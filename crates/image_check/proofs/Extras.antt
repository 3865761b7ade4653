-- What an edge takes more with the stubs of the fragments that are found, by the lists of what is found.
use Rattle.std.proofs.Common.{◌≡◌, ⊎_elim, ℕ, zero, suc, ◌+◌, ◌*◌, ◌<◌, ◌≤◌, Bool, true, false, List, [], ◌∷◌, map, length, refl, sym, ap, ◌∙◌, subst, slice_get, Option, Some, None, arith}
use Rattle.std.specs.Prelude.{slice_index}
use Rattle.std.specs.List.{sum_by}
use Rattle.std.proofs.Math.Path.{fun_ext}
use Rattle.std.proofs.lemmas.Bool.{cases_lt}
use Rattle.std.proofs.lemmas.List.Sums.{sum_by-cons}
use Rattle.scale_base.specs.declared.instruction.Instr.{Instr}
use Rattle.scale_base.specs.declared.instruction.Instr.TheVariants as instr
use Rattle.scale_base.specs.declared.stepping.Class.{Class}
use Rattle.scale_base.specs.declared.stepping.Class.TheVariants as classes
use Rattle.scale_base.specs.Class.{class_of}
use Rattle.scale_base.specs.Arith.{moved_by}
use Rattle.scale_base.specs.Image.{Image, is_word_address}
use Rattle.scale_base.specs.declared.edges.Edge.{Edge}
use Rattle.power_model.specs.declared.power.Costs.{Costs}
use Rattle.power_model.specs.Price.{cycles_of}
use Rattle.cost_theory.specs.Graph.{Loops}
use Rattle.cost_theory.specs.Reached.{Reached, edges_of, edge_at, call_returns}
use Rattle.cost_theory.proofs.Laws.{Within, edge_of_word}
use Rattle.code_text.specs.Text.{Text, text_of, instr_at, instr_kind, kind_at}
use Rattle.code_text.specs.EdgeCosts.{class_by, edge_class, is_taken_kind, cost_of, weights}
use Rattle.code_text.proofs.Laws.{kind_facts}
use Rattle.flow_graph.specs.FlowGraph.{FlowGraph, graph}
use Rattle.loop_forest.specs.Tree.{LoopView, loops}
use Rattle.worst_cycles.specs.Worst.{by_edge}
use Rattle.scale_sites.specs.Weights.{mark_cost}
use Rattle.stub_writer.specs.Stubs.{Site}
use Rattle.stored_runs.specs.Cycles.{fragment_cost}
use Rattle.stored_runs.specs.Marks.{place_at, fragments_of_class, jumps_by}
use Rattle.paid_runs.specs.Marked.{extra_by, extra_site_weights, stored_site_weights}
use Rattle.foreign_scan.specs.declared.fragment.ForeignFragment.{ForeignFragment}
use Rattle.foreign_scan.specs.declared.fragment.ForeignFragment.TheVariants.{Switch, Exit, Reset, Count}
use Rattle.foreign_scan.specs.Form.{IsStub}
use Rattle.foreign_scan.specs.Scanned.{Found, is_changed, IsChanged, CanBePatched, IsPatch}
use Rattle.foreign_scan.specs.Shown.{ScannedSites}
use Rattle.image_check.specs.Safe.{Owner, with_rows, all_with_rows, place_by, sites_of}
use Rattle.image_check.specs.Known.{IsFoundIn}
use Rattle.image_check.specs.Weights.{foreign_cost, mark_of, stub_jumps}
use Rattle.rewritten_runs.proofs.Laws.{weights_listed}
use Rattle.image_check.proofs.CallEdges.{none_more}
use Rattle.image_check.proofs.OnEdges.{reached_word, changed_place, same_place, fragments_on}

-- ---- fragments cost the same without rows

one_alike : (cost : Class → ℕ) (image : Image) (l : Loops) (owner : Owner) (f : ForeignFragment) → fragment_cost cost (with_rows image l owner f) ≡ foreign_cost cost f
one_alike cost image l owner (Switch word) = refl
one_alike cost image l owner (Exit counter shift table) = refl
one_alike cost image l owner (Reset counter) = refl
one_alike cost image l owner (Count counter) = refl

pub all_alike : (cost : Class → ℕ) (image : Image) (l : Loops) (owner : Owner) (fs : List ForeignFragment) → sum_by (fragment_cost cost) (all_with_rows image l owner fs) ≡ sum_by (foreign_cost cost) fs
all_alike cost image l owner [] = refl
all_alike cost image l owner (f ∷ fs) =
    let a = sum_by-cons (fragment_cost cost) (with_rows image l owner f) (all_with_rows image l owner fs) in
    let b = sum_by-cons (foreign_cost cost) f fs in
    let c = one_alike cost image l owner f in
    let d = all_alike cost image l owner fs in
    omega (arith, a, b, c, d)

-- and so do the marks for whose code they stand
pub mark_alike : (costs : Costs) (f : ForeignFragment) → mark_cost costs (mark_of f) ≡ foreign_cost (cycles_of costs) f
mark_alike costs (Switch word) = refl
mark_alike costs (Exit counter shift table) = refl
mark_alike costs (Reset counter) = omega arith
mark_alike costs (Count counter) = omega arith

some_same : {A : Type 0} {a b : A} → Some a ≡ Some b → a ≡ b
some_same e = cc

pub get_some : {A : Type 0} (xs : List A) (i : ℕ) → i < length xs → (x : A) × (slice_get xs i ≡ Some x)
get_some [] i lt = absurd (omega (arith, lt))
get_some (x ∷ xs) zero lt = (x, refl)
get_some (x ∷ xs) (suc i) lt = get_some xs i (omega (arith, lt))

module _ (original foreign : Image) (v : FlowGraph) (tree : LoopView) (owner : Owner) (found : Found) (s : ScannedSites) (is : IsFoundIn original foreign v tree found s) where
  abbrev t : Text
  t = text_of original

  abbrev l : Loops
  l = loops v tree

  abbrev sites : List Site
  sites = sites_of original foreign v.code l owner found

  -- ---- at a word of the original

  extra_same : (costs : Class → ℕ) (e : ℕ) (edge : Edge) → slice_get v.code.edges e ≡ Some edge → is_changed original foreign edge.at ≡ false → extra_site_weights t v.code costs sites e ≡ 0
  extra_same costs e edge there off =
      ap (λ o. extra_by costs sites (edge_at o) (edge_class t o)) there
      ∙ none_more costs sites edge.at (edge_class t (Some edge)) (same_place original foreign v.code l owner found is.code.reached is.scanned edge.at off)

  -- ---- at a changed word

  module _ (e : ℕ) (edge : Edge) (there : slice_get v.code.edges e ≡ Some edge) (on : is_changed original foreign edge.at ≡ true) where
    source : (u : ℕ) × ((f : ℕ) × Reached (kind_at t) t.entry f u) × Within edge (edges_of (kind_at t u) u (call_returns v.code (kind_at t u))) × (edge.at ≡ u)
    source = edge_of_word (kind_at t) t.entry v.code is.code.reached.lists e edge there

    word : is_word_address original edge.at ≡ true
    word = ap (is_word_address original) source.3 ∙ reached_word original foreign v.code l owner found is.code.reached is.scanned source.1.0 source.0 source.1.1

    pub changed : IsChanged original foreign edge.at
    changed = (word, on)

    p : IsPatch original foreign v.code edge.at
    p = is.scanned.patches edge.at changed

    place_is : place_at sites edge.at ≡ Some (place_by foreign l owner edge.at (found edge.at) (Some p.old_instr))
    place_is = changed_place original foreign v.code l owner found is.code.reached is.scanned edge.at changed ∙ ap (λ o. Some (place_by foreign l owner edge.at (found edge.at) o)) p.old

    kind_is : kind_at t edge.at ≡ instr_kind t edge.at p.old_instr
    kind_is =
        let facts = kind_facts t source.0 (is.code.reached.words source.1.0 source.0 source.1.1) in
        let same : facts.2.0 ≡ p.old_instr = (let a = facts.2.1 in let b = ap (instr_at t) (sym source.3) ∙ p.old in cc) in
        ap (kind_at t) source.3 ∙ (facts.2.2 ∙ (ap (instr_kind t source.0) same ∙ ap (λ u. instr_kind t u p.old_instr) (sym source.3)))

    within : Within edge (edges_of (instr_kind t edge.at p.old_instr) edge.at (call_returns v.code (kind_at t edge.at)))
    within =
        let here : Within edge (edges_of (kind_at t edge.at) edge.at (call_returns v.code (kind_at t edge.at))) = subst (λ u. Within edge (edges_of (kind_at t u) u (call_returns v.code (kind_at t u)))) (sym source.3) source.2 in
        subst (λ w. Within edge (edges_of w edge.at (call_returns v.code (kind_at t edge.at)))) kind_is here

    jumps_are : (i : Instr) → CanBePatched i → (r : Bool) → Within edge (edges_of (instr_kind t edge.at i) edge.at r) → jumps_by (Some (place_by foreign l owner edge.at (found edge.at) (Some i))) ≡ stub_jumps edge.kind
    jumps_are (instr.Branch op rs1 rs2 offset) can r w = ⊎_elim
        (λ q. ap (λ (x : Edge). stub_jumps x.kind) q)
        (λ rest. ⊎_elim (λ q. ap (λ (x : Edge). stub_jumps x.kind) q) (λ none. absurd none) rest) w
    jumps_are (instr.Jal rd offset) can r w = at_zero rd can w
      where
        at_zero : (rd : ℕ) → rd ≡ 0 → Within edge (edges_of (instr_kind t edge.at (instr.Jal rd offset)) edge.at r) → 1 ≡ stub_jumps edge.kind
        at_zero rd is_zero w = ⊎_elim (λ q. ap (λ (x : Edge). stub_jumps x.kind) q) (λ none. absurd none)
            (subst (λ d. Within edge (edges_of (instr_kind t edge.at (instr.Jal d offset)) edge.at r)) is_zero w)
    jumps_are (instr.Lui rd imm) can r w = absurd can
    jumps_are (instr.Auipc rd imm) can r w = absurd can
    jumps_are (instr.Jalr rd rs1 offset) can r w = absurd can
    jumps_are (instr.Load op rd rs1 offset) can r w = absurd can
    jumps_are (instr.Store op rs1 rs2 offset) can r w = absurd can
    jumps_are (instr.Imm op rd rs1 imm) can r w = absurd can
    jumps_are (instr.Reg op rd rs1 rs2) can r w = absurd can
    jumps_are (instr.Fence rd rs1 imm) can r w = absurd can
    jumps_are instr.Ecall can r w = absurd can
    jumps_are instr.Ebreak can r w = absurd can

    has_class : (i : Instr) → CanBePatched i → (class : Class) × (class_by (Some i) edge.kind ≡ Some class)
    has_class (instr.Branch op rs1 rs2 offset) can = (class_of (instr.Branch op rs1 rs2 offset) (is_taken_kind edge.kind), refl)
    has_class (instr.Jal rd offset) can = (class_of (instr.Jal rd offset) (is_taken_kind edge.kind), refl)
    has_class (instr.Lui rd imm) can = absurd can
    has_class (instr.Auipc rd imm) can = absurd can
    has_class (instr.Jalr rd rs1 offset) can = absurd can
    has_class (instr.Load op rd rs1 offset) can = absurd can
    has_class (instr.Store op rs1 rs2 offset) can = absurd can
    has_class (instr.Imm op rd rs1 imm) can = absurd can
    has_class (instr.Reg op rd rs1 rs2) can = absurd can
    has_class (instr.Fence rd rs1 imm) can = absurd can
    has_class instr.Ecall can = absurd can
    has_class instr.Ebreak can = absurd can

    pub extra_changed : (costs : Class → ℕ) → extra_site_weights t v.code costs sites e ≡ stub_jumps edge.kind * costs classes.Jump + sum_by (foreign_cost costs) (found edge.at edge.kind)
    extra_changed costs =
        let c = has_class p.old_instr p.can_be in
        let class_is : edge_class t (Some edge) ≡ Some c.0 = ap (λ o. class_by o edge.kind) p.old ∙ c.1 in
        let jumps : jumps_by (place_at sites edge.at) ≡ stub_jumps edge.kind = ap jumps_by place_is ∙ jumps_are p.old_instr p.can_be (call_returns v.code (kind_at t edge.at)) within in
        let fs : fragments_of_class (place_at sites edge.at) c.0 ≡ all_with_rows foreign l owner (found edge.at edge.kind) = fragments_on original foreign v.code l owner found is.code.reached is.scanned e edge c.0 there class_is in
        let sum : sum_by (fragment_cost costs) (fragments_of_class (place_at sites edge.at) c.0) ≡ sum_by (foreign_cost costs) (found edge.at edge.kind) = ap (sum_by (fragment_cost costs)) fs ∙ all_alike costs foreign l owner (found edge.at edge.kind) in
        ap (λ o. extra_by costs sites (edge_at o) (edge_class t o)) there
        ∙ (ap (extra_by costs sites edge.at) class_is
        ∙ (ap (λ j. j * costs classes.Jump + sum_by (fragment_cost costs) (fragments_of_class (place_at sites edge.at) c.0)) jumps
        ∙ ap (λ x. stub_jumps edge.kind * costs classes.Jump + x) sum))

    few_by : (i : Instr) → CanBePatched i → (r : Bool) (stub : ℕ) → Within edge (edges_of (instr_kind t edge.at i) edge.at r) → IsStub foreign edge.at stub i (found edge.at) → length (found edge.at edge.kind) ≤ 64
    few_by (instr.Branch op rs1 rs2 offset) can r stub w is_stub = ⊎_elim
        (λ q. subst (λ (x : Edge). length (found edge.at x.kind) ≤ 64) q is_stub.taken.few)
        (λ rest. ⊎_elim (λ q. subst (λ (x : Edge). length (found edge.at x.kind) ≤ 64) q is_stub.passed.few) (λ none. absurd none) rest) w
    few_by (instr.Jal rd offset) can r stub w is_stub = at_zero rd can w
      where
        at_zero : (rd : ℕ) → rd ≡ 0 → Within edge (edges_of (instr_kind t edge.at (instr.Jal rd offset)) edge.at r) → length (found edge.at edge.kind) ≤ 64
        at_zero rd is_zero w = ⊎_elim (λ q. subst (λ (x : Edge). length (found edge.at x.kind) ≤ 64) q is_stub.few) (λ none. absurd none)
            (subst (λ d. Within edge (edges_of (instr_kind t edge.at (instr.Jal d offset)) edge.at r)) is_zero w)
    few_by (instr.Lui rd imm) can r stub w is_stub = absurd can
    few_by (instr.Auipc rd imm) can r stub w is_stub = absurd can
    few_by (instr.Jalr rd rs1 offset) can r stub w is_stub = absurd can
    few_by (instr.Load op rd rs1 offset) can r stub w is_stub = absurd can
    few_by (instr.Store op rs1 rs2 offset) can r stub w is_stub = absurd can
    few_by (instr.Imm op rd rs1 imm) can r stub w is_stub = absurd can
    few_by (instr.Reg op rd rs1 rs2) can r stub w is_stub = absurd can
    few_by (instr.Fence rd rs1 imm) can r stub w is_stub = absurd can
    few_by instr.Ecall can r stub w is_stub = absurd can
    few_by instr.Ebreak can r stub w is_stub = absurd can

    pub few_changed : length (found edge.at edge.kind) ≤ 64
    few_changed =
        let form = (is.scanned.stubs edge.at changed).0 p in
        few_by p.old_instr p.can_be (call_returns v.code (kind_at t edge.at)) (moved_by edge.at p.offset) within form

  -- ---- by the lists

  patched_is : (e k : ℕ) (b : Bool) (edge : Edge) → slice_get v.code.edges e ≡ Some edge → slice_get v.code.nodes k ≡ Some ((graph v).source e) → slice_get s.patched k ≡ Some b → is_changed original foreign edge.at ≡ b
  patched_is e k b edge there node flag =
      let at : (graph v).source e ≡ edge.at = ap edge_at there in
      let shown = is.shown.patched k ((graph v).source e) node in
      let same : is_changed original foreign ((graph v).source e) ≡ b = some_same (sym shown ∙ flag) in
      ap (is_changed original foreign) (sym at) ∙ same

  pub extra_of_same : (costs : Class → ℕ) (e k : ℕ) → e < length v.code.edges → slice_get v.code.nodes k ≡ Some ((graph v).source e) → slice_get s.patched k ≡ Some false → 0 ≡ extra_site_weights t v.code costs sites e
  extra_of_same costs e k lt node flag =
      let here = get_some v.code.edges e lt in
      sym (extra_same costs e here.0 here.1 (patched_is e k false here.0 here.1 node flag))

  module _ (e k : ℕ) (edge : Edge) (fs : List ForeignFragment) (there : slice_get v.code.edges e ≡ Some edge) (node : slice_get v.code.nodes k ≡ Some ((graph v).source e)) (flag : slice_get s.patched k ≡ Some true) (shown : slice_get s.fragments e ≡ Some fs) where
    listed : fs ≡ found edge.at edge.kind
    listed = some_same (sym shown ∙ is.shown.fragments e edge there)

    pub extra_of_patched : (costs : Class → ℕ) → stub_jumps edge.kind * costs classes.Jump + sum_by (foreign_cost costs) fs ≡ extra_site_weights t v.code costs sites e
    extra_of_patched costs =
        ap (λ x. stub_jumps edge.kind * costs classes.Jump + sum_by (foreign_cost costs) x) listed
        ∙ sym (extra_changed e edge there (patched_is e k true edge there node flag) costs)

    pub few_listed : length fs ≤ 64
    few_listed = subst (λ x. length x ≤ 64) (sym listed) (few_changed e edge there (patched_is e k true edge there node flag))

  -- ---- by lists of weights

  past_end : (xs : List ℕ) (e : ℕ) → length xs ≤ e → by_edge xs e ≡ 0
  past_end [] e h = refl
  past_end (x ∷ xs) zero h = absurd (omega (arith, h))
  past_end (x ∷ xs) (suc e) h = past_end xs e (omega (arith, h))

  none_behind : {A : Type 0} (xs : List A) (e : ℕ) → length xs ≤ e → slice_get xs e ≡ None
  none_behind [] e h = refl
  none_behind (x ∷ xs) zero h = absurd (omega (arith, h))
  none_behind (x ∷ xs) (suc e) h = none_behind xs e (omega (arith, h))

  extra_behind : (costs : Class → ℕ) (e : ℕ) → length v.code.edges ≤ e → extra_site_weights t v.code costs sites e ≡ 0
  extra_behind costs e h = ap (λ o. extra_by costs sites (edge_at o) (edge_class t o)) (none_behind v.code.edges e h)

  weights_behind : (costs : Class → ℕ) (e : ℕ) → length v.code.edges ≤ e → weights t v.code costs e ≡ 0
  weights_behind costs e h = ap (λ o. cost_of costs (edge_class t o)) (none_behind v.code.edges e h)

  pub extras_are : (costs : Class → ℕ) (ws : List ℕ) → length ws ≡ length v.code.edges → ((e : ℕ) → e < length v.code.edges → slice_index ws e ≡ extra_site_weights t v.code costs sites e) → by_edge ws ≡ extra_site_weights t v.code costs sites
  extras_are costs ws size each = fun_ext (λ e. ⊎_elim (λ (lt : e < length v.code.edges). each e lt)
      (λ (ge : length v.code.edges ≤ e). past_end ws e (omega (arith, size, ge)) ∙ sym (extra_behind costs e ge))
      (cases_lt e (length v.code.edges)))

  pub stored_are : (costs : Class → ℕ) (ws : List ℕ) → length ws ≡ length v.code.edges
      → ((e : ℕ) → e < length v.code.edges → (extra : ℕ) × (extra ≡ extra_site_weights t v.code costs sites e) × (slice_index ws e ≡ slice_index (map (cost_of costs) v.classes) e + extra))
      → by_edge ws ≡ stored_site_weights t v.code costs sites
  stored_are costs ws size each = fun_ext (λ e. ⊎_elim
      (λ (lt : e < length v.code.edges).
      let x = each e lt in
      let a = x.1 in
      let b = x.2 in
      let c = ap (λ (f : ℕ → ℕ). f e) (weights_listed t v costs is.code) in
      let r : by_edge ws e ≡ stored_site_weights t v.code costs sites e = omega (arith, a, b, c) in r)
      (λ (ge : length v.code.edges ≤ e).
      let a = past_end ws e (omega (arith, size, ge)) in
      let b = extra_behind costs e ge in
      let c = weights_behind costs e ge in
      let r : by_edge ws e ≡ stored_site_weights t v.code costs sites e = omega (arith, a, b, c) in r)
      (cases_lt e (length v.code.edges)))

-- ---- costs of classes

pub base_small : (costs : Costs) (classes : List (Option Class)) → ((class : Class) → cycles_of costs class ≤ 65535) → (e : ℕ) → slice_index (map (cost_of (cycles_of costs)) classes) e ≤ 65535
base_small costs [] small e = omega arith
base_small costs (None ∷ cs) small zero = omega arith
base_small costs (Some class ∷ cs) small zero = small class
base_small costs (o ∷ cs) small (suc e) = base_small costs cs small e
