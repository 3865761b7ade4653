-- A safe image is a tuned one, and a paced image one whose tables keep budgets.
use Rattle.std.proofs.Common.{◌≡◌, inl, inr, ⊎_elim, ℕ, ◌+◌, ◌%◌, ◌^◌, ◌<◌, ◌≤◌, Bool, true, false, List, ◌∷◌, length, refl, arith, sym, ap, ◌∙◌, subst, slice_get, Option, Some, None}
use Rattle.std.specs.Prelude.{◌==◌}
use Rattle.std.specs.List.{sum_by}
use Rattle.std.proofs.lemmas.Bool.{eq-eqb, both_ways, cond-true}
use Rattle.std.proofs.lemmas.List.Sums.{sum_by-cons}
use Rattle.scale_base.specs.declared.instruction.Instr.{Instr}
use Rattle.scale_base.specs.declared.instruction.Instr.TheVariants as instr
use Rattle.scale_base.specs.Arith.{plus, moved_by}
use Rattle.scale_base.specs.Image.{Image, loaded_byte, is_word_address}
use Rattle.scale_base.specs.Run.{starting_level}
use Rattle.power_model.specs.Numbers.{PowerModel}
use Rattle.scale_base.specs.declared.edges.Edge.{Edge}
use Rattle.scale_base.specs.declared.edges.EdgeKind.TheVariants.{Taken, Untaken, Jump}
use Rattle.cost_theory.specs.declared.flow.Flow.TheVariants as flow
use Rattle.cost_theory.specs.Graph.{Graph, Loops, leaves}
use Rattle.cost_theory.specs.Reached.{Reached, LeadsTo, Code, edge_at, edge_to, edges_of, call_returns, callee_of, place_after}
use Rattle.cost_theory.specs.Worst.{Numbers}
use Rattle.cost_theory.proofs.Laws.{callee_word, Within, edge_of_word, word_edge}
use Rattle.cycle_laws.specs.Charged.{Charged}
use Rattle.code_text.specs.Text.{Text, text_of, instr_at, instr_kind, kind_at}
use Rattle.code_text.specs.TextGraph.{text_graph}
use Rattle.graph_runs.specs.Laws.{IsProgramOf}
use Rattle.stub_writer.specs.Stubs.{Site, way}
use Rattle.stored_runs.specs.Marks.{tail_cycles}
use Rattle.stored_runs.specs.Patched.{IsSafeEdge, AreSafeEdges}
use Rattle.paid_runs.proofs.Laws.{targets_are_words, tables_of_keep_time, tables_keep_budgets, budgeted_safe, tuned_safe}
use Rattle.power_model.specs.Switches.{costs_of}
use Rattle.level_tables.specs.Tables.{meets_both}
use Rattle.level_tables.specs.declared.edge_numbers.EdgeNumbers.{EdgeNumbers}
use Rattle.level_tables.specs.Budgets.{meets_in_budget}
use Rattle.paid_runs.specs.Timely.{weights_of}
use Rattle.paid_runs.specs.Tabled.{told_on, IsEdgeTabledBy, AreTabledBy}
use Rattle.foreign_scan.specs.declared.fragment.ForeignFragment.{ForeignFragment}
use Rattle.foreign_scan.specs.declared.fragment.ForeignFragment.TheVariants.{Exit}
use Rattle.foreign_scan.specs.Form.{IsRunOut, IsStub}
use Rattle.foreign_scan.specs.Scanned.{Found, is_changed, IsChanged, CanBePatched, IsPatch, IsScanned}
use Rattle.image_check.specs.Safe.{Owner, owner_bound, all_with_rows, place_by, sites_of, clears_on, clears_it, one_where, AreOwners, AreWordsBy, AreOnBy, IsSafeImage}
use Rattle.image_check.specs.Laws.{is_owner, SafeImagesAreTuned, SafeImagesKeepRuns}
use Rattle.image_check.specs.Paced.{IsPacedImage}
use Rattle.image_check.specs.PacedLaws.{PacedImagesAreBudgeted, PacedImagesKeepRuns}
use Rattle.image_check.proofs.Owning.{patched_kind, counter_for, counters, counted, on_edge}
use Rattle.image_check.proofs.OnEdges.{reached_word}
use Rattle.image_check.proofs.Rows.{rows}
use Rattle.image_check.proofs.AsPatched.{patched}
use Rattle.image_check.proofs.Tables.{safe_all, ordered, few, tabled}

-- what is used of an image here, whatever test its entries meet
pub record AreScannedBy (power : PowerModel) (original foreign : Image) (code : Code) (l : Loops) (found : Found) (owner : Owner) (n : Numbers) (least : Charged) (meets : EdgeNumbers → ℕ → ℕ → Bool) : Type 0 where
  pub scanned : IsScanned original foreign code l found
  pub owners : AreOwners (text_graph (text_of original) code) code l found owner
  pub levels : (e : ℕ) → e < (text_graph (text_of original) code).edges
      → AreOnBy power meets foreign (text_graph (text_of original) code) l owner (weights_of power (text_of original) code (sites_of original foreign code l owner found)) n least found e (slice_get code.edges e)

module _ (power : PowerModel) (original foreign : Image) (code : Code) (l : Loops) (extent : ℕ → ℕ → Bool) (found : Found) (owner : Owner) (n : Numbers) (least : Charged) (meets : EdgeNumbers → ℕ → ℕ → Bool) (bytes : (a : ℕ) → loaded_byte foreign a < 256)
    (prog : IsProgramOf (text_of original) code l extent) (s : AreScannedBy power original foreign code l found owner n least meets) where
  abbrev t : Text
  t = text_of original

  abbrev g : Graph
  g = text_graph t code

  abbrev sites : List Site
  sites = sites_of original foreign code l owner found

  abbrev w : ℕ → ℕ
  w = weights_of power t code sites

  abbrev limits : ℕ → ℕ
  limits c = owner_bound l (owner c)

  kind_of : (v f : ℕ) → Reached (kind_at t) t.entry f v → (p : IsPatch original foreign code v) → kind_at t v ≡ instr_kind t v p.old_instr
  kind_of v f there p = patched_kind original foreign code l extent owner found prog s.scanned s.owners v f there p

  -- the loop of an exit's counter
  own_of : (e : ℕ) (edge : Edge) → e < g.edges → slice_get code.edges e ≡ Some edge → (counter shift table : ℕ) (others : List ForeignFragment) → found edge.at edge.kind ≡ Exit counter shift table ∷ others
      → (k : ℕ) × (owner counter ≡ Some k) × (k < l.loops) × (leaves l k (g.source e) (g.target e) ≡ true)
  own_of e edge lt there counter shift table others is =
      let cleared : clears_on found (slice_get code.edges e) counter ≡ clears_it counter (Exit counter shift table) + sum_by (clears_it counter) others =
      ap (λ o. clears_on found o counter) there ∙ (ap (sum_by (clears_it counter)) is ∙ sum_by-cons (clears_it counter) (Exit counter shift table) others) in
      let one : clears_it counter (Exit counter shift table) ≡ 1 = cond-true (counter == counter) 1 0 (eq-eqb counter counter refl) in
      let o = s.owners.used counter (record { edge = e; low = lt; uses = omega (arith, cleared, one) }) in
      let left = o.2.clears e lt in
      (o.0, o.1, o.2.low, is_true (leaves l o.0 (g.source e) (g.target e)) (omega (arith, cleared, one, left)))
    where
      is_true : (b : Bool) → 0 < one_where b → b ≡ true
      is_true true h = refl
      is_true false h = absurd (omega (arith, h))

  abbrev told_by : ℕ → List ForeignFragment → EdgeNumbers
  told_by e fs = told_on g l w n least e (tail_cycles (costs_of power) (all_with_rows foreign l owner fs))

  -- the words of an edge
  safe_words : (e : ℕ) (edge : Edge) → e < g.edges → slice_get code.edges e ≡ Some edge → (to : ℕ) → g.target e ≡ Some to
      → AreWordsBy power meets foreign l owner n (told_by e (found edge.at edge.kind)) (found edge.at edge.kind)
  safe_words e edge lt there to leads = subst (AreOnBy power meets foreign g l owner w n least found e) there (s.levels e lt) to leads

  -- ---- a patched instruction

  reached_by : (v : ℕ) (p : IsPatch original foreign code v) → (f : ℕ) × Reached (kind_at t) t.entry f v
  reached_by v p = (prog.reached.lists.nodes v).0 p.node

  safe_edge : (v : ℕ) (p : IsPatch original foreign code v) (at to : ℕ) (x : Edge) → x.at ≡ v → Within x (edges_of (kind_at t v) v (call_returns code (kind_at t v))) → place_after x.kind x.to ≡ Some x.to → IsRunOut foreign at to (found v x.kind)
      → to < 2 ^ 32 → to % 4 ≡ 0 → IsSafeEdge (length power.levels) limits (way to (all_with_rows foreign l owner (found v x.kind)))
  safe_edge v p at to x here within leads r small even =
      let reached = reached_by v p in
      let e = word_edge (kind_at t) t.entry code prog.reached.lists reached.0 v x reached.1 within in
      let target : g.target e.0 ≡ Some x.to = ap edge_to e.2 ∙ leads in
      let safe = safe_words e.0 x e.1 e.2 x.to target in
      let fs_is : found x.at x.kind ≡ found v x.kind = ap (λ a. found a x.kind) here in
      let fs = found v x.kind in
      let own : (counter shift table : ℕ) (others : List ForeignFragment) → fs ≡ Exit counter shift table ∷ others → (k : ℕ) × (owner counter ≡ Some k) = λ counter shift table others is. (let o = own_of e.0 x e.1 e.2 counter shift table others (fs_is ∙ is) in (o.0, o.1)) in
      let words = subst (λ xs. AreWordsBy power meets foreign l owner n (told_by e.0 xs) xs) fs_is safe in
      let many = r.few in
      let same = few power meets foreign l owner n bytes fs in
      record {
        few = omega (arith, many, same);
        safe = safe_all power meets foreign l owner n bytes (told_by e.0 fs) fs r.foreign r.first own words;
        ordered = ordered power meets foreign l owner n bytes fs r.first;
        small = small;
        even = even;
      }

  edges_by : (v : ℕ) (p : IsPatch original foreign code v) (stub : ℕ) (i : Instr) → CanBePatched i → kind_at t v ≡ instr_kind t v i → IsStub foreign v stub i (found v) → AreSafeEdges (length power.levels) limits (place_by foreign l owner v (found v) (Some i))
  edges_by v p stub (instr.Branch op rs1 rs2 offset) can kind f =
      let reached = reached_by v p in
      let r = call_returns code (kind_at t v) in
      let to = moved_by v offset in
      let all = λ (x : Edge) (h : Within x (edges_of (flow.Branch to) v r)). subst (λ k. Within x (edges_of k v r)) (sym kind) h in
      let leads = λ (u : ℕ) (h : LeadsTo (flow.Branch to) v u). targets_are_words t code l extent prog reached.0 v u reached.1 (subst (λ k. LeadsTo k v u) (sym kind) h) in
      let next = leads (v + 4) (inr refl) in
      let there = leads to (inl refl) in
      let even_next = next.0 in (
        safe_edge v p (stub + 4) (plus v 4) (record { at = v; kind = Untaken; to = v + 4 }) refl (all (record { at = v; kind = Untaken; to = v + 4 }) (inr (inl refl))) refl f.passed (omega arith) (omega (arith, even_next)),
        safe_edge v p (moved_by stub f.offset) to (record { at = v; kind = Taken; to = to }) refl (all (record { at = v; kind = Taken; to = to }) (inl refl)) refl f.taken (omega arith) there.0,
      )
  edges_by v p stub (instr.Jal rd offset) can kind f =
      let reached = reached_by v p in
      let r = call_returns code (kind_at t v) in
      let to = moved_by v offset in
      let goto : kind_at t v ≡ flow.Jump to = kind ∙ ap (λ d. instr_kind t v (instr.Jal d offset)) can in
      let within = subst (λ k. Within (record { at = v; kind = Jump; to = to }) (edges_of k v r)) (sym goto) (inl refl) in
      let there = targets_are_words t code l extent prog reached.0 v to reached.1 (subst (λ k. LeadsTo k v to) (sym goto) refl) in
      safe_edge v p stub to (record { at = v; kind = Jump; to = to }) refl within refl f (omega arith) there.0
  edges_by v p stub (instr.Lui rd imm) can kind f = absurd can
  edges_by v p stub (instr.Auipc rd imm) can kind f = absurd can
  edges_by v p stub (instr.Jalr rd rs1 offset) can kind f = absurd can
  edges_by v p stub (instr.Load op rd rs1 offset) can kind f = absurd can
  edges_by v p stub (instr.Store op rs1 rs2 offset) can kind f = absurd can
  edges_by v p stub (instr.Imm op rd rs1 imm) can kind f = absurd can
  edges_by v p stub (instr.Reg op rd rs1 rs2) can kind f = absurd can
  edges_by v p stub (instr.Fence rd rs1 imm) can kind f = absurd can
  edges_by v p stub instr.Ecall can kind f = absurd can
  edges_by v p stub instr.Ebreak can kind f = absurd can

  pub edges : (v : ℕ) → IsChanged original foreign v → AreSafeEdges (length power.levels) limits (place_by foreign l owner v (found v) (instr_at t v))
  edges v c =
      let p = s.scanned.patches v c in
      let reached = reached_by v p in
      subst (λ o. AreSafeEdges (length power.levels) limits (place_by foreign l owner v (found v) o)) (sym p.old)
      (edges_by v p (moved_by v p.offset) p.old_instr p.can_be (kind_of v reached.0 reached.1 p) ((s.scanned.stubs v c).0 p))

  -- ---- tables

  -- an edge of a patched instruction leads to a node of its function
  local_by : (e : ℕ) (edge : Edge) (i : Instr) (r : Bool) → CanBePatched i → kind_at t edge.at ≡ instr_kind t edge.at i → Within edge (edges_of (instr_kind t edge.at i) edge.at r) → (callee_of code.functions (kind_at t edge.at) ≡ None) × ((to : ℕ) × (place_after edge.kind edge.to ≡ Some to))
  local_by e edge (instr.Branch op rs1 rs2 offset) r can kind within = (
    ap (callee_of code.functions) kind,
    ⊎_elim (λ a. (moved_by edge.at offset, sym (ap (λ (x : Edge). place_after x.kind x.to) a)))
        (λ b. ⊎_elim (λ a. (edge.at + 4, sym (ap (λ (x : Edge). place_after x.kind x.to) a))) (λ no. absurd no) b) within,
  )
  local_by e edge (instr.Jal rd offset) r can kind within =
      let goto : kind_at t edge.at ≡ flow.Jump (moved_by edge.at offset) = kind ∙ ap (λ d. instr_kind t edge.at (instr.Jal d offset)) can in
      let jumps = subst (λ d. Within edge (edges_of (instr_kind t edge.at (instr.Jal d offset)) edge.at r)) can within in (
        ap (callee_of code.functions) goto,
        ⊎_elim (λ a. (moved_by edge.at offset, sym (ap (λ (x : Edge). place_after x.kind x.to) a))) (λ no. absurd no) jumps,
      )
  local_by e edge (instr.Lui rd imm) r can kind within = absurd can
  local_by e edge (instr.Auipc rd imm) r can kind within = absurd can
  local_by e edge (instr.Jalr rd rs1 offset) r can kind within = absurd can
  local_by e edge (instr.Load op rd rs1 offset) r can kind within = absurd can
  local_by e edge (instr.Store op rs1 rs2 offset) r can kind within = absurd can
  local_by e edge (instr.Imm op rd rs1 imm) r can kind within = absurd can
  local_by e edge (instr.Reg op rd rs1 rs2) r can kind within = absurd can
  local_by e edge (instr.Fence rd rs1 imm) r can kind within = absurd can
  local_by e edge instr.Ecall r can kind within = absurd can
  local_by e edge instr.Ebreak r can kind within = absurd can

  table_on : (e : ℕ) (edge : Edge) → e < g.edges → slice_get code.edges e ≡ Some edge → IsEdgeTabledBy power meets g l w n least (is_owner owner) e (all_with_rows foreign l owner (found edge.at edge.kind))
  table_on e edge lt there = by_change (is_changed original foreign edge.at) refl
    where
      source : (v : ℕ) × ((f : ℕ) × Reached (kind_at t) t.entry f v) × Within edge (edges_of (kind_at t v) v (call_returns code (kind_at t v))) × (edge.at ≡ v)
      source = edge_of_word (kind_at t) t.entry code prog.reached.lists e edge there

      by_change : (b : Bool) → is_changed original foreign edge.at ≡ b → IsEdgeTabledBy power meets g l w n least (is_owner owner) e (all_with_rows foreign l owner (found edge.at edge.kind))
      by_change false off =
          subst (λ fs. IsEdgeTabledBy power meets g l w n least (is_owner owner) e (all_with_rows foreign l owner fs))
          (sym (s.scanned.found_are.plain edge.at edge.kind (λ c. both_ways (is_changed original foreign edge.at) off c.1))) tt
      by_change true on =
          let word : is_word_address original edge.at ≡ true = ap (is_word_address original) source.3 ∙ reached_word original foreign code l owner found prog.reached s.scanned source.1.0 source.0 source.1.1 in
          let p = s.scanned.patches edge.at (word, on) in
          let reached = subst (λ v. Reached (kind_at t) t.entry source.1.0 v) (sym source.3) source.1.1 in
          let kind = kind_of edge.at source.1.0 reached p in
          let r = call_returns code (kind_at t edge.at) in
          let within = subst (λ v. Within edge (edges_of (kind_at t v) v (call_returns code (kind_at t v)))) (sym source.3) source.2 in
          let local = local_by e edge p.old_instr r p.can_be kind (subst (λ k. Within edge (edges_of k edge.at r)) kind within) in
          let target : g.target e ≡ Some local.1.0 = ◌∙◌ {c = Some local.1.0} (ap edge_to there) local.1.1 in
          let inside : g.callee e ≡ None = callee_word (kind_at t) code.functions code.edges e lt ∙ (ap (λ o. callee_of code.functions (kind_at t (edge_at o))) there ∙ local.0) in
          tabled power meets foreign l owner n bytes g w least e local.1.0 inside target (found edge.at edge.kind) (own_of e edge lt there) (safe_words e edge lt there local.1.0 target)

  pub all_tabled : AreTabledBy power meets t code l sites (is_owner owner) n least
  all_tabled = λ e class lt is_class.
      let x = on_edge original foreign code l extent owner found prog s.scanned s.owners e class lt is_class in
      subst (IsEdgeTabledBy power meets g l w n least (is_owner owner) e) (sym x.2) (table_on e x.0 lt x.1)

small_limits : (l : Loops) (o : Option ℕ) → ((k : ℕ) → o ≡ Some k → k < l.loops) → ((k : ℕ) → k < l.loops → l.bound k ≤ 2 ^ 31) → owner_bound l o ≤ 2 ^ 31
small_limits l None low h = omega arith
small_limits l (Some k) low h = h k (low k refl)

scanned_safe : (power : PowerModel) (original foreign : Image) (code : Code) (l : Loops) (extent : ℕ → ℕ → Bool) (found : Found) (owner : Owner) (n : Numbers) (least : Charged) (more : Numbers)
    → IsSafeImage power original foreign code l extent found owner n least more → AreScannedBy power original foreign code l found owner n least (meets_both power)
scanned_safe power original foreign code l extent found owner n least more s = record { scanned = s.scanned; owners = s.owners; levels = s.levels }

scanned_paced : (power : PowerModel) (budget : ℕ → ℕ) (original foreign : Image) (code : Code) (l : Loops) (extent : ℕ → ℕ → Bool) (found : Found) (owner : Owner) (n : Numbers) (least : Charged) (more : Numbers)
    → IsPacedImage power budget original foreign code l extent found owner n least more → AreScannedBy power original foreign code l found owner n least (meets_in_budget power budget)
scanned_paced power budget original foreign code l extent found owner n least more s = record { scanned = s.scanned; owners = s.owners; levels = s.levels }

pub safe_tuned : SafeImagesAreTuned
safe_tuned = λ power ok original_file file original foreign original_is foreign_is bytes no_key code l extent prog bounds found owner n least more s.
    let by = scanned_safe power original foreign code l extent found owner n least more s in
    record {
      power_is = ok;
      patched_is = patched original_file file original foreign original_is foreign_is bytes no_key code l owner found prog.reached s.scanned (rows original foreign code l extent owner found prog s.scanned s.owners) (length power.levels) (λ c. owner_bound l (owner c))
          (edges power original foreign code l extent found owner n least (meets_both power) bytes prog by) s.start ok.few (λ c. small_limits l (owner c) (λ k own. (counter_for original foreign code l extent owner found prog s.scanned s.owners c k own).low) bounds);
      program = prog;
      counters = counters original foreign code l extent owner found prog s.scanned s.owners;
      counted = counted original foreign code l extent owner found prog s.scanned s.owners;
      analyzed = s.analyzed;
      least_is = s.least_is;
      added = s.added;
      tables = tables_of_keep_time power (text_of original) code l (sites_of original foreign code l owner found) (is_owner owner) n least (all_tabled power original foreign code l extent found owner n least (meets_both power) bytes prog by);
      worst = s.in_time;
    }

pub safe_runs : SafeImagesKeepRuns
safe_runs = λ power ok original_file file original foreign original_is foreign_is bytes no_key code l extent prog bounds found owner n least more s input steps c kept.
    tuned_safe power original foreign (λ k. owner_bound l (owner k)) (sites_of original foreign code l owner found) (starting_level (length power.levels) foreign.keyed_segment) code l extent (is_owner owner) n least more
    (safe_tuned power ok original_file file original foreign original_is foreign_is bytes no_key code l extent prog bounds found owner n least more s) input steps c kept

pub paced_budgeted : PacedImagesAreBudgeted
paced_budgeted = λ power ok budget original_file file original foreign original_is foreign_is bytes no_key code l extent prog bounds found owner n least more s.
    let by = scanned_paced power budget original foreign code l extent found owner n least more s in
    record {
      power_is = ok;
      patched_is = patched original_file file original foreign original_is foreign_is bytes no_key code l owner found prog.reached s.scanned (rows original foreign code l extent owner found prog s.scanned s.owners) (length power.levels) (λ c. owner_bound l (owner c))
          (edges power original foreign code l extent found owner n least (meets_in_budget power budget) bytes prog by) s.start ok.few (λ c. small_limits l (owner c) (λ k own. (counter_for original foreign code l extent owner found prog s.scanned s.owners c k own).low) bounds);
      program = prog;
      counters = counters original foreign code l extent owner found prog s.scanned s.owners;
      counted = counted original foreign code l extent owner found prog s.scanned s.owners;
      analyzed = s.analyzed;
      least_is = s.least_is;
      added = s.added;
      tables = tables_keep_budgets power budget (text_of original) code l (sites_of original foreign code l owner found) (is_owner owner) n least (all_tabled power original foreign code l extent found owner n least (meets_in_budget power budget) bytes prog by);
      budgets = s.budgets;
    }

pub paced_runs : PacedImagesKeepRuns
paced_runs = λ power ok budget original_file file original foreign original_is foreign_is bytes no_key code l extent prog bounds found owner n least more s input steps c kept.
    budgeted_safe power budget original foreign (λ k. owner_bound l (owner k)) (sites_of original foreign code l owner found) (starting_level (length power.levels) foreign.keyed_segment) code l extent (is_owner owner) n least more
    (paced_budgeted power ok budget original_file file original foreign original_is foreign_is bytes no_key code l extent prog bounds found owner n least more s) input steps c kept
