-- The marked instructions of a program are safe: their tables hold levels, they have a row for each count, and their ways lead to words of the text.
use Rattle.std.proofs.Common.{◌≡◌, ◌≢◌, ℕ, ℤ, zero, suc, ◌+◌, ◌%◌, ◌^◌, ◌<◌, ◌≤◌, inl, inr, true, false, cond, List, [], ◌∷◌, length, slice_get, Option, Some, None, refl, sym, ap, ◌∙◌, subst, arith, eqb-true, eq-eqb, ne_eqb}
use Rattle.std.specs.Prelude.{All, ◌==◌, slice_index, option_and_then, IfSome}
use Rattle.std.proofs.lemmas.Bool.{cond_both, and_parts}
use Rattle.std.proofs.lemmas.List.{length-map}
use Rattle.std.proofs.lemmas.List.Elements.{All-map}
use Rattle.std.proofs.lemmas.Option.{get_or_from_slice_get}
use Rattle.scale_base.specs.declared.fragments.Fragment.{Fragment}
use Rattle.scale_base.specs.declared.instruction.Instr.{Instr}
use Rattle.scale_base.specs.declared.instruction.Instr.TheVariants as instr
use Rattle.scale_base.specs.declared.instruction.BranchOp.{BranchOp}
use Rattle.scale_base.specs.declared.stepping.Class.{Class}
use Rattle.scale_base.specs.declared.stepping.Class.TheVariants as classes
use Rattle.scale_base.specs.Arith.{moved_by}
use Rattle.scale_base.specs.Image.{Image, is_word_address}
use Rattle.scale_base.specs.Reading.{instr_of, row_of, opcode_of, funct3_of, funct7_of, branch_of, branch_op_of, load_of, load_op_of, store_of, store_op_of, immediate_of, imm_op_of, register_of, reg_op_of}
use Rattle.power_model.specs.Numbers.{PowerModel, IsPowerModel}
use Rattle.scale_base.specs.declared.edges.Edge.{Edge}
use Rattle.scale_base.specs.declared.edges.EdgeKind.TheVariants.{Taken, Untaken, Jump}
use Rattle.cost_theory.specs.Graph.{Graph, Loops}
use Rattle.cycle_laws.specs.Charged.{Charged}
use Rattle.cost_theory.specs.Worst.{Numbers}
use Rattle.cost_theory.specs.Reached.{Code, Reached, LeadsTo, edges_of, call_returns, edge_at}
use Rattle.cost_theory.proofs.Laws.{source_reached, Within, word_edge}
use Rattle.code_text.specs.EdgeCosts.{edge_class}
use Rattle.code_text.specs.TextGraph.{text_graph}
use Rattle.code_text.specs.Text.{Text, text_of, instr_at, instr_kind, kind_at}
use Rattle.flow_graph.specs.FlowGraph.{FlowGraph}
use Rattle.loop_file.specs.declared.notes.LoopNote.{LoopNote}
use Rattle.loop_file.specs.Kept.{noted_loops}
use Rattle.loop_forest.specs.Tree.{LoopView, loops}
use Rattle.scale_base.specs.declared.fragments.Mark.{Mark}
use Rattle.scale_base.specs.declared.fragments.Mark.TheVariants as marks
use Rattle.scale_sites.specs.Counters.{counted_loops}
use Rattle.scale_sites.specs.Sites.{is_branch}
use Rattle.stub_writer.specs.Fragments.{IsShadow}
use Rattle.stub_writer.specs.Stubs.{Site, Way, Place, Forked, Straight}
use Rattle.stored_runs.specs.Marks.{place_at, fragments_of_class}
use Rattle.stored_runs.specs.Stubbed.{IsSafe, IsSafeWay, IsOfImage, AreSafeWays, IsSafeSite, AreOrdered, AreAscending}
use Rattle.paid_runs.proofs.Laws.{targets_are_words}
use Rattle.rewritten_runs.specs.Stubs.{Rule, IsWeighedBy, AreSitesOf, marks_by, told_at, fragment_by, fragments_with, loop_of}
use Rattle.rewritten_runs.proofs.Edges.{edge_is}
use Rattle.rewritten_runs.proofs.Marked.{IsMarkOf, program_is, graph_program, marks_of_edge, shadow_of, counted_is}
use Rattle.rewritten_runs.proofs.MarkOrder.{marks_ordered, in_get, set_distinct}
use Rattle.rewritten_runs.proofs.TableLaws.{word_is_table, shift_fits, tally_fits, rows_by_count, rows_are_tables}

-- ---- the registers of a branch

abbrev BranchFits : Instr → Type 0
BranchFits (instr.Branch op rs1 rs2 offset) = (rs1 < 32) × (rs2 < 32)
BranchFits i = Unit {0}

any_op : {A : Type 0} (o : Option A) (f : A → Option Instr) → ((op : A) → IfSome (f op) BranchFits) → IfSome (option_and_then f o) BranchFits
any_op None f each = tt
any_op (Some op) f each = each op

row_fits : (w opcode : ℕ) → IfSome (row_of opcode w) BranchFits
row_fits w opcode =
    let P : Option Instr → Type 0 = λ o. IfSome o BranchFits in
    cond_both (opcode == 0x37) _ _ P (λ e. tt)
    (λ _. cond_both (opcode == 0x17) _ _ P (λ e. tt)
    (λ _. cond_both (opcode == 0x6F) _ _ P (λ e. tt)
    (λ _. cond_both (opcode == 0x67) _ _ P (λ e. cond_both (funct3_of w == 0) _ _ P (λ q. tt) (λ q. tt))
    (λ _. cond_both (opcode == 0x63) _ _ P (λ e. any_op (branch_op_of (funct3_of w)) (branch_of w) (λ op. (omega arith, omega arith)))
    (λ _. cond_both (opcode == 0x03) _ _ P (λ e. any_op (load_op_of (funct3_of w)) (load_of w) (λ op. tt))
    (λ _. cond_both (opcode == 0x23) _ _ P (λ e. any_op (store_op_of (funct3_of w)) (store_of w) (λ op. tt))
    (λ _. cond_both (opcode == 0x13) _ _ P (λ e. any_op (imm_op_of (funct7_of w) (funct3_of w)) (immediate_of w) (λ op. tt))
    (λ _. cond_both (opcode == 0x33) _ _ P (λ e. any_op (reg_op_of (funct7_of w) (funct3_of w)) (register_of w) (λ op. tt))
    (λ _. cond_both (opcode == 0x0F) _ _ P (λ e. cond_both (funct3_of w == 0) _ _ P (λ q. tt) (λ q. tt))
    (λ _. cond_both (opcode == 0x73) _ _ P (λ e. cond_both (w == 0x73) _ _ P (λ q. tt) (λ q. cond_both (w == 0x00100073) _ _ P (λ r. tt) (λ r. tt)))
    (λ _. tt)))))))))))

pub branch_fits : (w : ℕ) (op : BranchOp) (rs1 rs2 : ℕ) (offset : ℤ) → instr_of w ≡ Some (instr.Branch op rs1 rs2 offset) → (rs1 < 32) × (rs2 < 32)
unfolding instr_of
branch_fits w op rs1 rs2 offset e = subst (λ o. IfSome o BranchFits) e (row_fits w (opcode_of w))

-- ---- ascending sites

pub place_of_site : (sites : List Site) → AreAscending sites → (k : ℕ) (d : Site) → k < length sites → place_at sites (Rattle.std.specs.Prelude.slice_index_or sites k d).at ≡ Some (Rattle.std.specs.Prelude.slice_index_or sites k d).place
place_of_site [] up k d lt = let bad : ⊥ = omega arith in absurd bad
place_of_site (s ∷ sites) up zero d lt = ap (λ b. cond b (Some s.place) (place_at sites s.at)) (eq-eqb s.at s.at refl)
place_of_site (s ∷ sites) up (suc k) d lt =
    let site = Rattle.std.specs.Prelude.slice_index_or sites k d in
    let later = up.0 k d (omega arith) in
    let off : (s.at == site.at) ≡ false = ne_eqb s.at site.at (λ e. omega (arith, later, e)) in
    ap (λ b. cond b (Some s.place) (place_at sites site.at)) off ∙ place_of_site sites up.1 k d (omega arith)

module _ {rule : Rule} (power : PowerModel) (ok : IsPowerModel power) (image : Image) (notes : List LoopNote) (v : FlowGraph) (tree : LoopView) (plain stored : Numbers) (weighed : IsWeighedBy power image notes v tree rule plain stored)
    (least : Charged) (sites : List Site) (are : AreSitesOf image v.code (fragments_with power rule.test image v tree (marks_by v tree rule) stored least) sites)
    (few_marks : (e : ℕ) → e < length v.code.edges → length (marks_by v tree rule e) ≤ 17) where
  abbrev t : Text
  t = text_of image

  abbrev code : Code
  code = v.code

  abbrev l : Loops
  l = loops v tree

  abbrev g : Graph
  g = text_graph (text_of image) v.code

  abbrev counted : List ℕ
  counted = counted_loops tree

  abbrev marked : ℕ → List Mark
  marked = marks_by v tree rule

  abbrev frags : ℕ → List Fragment
  frags = fragments_with power rule.test image v tree marked stored least

  abbrev levels : ℕ
  levels = length power.levels

  abbrev limits : ℕ → ℕ
  limits w = l.bound (loop_of counted w)

  prog : Rattle.graph_runs.specs.Laws.IsProgramOf t code l (noted_loops notes).inside
  prog = program_is power image notes v tree plain stored weighed

  pub bound_small : (k : ℕ) → l.bound k ≤ 1000000000
  bound_small k = by (slice_get tree.bounds k) refl
    where
      by : (o : Option ℕ) → slice_get tree.bounds k ≡ o → l.bound k ≤ 1000000000
      by None e = let z : slice_index tree.bounds k ≡ 0 = none_index tree.bounds k e in omega (arith, z)
        where
          none_index : (xs : List ℕ) (i : ℕ) → slice_get xs i ≡ None → slice_index xs i ≡ 0
          none_index [] i q = refl
          none_index (x ∷ xs) zero q = let never : ⊥ = cc in absurd never
          none_index (x ∷ xs) (suc i) q = none_index xs i q
      by (Some n) e = let z = get_or_from_slice_get tree.bounds k n 0 e in let small = weighed.tree_is.tree.bound k n e in omega (arith, z, small)

  -- ---- the fragments of an edge

  safe_mark : (e : ℕ) (m : Mark) → IsMarkOf l counted (is_branch v e) (g.source e) (g.target e) m → IsSafe levels limits (fragment_by power rule.test l counted stored (told_at power image v tree marked stored least e) m)
  safe_mark e marks.Switch is = word_is_table power rule.test (told_at power image v tree marked stored least e) ok.few
  safe_mark e (marks.Exit c) is =
      let k = loop_of counted c in
      let small = bound_small k in
      let fits = shift_fits (l.bound k) (omega (arith, small)) in
      let rows = rows_by_count power rule.test (l.bound k) (stored.iteration k) (told_at power image v tree marked stored least e) in (
        subst IsShadow (sym is.is) (shadow_of power image notes v tree plain stored weighed is.place is.loop is.get),
        fits.0,
        omega (arith, rows, fits.1),
        omega (arith, rows),
        rows_are_tables power rule.test (l.bound k) (stored.iteration k) (told_at power image v tree marked stored least e) ok.few,
      )
  safe_mark e (marks.Reset c) is = subst IsShadow (sym is.is) (shadow_of power image notes v tree plain stored weighed is.place is.loop is.get)
  safe_mark e (marks.Count c) is = subst IsShadow (sym is.is) (shadow_of power image notes v tree plain stored weighed is.place is.loop is.get)
  safe_mark e marks.Lowest is = tt
  safe_mark e (marks.Tally c) is =
      let k = loop_of counted c in
      let small = bound_small k in
      let fits = tally_fits power rule.test (l.bound k) (stored.iteration k) (told_at power image v tree marked stored least e) (omega (arith, small)) in (
        subst IsShadow (sym is.is) (shadow_of power image notes v tree plain stored weighed is.place is.loop is.get),
        fits.0,
        fits.2,
        fits.3,
        omega (arith, small),
      )

  safe_fragments : (e : ℕ) → All (IsSafe levels limits) (frags e)
  safe_fragments e = All-map (IsSafe levels limits) (fragment_by power rule.test l counted stored (told_at power image v tree marked stored least e)) (marked e)
      (λ k d lt. safe_mark e _ (marks_of_edge power image notes v tree plain stored weighed e k d lt))

  few_fragments : (e : ℕ) → e < length code.edges → length (frags e) ≤ 17
  few_fragments e lt =
      let same = length-map (marked e) (fragment_by power rule.test l counted stored (told_at power image v tree marked stored least e)) in
      let few = few_marks e lt in omega (arith, same, few)

  ordered_fragments : (e : ℕ) → e < length code.edges → AreOrdered (frags e)
  ordered_fragments e lt =
      marks_ordered power rule.test g l (noted_loops notes).inside counted stored (told_at power image v tree marked stored least e) (graph_program power image notes v tree plain stored weighed) prog.loops
      (λ k h. let at = in_get k counted h in (counted_is power image notes v tree plain stored weighed at.0 k at.1).loop) (set_distinct 0 tree.counted) e (is_branch v e) _ rule.least_gain lt

  -- ---- ways

  safe_way : (e : ℕ) (w : Way) → e < length code.edges → w.fragments ≡ frags e → w.to < 2 ^ 32 → w.to % 4 ≡ 0 → IsSafeWay levels limits w
  safe_way e w lt same small even = record {
    few = (let n = ap length same in let few = few_fragments e lt in omega (arith, n, few));
    safe = subst (All (IsSafe levels limits)) (sym same) (safe_fragments e);
    ordered = subst AreOrdered (sym same) (ordered_fragments e lt);
    small = small;
    even = even;
  }

  -- the edge of a reached instruction
  edge_of : (f u : ℕ) (x : Edge) → Reached (kind_at t) t.entry f u → Within x (edges_of (kind_at t u) u (call_returns code (kind_at t u))) → (e : ℕ) × (e < length code.edges) × (slice_get code.edges e ≡ Some x)
  edge_of f u x reached within = word_edge (kind_at t) t.entry code prog.reached.lists f u x reached within

  record IsWordAt (u : ℕ) (i : Instr) : Type 0 where
    function : ℕ
    reached : Reached (kind_at t) t.entry function u
    kind : kind_at t u ≡ instr_kind t u i

  word_of_mark : (u : ℕ) (i : Instr) → instr_at t u ≡ Some i → ((e : ℕ) × (e < length code.edges) × (edge_at (slice_get code.edges e) ≡ u) × (frags e ≢ [])) → IsWordAt u i
  word_of_mark u i at h =
      let r = source_reached (kind_at t) t.entry code prog.reached.lists prog.reached.words h.0 h.1 in
      let x = edge_is t code prog.reached h.0 h.1 in
      let same : x.instr ≡ i = (let a = x.at in let b = ap (instr_at t) h.2 ∙ at in cc) in
      record {
        function = r.0;
        reached = subst (Reached (kind_at t) t.entry r.0) h.2 r.1;
        kind = ap (kind_at t) (sym h.2) ∙ (x.kind ∙ (ap (λ q. instr_kind t q x.instr) h.2 ∙ ap (instr_kind t u) same));
      }

  frags_at : (u : ℕ) (x : Edge) (class : Class) (e : ℕ) → e < length code.edges → slice_get code.edges e ≡ Some x → x.at ≡ u → edge_class t (Some x) ≡ Some class → fragments_of_class (place_at sites u) class ≡ frags e
  frags_at u x class e lt get at is = ap (λ a. fragments_of_class (place_at sites a) class) (sym (ap edge_at get ∙ at)) ∙ are.ways e class lt (ap (edge_class t) get ∙ is)

  target_even : (u to f : ℕ) → Reached (kind_at t) t.entry f u → LeadsTo (kind_at t u) u to → to % 4 ≡ 0
  target_even u to f reached leads = (targets_are_words t code l (noted_loops notes).inside prog f u to reached leads).0

  safe_ways : (u : ℕ) (p : Place) → is_word_address image u ≡ true → IsOfImage image u p → ((e : ℕ) × (e < length code.edges) × (edge_at (slice_get code.edges e) ≡ u) × (frags e ≢ [])) → place_at sites u ≡ Some p → AreSafeWays levels limits p
  safe_ways u (Forked op rs1 rs2 untaken taken) word of some place =
      let offset = of.0 in
      let w = word_of_mark u (instr.Branch op rs1 rs2 offset) of.1 some in
      let fits = branch_fits _ op rs1 rs2 offset of.1 in
      let to = moved_by u offset in
      let x : Edge = record { at = u; kind = Taken; to = moved_by u offset } in
      let y : Edge = record { at = u; kind = Untaken; to = u + 4 } in
      let e = edge_of w.function u x w.reached (subst (λ q. Within x (edges_of q u (call_returns code (kind_at t u)))) (sym w.kind) (inl refl)) in
      let d = edge_of w.function u y w.reached (subst (λ q. Within y (edges_of q u (call_returns code (kind_at t u)))) (sym w.kind) (inr (inl refl))) in
      let class_x : edge_class t (Some x) ≡ Some classes.Taken = ap (λ o. Rattle.code_text.specs.EdgeCosts.class_by o Taken) of.1 in
      let class_y : edge_class t (Some y) ≡ Some classes.Untaken = ap (λ o. Rattle.code_text.specs.EdgeCosts.class_by o Untaken) of.1 in
      let one : taken.fragments ≡ frags e.0 = sym (ap (λ o. fragments_of_class o classes.Taken) place) ∙ frags_at u x classes.Taken e.0 e.1 e.2 refl class_x in
      let two : untaken.fragments ≡ frags d.0 = sym (ap (λ o. fragments_of_class o classes.Untaken) place) ∙ frags_at u y classes.Untaken d.0 d.1 d.2 refl class_y in
      let aligned = eqb-true (u % 4) 0 (and_parts (u % 4 == 0) _ word).0 in
      let even = target_even u to w.function w.reached (subst (λ q. LeadsTo q u to) (sym w.kind) (inl refl)) in
      let un = of.2 in
      let ta = of.3 in
      (fits.0, fits.1, safe_way d.0 untaken d.1 two (omega (arith, un)) (omega (arith, un, aligned)), safe_way e.0 taken e.1 one (omega (arith, ta)) (omega (arith, ta, even)))
  safe_ways u (Straight way) word of some place =
      let offset = of.0 in
      let w = word_of_mark u (instr.Jal 0 offset) of.1 some in
      let to = moved_by u offset in
      let x : Edge = record { at = u; kind = Jump; to = moved_by u offset } in
      let e = edge_of w.function u x w.reached (subst (λ q. Within x (edges_of q u (call_returns code (kind_at t u)))) (sym w.kind) (inl refl)) in
      let class_x : edge_class t (Some x) ≡ Some classes.Jump = ap (λ o. Rattle.code_text.specs.EdgeCosts.class_by o Jump) of.1 in
      let one : way.fragments ≡ frags e.0 = sym (ap (λ o. fragments_of_class o classes.Jump) place) ∙ frags_at u x classes.Jump e.0 e.1 e.2 refl class_x in
      let even = target_even u to w.function w.reached (subst (λ q. LeadsTo q u to) (sym w.kind) refl) in
      let ta = of.2 in
      safe_way e.0 way e.1 one (omega (arith, ta)) (omega (arith, ta, even))

  pub safe_sites : All (IsSafeSite image levels limits) sites
  safe_sites = λ k d lt.
      let site = Rattle.std.specs.Prelude.slice_index_or sites k d in
      let w = are.words k d lt in
      let some = are.some k d lt in
      record { word = w.0; place = w.1; ways = safe_ways site.at site.place w.0 w.1 some (place_of_site sites are.ascending k d lt) }
