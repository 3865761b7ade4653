-- What a scan says of the fragments on the edges, by their numbers.
use Rattle.std.proofs.Common.{◌≡◌, ℕ, ◌<◌, ◌≤◌, ⊎_elim, Bool, true, false, List, [], length, All, refl, sym, ap, ◌∙◌, subst, slice_get, arith, Some, None}
use Rattle.std.proofs.lemmas.Bool.{both_ways}
use Rattle.std.proofs.lemmas.Option.{get_or_from_slice_get}
use Rattle.scale_base.specs.declared.instruction.Instr.{Instr}
use Rattle.scale_base.specs.declared.instruction.Instr.TheVariants as instr
use Rattle.scale_base.specs.Image.{Image, is_word_address}
use Rattle.scale_base.specs.declared.edges.Edge.{Edge}
use Rattle.scale_base.specs.declared.edges.EdgeKind.{EdgeKind}
use Rattle.cost_theory.specs.Reached.{Reached, edges_of, call_returns}
use Rattle.cost_theory.proofs.Laws.{Within, edge_of_word, some_get}
use Rattle.code_text.specs.Text.{Text, text_of, instr_at, instr_kind, kind_at}
use Rattle.code_text.proofs.Laws.{kind_facts}
use Rattle.flow_graph.specs.FlowGraph.{FlowGraph}
use Rattle.loop_forest.specs.Tree.{LoopView, loops}
use Rattle.foreign_scan.specs.declared.fragment.ForeignFragment.{ForeignFragment}
use Rattle.foreign_scan.specs.Form.{IsForeign, FirstChooses, IsRunOut, IsStub}
use Rattle.foreign_scan.specs.Scanned.{Found, is_changed, IsChanged, CanBePatched}
use Rattle.foreign_scan.specs.Shown.{ScannedSites}
use Rattle.image_check.specs.Known.{IsFoundIn}
use Rattle.image_check.specs.Uses.{on_edge}
use Rattle.image_check.proofs.OnEdges.{reached_word}

-- at most 64 fragments, of which the first alone may choose a level, and whose numbers fit
pub record AreFine (fs : List ForeignFragment) : Type 0 where
  pub few : length fs ≤ 64
  pub first : FirstChooses fs
  pub foreign : All IsForeign fs

none_fine : (fs : List ForeignFragment) → fs ≡ [] → AreFine fs
none_fine fs e = subst AreFine (sym e) (record { few = omega arith; first = tt; foreign = λ k d lt. absurd (let no : ⊥ = omega (arith, lt) in no) })

run_fine : (image : Image) (at to : ℕ) (fs : List ForeignFragment) → IsRunOut image at to fs → AreFine fs
run_fine image at to fs r = record { few = r.few; first = r.first; foreign = r.foreign }

module _ (original foreign : Image) (v : FlowGraph) (tree : LoopView) (found : Found) (s : ScannedSites) (is : IsFoundIn original foreign v tree found s) where
  abbrev t : Text
  t = text_of original

  pub on_edge_is : (e : ℕ) (edge : Edge) → slice_get v.code.edges e ≡ Some edge → on_edge s e ≡ found edge.at edge.kind
  on_edge_is e edge there = get_or_from_slice_get s.fragments e (found edge.at edge.kind) [] (is.shown.fragments e edge there)

  by_instr : (u stub : ℕ) (edge : Edge) (f : EdgeKind → List ForeignFragment) (i : Instr) → CanBePatched i → (r : Bool) → Within edge (edges_of (instr_kind t u i) u r) → IsStub foreign u stub i f → AreFine (f edge.kind)
  by_instr u stub edge f (instr.Branch op rs1 rs2 offset) can r within form = ⊎_elim
      (λ e. subst (λ k. AreFine (f k)) (ap (λ (x : Edge). x.kind) e) (run_fine foreign _ _ _ form.taken))
      (λ rest. ⊎_elim (λ e. subst (λ k. AreFine (f k)) (ap (λ (x : Edge). x.kind) e) (run_fine foreign _ _ _ form.passed)) (λ none. absurd none) rest) within
  by_instr u stub edge f (instr.Jal rd offset) can r within form = at_zero rd can within
    where
      at_zero : (rd : ℕ) → rd ≡ 0 → Within edge (edges_of (instr_kind t u (instr.Jal rd offset)) u r) → AreFine (f edge.kind)
      at_zero rd zero w = ⊎_elim (λ e. subst (λ k. AreFine (f k)) (ap (λ (x : Edge). x.kind) e) (run_fine foreign _ _ _ form)) (λ none. absurd none)
          (subst (λ d. Within edge (edges_of (instr_kind t u (instr.Jal d offset)) u r)) zero w)
  by_instr u stub edge f (instr.Lui rd imm) can r within form = absurd can
  by_instr u stub edge f (instr.Auipc rd imm) can r within form = absurd can
  by_instr u stub edge f (instr.Jalr rd rs1 offset) can r within form = absurd can
  by_instr u stub edge f (instr.Load op rd rs1 offset) can r within form = absurd can
  by_instr u stub edge f (instr.Store op rs1 rs2 offset) can r within form = absurd can
  by_instr u stub edge f (instr.Imm op rd rs1 imm) can r within form = absurd can
  by_instr u stub edge f (instr.Reg op rd rs1 rs2) can r within form = absurd can
  by_instr u stub edge f (instr.Fence rd rs1 imm) can r within form = absurd can
  by_instr u stub edge f instr.Ecall can r within form = absurd can
  by_instr u stub edge f instr.Ebreak can r within form = absurd can

  found_fine : (e : ℕ) (edge : Edge) → slice_get v.code.edges e ≡ Some edge → AreFine (found edge.at edge.kind)
  found_fine e edge there = by_change (is_changed original foreign edge.at) refl
    where
      source : (u : ℕ) × ((f : ℕ) × Reached (kind_at t) t.entry f u) × Within edge (edges_of (kind_at t u) u (call_returns v.code (kind_at t u))) × (edge.at ≡ u)
      source = edge_of_word (kind_at t) t.entry v.code is.code.reached.lists e edge there

      word : is_word_address original edge.at ≡ true
      word = ap (is_word_address original) source.3 ∙ reached_word original foreign v.code (loops v tree) (λ c. None) found is.code.reached is.scanned source.1.0 source.0 source.1.1

      by_change : (b : Bool) → is_changed original foreign edge.at ≡ b → AreFine (found edge.at edge.kind)
      by_change false off = none_fine (found edge.at edge.kind) (is.scanned.found_are.plain edge.at edge.kind (λ c. both_ways (is_changed original foreign edge.at) off c.1))
      by_change true on =
          let c : IsChanged original foreign edge.at = (word, on) in
          let p = is.scanned.patches edge.at c in
          let facts = kind_facts t source.0 (is.code.reached.words source.1.0 source.0 source.1.1) in
          let same : facts.2.0 ≡ p.old_instr = (let a = facts.2.1 in let b = ap (instr_at t) (sym source.3) ∙ p.old in cc) in
          let kind_is : kind_at t edge.at ≡ instr_kind t edge.at p.old_instr = ap (kind_at t) source.3 ∙ (facts.2.2 ∙ (ap (instr_kind t source.0) same ∙ ap (λ u. instr_kind t u p.old_instr) (sym source.3))) in
          let within : Within edge (edges_of (kind_at t edge.at) edge.at (call_returns v.code (kind_at t edge.at))) = subst (λ u. Within edge (edges_of (kind_at t u) u (call_returns v.code (kind_at t u)))) (sym source.3) source.2 in
          let there2 : Within edge (edges_of (instr_kind t edge.at p.old_instr) edge.at (call_returns v.code (kind_at t edge.at))) = subst (λ w. Within edge (edges_of w edge.at (call_returns v.code (kind_at t edge.at)))) kind_is within in
          by_instr edge.at _ edge (found edge.at) p.old_instr p.can_be (call_returns v.code (kind_at t edge.at)) there2 ((is.scanned.stubs edge.at c).0 p)

  pub fine_on : (e : ℕ) → e < length v.code.edges → AreFine (on_edge s e)
  fine_on e lt =
      let x : (x : Edge) × (slice_get v.code.edges e ≡ Some x) = some_get v.code.edges e lt in
      subst AreFine (sym (on_edge_is e x.0 x.1)) (found_fine e x.0 x.1)
