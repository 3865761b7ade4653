-- What is so of the fragments of each edge is so of those of each marked instruction.
use Rattle.std.proofs.Common.{◌≡◌, inl, inr, ℕ, ◌+◌, ◌<◌, Bool, List, length, refl, sym, ap, ◌∙◌, subst, slice_get, Some}
use Rattle.std.specs.Prelude.{All}
use Rattle.std.proofs.lemmas.Option.{slice_get_within}
use Rattle.scale_base.specs.declared.edges.Edge.{Edge}
use Rattle.scale_base.specs.declared.edges.EdgeKind.TheVariants.{Taken, Untaken, Jump}
use Rattle.scale_base.specs.declared.fragments.Fragment.{Fragment}
use Rattle.scale_base.specs.declared.instruction.Instr.{Instr}
use Rattle.scale_base.specs.declared.instruction.Instr.TheVariants as instr
use Rattle.scale_base.specs.declared.stepping.Class.{Class}
use Rattle.scale_base.specs.declared.stepping.Class.TheVariants as classes
use Rattle.scale_base.specs.Arith.{moved_by}
use Rattle.scale_base.specs.Image.{Image}
use Rattle.cost_theory.specs.Reached.{Reached, Code, edge_at, edges_of, call_returns}
use Rattle.cost_theory.proofs.Laws.{Within, word_edge, source_reached}
use Rattle.code_text.specs.Text.{Text, text_of, instr_at, instr_kind, kind_at}
use Rattle.code_text.specs.EdgeCosts.{class_by, edge_class}
use Rattle.code_text.specs.TextGraph.{IsReachedCode}
use Rattle.code_text.proofs.Laws.{kind_facts}
use Rattle.stub_writer.specs.Stubs.{Site, Place, Forked, Straight}
use Rattle.stored_runs.specs.Marks.{place_at, fragments_of_class}
use Rattle.stored_runs.specs.Stubbed.{IsOfImage}
use Rattle.rewritten_runs.specs.Stubs.{AreSitesOf}

-- the fragments of each way
abbrev pub AllOn : (Fragment → Type 0) → Place → Type 0
AllOn P (Forked op rs1 rs2 untaken taken) = All P untaken.fragments × All P taken.fragments
AllOn P (Straight w) = All P w.fragments

-- ---- the instruction at which an edge starts, and its edges

module _ (t : Text) (code : Code) (reached : IsReachedCode t code) (at : ℕ) where
  pub source_of : (edge : ℕ) → edge < length code.edges → edge_at (slice_get code.edges edge) ≡ at → (f : ℕ) × Reached (kind_at t) t.entry f at
  source_of edge low starts =
      let r = source_reached (kind_at t) t.entry code reached.lists reached.words edge low in
      (r.0, subst (λ v. Reached (kind_at t) t.entry r.0 v) starts r.1)

  pub kind_of : (f : ℕ) (i : Instr) → Reached (kind_at t) t.entry f at → instr_at t at ≡ Some i → kind_at t at ≡ instr_kind t at i
  kind_of f i r e =
      let facts = kind_facts t at (reached.words f at r) in
      let same : facts.2.0 ≡ i = (let a = facts.2.1 in cc) in
      facts.2.2 ∙ ap (instr_kind t at) same

  pub edge_of : (f : ℕ) (i : Instr) (x : Edge) → Reached (kind_at t) t.entry f at → instr_at t at ≡ Some i → ((r : Bool) → Within x (edges_of (instr_kind t at i) at r)) → (e : ℕ) × (slice_get code.edges e ≡ Some x)
  edge_of f i x r is within =
      let e = word_edge (kind_at t) t.entry code reached.lists f at x r
      (subst (λ k. Within x (edges_of k at (call_returns code (kind_at t at)))) (sym (kind_of f i r is)) (within (call_returns code (kind_at t at)))) in
      (e.0, e.2)

-- ---- its fragments

module _ (original : Image) (code : Code) (reached : IsReachedCode (text_of original) code) (frags : ℕ → List Fragment) (sites : List Site) (are : AreSitesOf original code frags sites)
    (P : Fragment → Type 0) (all : (e : ℕ) → e < length code.edges → All P (frags e)) (at edge : ℕ) (low : edge < length code.edges) (starts : edge_at (slice_get code.edges edge) ≡ at) where
  abbrev t : Text
  t = text_of original

  source : (f : ℕ) × Reached (kind_at t) t.entry f at
  source = source_of t code reached at edge low starts

  there : (i : Instr) (x : Edge) → instr_at t at ≡ Some i → ((r : Bool) → Within x (edges_of (instr_kind t at i) at r)) → (e : ℕ) × (slice_get code.edges e ≡ Some x)
  there i x is within = edge_of t code reached at source.0 i x source.1 is within

  on_class : (q : Place) (x : Edge) (class : Class) → place_at sites at ≡ Some q → x.at ≡ at → edge_class t (Some x) ≡ Some class → (e : ℕ) × (slice_get code.edges e ≡ Some x) → All P (fragments_of_class (Some q) class)
  on_class q x class d here is e =
      let lt = slice_get_within code.edges e.0 x e.1 in
      let way = are.ways e.0 class lt (ap (edge_class t) e.1 ∙ is) in
      let same : fragments_of_class (Some q) class ≡ frags e.0 = ap (λ o. fragments_of_class o class) (sym d) ∙ (ap (λ a. fragments_of_class (place_at sites a) class) (sym (ap edge_at e.1 ∙ here)) ∙ way) in
      subst (All P) (sym same) (all e.0 lt)

  pub all_on : (q : Place) → place_at sites at ≡ Some q → IsOfImage original at q → AllOn P q
  all_on (Forked op rs1 rs2 untaken taken) d of =
      let i = instr.Branch op rs1 rs2 of.0 in
      let x : Edge = record { at = at; kind = Taken; to = moved_by at of.0 } in
      let y : Edge = record { at = at; kind = Untaken; to = at + 4 } in (
        on_class (Forked op rs1 rs2 untaken taken) y classes.Untaken d refl (ap (λ o. class_by o Untaken) of.1) (there i y of.1 (λ r. inr (inl refl))),
        on_class (Forked op rs1 rs2 untaken taken) x classes.Taken d refl (ap (λ o. class_by o Taken) of.1) (there i x of.1 (λ r. inl refl)),
      )
  all_on (Straight w) d of =
      let x : Edge = record { at = at; kind = Jump; to = moved_by at of.0 } in
      on_class (Straight w) x classes.Jump d refl (ap (λ o. class_by o Jump) of.1) (there (instr.Jal 0 of.0) x of.1 (λ r. inl refl))
