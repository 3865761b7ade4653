use Rattle.std.proofs.Common.{true, ◌≡◌, ◌≤◌, ◌+◌, ◌∷◌, [], length, slice_get, arith, sym, ap, ◌∙◌, subst}
use Rattle.std.specs.Prelude.{slice_index}
use Rattle.std.proofs.lemmas.Bool.{eq-eqb, eqb-true}
use Rattle.cost_theory.specs.Reached.{edge_at}
use Rattle.code_text.specs.Text.{text_of}
use Rattle.rewritten_runs.specs.Stubs.{fragments_with}
use Rattle.marked_images.specs.Wanted.{marked_where}
use Rattle.marked_images.specs.Markings.{test_of, AreMarkedEdges}
use Rattle.marked_images.proofs.EdgeBlocks.{length_none, map_none, map_some, marked_all, marked_none, marked_push, marked_skip, short_row}
use Rattle.marked_images.proofs.stubs.stub_edges.Goals as goal
use Rattle.marked_images.proofs.stubs.stub_edges.Goals.{then-not-is_empty+in_ok-fragments+in_ok-push, else-not-is_empty}

pub loop-e-init : goal.loop-e-init
loop-e-init c =
    let at = slice_index c.args.marked.now.graph.code.nodes c.args.k in
    let none = ap length c.new-edges.ensures.items in (
      omega (arith, none),
      λ image wanted stored least is.
          let frags = fragments_with c.args.power.now (test_of c.args.power.now c.args.marked.now.marking) image c.args.marked.now.graph c.args.marked.now.tree (marked_where c.args.marked.now.graph c.args.marked.now.tree wanted) stored least in
          subst (AreMarkedEdges c.args.marked.now.graph frags at c.edges_of-first.result.0) (sym c.new-edges.ensures.items)
          (marked_none (text_of image) c.args.marked.now.graph is.code frags at c.edges_of-first.result.0 (λ e x lt get here.
          let w = c.edges_of-first.ensures.within in
          let p = (c.edges_of-first.ensures.edges e (omega (arith, lt, w))).0 (ap edge_at get ∙ here) in
          let q = p.0 in let bad : ⊥ = omega (arith, q, lt) in bad)),
    )

pub loop-e-preserved : goal.loop-e-preserved
loop-e-preserved c =
    let at = slice_index c.args.marked.now.graph.code.nodes c.args.k in
    let w2 = c.edges_of-first.ensures.within in
    let test = c.loop-e-test.true in
    let count = c.loop-e.invariant.0 in
    let from : c.edges_of-first.result.0 ≤ c.loop-e.e = omega (arith, count) in
    elim c.if-not-is_empty.branch [
      | then-not-is_empty+in_ok-fragments+in_ok-push w ↦
          let here : edge_at (slice_get c.args.marked.now.graph.code.edges c.loop-e.e) ≡ at = (c.edges_of-first.ensures.edges c.loop-e.e (omega (arith, test, w2))).1 (from, test) in
          let items = ap (λ (es : _). es.items) w.edges-is ∙ w.in_ok-push.ensures.items in
          let long = ap length items in
          let more = Rattle.std.proofs.lemmas.List.length-append c.loop-e.edges.items (record { edge = w.edge-edge.result; fragments = w.in_ok-fragments.fragments } ∷ []) in (
            omega (arith, count, long, more),
            λ image wanted stored least is.
                let frags = fragments_with c.args.power.now (test_of c.args.power.now c.args.marked.now.marking) image c.args.marked.now.graph c.args.marked.now.tree (marked_where c.args.marked.now.graph c.args.marked.now.tree wanted) stored least in
                subst (AreMarkedEdges c.args.marked.now.graph frags at (c.loop-e.e + 1)) (sym items)
                (marked_push (text_of image) c.args.marked.now.graph is.code frags at c.loop-e.e c.loop-e.edges.items (record { edge = w.edge-edge.result; fragments = w.in_ok-fragments.fragments }) (c.loop-e.invariant.1 image wanted stored least is)
                w.edge-edge.ensures (sym (ap edge_at w.edge-edge.ensures) ∙ here) (w.in_ok-fragments.ensures image wanted stored least is)
                (λ none. let empty = map_some _ _ none in
                let bare : length c.marks.result.now ≡ 0 = ap length (c.marks.ensures ∙ (is.marks c.loop-e.e (omega (arith, test, w2)) ∙ empty)) in
                let no : true ≡ Rattle.std.proofs.Common.false = sym (c.is_empty.ensures ∙ eq-eqb (length c.marks.result.now) 0 bare) ∙ w.if-not-is_empty.true in let bad : ⊥ = cc in bad)),
          )
      | else-not-is_empty w ↦
          let items = ap (λ (es : _). es.items) w.edges-is in
          let long = ap length items in (
            omega (arith, count, long),
            λ image wanted stored least is.
                let frags = fragments_with c.args.power.now (test_of c.args.power.now c.args.marked.now.marking) image c.args.marked.now.graph c.args.marked.now.tree (marked_where c.args.marked.now.graph c.args.marked.now.tree wanted) stored least in
                subst (AreMarkedEdges c.args.marked.now.graph frags at (c.loop-e.e + 1)) (sym items)
                (marked_skip (text_of image) c.args.marked.now.graph is.code frags at c.loop-e.e c.loop-e.edges.items (c.loop-e.invariant.1 image wanted stored least is)
                (map_none _ _ (sym (is.marks c.loop-e.e (omega (arith, test, w2))) ∙ (sym c.marks.ensures ∙ length_none c.marks.result.now (eqb-true (length c.marks.result.now) 0 (sym c.is_empty.ensures ∙ w.if-not-is_empty.false)))))),
          )
    ]

pub returns : goal.returns
returns c = λ image wanted stored least is.
    let at = slice_index c.args.marked.now.graph.code.nodes c.args.k in
    let frags = fragments_with c.args.power.now (test_of c.args.power.now c.args.marked.now.marking) image c.args.marked.now.graph c.args.marked.now.tree (marked_where c.args.marked.now.graph c.args.marked.now.tree wanted) stored least in
    let w = c.edges_of-first.ensures.within in
    let test = c.loop-e-test.false in
    let count = c.loop-e.invariant.0 in
    let top = c.loop-e.auto.e-end in
    let short = short_row (text_of image) c.args.marked.now.graph is.code c.edges_of-first.result.0 c.edges_of-first.result.1 at w.1 (λ e low high. (c.edges_of-first.ensures.edges e (omega (arith, high, w))).1 (low, high)) in
    record {
      few = omega (arith, count, short, top);
      are = marked_all (text_of image) c.args.marked.now.graph is.code frags at c.loop-e.e c.loop-e.edges.items (c.loop-e.invariant.1 image wanted stored least is) (omega (arith, w, top)) (λ e low high here.
          let p = (c.edges_of-first.ensures.edges e high).0 here in
          let q = p.1 in let bad : ⊥ = omega (arith, q, low, test) in bad);
    }
