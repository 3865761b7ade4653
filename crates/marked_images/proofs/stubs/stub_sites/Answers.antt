use Rattle.std.proofs.Common.{◌≡◌, ◌+◌, ◌++◌, ◌∷◌, [], length, true, false, sym, ap, ◌∙◌, subst, arith}
use Rattle.std.specs.Prelude.{slice_index}
use Rattle.std.proofs.lemmas.Bool.{eq-eqb, eqb-true}
use Rattle.std.proofs.lemmas.Option.{get_or_from_slice_get}
use Rattle.rewritten_runs.specs.Stubs.{fragments_with}
use Rattle.marked_images.specs.Wanted.{marked_where}
use Rattle.marked_images.specs.Markings.{test_of, AreMarkedEdges, AreEdgesOfNode}
use Rattle.marked_images.proofs.SiteLists.{AreStubsBelow, decoded_some, edge_decodes, sites_found, some_edge, stubs_none, stubs_push, stubs_skip}
use Rattle.marked_images.proofs.EdgeBlocks.{length_none}
use Rattle.marked_images.proofs.WantedKinds.{good_fragments, fragments_mark}
use Rattle.marked_images.proofs.stubs.stub_sites.Goals as goal
use Rattle.marked_images.proofs.stubs.stub_sites.Goals.{then-not-is_empty+in-Some+in_ok-push, then-not-is_empty+in_default, else-not-is_empty}

pub stub_edges-requires-clause-marking : goal.stub_edges-requires-clause-marking
stub_edges-requires-clause-marking c = let h = c.requires.program in (c.args.view.now, h.1, h.2, h.3, h.5)

pub loop-k-init : goal.loop-k-init
loop-k-init c =
    let none = ap length c.new-stubs.ensures.items in (
      omega (arith, none),
      λ notes wanted stored least weighed is.
          let frags = fragments_with c.args.power.now (test_of c.args.power.now c.args.marked.now.marking) c.args.view.now c.args.marked.now.graph c.args.marked.now.tree (marked_where c.args.marked.now.graph c.args.marked.now.tree wanted) stored least in
          subst (AreStubsBelow c.args.view.now c.args.marked.now.graph frags 0) (sym c.new-stubs.ensures.items)
          (stubs_none c.args.view.now c.args.marked.now.graph is.code frags
          (λ e lt. good_fragments c.args.power.now c.args.view.now notes c.args.marked.now.graph c.args.marked.now.tree wanted stored weighed is.kinds (test_of c.args.power.now c.args.marked.now.marking) least e lt)
          (λ e x i get some at. fragments_mark c.args.power.now c.args.view.now notes c.args.marked.now.graph c.args.marked.now.tree wanted stored weighed is.kinds (test_of c.args.power.now c.args.marked.now.marking) least e x i get some at)),
    )

pub loop-k-preserved : goal.loop-k-preserved
loop-k-preserved c =
    let count = c.loop-k.invariant.0 in
    let at = c.node-at.result in
    let es = c.in_ok-edges.edges.items in
    let here : slice_index c.args.marked.now.graph.code.nodes c.loop-k.k ≡ at = get_or_from_slice_get c.args.marked.now.graph.code.nodes c.loop-k.k at 0 c.node-at.ensures in
    let long = c.in_ok-edges.edges.ok in
    elim c.if-not-is_empty.branch [
      | then-not-is_empty+in-Some+in_ok-push w ↦
          let items = ap (λ (zs : _). zs.items) w.stubs-is ∙ (w.in_ok-push.ensures.items ∙ ap (λ ys. c.loop-k.stubs.items ++ record { at = at; instr = w.in-Some.instr; edges = ys } ∷ []) w.from_vec.ensures) in
          let size = ap length items in
          let more = Rattle.std.proofs.lemmas.List.length-append c.loop-k.stubs.items (record { at = at; instr = w.in-Some.instr; edges = es } ∷ []) in (
            omega (arith, count, size, more),
            λ notes wanted stored least weighed is.
                let frags = fragments_with c.args.power.now (test_of c.args.power.now c.args.marked.now.marking) c.args.view.now c.args.marked.now.graph c.args.marked.now.tree (marked_where c.args.marked.now.graph c.args.marked.now.tree wanted) stored least in
                subst (AreStubsBelow c.args.view.now c.args.marked.now.graph frags (c.loop-k.k + 1)) (sym items)
                (stubs_push c.args.view.now c.args.marked.now.graph is.code frags
                (λ e lt. good_fragments c.args.power.now c.args.view.now notes c.args.marked.now.graph c.args.marked.now.tree wanted stored weighed is.kinds (test_of c.args.power.now c.args.marked.now.marking) least e lt)
                (λ e x i get some a. fragments_mark c.args.power.now c.args.view.now notes c.args.marked.now.graph c.args.marked.now.tree wanted stored weighed is.kinds (test_of c.args.power.now c.args.marked.now.marking) least e x i get some a)
                c.loop-k.k at c.loop-k.stubs.items w.in-Some.instr es (c.loop-k.invariant.1 notes wanted stored least weighed is) c.node-at.ensures
                (subst (λ a. AreEdgesOfNode c.args.marked.now.graph frags a es) here (c.in_ok-edges.ensures c.args.view.now wanted stored least is))
                (λ none. let bare : c.in_ok-edges.edges.len ≡ 0 = (let z = ap length none in omega (arith, z, long)) in
                let no : true ≡ false = sym (c.is_empty.ensures ∙ eq-eqb c.in_ok-edges.edges.len 0 bare) ∙ w.if-not-is_empty.true in let bad : ⊥ = cc in bad)
                (decoded_some c.args.view.now at w.instr_at.result w.in-Some.instr w.instr_at.ensures.some w.in-Some.is)),
          )
      | then-not-is_empty+in_default w ↦
          let h = c.requires.program in
          let frags = fragments_with c.args.power.now (test_of c.args.power.now c.args.marked.now.marking) c.args.view.now c.args.marked.now.graph c.args.marked.now.tree (marked_where c.args.marked.now.graph c.args.marked.now.tree h.1) h.2 h.3 in
          let edges : AreEdgesOfNode c.args.marked.now.graph frags at es = subst (λ a. AreEdgesOfNode c.args.marked.now.graph frags a es) here (c.in_ok-edges.ensures c.args.view.now h.1 h.2 h.3 h.5) in
          let some = some_edge c.args.marked.now.graph frags at (length c.args.marked.now.graph.code.edges) es
          (λ none. let bare : c.in_ok-edges.edges.len ≡ 0 = (let z = ap length none in omega (arith, z, long)) in
          let no : true ≡ false = sym (c.is_empty.ensures ∙ eq-eqb c.in_ok-edges.edges.len 0 bare) ∙ w.if-not-is_empty.true in let bad : ⊥ = cc in bad) edges.are.each in
          absurd (edge_decodes c.args.view.now c.args.marked.now.graph h.5.code at some.1.number some.0.edge some.1.get some.1.starts (w.instr_at.ensures.none w.in_default.is))
      | else-not-is_empty w ↦
          let items = ap (λ (zs : _). zs.items) w.stubs-is in
          let size = ap length items in (
            omega (arith, count, size),
            λ notes wanted stored least weighed is.
                let frags = fragments_with c.args.power.now (test_of c.args.power.now c.args.marked.now.marking) c.args.view.now c.args.marked.now.graph c.args.marked.now.tree (marked_where c.args.marked.now.graph c.args.marked.now.tree wanted) stored least in
                let none : es ≡ [] = length_none es (let z = eqb-true c.in_ok-edges.edges.len 0 (sym c.is_empty.ensures ∙ w.if-not-is_empty.false) in omega (arith, z, long)) in
                let edges : AreEdgesOfNode c.args.marked.now.graph frags at es = subst (λ a. AreEdgesOfNode c.args.marked.now.graph frags a es) here (c.in_ok-edges.ensures c.args.view.now wanted stored least is) in
                subst (AreStubsBelow c.args.view.now c.args.marked.now.graph frags (c.loop-k.k + 1)) (sym items)
                (stubs_skip c.args.view.now c.args.marked.now.graph is.code frags
                (λ e lt. good_fragments c.args.power.now c.args.view.now notes c.args.marked.now.graph c.args.marked.now.tree wanted stored weighed is.kinds (test_of c.args.power.now c.args.marked.now.marking) least e lt)
                (λ e x i get some a. fragments_mark c.args.power.now c.args.view.now notes c.args.marked.now.graph c.args.marked.now.tree wanted stored weighed is.kinds (test_of c.args.power.now c.args.marked.now.marking) least e x i get some a)
                c.loop-k.k at c.loop-k.stubs.items (c.loop-k.invariant.1 notes wanted stored least weighed is) c.node-at.ensures
                (subst (AreMarkedEdges c.args.marked.now.graph frags at (length c.args.marked.now.graph.code.edges)) none edges.are)),
          )
    ]

pub returns : goal.returns
returns c = λ notes wanted stored least weighed is.
    let frags = fragments_with c.args.power.now (test_of c.args.power.now c.args.marked.now.marking) c.args.view.now c.args.marked.now.graph c.args.marked.now.tree (marked_where c.args.marked.now.graph c.args.marked.now.tree wanted) stored least in
    let test = c.loop-k-test.false in
    let count = c.loop-k.invariant.0 in
    let top = c.loop-k.auto.k-end in
    let nodes = c.node_count-k-end.ensures.count in
    let few = c.node_count-k-end.ensures.few in
    let found = sites_found c.args.view.now c.args.marked.now.graph is.code frags
    (λ e lt. good_fragments c.args.power.now c.args.view.now notes c.args.marked.now.graph c.args.marked.now.tree wanted stored weighed is.kinds (test_of c.args.power.now c.args.marked.now.marking) least e lt)
    (λ e x i get some a. fragments_mark c.args.power.now c.args.view.now notes c.args.marked.now.graph c.args.marked.now.tree wanted stored weighed is.kinds (test_of c.args.power.now c.args.marked.now.marking) least e x i get some a)
    c.loop-k.k c.loop-k.stubs.items (omega (arith, test, nodes)) (c.loop-k.invariant.1 notes wanted stored least weighed is) in
    record { few = omega (arith, count, few, top); each = found.0; are = found.1 }
