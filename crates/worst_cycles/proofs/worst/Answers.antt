use Rattle.std.proofs.Common.{◌≡◌, ◌^◌, ◌<◌, ◌≤◌, length, Vec, Global, arith, refl, sym, ap, ◌∙◌, subst}
use Rattle.std.proofs.lemmas.Result.{err_from_is_err_and}
use Rattle.graph_algorithms.specs.Arcs.{number_in_place}
use Rattle.flow_graph.specs.FlowGraph.{graph}
use Rattle.loop_forest.specs.Tree.{loops}
use Rattle.worst_cycles.specs.declared.visits.Visit.{Visit}
use Rattle.worst_cycles.specs.Worst.{by_edge}
use Rattle.worst_cycles.specs.Needs.{AreEntries}
use Rattle.worst_cycles.specs.Visits.{AreAllVisited}
use Rattle.worst_cycles.proofs.SearchLaws.{value_at}
use Rattle.worst_cycles.proofs.BodyLaws.{header_number}
use Rattle.worst_cycles.proofs.WorstLaws.{IsWeighted, stops_so, worst_in_range, total_too_long, has_solved, left_of}
use Rattle.worst_cycles.proofs.worst.Goals as goal

pub returns-in_err-visits : goal.returns-in_err-visits
returns-in_err-visits c =
    let p = err_from_is_err_and c.from_residual-in_err-visits.result c.from_residual-in_err-visits.ensures.1 in
    let is : IsWeighted (graph c.args.graph.now) (loops c.args.graph.now c.args.tree.now) c.requires.tree.0 (by_edge c.args.weights.now) =
    record { program = c.in_ok-plan.ensures.flow.program; accepted = c.requires.tree.1.accepted; weights = c.requires.calls } in
    rw (p.1, p.2) (record { found = stops_so c.args.graph.now c.args.tree.now (λ (visits : Vec Visit Global). visits.items) c.in_err-visits.field-0.0 is c.in_err-visits.ensures; sizes = tt; left = tt })

pub returns-then-index-gt-LIMIT : goal.returns-then-index-gt-LIMIT
returns-then-index-gt-LIMIT c =
    let is : IsWeighted (graph c.args.graph.now) (loops c.args.graph.now c.args.tree.now) c.requires.tree.0 (by_edge c.args.weights.now) =
    record { program = c.in_ok-plan.ensures.flow.program; accepted = c.requires.tree.1.accepted; weights = c.requires.calls } in
    let entries = subst (AreEntries c.args.graph.now) (sym c.deref.ensures.value) c.in_ok-plan.ensures.plan.entries in
    let found = subst (AreAllVisited c.args.graph.now c.args.tree.now (by_edge c.args.weights.now)) (sym c.deref-2.ensures.value) c.in_ok-visits.ensures in
    let main : 0 < length c.args.graph.now.code.functions = c.in_ok-plan.ensures.flow.program.main in
    let count = entries.size in
    let size = c.in_ok-worst.ensures.size in
    let some : 0 < length c.in_ok-worst.worst.items = omega arith in
    let first : number_in_place c.in_ok-worst.worst.items 0 ≡ c.index.result.now = value_at c.in_ok-worst.worst.items 0 c.index.result.now 0 some c.index.ensures in
    let more : 2 ^ 48 < number_in_place c.in_ok-worst.worst.items 0 = omega arith in
    record {
      found = (
        refl,
        total_too_long c.in_ok-worst.worst.items c.in_ok-plan.ensures.flow is entries found (λ f lt. c.in_ok-worst.ensures.each f (omega arith)) more,
      );
      sizes = tt;
      left = tt;
    }

pub iterations_of-requires : goal.iterations_of-requires
iterations_of-requires c =
    let value = c.deref-3.ensures.len in
    let size = c.in_ok-visits.ensures.table.size in
    let same : length c.deref-3.result.now ≡ length c.in_ok-visits.visits.items = ap length c.deref-3.ensures.value in
    record { within = λ k kl. let h : number_in_place c.args.tree.now.headers k < length c.args.graph.now.code.nodes = header_number c.args.graph.now c.args.tree.now c.requires.tree.0 c.requires.tree.1 k kl in omega arith }

pub returns : goal.returns
returns c =
    let is : IsWeighted (graph c.args.graph.now) (loops c.args.graph.now c.args.tree.now) c.requires.tree.0 (by_edge c.args.weights.now) =
    record { program = c.in_ok-plan.ensures.flow.program; accepted = c.requires.tree.1.accepted; weights = c.requires.calls } in
    let entries = subst (AreEntries c.args.graph.now) (sym c.deref.ensures.value) c.in_ok-plan.ensures.plan.entries in
    let found = subst (AreAllVisited c.args.graph.now c.args.tree.now (by_edge c.args.weights.now)) (sym c.deref-2.ensures.value) c.in_ok-visits.ensures in
    let others = subst (AreAllVisited c.args.graph.now c.args.tree.now (by_edge c.args.weights.now)) (sym c.deref-3.ensures.value) c.in_ok-visits.ensures in
    let main : 0 < length c.args.graph.now.code.functions = c.in_ok-plan.ensures.flow.program.main in
    let count = entries.size in
    let size = c.in_ok-worst.ensures.size in
    let some : 0 < length c.in_ok-worst.worst.items = omega arith in
    let first : number_in_place c.in_ok-worst.worst.items 0 ≡ c.index.result.now = value_at c.in_ok-worst.worst.items 0 c.index.result.now 0 some c.index.ensures in
    let small : number_in_place c.in_ok-worst.worst.items 0 ≤ 2 ^ 48 = omega arith in
    rw c.from_parts.ensures (record {
      found = worst_in_range (record { worst = c.in_ok-worst.worst.items; iteration = c.in_ok-iteration.iteration.items; left = c.in_ok-parts.parts.left.items; context = c.in_ok-parts.parts.context.items; slacks = c.in_ok-parts.parts.slacks.items; rests = c.in_ok-parts.parts.rests.items }) c.requires.tree c.in_ok-plan.ensures.flow is entries found others
          (c.in_ok-worst.ensures.size ∙ entries.size) (λ f lt. c.in_ok-worst.ensures.each f (omega arith)) c.in_ok-iteration.ensures.size c.in_ok-iteration.ensures.each small;
      sizes = record { left = c.in_ok-parts.ensures.left.size; context = c.in_ok-parts.ensures.context.size; slacks = c.in_ok-parts.ensures.slacks.size; rests = c.in_ok-parts.ensures.rests.size };
      left = left_of c.in_ok-worst.worst.items c.in_ok-iteration.iteration.items is c.in_ok-parts.ensures;
    })

pub parts_of-requires : goal.parts_of-requires
parts_of-requires c =
    let is : IsWeighted (graph c.args.graph.now) (loops c.args.graph.now c.args.tree.now) c.requires.tree.0 (by_edge c.args.weights.now) =
    record { program = c.in_ok-plan.ensures.flow.program; accepted = c.requires.tree.1.accepted; weights = c.requires.calls } in
    let entries = subst (AreEntries c.args.graph.now) (sym c.deref.ensures.value) c.in_ok-plan.ensures.plan.entries in
    let found = subst (AreAllVisited c.args.graph.now c.args.tree.now (by_edge c.args.weights.now)) (sym c.deref-2.ensures.value) c.in_ok-visits.ensures in
    let main : 0 < length c.args.graph.now.code.functions = c.in_ok-plan.ensures.flow.program.main in
    let count = entries.size in
    let size = c.in_ok-worst.ensures.size in
    let some : 0 < length c.in_ok-worst.worst.items = omega arith in
    let first : number_in_place c.in_ok-worst.worst.items 0 ≡ c.index.result.now = value_at c.in_ok-worst.worst.items 0 c.index.result.now 0 some c.index.ensures in
    let small : number_in_place c.in_ok-worst.worst.items 0 ≤ 2 ^ 48 = omega arith in
    record {
      visited = record {
        planned = record { flow = c.in_ok-plan.ensures.flow; tree = c.requires.tree; plan = c.in_ok-plan.ensures.plan; weights = c.requires.weights; heaviest = c.in_ok-plan.ensures.heaviest };
        visits = subst (AreAllVisited c.args.graph.now c.args.tree.now (by_edge c.args.weights.now)) (sym c.deref-4.ensures.value) c.in_ok-visits.ensures;
        solved = has_solved c.in_ok-worst.worst.items c.in_ok-plan.ensures.flow is entries found (λ f lt. c.in_ok-worst.ensures.each f (omega arith)) small;
      };
    }
