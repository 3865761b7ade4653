use Rattle.std.proofs.Common.{rules, arith, refl, ◌≡◌, ◌+◌, ◌-◌, ◌<◌, ◌≤◌, length, Some}
use Rattle.std.specs.Prelude.{slice_get}
use Rattle.std.proofs.lemmas.Option.{slice_get_read}
use Rattle.graph_algorithms.specs.Bodies.{in_node_ranges}
use Rattle.graph_algorithms.proofs.BodyLaws.{flag_within, body_small, settled_grows, settled_next, sound_start, sound_next, nodes_exactly}
use Rattle.graph_algorithms.proofs.bodies.visit.fill_body.Goals as goal

pub loop-done-init : goal.loop-done-init
loop-done-init c = record {
  size = search rules;
  marked = c.in_ok-visit_sources.ensures.marked;
  sound = sound_start c.args.edges.now.sources c.args.edges.now.targets (in_node_ranges c.args.extent.now) c.args.header c.args.body.now.items c.visit_sources.new.body.items c.requires.empty c.in_ok-visit_sources.ensures.only;
  start = c.in_ok-visit_sources.ensures.settled;
  settled = λ p u lt h. absurd (let bad : ⊥ = omega arith in bad);
  reached = omega arith;
}

pub visit_sources-requires-in-loop-done-clause-node : goal.visit_sources-requires-in-loop-done-clause-node
visit_sources-requires-in-loop-done-clause-node c =
    let lt : c.loop-done.done < length c.loop-done.body.items = search rules in
    let at : slice_get c.loop-done.body.items c.loop-done.done ≡ Some c.index-node.result.now = slice_get_read c.loop-done.body.items (length c.loop-done.body.items) c.loop-done.done c.index-node.result.now refl lt c.index-node.ensures in
    let within = flag_within c.loop-done.found c.index-node.result.now (c.loop-done.invariant.marked.flagged c.loop-done.done c.index-node.result.now at) in
    omega (arith, c.loop-done.invariant.size)

pub loop-done-smaller : goal.loop-done-smaller
loop-done-smaller c =
    let lt : c.loop-done.done < length c.loop-done.body.items = search rules in
    let small : length c.loop-done.body.items ≤ length c.loop-done.found = body_small c.loop-done.found c.loop-done.body.items c.loop-done.invariant.marked in
    let same : length c.visit_sources-in-loop-done.new.found ≡ length c.loop-done.found = search rules in
    let r : length c.visit_sources-in-loop-done.new.found - (c.loop-done.done + 1) < length c.loop-done.found - c.loop-done.done = omega arith in
    r

pub loop-done-preserved : goal.loop-done-preserved
loop-done-preserved c =
    let sources = c.args.edges.now.sources in
    let targets = c.args.edges.now.targets in
    let extent = in_node_ranges c.args.extent.now in
    let done = c.loop-done.done in
    let node = c.index-node.result.now in
    let body = c.loop-done.body.items in
    let then = c.visit_sources-in-loop-done.new.body.items in
    let found = c.loop-done.found in
    let found_then = c.visit_sources-in-loop-done.new.found in
    let lt : c.loop-done.done < length c.loop-done.body.items = search rules in
    let at : slice_get c.loop-done.body.items c.loop-done.done ≡ Some c.index-node.result.now = slice_get_read body (length c.loop-done.body.items) done node refl lt c.index-node.ensures in
    let grows = c.in_ok-visit_sources-2.ensures.grows in
    record {
      size = search rules;
      marked = c.in_ok-visit_sources-2.ensures.marked;
      sound = sound_next sources targets extent c.args.header body then done node at c.in_ok-visit_sources-2.ensures.only c.loop-done.invariant.sound;
      start = settled_grows sources targets extent c.args.header found found_then body then c.args.header grows c.loop-done.invariant.start;
      settled = settled_next sources targets extent c.args.header found found_then body then done node grows lt at c.in_ok-visit_sources-2.ensures.settled c.loop-done.invariant.settled;
      reached = (let l = grows.longer in omega arith);
    }

pub returns-clause-nodes : goal.returns-clause-nodes
returns-clause-nodes c =
    let end : length c.loop-done.body.items ≤ c.loop-done.done = search rules in
    nodes_exactly c.args.edges.now.sources c.args.edges.now.targets (in_node_ranges c.args.extent.now) c.args.header c.loop-done.found c.loop-done.body.items c.loop-done.done end
    c.loop-done.invariant.marked c.loop-done.invariant.sound c.loop-done.invariant.start c.loop-done.invariant.settled
