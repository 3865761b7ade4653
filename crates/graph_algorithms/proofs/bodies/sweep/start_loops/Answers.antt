use Rattle.std.proofs.Common.{rules, arith, ◌≡◌, ◌∙◌, ◌<◌, ◌*◌, ◌%◌, ◌^◌, length, ap, sym, Some}
use Rattle.std.specs.Prelude.{slice_get}
use Rattle.std.proofs.lemmas.Option.{slice_get-get_or}
use Rattle.graph_algorithms.specs.Groups.{IsTurn, IsPassedBack}
use Rattle.graph_algorithms.proofs.GroupLaws.{bits_none, below_next, below_all}
use Rattle.graph_algorithms.proofs.SweepLaws.{settled_none, settled_more, turned}
use Rattle.graph_algorithms.proofs.bodies.sweep.start_loops.Goals as goal

pub loop-bit-init : goal.loop-bit-init
loop-bit-init c = record {
  found = bits_none c.args.loops.now c.args.edges.now.count (IsTurn c.args.edges.now c.args.inside.now) c.args.found.now c.requires.found c.requires.none;
  settled = settled_none c.args.edges.now c.args.inside.now c.args.found.now c.args.pending.now c.requires.found c.requires.pending c.requires.none;
}

pub pass_back-requires-clause-node : goal.pass_back-requires-clause-node
pass_back-requires-clause-node c =
    let lt : c.loop-bit.bit < length c.args.loops.now = search rules in
    (c.requires.loops.header c.loop-bit.bit c.index-loops-bit.result (slice_get-get_or c.args.loops.now c.loop-bit.bit c.index-loops-bit.result lt ∙ ap Some (sym c.index-loops-bit.is))).0

pub loop-bit-preserved : goal.loop-bit-preserved
loop-bit-preserved c =
    let lt : c.loop-bit.bit < length c.args.loops.now = search rules in
    let few = c.requires.loops.few in
    let at : slice_get c.args.loops.now c.loop-bit.bit ≡ Some c.index-loops-bit.result = slice_get-get_or c.args.loops.now c.loop-bit.bit c.index-loops-bit.result lt ∙ ap Some (sym c.index-loops-bit.is) in
    record {
      found = below_next c.args.loops.now c.args.edges.now.count (IsTurn c.args.edges.now c.args.inside.now) c.loop-bit.bit c.index-loops-bit.result c.loop-bit.found c.pass_back.new.found at c.pass_back.ensures.gains.found_size
          (turned c.args.edges.now c.args.inside.now c.loop-bit.bit c.index-loops-bit.result.header c.loop-bit.found c.pass_back.new.found c.loop-bit.pending c.pass_back.new.pending (omega arith) c.pass_back.ensures.gains c.pass_back.ensures.all)
          c.loop-bit.invariant.found;
      settled = settled_more c.args.edges.now c.args.inside.now (IsPassedBack c.args.edges.now c.args.inside.now (1 * 2 ^ c.loop-bit.bit % 2 ^ 64) c.index-loops-bit.result.header) c.loop-bit.found c.pass_back.new.found c.loop-bit.pending c.pass_back.new.pending c.pass_back.ensures.gains c.loop-bit.invariant.settled;
    }

pub returns-clause-found : goal.returns-clause-found
returns-clause-found c = below_all c.args.loops.now c.args.edges.now.count (IsTurn c.args.edges.now c.args.inside.now) c.loop-bit.bit c.loop-bit.found (search rules) c.loop-bit.invariant.found
