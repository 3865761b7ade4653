use Rattle.std.proofs.Common.{◌<◌, length, arith}
use Rattle.code_graph.specs.Finding.{reach_of}
use Rattle.code_graph.proofs.NodeLaws.{owner_place, owner_read}
use Rattle.code_graph.proofs.nodes.owner_of.Goals as goal

pub index-requires-in-Owner : goal.index-requires-in-Owner
index-requires-in-Owner c =
    let lt : c.in-Owner.first < length c.args.reach.now.numbers.items = owner_place c.requires.reach.0 (reach_of c.args.reach.now) c.args.k c.in-Owner.first c.index.result.now c.requires.reach.1 c.requires.within c.index.ensures c.in-Owner.is in
    omega arith

pub returns-in-Owner : goal.returns-in-Owner
returns-in-Owner c =
    let size = c.requires.reach.1.reach.marks_size in
    let within = c.requires.within in
    owner_read (reach_of c.args.reach.now) c.args.k c.in-Owner.first c.index.result.now c.index-in-Owner.result.now (omega arith)
    (owner_place c.requires.reach.0 (reach_of c.args.reach.now) c.args.k c.in-Owner.first c.index.result.now c.requires.reach.1 c.requires.within c.index.ensures c.in-Owner.is) c.index.ensures c.in-Owner.is c.index-in-Owner.ensures
