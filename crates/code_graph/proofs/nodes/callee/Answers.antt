use Rattle.std.proofs.Common.{length, arith, ap, sym, ◌∙◌, refl}
use Rattle.std.proofs.lemmas.Option.{slice_get_within, slice_get_read}
use Rattle.cost_theory.specs.Reached.{callee_of}
use Rattle.code_graph.specs.Reach.{WordStandsAt}
use Rattle.code_graph.specs.Finding.{reach_of}
use Rattle.code_graph.specs.Assembling.{entry_addresses}
use Rattle.code_graph.proofs.NodeLaws.{callee_read, callee_none}
use Rattle.code_graph.proofs.nodes.callee.Goals as goal

pub index-requires : goal.index-requires
index-requires c =
    let at : WordStandsAt c.args.reach.now.words c.in-Some.first c.in-Call.to = (c.find.ensures c.in-Some.first).0 c.in-Some.is in
    let lt = slice_get_within c.args.reach.now.words.addresses c.in-Some.first c.in-Call.to at in
    let size = c.requires.1.reach.numbers_size in
    omega arith

pub returns-in-Some : goal.returns-in-Some
returns-in-Some c =
    let at : WordStandsAt c.args.reach.now.words c.in-Some.first c.in-Call.to = (c.find.ensures c.in-Some.first).0 c.in-Some.is in
    let lt = slice_get_within c.args.reach.now.words.addresses c.in-Some.first c.in-Call.to at in
    let size = c.requires.1.reach.numbers_size in
    callee_read c.requires.0 (reach_of c.args.reach.now) c.requires.1 c.in-Call.to c.in-Some.first c.index.result.now at
    (slice_get_read c.args.reach.now.numbers.items (length c.args.reach.now.numbers.items) c.in-Some.first c.index.result.now refl (omega arith) c.index.ensures)
    ∙ ap (callee_of (entry_addresses (reach_of c.args.reach.now))) (sym c.in-Call.is)

pub returns-in-None : goal.returns-in-None
returns-in-None c =
    callee_none c.requires.0 (reach_of c.args.reach.now) c.requires.1 c.in-Call.to (λ k at. let some = (c.find.ensures k).1 at in let none = c.in-None.is in let bad : ⊥ = cc in bad)
    ∙ ap (callee_of (entry_addresses (reach_of c.args.reach.now))) (sym c.in-Call.is)
