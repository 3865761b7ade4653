use Rattle.std.specs.Prelude.{slice_get}
use Rattle.marked_images.specs.Markings.{test_of}
use Rattle.paced_images.specs.Useful.{is_lowered}
use Rattle.marked_images.specs.Wanted.{marked_where}
use Rattle.paced_images.proofs.UsefulFacts.{named_as}
use Rattle.paced_images.proofs.useful.names_lowered.Goals as goal

pub returns-then-names : goal.returns-then-names
returns-then-names c = λ image wanted stored least is.
    let m = c.args.marked.now in
    named_as c.args.site (slice_get c.args.marked.now.graph.code.edges c.args.e) c.edge.result c.names.result c.is_lowered.result
    (is_lowered c.args.power.now (test_of c.args.power.now m.marking) m.start image m.graph m.tree (marked_where m.graph m.tree wanted) stored least c.args.e)
    c.edge.ensures c.names.ensures c.if-names.true (c.is_lowered.ensures image wanted stored least is)
