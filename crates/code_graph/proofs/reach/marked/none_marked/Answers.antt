use Rattle.std.proofs.Common.{rules, ◌≡◌, length, replicate, None}
use Rattle.code_graph.specs.declared.reach.marks.Mark.TheVariants.{Unreached}
use Rattle.code_graph.proofs.MarkedLaws.{none_is}
use Rattle.code_graph.proofs.reach.marked.none_marked.Goals as goal

pub returns : goal.returns
returns c flags =
    let marks : c.in_ok-vec.field-0.items ≡ replicate (length c.args.steps.now) Unreached = search rules in
    let numbers : c.in_ok-vec-2.field-0.items ≡ replicate (length c.args.steps.now) None = search rules in
    none_is c.args.steps.now flags c.in_ok-vec.field-0.items c.new.result.items c.in_ok-vec-2.field-0.items marks c.new.ensures.items numbers
