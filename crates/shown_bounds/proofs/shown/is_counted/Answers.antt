use Rattle.std.proofs.Common.{refl}
use Rattle.std.proofs.lemmas.Option.{slice_get_within}
use Rattle.shown_bounds.specs.declared.certificates.Case.{Case}
use Rattle.shown_bounds.proofs.Bounds.{shown}
use Rattle.shown_bounds.proofs.shown.is_counted.Goals as goal

pub is_within-requires-clause-node : goal.is_within-requires-clause-node
is_within-requires-clause-node c = slice_get_within c.args.claim.now.graph.now.code.nodes c.in-Some.header c.args.note.now.header ((c.in-Some.ensures c.in-Some.header).0 refl)

pub returns : goal.returns
returns c so notes k same =
    let case : Case = record { claim = c.args.claim; note = c.args.note; header = c.in-Some.header; certificate = c.args.certificate } in
    shown case (c.if-not-is_certified.ensures refl) (c.if-not-is_enough.ensures refl) (c.is_within.ensures so c.args.note.now.header ((c.in-Some.ensures c.in-Some.header).0 refl)) notes k same
