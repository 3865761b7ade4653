use Rattle.std.proofs.Common.{refl}
use Rattle.walk_checks.specs.declared.tables.WalkCase.{WalkCase}
use Rattle.walk_checks.proofs.Cases.{case_in}
use Rattle.walk_checks.proofs.Whole.{shown}
use Rattle.walk_checks.proofs.shown.is_walk_shown.Goals as goal

pub is_header_so-requires : goal.is_header_so-requires
is_header_so-requires c = record { case = case_in (record { claim = c.args.claim; note = c.args.note; header = c.in-Some.header; table = c.args.table }) c.requires ((c.in-Some.ensures c.in-Some.header).0 refl) (c.if-not-has_entries.ensures refl) }

pub is_entry_so-requires : goal.is_entry_so-requires
is_entry_so-requires c = record { case = case_in (record { claim = c.args.claim; note = c.args.note; header = c.in-Some.header; table = c.args.table }) c.requires ((c.in-Some.ensures c.in-Some.header).0 refl) (c.if-not-has_entries.ensures refl) }

pub are_edges_walked-requires : goal.are_edges_walked-requires
are_edges_walked-requires c = record { case = case_in (record { claim = c.args.claim; note = c.args.note; header = c.in-Some.header; table = c.args.table }) c.requires ((c.in-Some.ensures c.in-Some.header).0 refl) (c.if-not-has_entries.ensures refl) }

pub returns : goal.returns
returns c so notes k same =
    let case : WalkCase = record { claim = c.args.claim; note = c.args.note; header = c.in-Some.header; table = c.args.table } in
    shown case (case_in case c.requires ((c.in-Some.ensures c.in-Some.header).0 refl) (c.if-not-has_entries.ensures refl)) (c.if-not-is_header_so.ensures refl) (c.if-not-is_entry_so.ensures refl) (c.if-not-is_enough.ensures refl) (c.are_edges_walked.ensures so) (c.if-not-is_ground.ensures refl) notes k same
