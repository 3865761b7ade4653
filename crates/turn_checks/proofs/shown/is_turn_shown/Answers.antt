use Rattle.std.proofs.Common.{refl}
use Rattle.turn_checks.specs.declared.tables.TurnCase.{TurnCase}
use Rattle.turn_checks.proofs.Cases.{case_in}
use Rattle.turn_checks.proofs.Whole.{shown}
use Rattle.turn_checks.proofs.shown.is_turn_shown.Goals as goal

pub is_header_so-requires : goal.is_header_so-requires
is_header_so-requires c = record { case = case_in (record { claim = c.args.claim; note = c.args.note; header = c.in-Some.header; table = c.args.table; most = c.args.most }) c.requires ((c.in-Some.ensures c.in-Some.header).0 refl) (c.if-not-has_entries.ensures refl) }

pub is_entry_so-requires : goal.is_entry_so-requires
is_entry_so-requires c = record { case = case_in (record { claim = c.args.claim; note = c.args.note; header = c.in-Some.header; table = c.args.table; most = c.args.most }) c.requires ((c.in-Some.ensures c.in-Some.header).0 refl) (c.if-not-has_entries.ensures refl) }

pub are_edges_turned-requires : goal.are_edges_turned-requires
are_edges_turned-requires c = record { case = case_in (record { claim = c.args.claim; note = c.args.note; header = c.in-Some.header; table = c.args.table; most = c.args.most }) c.requires ((c.in-Some.ensures c.in-Some.header).0 refl) (c.if-not-has_entries.ensures refl) }

pub returns : goal.returns
returns c so notes k same =
    let case : TurnCase = record { claim = c.args.claim; note = c.args.note; header = c.in-Some.header; table = c.args.table; most = c.args.most } in
    shown case (case_in case c.requires ((c.in-Some.ensures c.in-Some.header).0 refl) (c.if-not-has_entries.ensures refl)) (c.if-not-is_header_so.ensures refl) (c.if-not-is_entry_so.ensures refl) (c.if-not-is_enough.ensures refl) (c.are_edges_turned.ensures so) notes k same
