use Rattle.std.proofs.Common.{◌≡◌, drop}
use Rattle.jump_drafts.specs.Jumps.{is_noted}
use Rattle.jump_drafts.proofs.listing.is_noted.Given as goal

abbrev pub invariant-loop-note : goal.invariant-loop-note
invariant-loop-note l = is_noted (drop l.note-index l.notes) l.at ≡ is_noted l.notes l.at
