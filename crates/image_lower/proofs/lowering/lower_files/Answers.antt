use Rattle.std.proofs.Common.{◌≡◌, List, Ok, sym, ap, subst, ◌∙◌}
use Rattle.jump_lists.specs.declared.notes.JumpNote.{JumpNote}
use Rattle.jump_lists.specs.Jumps.{read_jumps}
use Rattle.std.specs.Prelude.{is_some}
use Rattle.scale_base.specs.Image.{image_of}
use Rattle.image_lower.proofs.LoweringLaws.{passed, file_is, none_of}
use Rattle.image_lower.proofs.lowering.lower_files.Goals as goal

pub lower_notes-requires-clause-file : goal.lower_notes-requires-clause-file
lower_notes-requires-clause-file c = rw (file_is c.args.image.now c.in_ok-view.view c.in_ok-view.ensures) c.requires

pub lower_notes-requires-clause-image : goal.lower_notes-requires-clause-image
lower_notes-requires-clause-image c = ap image_of (file_is c.args.image.now c.in_ok-view.view c.in_ok-view.ensures) ∙ c.in_ok-view.ensures

pub returns : goal.returns
returns c =
    let P : List JumpNote → Type 0 = λ ns. read_jumps c.args.jumps.now ≡ Ok ns in
    passed _ c.lower_notes.result c.args.image.now c.args.jumps.now c.as_slice.result.now c.in_ok-view.view (subst P (sym c.as_slice.ensures.notes) c.in_ok-notes.ensures) c.in_ok-view.ensures
    (none_of c.in_ok-view.view.keyed_segment (ap is_some (sym c.keyed.ensures) ∙ (sym c.is_some.ensures ∙ c.if-is_some.false))) c.lower_notes.ensures
