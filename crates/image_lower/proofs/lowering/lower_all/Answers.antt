use Rattle.std.proofs.Common.{◌≡◌, ◌*◌, List, length, map, ap, arith, Bor, ◌∙◌}
use Rattle.scale_base.specs.declared.instruction.Instr.{Instr}
use Rattle.jump_lists.specs.declared.notes.JumpNote.{JumpNote}
use Rattle.image_lower.specs.Block.{ascending_notes, trees_code}
use Rattle.image_lower.proofs.Kept.{ascending_kept}
use Rattle.image_lower.proofs.LoweringLaws.{by_base}
use Rattle.image_lower.proofs.lowering.lower_all.Goals as goal

pub trees_code-requires-clause-notes : goal.trees_code-requires-clause-notes
trees_code-requires-clause-notes c = ascending_kept c.args.notes.now c.deref.result.now (ap (λ (xs : List (Bor JumpNote)). map (λ n. n.now) xs) c.deref.ensures.value ∙ c.in_ok-sorted.ensures) c.requires.notes.each

pub lower_at-requires-clause-notes : goal.lower_at-requires-clause-notes
lower_at-requires-clause-notes c = ascending_kept c.args.notes.now c.deref-2.result.now (ap (λ (xs : List (Bor JumpNote)). map (λ n. n.now) xs) c.deref-2.ensures.value ∙ c.in_ok-sorted.ensures) c.requires.notes.each

pub returns : goal.returns
returns c =
    let same : c.in_ok-code.code.items ≡ trees_code c.args.view.now 0 (ascending_notes c.args.notes.now) =
    c.in_ok-code.ensures.code ∙ ap (trees_code c.args.view.now 0) (ap (λ (xs : List (Bor JumpNote)). map (λ n. n.now) xs) c.deref.ensures.value ∙ c.in_ok-sorted.ensures) in
    let l : length c.in_ok-code.code.items ≡ length (trees_code c.args.view.now 0 (ascending_notes c.args.notes.now)) = ap (λ (xs : List Instr). length xs) same in
    let k = c.len.ensures in
    by_base _ c.lower_at.result c.args.view.now c.args.notes.now (4 * c.len.result) c.stub_base-base.result (omega (arith, l, k)) c.stub_base-base.ensures c.lower_at.ensures
