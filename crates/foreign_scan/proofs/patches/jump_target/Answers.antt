use Rattle.std.proofs.Common.{◌∙◌, ap, sym, Some, w32, rules}
use Rattle.std.specs.Prelude.{FitsSigned, option_map}
use Rattle.std.proofs.lemmas.Int.{to_z-of_z}
use Rattle.scale_base.specs.Arith.{moved_by}
use Rattle.foreign_scan.specs.Parts.{goto_of}
use Rattle.foreign_scan.proofs.patches.jump_target.Goals as goal

pub returns-in-Some : goal.returns-in-Some
returns-in-Some c =
    let f : FitsSigned w32 c.in-Some.offset = search rules in
    ap Some (c.moved.ensures ∙ ap (moved_by c.args.at) (to_z-of_z w32 c.in-Some.offset f))
    ∙ ap (option_map (moved_by c.args.at)) (sym c.in-Some.is ∙ (c.goto_offset.ensures ∙ ap goto_of c.instr_at.ensures))

pub returns-in-None : goal.returns-in-None
returns-in-None c = ap (option_map (moved_by c.args.at)) (sym c.in-None.is ∙ (c.goto_offset.ensures ∙ ap goto_of c.instr_at.ensures))
