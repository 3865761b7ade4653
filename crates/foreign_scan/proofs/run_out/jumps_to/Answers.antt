use Rattle.std.proofs.Common.{◌≡◌, ◌∙◌, ◌+◌, ◌%◌, ◌^◌, ap, sym, Some, w32, of_z, rules}
use Rattle.std.proofs.lemmas.Bool.{eqb-true, eq-eqb}
use Rattle.std.proofs.lemmas.Int.{to_z-of_z}
use Rattle.std.specs.Prelude.{FitsSigned}
use Rattle.scale_base.specs.declared.instruction.Instr.TheVariants.{Jal}
use Rattle.foreign_scan.specs.Parts.{goto_of}
use Rattle.foreign_scan.proofs.ReadLaws.{same_some}
use Rattle.foreign_scan.proofs.RunOutLaws.{goto_from}
use Rattle.foreign_scan.proofs.run_out.jumps_to.Goals as goal

pub returns-in-Some : goal.returns-in-Some
returns-in-Some c =
    let z = c.in-Some.offset in
    let f : FitsSigned w32 c.in-Some.offset = search rules in
    let number : c.from.result ≡ of_z w32 z = c.from.ensures ∙ (c.cast_unsigned.ensures ∙ ap (of_z w32) (to_z-of_z w32 z f)) in
    let go : c.instr.result ≡ Some (Jal 0 z) = goto_from c.instr.result z (sym c.goto_offset.ensures ∙ c.in-Some.is) in (
      λ t. record { offset = z; jump = (c.instr.ensures (Jal 0 z)).0 go; there = ap (λ n. (c.args.at + n) % 2 ^ 32) (sym number) ∙ (eqb-true _ _ t ∙ c.from-in-Some.ensures) },
      λ j. let same : z ≡ j.offset = same_some z j.offset (sym c.in-Some.is ∙ (c.goto_offset.ensures ∙ ap goto_of ((c.instr.ensures (Jal 0 j.offset)).1 j.jump))) in
          eq-eqb _ _ (ap (λ n. (c.args.at + n) % 2 ^ 32) (number ∙ ap (of_z w32) same) ∙ (j.there ∙ sym c.from-in-Some.ensures)),
    )

pub returns-in-None : goal.returns-in-None
returns-in-None c =
    (λ t. absurd cc, λ j. absurd (let e = sym c.in-None.is ∙ (c.goto_offset.ensures ∙ ap goto_of ((c.instr.ensures (Jal 0 j.offset)).1 j.jump)) in cc))
