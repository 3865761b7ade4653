use Rattle.std.proofs.Common.{refl}
use Rattle.jump_proofs.proofs.Shown.{runs_back, shown_proved}
use Rattle.jump_proofs.proofs.proving.proof_by.Goals as goal

pub returns : goal.returns
returns c = record {
  jumps = λ small. shown_proved c.table_words_hold.ensures.image c.args.original.now c.args.claim.now c.requires.claim (c.if-not-is_stack_analysed.ensures refl) (c.if-not-is_certain.ensures refl) (c.if-not-is_read_so.ensures refl) (c.in_ok-fixed.ensures c.if-not-fixed.false)
      c.args.notes.now c.in_ok-jumps.jumps.items c.in_ok-jumps.ensures small;
  returns = λ small back. runs_back c.args.claim.now c.requires.claim (c.if-not-is_stack_analysed.ensures refl) (c.if-not-is_certain.ensures refl) (c.comes_back-returns.ensures back) small;
}
