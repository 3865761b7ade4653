use Rattle.std.proofs.Common.{◌≡◌, ◌*◌, ◌/◌, ◌%◌, ◌^◌, ℕ, true, sym, ap, ◌∙◌, arith, below_more}
use Rattle.image_check.proofs.EntryLaws.{good_entry}
use Rattle.image_check.proofs.entries.word_level.Goals as goal

pub loop-i-preserved : goal.loop-i-preserved
loop-i-preserved c =
    let entry : ℕ → ℕ = λ n. c.args.word / 2 ^ (4 * n) % 16 in
    let number : c.from.result ≡ c.loop-i.i = cc in
    let good : c.is_safe.result ≡ true = grind arith in
    record {
      few = c.loop-i.invariant.few;
      fine = below_more _ _ c.loop-i.invariant.fine (good_entry c.args.power.now c.args.told.now c.args.word c.loop-i.i (entry c.from.result) (ap entry number) (sym c.is_safe.ensures ∙ good));
    }
