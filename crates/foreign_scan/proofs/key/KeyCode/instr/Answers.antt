use Rattle.std.proofs.Common.{◌∙◌, sym}
use Rattle.scale_base.specs.Image.{loaded_byte}
use Rattle.scale_base.specs.State.{word_at}
use Rattle.foreign_scan.proofs.KeyLaws.{instr_there, word_of_instr}
use Rattle.foreign_scan.proofs.key.KeyCode.instr.Goals as goal

pub returns-in-Some : goal.returns-in-Some
returns-in-Some c = instr_there c.args.self.now c.args.at c.in-Some.word c.decode.result ((c.word.ensures c.in-Some.word).0 c.in-Some.is) c.decode.ensures.read

pub returns-in-None : goal.returns-in-None
returns-in-None c =
    λ i. (λ none. absurd cc, λ h. let e = sym c.in-None.is ∙ (c.word.ensures (word_at (loaded_byte c.args.self.now) c.args.at)).1 (word_of_instr c.args.self.now c.args.at i h) in absurd cc)
