use Rattle.std.proofs.Common.{◌≡◌, ◌∙◌, sym, ap}
use Rattle.std.specs.Prelude.{IfSome}
use Rattle.scale_base.specs.Word.{Encodes}
use Rattle.rv_machine.proofs.CodeLaws.{fixed_made}
use Rattle.rv_machine.proofs.decoding.fixed_instr.Goals as goal

pub returns-in-Some : goal.returns-in-Some
returns-in-Some g c =
    let found = c.decode.ensures.found in
    fixed_made (g.M.Memory.layout c.args.memory.now) (g.M.Memory.bytes c.args.memory.now) c.args.at c.word_at.result c.in-Some.instr c.describe.result
    (sym c.in-Some.is ∙ c.decode.ensures.read) c.word_at.ensures (sym c.can_fetch.ensures ∙ c.if-can_fetch.true) (sym c.is_unwritten.ensures ∙ c.if-is_unwritten.true)
    (rw c.in-Some.is at found).0 c.describe.ensures.instr c.describe.ensures.tells
