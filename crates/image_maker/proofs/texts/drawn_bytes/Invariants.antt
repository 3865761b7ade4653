use Rattle.std.proofs.Common.{◌≡◌}
use Rattle.image_maker.specs.Drawing.{after_draws}
use Rattle.image_maker.specs.MadeTexts.{drawn_bytes}
use Rattle.image_maker.proofs.texts.drawn_bytes.Given as goal

abbrev pub invariant-loop : goal.invariant-loop
invariant-loop l = record {
  bytes : l.bytes.items ≡ drawn_bytes l.fn.draws.state l.counter;
  state : l.draws.state ≡ after_draws l.fn.draws.state l.counter;
}
