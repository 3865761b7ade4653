use Rattle.std.proofs.Common.{sym, arith}
use Rattle.copy_checks.proofs.Lists.{round_low}
use Rattle.copy_checks.proofs.meanings.piece_round.Goals as goal

pub returns-then-v-copied : goal.returns-then-v-copied
returns-then-v-copied c = sym (round_low c.args.copied.now.base c.args.copied.now.pieces.now c.args.v (let lt = c.if-v-copied.true in omega (arith, lt)))
