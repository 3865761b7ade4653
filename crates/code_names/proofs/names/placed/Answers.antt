use Rattle.std.proofs.Common.{sym, refl}
use Rattle.code_names.proofs.PlaceLaws.{place_is}
use Rattle.code_names.proofs.names.placed.Goals as goal

pub returns-in-Some : goal.returns-in-Some
returns-in-Some c = place_is c.args.sorted.now.file c.args.symbol.name.now c.args.at c.args.symbol.at _ c.in-Some.first _ c.if-at-symbol.false refl (sym c.in-Some.ensures) refl
