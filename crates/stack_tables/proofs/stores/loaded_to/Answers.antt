use Rattle.std.proofs.Common.{◌∙◌, ap, sym, Some}
use Rattle.stack_tables.proofs.Seen.{offset_is}
use Rattle.stack_tables.proofs.stores.loaded_to.Goals as goal

pub returns-in-Some : goal.returns-in-Some
returns-in-Some c = (sym c.in-Some-Some.ensures, sym c.in-Some-Some.ensures' ∙ ap Some (offset_is c.args.claim.now c.in-Some.number c.in-Some-Some.o c.in-Some.ensures.number))
