use Rattle.std.proofs.Common.{◌∙◌, ap, rules, sym}
use Rattle.std.specs.Int.{w32}
use Rattle.std.specs.Prelude.{FitsSigned}
use Rattle.std.proofs.lemmas.Int.{to_z-of_z}
use Rattle.scale_base.specs.Arith.{unsigned}
use Rattle.stack_laws.specs.Areas.IsAccess.{loads, stores}
use Rattle.walk_checks.proofs.touching.access_of.Goals as goal

pub returns-in-Load : goal.returns-in-Load
returns-in-Load c =
    let word : FitsSigned w32 c.in-Load.offset = search rules in
    loads c.in-Load.op c.in-Load.rd c.in-Load.offset c.in-Load.is (sym (c.cast_unsigned.ensures ∙ ap unsigned (to_z-of_z w32 c.in-Load.offset word)))

pub returns-in-Store : goal.returns-in-Store
returns-in-Store c =
    let word : FitsSigned w32 c.in-Store.offset = search rules in
    stores c.in-Store.op c.in-Store.rs2 c.in-Store.offset c.in-Store.is (sym (c.cast_unsigned-in-Store.ensures ∙ ap unsigned (to_z-of_z w32 c.in-Store.offset word)))
