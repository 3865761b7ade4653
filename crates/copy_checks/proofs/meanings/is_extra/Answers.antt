use Rattle.std.proofs.Common.{Bool, ap, sym, ◌∙◌, arith}
use Rattle.std.specs.Prelude.{◌||◌}
use Rattle.loop_versions.specs.Pieces.{in_extra}
use Rattle.copy_checks.proofs.Lists.{extra_low}
use Rattle.copy_checks.proofs.meanings.is_extra.Goals as goal

pub returns-then-v-copied : goal.returns-then-v-copied
returns-then-v-copied c = sym (ap (λ (b : Bool). b || in_extra c.args.copied.now.base c.args.copied.now.pieces.now c.args.v) (sym c.is_site.ensures ∙ c.if-is_site.false) ∙
    extra_low c.args.copied.now.base c.args.copied.now.pieces.now c.args.v (let lt = c.if-v-copied.true in omega (arith, lt)))
