use Rattle.std.proofs.Common.{ℕ, ◌≡◌, ◌∙◌, Some, ap, subst, sym}
use Rattle.std.specs.Int.{w32}
use Rattle.std.proofs.lemmas.Int.{to_z-of_z}
use Rattle.scale_base.specs.Arith.{unsigned}
use Rattle.bound_laws.specs.Values.{Covers, exactly, first_by, held}
use Rattle.stack_laws.specs.Telling.{compared_with, test_where}
use Rattle.stack_laws.specs.Telling.IsCompared.{with_number}
use Rattle.stack_checks.specs.Checked.{from, values_along}
use Rattle.stack_checks.proofs.telling.is_number_compared.Goals as goal

pub returns-in-Some : goal.returns-in-Some
returns-in-Some c so =
    let number : c.cast_unsigned.result ≡ unsigned c.args.n = c.cast_unsigned.ensures ∙ ap unsigned (to_z-of_z w32 c.args.n c.ranges.n) in
    let same : c.compared_with.result ≡ compared_with c.args.op (unsigned c.args.n) = c.compared_with.ensures ∙ ap (compared_with c.args.op) number in
    with_number c.args.op c.in-Some.test c.args.n c.requires.instruction (sym c.imm_test.ensures ∙ c.in-Some.is)
    (subst (λ (n : ℕ). Covers (Some c.args.y.now.arc) (first_by (test_where c.args.y.now.zero c.in-Some.test) (held ((values_along c.args.way.now).at (from c.args.way.now)) c.args.y.now.about) (exactly n))) same (c.is_told_by_number.ensures so))
