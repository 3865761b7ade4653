use Rattle.std.proofs.Common.{◌∙◌, ℕ, Option, ap, rules, subst, sym}
use Rattle.std.specs.Int.{w32}
use Rattle.std.specs.Prelude.{FitsSigned}
use Rattle.std.proofs.lemmas.Int.{to_z-of_z}
use Rattle.scale_base.specs.Arith.{unsigned}
use Rattle.bound_laws.specs.Values.{Arc, held, sum_with}
use Rattle.stack_laws.specs.Fixed.{GivesFixed}
use Rattle.stack_tables.specs.Tables.{fixed_in}
use Rattle.stack_checks.specs.Checked.{from, stacks_along, values_along}
use Rattle.stack_checks.proofs.Fixing.{gives_same}
use Rattle.stack_checks.proofs.fixed.is_fixed_loaded.Goals as goal

pub returns-then-rd-r : goal.returns-then-rd-r
returns-then-rd-r c so =
    let x = c.is_given.ensures so in
    let w = c.args.way.now in
    let word : FitsSigned w32 c.in-Load.offset = search rules in
    record {
      op = c.in-Load.op;
      rs1 = c.in-Load.rs1;
      offset = c.in-Load.offset;
      loads = cc (c.in-Load.is, c.if-rd-r.true);
      place = x.place;
      place_is = sym (c.sum_with.ensures.sum
          ∙ (ap (λ (h : Option Arc). sum_with h c.from.result) c.held_at.ensures.held
          ∙ ap (λ (n : ℕ). sum_with (held ((values_along w).at (from w)) c.in-Load.rs1) n) (c.from.ensures ∙ (c.cast_unsigned.ensures ∙ ap unsigned (to_z-of_z w32 c.in-Load.offset word))))) ∙ x.place_is;
      covers = subst (λ (o : Option Arc). GivesFixed (stacks_along w).fixed c.in-Load.op x.place o) c.arc_behind.ensures.arc
          (gives_same (fixed_in c.fixed_parts.result.now) (stacks_along w).fixed c.fixed_parts.ensures c.in-Load.op x.place c.arc_behind.result x.gives);
    }
