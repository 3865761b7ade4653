-- What a line and an access say of a register.
use Rattle.std.proofs.Common.{◌≡◌, ℕ, true, Option, Some, None, sym, subst}
use Rattle.std.specs.Prelude.{IfSome, is_some}
use Rattle.bound_laws.specs.Registers.{Measure, keeps}
use Rattle.bound_laws.specs.Values.{Arc}
use Rattle.stack_laws.specs.Areas.{IsSolvedByAccess, IsSolvedTo}
use Rattle.stack_checks.specs.declared.ways.Way.{Way}
use Rattle.stack_checks.specs.declared.solving.Based.{Based}
use Rattle.stack_checks.specs.Checked.{IsAccessedAlong, IsBased, IsSolvedOn, from, passed_along, stacks_along, to, values_along}

-- an interval that is found solves the sum, where what finds it does
pub solves_if : (m : Measure) (line other found : Option Arc) → IsSolvedTo m line other found → IfSome found (λ s. IsSolvedTo m line other (Some s))
solves_if m line other None given = tt
solves_if m line other (Some s) given = given

pub solved_so : (x : Way) (r : ℕ) (b : Based) → IsBased x b → keeps r x.instr ≡ true → is_some (passed_along x r) ≡ true → IsSolvedOn x r b → IsSolvedByAccess (values_along x) (stacks_along x).areas x.instr (from x) (to x) r
solved_so x r b is left known on = record {
  left = left;
  known = known;
  number = on.number;
  form = on.form;
  is_side = on.is_side;
  register = on.register;
  more = b.more;
  place = b.place;
  accessed = subst (λ (s : ℕ). IsAccessedAlong x s b.more b.place) (sym on.other) is.accessed;
  solution = on.solution;
  solves = subst (λ (h : Option Arc). IsSolvedTo on.form ((values_along x).lines (from x) on.number) h on.solution) (sym is.held) on.solves;
  covers = on.covers;
}
