use Rattle.std.proofs.Common.{refl, sym, ap, ◌∙◌}
use Rattle.std.proofs.lemmas.Option.{same_Some}
use Rattle.cost_theory.specs.Reached.{number_or_0}
use Rattle.plan_graphs.proofs.functions.draw_function.Goals as goal

pub returns : goal.returns
returns c = λ told holds. record {
  number = refl;
  entry = sym (ap number_or_0 c.function-entry.ensures);
  worst = same_Some c.function.result (told.numbers.worst c.args.f) (sym c.function.ensures ∙ holds.worst c.args.f c.requires.function);
  calls = c.calls_of.ensures ∙ sym (holds.calls c.args.f);
}
