use Rattle.std.proofs.Common.{◌<◌, length, None, arith, inl, inr, refl, ◌∙◌}
use Rattle.worst_cycles.proofs.SearchLaws.{value_at, not_among}
use Rattle.worst_cycles.proofs.rests.Rests.search.Goals as goal

pub returns-then-m-len-clause-small : goal.returns-then-m-len-clause-small
returns-then-m-len-clause-small c = λ b some.
    let lt : c.in-Ok.m < length c.args.self.now.found.items = omega arith in
    c.requires.rests.small c.in-Ok.m b (value_at c.args.self.now.found.items c.in-Ok.m c.index.result.now None lt c.index.ensures ∙ some)

pub returns-in-Err-clause-rest : goal.returns-in-Err-clause-rest
returns-in-Err-clause-rest c =
    inr (refl, inl (not_among c.deref.result.now c.args.self.now.steps.items c.args.place c.in-Err.field-0 c.deref.ensures.value c.in-Err.ensures.position c.requires.rests.rise))
