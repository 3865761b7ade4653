use Rattle.std.proofs.Common.{◌-◌, ◌/◌, length, ap, arith, below_more}
use Rattle.std.proofs.lemmas.Bool.{iff_false}
use Rattle.flat_memory.specs.Lists.{list_bytes}
use Rattle.power_model.specs.Numbers.{PowerModel}
use Rattle.image_check.proofs.LastLaws.{some_level, no_level}
use Rattle.image_check.proofs.entries.table_level.Goals as goal

pub has_bad_last-requires-clause-rows : goal.has_bad_last-requires-clause-rows
has_bad_last-requires-clause-rows c = λ j small. let within = (c.places_before-places.ensures c.loop-i.i j (omega arith) small).within in omega (arith, within)

pub loop-i-preserved : goal.loop-i-preserved
loop-i-preserved c = record {
  few = c.loop-i.invariant.few;
  fine = below_more _ _ c.loop-i.invariant.fine (iff_false c.has_bad_last.ensures c.if-has_bad_last.false);
}

pub returns-then-has_bad_last : goal.returns-then-has_bad_last
returns-then-has_bad_last c =
    let start = c.args.table / 4 - c.args.rows.now.first in
    let even = c.requires.rows.0 in
    let low = c.requires.rows.1 in
    some_level c.args.power.now (list_bytes c.args.rows.now.memory) c.args.exit.now c.args.rows.now.first c.args.table start c.places_before-places.result (omega (arith, even, low)) c.loop-i.invariant.few c.places_before-places.ensures
    c.loop-i.i (let count = c.count-i-end.ensures.count in let same = ap (λ (p : PowerModel). length p.levels) c.power.view_is in omega (arith, count, same)) (c.has_bad_last.ensures.0 c.if-has_bad_last.true) c.loop-i.invariant.fine

pub returns : goal.returns
returns c =
    let start = c.args.table / 4 - c.args.rows.now.first in
    let even = c.requires.rows.0 in
    let low = c.requires.rows.1 in
    no_level c.args.power.now (list_bytes c.args.rows.now.memory) c.args.exit.now c.args.rows.now.first c.args.table start c.places_before-places.result (omega (arith, even, low)) c.loop-i.invariant.few c.places_before-places.ensures
    (λ k lt. c.loop-i.invariant.fine k (let count = c.count-i-end.ensures.count in let same = ap (λ (p : PowerModel). length p.levels) c.power.view_is in omega (arith, count, same, lt)))
