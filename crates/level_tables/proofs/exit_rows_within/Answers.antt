use Rattle.std.proofs.Common.{◌≡◌, length, refl, ap, ◌∙◌, arith}
use Rattle.std.proofs.lemmas.List.FromFn.{length-map-range_with_len}
use Rattle.level_tables.specs.Tables.{at_row, row_by, trips_left, word_by}
use Rattle.level_tables.specs.Budgets.{meets_in_budget, budget_at}
use Rattle.level_tables.proofs.Entries.{rows-more}
use Rattle.level_tables.proofs.exit_rows_within.Goals as goal

pub push-requires : goal.push-requires
push-requires c =
    let so_far : length c.loop-j.rows ≡ c.loop-j.j =
    ap length c.loop-j.invariant.rows ∙ length-map-range_with_len (row_by c.args.power.now (meets_in_budget c.args.power.now (budget_at c.args.budgets.now)) c.args.bound c.args.iteration c.args.edge.now) 0 c.loop-j.j in
    let small = c.shift-s.ensures.least.small in
    omega (arith, so_far, small)

pub loop-j-preserved : goal.loop-j-preserved
loop-j-preserved c =
    let test = meets_in_budget c.args.power.now (budget_at c.args.budgets.now) in
    let row : c.at_row-row.result ≡ at_row c.args.bound c.args.iteration c.shift-s.result c.args.edge.now c.loop-j.j =
    c.at_row-row.ensures ∙ ap (at_row c.args.bound c.args.iteration c.shift-s.result c.args.edge.now) c.from.ensures in
    record {
      rows = c.push.ensures ∙ rows-more c.args.power.now test c.args.bound c.args.iteration c.shift-s.result c.args.edge.now c.loop-j.rows c.loop-j.j (trips_left c.args.bound c.shift-s.result c.loop-j.j) c.word_within.result
          c.shift-s.ensures.shift c.loop-j.invariant.rows refl (c.word_within.ensures.word ∙ ap (word_by c.args.power.now test) row);
    }
