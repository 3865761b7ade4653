use Rattle.std.proofs.Common.{rules, arith, refl, ℕ, ◌≡◌, length, replicate}
use Rattle.loop_tree.proofs.ReadyLaws.{entered_start, entered_end}
use Rattle.loop_tree.proofs.natural.entries.check_entries.Goals as goal

pub loop-first-init : goal.loop-first-init
loop-first-init c =
    let zeros : c.in_ok-depths.depths.items ≡ replicate {A = ℕ} c.node_count.result 0 = search rules in
    record {
      same = refl;
      within = omega arith;
      entered = entered_start c.args.graph.now c.args.notes.now c.node_count.result c.in_ok-depths.depths.items c.node_count.ensures.count zeros;
    }

pub returns-clause-entries : goal.returns-clause-entries
returns-clause-entries c =
    let within = c.loop-first.invariant.within in
    let end : c.loop-first.first ≡ length c.args.notes.now = search rules in
    entered_end c.args.graph.now c.args.notes.now c.loop-first.first c.loop-first.depths.items end c.loop-first.invariant.entered
