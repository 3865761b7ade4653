use Rattle.std.proofs.Common.{◌≡◌, ◌+◌, ◌≤◌, ◌++◌, ℕ, [], ◌∷◌, length, length-append, Vec, Global, Some, arith, ap, ◌∙◌}
use Rattle.scale_sites.proofs.CounterLaws.{set_more, set_skip, set_last}
use Rattle.scale_sites.proofs.counting.counted_of.Goals as goal
use Rattle.scale_sites.proofs.counting.counted_of.Goals.{then-counted+in_ok-push, else-counted}

pub loop-l-preserved : goal.loop-l-preserved
loop-l-preserved c =
    let few = c.loop-l.invariant.few in
    elim c.if-counted.branch [
      | then-counted+in_ok-push w ↦
          let items : c.if-counted.loops.items ≡ c.loop-l.loops.items ++ c.loop-l.l ∷ [] = ap (λ (v : Vec ℕ Global). v.items) w.loops-is ∙ w.in_ok-push.ensures.items in
          let longer : length c.if-counted.loops.items ≡ length (c.loop-l.loops.items ++ c.loop-l.l ∷ []) = ap length items in
          let more : length (c.loop-l.loops.items ++ c.loop-l.l ∷ []) ≡ length c.loop-l.loops.items + 1 = length-append c.loop-l.loops.items (c.loop-l.l ∷ []) in
          record {
            few = let r : length c.if-counted.loops.items ≤ c.loop-l.l + 1 = omega arith in r;
            found = rw items (set_more c.args.tree.now.counted c.loop-l.loops.items c.loop-l.l (c.counted.ensures ∙ ap Some w.if-counted.true) c.loop-l.invariant.found);
          }
      | else-counted w ↦
          let items : c.if-counted.loops.items ≡ c.loop-l.loops.items = ap (λ (v : Vec ℕ Global). v.items) w.loops-is in
          let longer : length c.if-counted.loops.items ≡ length c.loop-l.loops.items = ap length items in
          record {
            few = let r : length c.if-counted.loops.items ≤ c.loop-l.l + 1 = omega arith in r;
            found = rw items (set_skip c.args.tree.now.counted c.loop-l.loops.items c.loop-l.l (c.counted.ensures ∙ ap Some w.if-counted.false) c.loop-l.invariant.found);
          }
    ]

pub returns : goal.returns
returns c =
    let few = c.loop-l.invariant.few in
    let size = c.requires.counted in
    let count = c.loop_count-l-end.ensures.count in
    let most = c.loop_count-l-end.ensures.few in
    let last : c.loop-l.l ≡ length c.args.tree.now.counted = omega arith in
    record {
      counted = set_last c.args.tree.now.counted c.loop-l.loops.items c.loop-l.l last c.loop-l.invariant.found;
      few = let r : length c.loop-l.loops.items ≤ 4096 = omega arith in r;
    }
