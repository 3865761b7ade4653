use Rattle.std.proofs.Common.{◌≡◌, ◌+◌, ◌≤◌, length, sym, ◌∙◌, subst, arith}
use Rattle.scale_sites.specs.Marks.{AreBelow}
use Rattle.scale_sites.proofs.SiteLaws.{set_below}
use Rattle.scale_sites.proofs.sites.choose_where.Goals as goal

pub wanted_marks-requires-clause-marking : goal.wanted_marks-requires-clause-marking
wanted_marks-requires-clause-marking c =
    let size : length c.args.tree.now.counted ≡ length c.args.tree.now.headers = c.requires.tree.1.counted_size in
    record {
      flow = c.requires.flow;
      tree = c.requires.tree;
      counters = subst (λ xs. length xs ≤ 509) (sym c.as_slice.ensures) c.requires.few;
      below = subst (AreBelow (length c.args.tree.now.headers)) (sym (c.as_slice.ensures ∙ c.requires.counters))
          (set_below c.args.tree.now.counted 0 (length c.args.tree.now.headers) (let r : 0 + length c.args.tree.now.counted ≤ length c.args.tree.now.headers = omega arith in r));
    }
