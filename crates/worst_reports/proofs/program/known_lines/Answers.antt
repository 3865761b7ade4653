use Rattle.std.proofs.Common.{◌≡◌, sym, ap, ◌∙◌}
use Rattle.std.proofs.lemmas.Option.{same_Some}
use Rattle.scale_base.specs.Image.{Image}
use Rattle.worst_cycles.specs.Worst.{by_edge}
use Rattle.worst_reports.proofs.FoundLaws.{lines_found}
use Rattle.worst_reports.proofs.program.known_lines.Goals as goal

pub whole_cycles-requires-clause-taken : goal.whole_cycles-requires-clause-taken
whole_cycles-requires-clause-taken c = let sizes = rw c.in-Some.is at c.in_ok-counts.ensures.sizes in sizes.taken

pub whole_cycles-requires-clause-calls : goal.whole_cycles-requires-clause-calls
whole_cycles-requires-clause-calls c = let sizes = rw c.in-Some.is at c.in_ok-counts.ensures.sizes in sizes.calls

pub walk_lines-requires : goal.walk_lines-requires
walk_lines-requires c =
    let sizes = rw c.in-Some.is at c.in_ok-counts.ensures.sizes in
    let whole = rw c.in-Some-2.is at c.in_ok-all.ensures.sizes in
    record {
      tree = c.requires.tree;
      calls = sizes.calls;
      function_own = sizes.function_own;
      function_all = whole.functions;
      entries = sizes.entries;
      turns = sizes.turns;
      loop_own = sizes.loop_own;
      loop_all = whole.loops;
    }

pub returns : goal.returns
returns c = λ worst top tops.
    let same : c.total.result ≡ worst = same_Some c.total.result worst (sym c.total.ensures ∙ top) in
    let walk_all = rw c.in-Some.is at c.in_ok-counts.ensures.walk in
    let walk = walk_all worst top in
    let whole_all = rw c.in-Some-2.is at c.in_ok-all.ensures.whole in
    let whole = whole_all worst top tops walk in
    let found = rw same at c.walk_lines.ensures in
    lines_found c.walk_lines.result _ (by_edge c.args.known.now.weights.now) worst c.args.view.now.file
    (ap (λ (i : Image). i.file) c.in_ok-names.ensures) found (record { walk = walk; all = whole })
