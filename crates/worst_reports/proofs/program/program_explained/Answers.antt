use Rattle.loop_file.specs.Kept.{noted_loops}
use Rattle.scaler.proofs.Laws.{timed_are, timed_count, timed_short, timed_slow, timed_total}
use Rattle.worst_reports.proofs.ProgramFacts.{plain_lines, tops}
use Rattle.worst_reports.proofs.program.program_explained.Goals as goal

pub known_lines-requires : goal.known_lines-requires
known_lines-requires c = record {
  tree = ((noted_loops c.args.sources.now.notes).inside, c.in_ok-timed.ensures.tree_is.tree);
  weights_size = timed_count c.args.sources.now.power c.args.sources.now.view c.args.sources.now.notes c.in_ok-timed.timed c.in_ok-timed.ensures;
  worst_size = c.in_ok-timed.ensures.worst_is.size;
  sizes = c.in_ok-timed.ensures.sizes;
}

pub returns : goal.returns
returns c =
    let power = c.args.sources.now.power in
    let image = c.args.sources.now.view in
    let notes = c.args.sources.now.notes in
    let p = c.in_ok-timed.timed in
    let h = c.in_ok-timed.ensures in
    let total = c.total-total.result in
    record {
      code = p.graph;
      tree = p.tree;
      numbers = h.worst_is.numbers.0;
      code_is = h.code_is;
      tree_is = h.tree_is;
      numbers_are = timed_are power image notes p h;
      short = timed_short power image notes p h;
      worst = timed_total power image notes p h total c.total-total.ensures;
      start = p.start;
      in_time = timed_slow power image notes p h;
      lines = plain_lines power image notes p h total c.total-total.ensures image.file c.in_ok-lines.lines (c.in_ok-lines.ensures total c.total-total.ensures (tops power image notes p h));
    }
