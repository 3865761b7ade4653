use Rattle.std.proofs.Common.{rules, ◌≡◌, ◌∙◌, ◌≤◌, ℕ, List, [], length, map, replicate, sym, ap, subst, arith}
use Rattle.std.proofs.lemmas.List.{length-map, length-replicate}
use Rattle.loop_file.specs.declared.notes.LoopNote.{LoopNote}
use Rattle.loop_file.specs.Notes.{AreLoopNotes, relaxed_note}
use Rattle.keep_monitor.specs.Steps.{AreTurning}
use Rattle.keep_monitor.proofs.CounterLaws.{relaxed_idle, relaxed_fit, counts_none}
use Rattle.keep_monitor.proofs.counter.LoopCounter.new.Goals as goal

pub invariant_of-result : goal.invariant_of-result
invariant_of-result c =
    let notes : List LoopNote = c.args.notes in
    let relaxed : List LoopNote = c.in_ok-relaxed.relaxed in
    let is : relaxed ≡ map relaxed_note notes = c.in_ok-relaxed.ensures in
    let long : length relaxed ≡ length notes = ap length is ∙ length-map notes relaxed_note in
    let counts : c.in_ok-counts.counts.items ≡ replicate (length notes) 0 = (let e : c.in_ok-counts.counts.items ≡ replicate c.count.result 0 = search rules in e) ∙ ap (λ n. replicate n 0) c.count.ensures.count in
    let most : c.in_ok-most.most.items ≡ replicate (length notes) 0 = (let e : c.in_ok-most.most.items ≡ replicate c.count-2.result 0 = search rules in e) ∙ ap (λ n. replicate n 0) c.count-2.ensures.count in (
      record {
        relaxed_is = is;
        notes_fit = c.count.ensures.in_range;
        monitor = record {
          notes_fit = subst AreLoopNotes (sym is) (relaxed_fit notes c.count.ensures.in_range);
          headers_fit = c.in_ok-headers.ensures;
          turning_fit = subst (λ (ns : List LoopNote). AreTurning ns (length ns) []) (sym is) (relaxed_idle notes);
          counts_fit = counts_none relaxed c.in_ok-counts.counts.items (counts ∙ ap (λ n. replicate n 0) (sym long));
          shallow = omega (arith, c.in_ok-returns.ensures.len);
          spare = omega (arith, c.in_ok-returns.ensures.capacity);
        };
        turning_fit = c.in_ok-turning.ensures;
        size = ap length most ∙ length-replicate (length notes) 0;
        bounded = λ e. counts_none notes c.in_ok-counts.counts.items counts;
      },
      c.in_ok-slots.ensures,
    )
