use Rattle.std.proofs.Common.{◌≡◌, ℕ, List, vec_len, true, Ok, refl, ap, ◌∙◌, subst}
use Rattle.loop_file.specs.declared.notes.LoopNote.{LoopNote}
use Rattle.loop_drafts.specs.Countable.{AreCountable}
use Rattle.loop_drafts.specs.Drafted.{AreTaken}
use Rattle.loop_drafts.proofs.drafting.check_pieces.Goals as goal

pub returns : goal.returns
returns c =
    let same : c.in_ok-notes.notes ≡ c.args.wanted.now = c.if-not-are_wanted.ensures refl in
    let size : c.len-aside.result ≡ vec_len c.args.sketch.now.found.aside = c.len-aside.ensures in
    record {
      short = c.in_ok-notes.ensures.0;
      read = c.in_ok-notes.ensures.1 ∙ ap Ok same;
      taken = subst (λ (n : ℕ). AreTaken c.args.sketch.now.graph.now c.args.wanted.now n) size
          (subst (λ (ns : List LoopNote). AreTaken c.args.sketch.now.graph.now ns c.len-aside.result) same c.in_ok-check_loops.ensures);
      countable = subst (λ (n : ℕ). AreCountable c.args.sketch.now.graph.now c.args.wanted.now n) size
          (subst (λ (ns : List LoopNote). AreCountable c.args.sketch.now.graph.now ns c.len-aside.result) same (c.in_ok-taken.ensures c.if-not-taken.false));
    }
