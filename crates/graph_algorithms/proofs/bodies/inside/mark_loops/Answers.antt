use Rattle.std.proofs.Common.{rules, ℕ, ◌≡◌, ◌<◌, ◌↔◌, ◌⊎◌, ◌∙◌, length, ap, sym, subst, Some}
use Rattle.std.specs.Prelude.{slice_get}
use Rattle.std.proofs.lemmas.Option.{slice_get-get_or}
use Rattle.graph_algorithms.specs.Groups.{IsFlagged, IsChange}
use Rattle.graph_algorithms.proofs.InsideLaws.{loops_next, loops_all}
use Rattle.graph_algorithms.proofs.bodies.inside.mark_loops.Goals as goal

pub loop-bit-preserved : goal.loop-bit-preserved
loop-bit-preserved c =
    let lt : c.loop-bit.bit < length c.args.loops.now = search rules in
    let at : slice_get c.args.loops.now c.loop-bit.bit ≡ Some c.index-loops-bit.result = slice_get-get_or c.args.loops.now c.loop-bit.bit c.index-loops-bit.result lt ∙ ap Some (sym c.index-loops-bit.is) in
    record {
      size = c.mark_changes.ensures.size ∙ c.loop-bit.invariant.size;
      marked = loops_next c.args.loops.now (length c.args.changes.now) c.loop-bit.bit c.index-loops-bit.result c.loop-bit.changes c.mark_changes.new.changes at c.loop-bit.invariant.size
          (subst (λ xs. (v i : ℕ) → IsFlagged c.mark_changes.new.changes v i ↔ (IsFlagged c.loop-bit.changes v i ⊎ ((i ≡ c.loop-bit.bit) × (v < length c.loop-bit.changes) × IsChange xs v))) c.deref.ensures.value c.mark_changes.ensures.bits) c.loop-bit.invariant.marked;
    }

pub returns-clause-bits : goal.returns-clause-bits
returns-clause-bits c = loops_all c.args.loops.now (length c.args.changes.now) c.loop-bit.bit c.loop-bit.changes (search rules) c.loop-bit.invariant.marked
