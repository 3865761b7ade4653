use Rattle.std.proofs.Common.{rules, refl, sym, subst}
use Rattle.loop_tree.specs.Passes.{IsExtent}
use Rattle.loop_tree.proofs.HeaderLaws.{note_is}
use Rattle.loop_tree.proofs.GroupLaws.{extents_none, extents_next, numbered_header}
use Rattle.loop_tree.proofs.natural.extent.group_extents.Goals as goal

pub loop-k-init : goal.loop-k-init
loop-k-init c = extents_none c.args.noted.now.graph.now c.args.noted.now.notes.now c.args.noted.now.headers.now c.args.numbers.first c.new-loops.result.items (search rules)

pub extent_of-requires-clause-header : goal.extent_of-requires-clause-header
extent_of-requires-clause-header c = numbered_header c.args.noted.now.graph.now c.args.noted.now.notes.now c.args.noted.now.headers.now c.requires.headers c.loop-k.k c.note.result.now c.note.ensures.note

pub loop-k-preserved : goal.loop-k-preserved
loop-k-preserved c =
    extents_next c.args.noted.now.graph.now c.args.noted.now.notes.now c.args.noted.now.headers.now c.args.numbers.first c.loop-k.k _ c.loop-k.loops.items c.push.new.self.items c.in_ok-push.ensures.items refl
    (subst (λ note. IsExtent c.args.noted.now.graph.now note c.in_ok-ranges.ranges.items) (sym (note_is c.args.noted.now.notes.now c.loop-k.k c.note.result.now c.note.ensures.note)) c.in_ok-ranges.ensures)
    c.loop-k.invariant
