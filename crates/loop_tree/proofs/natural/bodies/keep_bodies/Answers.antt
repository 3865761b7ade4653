use Rattle.std.proofs.Common.{rules, ◌∙◌, ◌∷◌, [], ap, map}
use Rattle.std.proofs.lemmas.List.{map-append}
use Rattle.loop_tree.proofs.ReadyLaws.{bodies_next}
use Rattle.loop_tree.proofs.natural.bodies.keep_bodies.Goals as goal

pub loop-k-preserved : goal.loop-k-preserved
loop-k-preserved c = record {
  same = search rules;
  bodies = bodies_next c.args.graph.now c.args.notes.now c.loop-k.k c.note.result.now c.in_ok-sorted_body.field-0.items _ _ c.note.ensures.note
      (ap (map (λ body. body.items)) c.in_ok-push.ensures.items ∙ map-append (λ body. body.items) c.loop-k.bodies.items (c.in_ok-sorted_body.field-0 ∷ []))
      (c.in_ok-sorted_body.ensures.body, c.in_ok-sorted_body.ensures.ascending) c.loop-k.invariant.bodies;
}
