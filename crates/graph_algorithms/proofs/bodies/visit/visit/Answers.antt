use Rattle.std.proofs.Common.{rules, ◌≡◌, true, false, sym, ap, subst, ◌∙◌, inl, inr, ⊎_elim, slice_set, length}
use Rattle.std.specs.Prelude.{slice_get}
use Rattle.graph_algorithms.specs.Bodies.{in_node_ranges}
use Rattle.graph_algorithms.specs.BodySearch.{is_marked_at, IsMarkedBody, BodyGrows}
use Rattle.graph_algorithms.proofs.BodyLaws.{push_cases, marked_add, grows_add}
use Rattle.graph_algorithms.proofs.bodies.visit.visit.Goals as goal

pub returns-in_ok-push-clause-marked : goal.returns-in_ok-push-clause-marked
returns-in_ok-push-clause-marked c =
    let none : is_marked_at c.args.found.now c.args.node ≡ false = search rules in
    subst (λ q. IsMarkedBody (slice_set c.args.found.now c.args.node true) q) (sym c.in_ok-push.ensures.items)
    (marked_add c.args.found.now c.args.body.now.items c.args.node c.requires.marked c.requires.within none)

pub returns-in_ok-push-clause-grows : goal.returns-in_ok-push-clause-grows
returns-in_ok-push-clause-grows c =
    subst (λ q. BodyGrows c.args.found.now c.args.body.now.items (slice_set c.args.found.now c.args.node true) q) (sym c.in_ok-push.ensures.items)
    (grows_add c.args.found.now c.args.body.now.items c.args.node c.requires.marked c.requires.within)

pub returns-in_ok-push-clause-only : goal.returns-in_ok-push-clause-only
returns-in_ok-push-clause-only c p v h =
    let inside : in_node_ranges c.args.extent.now c.args.node ≡ true = search rules in
    ⊎_elim (λ old. inl old) (λ (new : (p ≡ length c.args.body.now.items) × (v ≡ c.args.node)). inr (new.1, ap (in_node_ranges c.args.extent.now) new.1 ∙ inside))
    (push_cases c.args.body.now.items c.args.node p v (ap (λ xs. slice_get xs p) (sym c.in_ok-push.ensures.items) ∙ h))
