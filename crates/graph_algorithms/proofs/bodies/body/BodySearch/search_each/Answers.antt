use Rattle.std.proofs.Common.{rules, refl, ℕ, ◌≡◌, ◌∙◌, ◌+◌, ◌<◌, ◌↔◌, ◌⊎◌, length, replicate, ap, sym, subst, Some}
use Rattle.std.specs.Prelude.{slice_get}
use Rattle.std.proofs.lemmas.List.{take_at}
use Rattle.std.proofs.lemmas.Option.{slice_get-get_or}
use Rattle.graph_algorithms.specs.Edges.{AreEdges}
use Rattle.graph_algorithms.specs.Bodies.{IsBody, IsIn, AreNodes, in_node_ranges}
use Rattle.graph_algorithms.specs.Groups.{IsFlagged, IsLed}
use Rattle.graph_algorithms.proofs.GroupLaws.{AreBitsBelow, below_none, below_next, below_bodies, body_nodes, led_bits}
use Rattle.graph_algorithms.proofs.bodies.body.BodySearch.search_each.Goals as goal

pub loop-bit-init : goal.loop-bit-init
loop-bit-init c =
    let zeros : c.in_ok-words.words.items ≡ replicate {A = ℕ} c.args.self.now.count 0 = search rules in
    record { same = refl; bits = below_none c.args.loops.now c.args.self.now.count (λ v i loop. IsLed c.args.self.now v loop) c.in_ok-words.words.items zeros }

pub body-requires : goal.body-requires
body-requires c =
    let lt : c.loop-bit.bit < length c.args.loops.now = search rules in
    let low = (c.requires.header c.loop-bit.bit c.index-loops-bit.result (slice_get-get_or c.args.loops.now c.loop-bit.bit c.index-loops-bit.result lt ∙ ap Some (sym c.index-loops-bit.is))).0 in
    subst (λ s. c.index-loops-bit.result.header < s.count) (sym c.loop-bit.invariant.same) low

pub add_body-requires-clause-nodes : goal.add_body-requires-clause-nodes
add_body-requires-clause-nodes c =
    let is : IsBody c.args.self.now.sources c.args.self.now.targets (in_node_ranges c.deref.result.now) c.index-loops-bit.result.header c.in_ok-body.body.items =
    subst (λ s. IsBody s.sources s.targets (in_node_ranges c.deref.result.now) c.index-loops-bit.result.header c.in_ok-body.body.items) c.loop-bit.invariant.same c.in_ok-body.ensures.body in
    let ends : AreEdges c.args.self.now.sources c.args.self.now.targets c.args.self.now.count = search rules in
    let size : c.args.self.now.count ≡ length c.deref_mut.result.now = sym (ap length c.deref_mut.ensures.value ∙ c.loop-bit.invariant.bits.size) in
    subst (λ n. AreNodes n c.deref-in-loop-bit.result.now) size (subst (AreNodes c.args.self.now.count) (sym c.deref-in-loop-bit.ensures.value)
    (body_nodes c.args.self.now ends (in_node_ranges c.deref.result.now) c.index-loops-bit.result.header c.in_ok-body.body.items is))

pub loop-bit-preserved : goal.loop-bit-preserved
loop-bit-preserved c =
    let lt : c.loop-bit.bit < length c.args.loops.now = search rules in
    let at : slice_get c.args.loops.now c.loop-bit.bit ≡ Some c.index-loops-bit.result = slice_get-get_or c.args.loops.now c.loop-bit.bit c.index-loops-bit.result lt ∙ ap Some (sym c.index-loops-bit.is) in
    let inside = (c.requires.header c.loop-bit.bit c.index-loops-bit.result at).1 in
    let is : IsBody c.args.self.now.sources c.args.self.now.targets (in_node_ranges c.index-loops-bit.result.ranges.items) c.index-loops-bit.result.header c.in_ok-body.body.items =
    subst (λ xs. IsBody c.args.self.now.sources c.args.self.now.targets (in_node_ranges xs) c.index-loops-bit.result.header c.in_ok-body.body.items) c.deref.ensures.value
    (subst (λ s. IsBody s.sources s.targets (in_node_ranges c.deref.result.now) c.index-loops-bit.result.header c.in_ok-body.body.items) c.loop-bit.invariant.same c.in_ok-body.ensures.body) in
    record {
      same = c.in_ok-body.ensures.same ∙ c.loop-bit.invariant.same;
      bits = subst (AreBitsBelow c.args.loops.now c.args.self.now.count (λ v i loop. IsLed c.args.self.now v loop) (c.loop-bit.bit + 1)) (sym (take_at c.add_body.new.words _ c.loop-bit.words.len (c.add_body.ensures.size ∙ c.deref_mut.ensures.len)))
          (below_next c.args.loops.now c.args.self.now.count (λ v i loop. IsLed c.args.self.now v loop) c.loop-bit.bit c.index-loops-bit.result c.loop-bit.words.items c.add_body.new.words at (c.add_body.ensures.size ∙ ap length c.deref_mut.ensures.value)
          (led_bits c.args.self.now c.index-loops-bit.result c.loop-bit.bit c.loop-bit.words.items c.add_body.new.words c.in_ok-body.body.items is inside
          (subst (λ xs. (v i : ℕ) → IsFlagged c.add_body.new.words v i ↔ (IsFlagged xs v i ⊎ (IsIn c.in_ok-body.body.items v × (i ≡ c.loop-bit.bit)))) c.deref_mut.ensures.value
          (subst (λ ys. (v i : ℕ) → IsFlagged c.add_body.new.words v i ↔ (IsFlagged c.deref_mut.result.now v i ⊎ (IsIn ys v × (i ≡ c.loop-bit.bit)))) c.deref-in-loop-bit.ensures.value c.add_body.ensures.bits)))
          c.loop-bit.invariant.bits);
    }

pub returns-clause-bodies : goal.returns-clause-bodies
returns-clause-bodies c = below_bodies c.args.self.now c.args.loops.now c.loop-bit.bit c.loop-bit.words.items (search rules) c.loop-bit.invariant.bits
