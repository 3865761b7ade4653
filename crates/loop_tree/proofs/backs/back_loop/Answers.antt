use Rattle.std.proofs.Common.{◌≡◌, ◌<◌, ℕ, length, Some, Vec, Global, refl, sym, ap, ◌∙◌, subst, arith, rules, slice_get, true, false}
use Rattle.std.proofs.lemmas.List.{length-map}
use Rattle.std.proofs.lemmas.Option.{same_Some}
use Rattle.cost_theory.specs.Lists.{body_of, is_among}
use Rattle.flow_graph.specs.FlowGraph.{graph}
use Rattle.graph_algorithms.specs.Nesting.{bodies_of}
use Rattle.loop_forest.specs.Stored.{IsRising}
use Rattle.loop_tree.proofs.Lists.{body_read}
use Rattle.loop_tree.proofs.BackLaws.{back_headed, back_is, back_is_none}
use Rattle.loop_tree.proofs.backs.back_loop.Goals as goal

pub returns-in_err-number : goal.returns-in_err-number
returns-in_err-number c =
    let target = c.in_ok-to.ensures.some c.in_ok-to.to refl in
    λ k. (
      λ e. let clash = sym c.from_residual-in_err-number.ensures ∙ e in absurd (cc clash),
      λ is. let clash = sym c.in_err-number.was ∙ back_headed c.args.graph.now c.args.headers.now (bodies_of c.args.bodies.now) c.args.heads.now c.args.e k c.in_ok-to.to c.requires.flow c.requires.loops c.requires.heads target (c.in_ok-to.ensures.within c.in_ok-to.to refl) is in
          absurd (cc clash),
    )

pub offset_bounds-bodies-number : goal.offset_bounds-bodies-number
offset_bounds-bodies-number c =
    let size = c.requires.loops.size in
    let same : length (bodies_of c.args.bodies.now) ≡ length c.args.bodies.now = length-map c.args.bodies.now (λ (body : Vec ℕ Global). body.items) in
    let within : c.in_ok-number.number < length c.args.headers.now = (c.requires.heads.headed c.in_ok-to.to c.in_ok-number.number c.in_ok-number.was).0 in
    let lt : c.in_ok-number.number < length c.args.bodies.now = omega arith in
    search rules

pub bounds-bodies-number : goal.bounds-bodies-number
bounds-bodies-number c =
    let size = c.requires.loops.size in
    let same : length (bodies_of c.args.bodies.now) ≡ length c.args.bodies.now = length-map c.args.bodies.now (λ (body : Vec ℕ Global). body.items) in
    let within : c.in_ok-number.number < length c.args.headers.now = (c.requires.heads.headed c.in_ok-to.to c.in_ok-number.number c.in_ok-number.was).0 in
    omega arith

pub has_number-requires : goal.has_number-requires
has_number-requires c =
    let size = c.requires.loops.size in
    let same : length (bodies_of c.args.bodies.now) ≡ length c.args.bodies.now = length-map c.args.bodies.now (λ (body : Vec ℕ Global). body.items) in
    let within : c.in_ok-number.number < length c.args.headers.now = (c.requires.heads.headed c.in_ok-to.to c.in_ok-number.number c.in_ok-number.was).0 in
    let lt : c.in_ok-number.number < length c.args.bodies.now = omega arith in
    subst IsRising (body_read c.args.bodies.now c.in_ok-number.number c.index-bodies-number.result lt c.index-bodies-number.is ∙ sym c.deref.ensures.value)
    ((c.requires.loops.body c.in_ok-number.number within).ascending)

pub returns-then-has_number : goal.returns-then-has_number
returns-then-has_number c =
    let size = c.requires.loops.size in
    let same : length (bodies_of c.args.bodies.now) ≡ length c.args.bodies.now = length-map c.args.bodies.now (λ (body : Vec ℕ Global). body.items) in
    let within : c.in_ok-number.number < length c.args.headers.now = (c.requires.heads.headed c.in_ok-to.to c.in_ok-number.number c.in_ok-number.was).0 in
    let lt : c.in_ok-number.number < length c.args.bodies.now = omega arith in
    let among : is_among c.source-from.result (body_of (bodies_of c.args.bodies.now) c.in_ok-number.number) ≡ true =
    ap (is_among c.source-from.result) (body_read c.args.bodies.now c.in_ok-number.number c.index-bodies-number.result lt c.index-bodies-number.is ∙ sym c.deref.ensures.value) ∙ sym c.has_number.ensures ∙ c.if-has_number.true in
    let source : slice_get c.args.graph.now.code.nodes c.source-from.result ≡ Some ((graph c.args.graph.now).source c.args.e) = c.source-from.ensures.node in
    λ k. let is = back_is c.args.graph.now c.args.headers.now (bodies_of c.args.bodies.now) c.args.heads.now c.args.e c.in_ok-to.to c.in_ok-number.number c.source-from.result c.requires.flow c.requires.loops c.requires.heads
    (c.in_ok-to.ensures.some c.in_ok-to.to refl) (c.in_ok-to.ensures.within c.in_ok-to.to refl) c.in_ok-number.was source among k in
    ((λ e. is.0 (same_Some c.in_ok-number.number k e)), (λ b. ap Some (is.1 b)))

pub returns-else-has_number : goal.returns-else-has_number
returns-else-has_number c =
    let size = c.requires.loops.size in
    let same : length (bodies_of c.args.bodies.now) ≡ length c.args.bodies.now = length-map c.args.bodies.now (λ (body : Vec ℕ Global). body.items) in
    let within : c.in_ok-number.number < length c.args.headers.now = (c.requires.heads.headed c.in_ok-to.to c.in_ok-number.number c.in_ok-number.was).0 in
    let lt : c.in_ok-number.number < length c.args.bodies.now = omega arith in
    let none : is_among c.source-from.result (body_of (bodies_of c.args.bodies.now) c.in_ok-number.number) ≡ false =
    ap (is_among c.source-from.result) (body_read c.args.bodies.now c.in_ok-number.number c.index-bodies-number.result lt c.index-bodies-number.is ∙ sym c.deref.ensures.value) ∙ sym c.has_number.ensures ∙ c.if-has_number.false in
    let source : slice_get c.args.graph.now.code.nodes c.source-from.result ≡ Some ((graph c.args.graph.now).source c.args.e) = c.source-from.ensures.node in
    λ k. (
      (λ e. let bad : ⊥ = cc in absurd bad),
      (λ b. absurd (back_is_none c.args.graph.now c.args.headers.now (bodies_of c.args.bodies.now) c.args.heads.now c.args.e c.in_ok-to.to c.in_ok-number.number c.source-from.result c.requires.flow c.requires.loops c.requires.heads
          (c.in_ok-to.ensures.some c.in_ok-to.to refl) (c.in_ok-to.ensures.within c.in_ok-to.to refl) c.in_ok-number.was source none k b)),
    )
