use Rattle.std.proofs.Common.{rules, ℕ, ◌≡◌, ◌∙◌, ◌↔◌, sym, subst, IfSome}
use Rattle.graph_algorithms.specs.Edges.{EdgeView}
use Rattle.graph_algorithms.specs.Groups.{HasBit, IsFlagged, IsInSpan, IsSpan, IsSideBit, AreBodyBits}
use Rattle.graph_algorithms.proofs.GroupLaws.{group_is}
use Rattle.graph_algorithms.proofs.SpanLaws.{bodies_in}
use Rattle.graph_algorithms.proofs.bodies.body.BodySearch.group.Goals as goal
use Rattle.graph_algorithms.proofs.bodies.body.BodySearch.group.Goals.{in-Some, in-None+in_ok-bodies-in-None}

pub search_together-requires-clause-span : goal.search_together-requires-clause-span
search_together-requires-clause-span c = subst (λ n. IsSpan n c.args.loops.now c.span_of-nodes.result) c.count-count.ensures.count c.span_of-nodes.ensures

pub find_aside-aside-requires-clause-nodes : goal.find_aside-aside-requires-clause-nodes
find_aside-aside-requires-clause-nodes c =
    let is : AreBodyBits c.args.self.now c.args.loops.now c.match-branch-2.bodies.items =
    elim c.match-branch-2.branch [
      | in-Some w ↦
          subst (λ b. AreBodyBits c.args.self.now c.args.loops.now b.items) (sym w.bodies-is)
          (subst (λ e. AreBodyBits e c.args.loops.now w.in-Some.bodies.items) c.self.view_is (subst (λ o. IfSome o (λ b. AreBodyBits c.self.inside.edges c.args.loops.now b.items)) w.in-Some.is c.in_ok-bodies.ensures))
      | in-None+in_ok-bodies-in-None w ↦
          subst (λ b. AreBodyBits c.args.self.now c.args.loops.now b.items) (sym w.bodies-is) w.in_ok-bodies-in-None.ensures.bodies
    ] in
    subst (λ xs. (v i : ℕ) → IsFlagged xs v i → IsInSpan c.span_of-nodes.result v) (sym c.deref.ensures.value)
    (bodies_in c.self.inside.edges c.args.self.now c.args.loops.now c.count-count.result c.match-branch-2.bodies.items c.span_of-nodes.result c.self.view_is c.count-count.ensures.count c.count-count.ensures.edges c.span_of-nodes.ensures is)

pub returns-clause-nodes : goal.returns-clause-nodes
returns-clause-nodes c =
    let is : AreBodyBits c.args.self.now c.args.loops.now c.match-branch-2.bodies.items =
    elim c.match-branch-2.branch [
      | in-Some w ↦
          subst (λ b. AreBodyBits c.args.self.now c.args.loops.now b.items) (sym w.bodies-is)
          (subst (λ e. AreBodyBits e c.args.loops.now w.in-Some.bodies.items) c.self.view_is (subst (λ o. IfSome o (λ b. AreBodyBits c.self.inside.edges c.args.loops.now b.items)) w.in-Some.is c.in_ok-bodies.ensures))
      | in-None+in_ok-bodies-in-None w ↦
          subst (λ b. AreBodyBits c.args.self.now c.args.loops.now b.items) (sym w.bodies-is) w.in_ok-bodies-in-None.ensures.bodies
    ] in
    bodies_in c.self.inside.edges c.args.self.now c.args.loops.now c.count-count.result c.match-branch-2.bodies.items c.span_of-nodes.result c.self.view_is c.count-count.ensures.count c.count-count.ensures.edges c.span_of-nodes.ensures is

pub returns-clause-group : goal.returns-clause-group
returns-clause-group c =
    let is : AreBodyBits c.args.self.now c.args.loops.now c.match-branch-2.bodies.items =
    elim c.match-branch-2.branch [
      | in-Some w ↦
          subst (λ b. AreBodyBits c.args.self.now c.args.loops.now b.items) (sym w.bodies-is)
          (subst (λ e. AreBodyBits e c.args.loops.now w.in-Some.bodies.items) c.self.view_is (subst (λ o. IfSome o (λ b. AreBodyBits c.self.inside.edges c.args.loops.now b.items)) w.in-Some.is c.in_ok-bodies.ensures))
      | in-None+in_ok-bodies-in-None w ↦
          subst (λ b. AreBodyBits c.args.self.now c.args.loops.now b.items) (sym w.bodies-is) w.in_ok-bodies-in-None.ensures.bodies
    ] in
    let same : c.match-branch-2.self ≡ c.args.self.now = search rules in
    let side : (i : ℕ) → HasBit c.find_aside-aside.result i ↔ IsSideBit c.args.self.now c.match-branch-2.bodies.items c.in_ok-headers.headers.items i =
    subst (λ (s : EdgeView). (i : ℕ) → HasBit c.find_aside-aside.result i ↔ IsSideBit s c.match-branch-2.bodies.items c.in_ok-headers.headers.items i) (c.self-2.view_is ∙ same)
    (subst (λ xs. (i : ℕ) → HasBit c.find_aside-aside.result i ↔ IsSideBit c.self-2.inside.edges xs c.in_ok-headers.headers.items i) c.deref.ensures.value
    (subst (λ xs. (i : ℕ) → HasBit c.find_aside-aside.result i ↔ IsSideBit c.self-2.inside.edges c.deref.result.now xs i) c.deref-2.ensures.value c.find_aside-aside.ensures)) in
    group_is c.args.self.now c.args.loops.now c.match-branch-2.bodies.items c.in_ok-headers.headers.items c.find_aside-aside.result is c.in_ok-headers.ensures.bits side
