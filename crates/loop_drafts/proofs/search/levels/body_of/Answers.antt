use Rattle.std.proofs.Common.{ℕ, ◌<◌, List, Option, Some, length, sym, ap, subst, arith, All}
use Rattle.std.proofs.lemmas.List.{length-map}
use Rattle.std.proofs.lemmas.List.Elements.{All-push}
use Rattle.loop_drafts.specs.Numbered.{height}
use Rattle.loop_drafts.proofs.Keys.{last_in, before_in, height_falls}
use Rattle.loop_drafts.proofs.search.levels.body_of.Goals as goal

pub loop-node-init : goal.loop-node-init
loop-node-init c = (
  (λ k d h. let f = ap length c.new-body.ensures.items in absurd (omega (arith, f))),
  (λ k e. last_in c.args.roots.now c.args.root k c.args.chains.now c.last-node.result c.requires.chains c.requires.root c.last-node.ensures e),
)

pub before-node-requires : goal.before-node-requires
before-node-requires c =
    let p = c.loop-node.invariant.1 c.in-Some.k c.in-Some.is in
    let q : c.in-Some.k < length c.args.roots.now = p.0 in
    let z = length-map c.args.roots.now (λ (r : ℕ). Some r) in
    let s = c.requires.chains.before_size in omega arith

pub loop-node-smaller : goal.loop-node-smaller
loop-node-smaller c =
    let p = c.loop-node.invariant.1 c.in-Some.k c.in-Some.is in
    let falls = height_falls c.in-Some.k c.before-node.result (λ k e. (before_in c.args.roots.now c.args.root c.in-Some.k k c.args.chains.now c.before-node.result c.requires.chains p.1 c.before-node.ensures e).0) in
    subst (λ (n : Option ℕ). height c.before-node.result < height n) (sym c.in-Some.is) falls

pub loop-node-preserved : goal.loop-node-preserved
loop-node-preserved c =
    let p = c.loop-node.invariant.1 c.in-Some.k c.in-Some.is in
    let Low : ℕ → Type 0 = λ v. v < length c.args.roots.now in (
      subst (λ (xs : List ℕ). All Low xs) (sym c.in_ok-push.ensures.items) (All-push Low c.loop-node.body.items c.in-Some.k c.loop-node.invariant.0 p.0),
      (λ k e.
          let b = before_in c.args.roots.now c.args.root c.in-Some.k k c.args.chains.now c.before-node.result c.requires.chains p.1 c.before-node.ensures e in
          let low : k < c.in-Some.k = b.0 in
          let here : c.in-Some.k < length c.args.roots.now = p.0 in
          (omega arith, b.1)),
    )
