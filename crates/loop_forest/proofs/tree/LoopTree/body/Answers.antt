use Rattle.std.proofs.Common.{◌≡◌, ◌<◌, length, Vec, Global, ℕ, sym, ap, ◌∙◌, Some, map, slice_get, arith, subst, option_map}
use Rattle.std.proofs.lemmas.List.{length-map}
use Rattle.std.proofs.lemmas.Option.{slice_get-map, slice_get-get_or}
use Rattle.loop_forest.proofs.BodyLaws.{body_at}
use Rattle.loop_forest.specs.Tree.{LoopView}
use Rattle.loop_forest.proofs.tree.LoopTree.body.Goals as goal

pub returns : goal.returns
returns c =
    let lt : c.args.l < length c.self.inside.parts.headers.items = subst (λ (v : LoopView). c.args.l < length v.headers) (sym c.self.view_is) c.requires in
    let size : length (map (λ (body : Vec ℕ Global). body.items) c.self.inside.parts.bodies.items) ≡ length c.self.inside.parts.headers.items = c.self.invariant.bodies in
    let same : length (map (λ (body : Vec ℕ Global). body.items) c.self.inside.parts.bodies.items) ≡ length c.self.inside.parts.bodies.items = length-map c.self.inside.parts.bodies.items (λ (body : Vec ℕ Global). body.items) in
    let low : c.args.l < length c.self.inside.parts.bodies.items = omega arith in
    let got : slice_get c.self.inside.parts.bodies.items c.args.l ≡ Some c.index.result.now = slice_get-get_or c.self.inside.parts.bodies.items c.args.l c.index.result.now low ∙ ap Some (sym c.index.ensures) in
    let body : slice_get (map (λ (body : Vec ℕ Global). body.items) c.self.inside.parts.bodies.items) c.args.l ≡ Some c.index.result.now.items = slice_get-map (λ (body : Vec ℕ Global). body.items) c.self.inside.parts.bodies.items c.args.l ∙ ap (option_map (λ (body : Vec ℕ Global). body.items)) got in
    c.deref.ensures.value ∙ sym (body_at c.args.self.now.bodies c.args.l c.index.result.now.items (subst (λ (v : LoopView). slice_get v.bodies c.args.l ≡ Some c.index.result.now.items) c.self.view_is body))
