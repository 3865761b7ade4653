use Rattle.std.proofs.Common.{◌≡◌, ◌<◌, ◌≤◌, List, map, length, Vec, Global, sym, ◌∙◌, subst, arith}
use Rattle.std.proofs.lemmas.List.{length-map}
use Rattle.scale_base.specs.declared.fragments.Mark.{Mark}
use Rattle.scale_sites.specs.Sites.{SitesView, marks_in}
use Rattle.scale_sites.proofs.SiteLaws.{marks_seen}
use Rattle.scale_sites.proofs.sites.Sites.few_marks.Goals as goal

pub returns-clause-few : goal.returns-clause-few
returns-clause-few c =
    let size : length (map (λ (m : Vec Mark Global). m.items) c.self.inside.marks.items) ≡ length c.self.inside.marks.items = length-map c.self.inside.marks.items (λ (m : Vec Mark Global). m.items) in
    let seen : c.args.e < length (map (λ (m : Vec Mark Global). m.items) c.self.inside.marks.items) = subst (λ (v : SitesView). c.args.e < length v.marks) (sym c.self.view_is) c.requires in
    let lt : c.args.e < length c.self.inside.marks.items = omega arith in
    let same : marks_in (map (λ (m : Vec Mark Global). m.items) c.self.inside.marks.items) c.args.e ≡ c.index.result.now.items = marks_seen c.self.inside.marks.items c.args.e c.index.result.now lt c.index.ensures in
    subst (λ (ms : List Mark). length ms ≤ 1600) (same ∙ sym c.deref.ensures.value) (c.self.invariant.few c.args.e)
