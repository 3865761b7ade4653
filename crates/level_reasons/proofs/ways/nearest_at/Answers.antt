use Rattle.std.proofs.Common.{◌≡◌, ℕ, ◌+◌, ◌<◌, ◌≤◌, ◌^◌, true, length, Option, IfSome, ⊎_elim, inl, inr, sym, subst, arith}
use Rattle.std.proofs.lemmas.Bool.{both_ways}
use Rattle.std.proofs.lemmas.Option.{slice_get_within}
use Rattle.loop_forest.specs.Tree.{loops}
use Rattle.level_reasons.specs.declared.ways.Way.{Way}
use Rattle.level_reasons.specs.Reasons.{IsWayOut}
use Rattle.level_reasons.specs.Ways.{IsWayAmong, IsWaySoFar, IsNearestKept}
use Rattle.level_reasons.proofs.BodyFacts.{edges_here, place_inside, none_so_far, more_so_far, last_so_far, so_far_among, among_so_far}
use Rattle.level_reasons.proofs.NearFacts.{nearest_same, nearest_more}
use Rattle.level_reasons.proofs.ways.nearest_at.Goals as goal
use Rattle.level_reasons.proofs.ways.nearest_at.Goals.{then-leads_out, else-leads_out}

pub loop-e-init : goal.loop-e-init
loop-e-init c =
    let v = c.args.program.now.graph.now in
    let t = c.args.program.now.tree.now in
    let first = c.edges_of-first.result.0 in
    record {
      small = c.requires.found;
      kept = λ n holds old. nearest_same c.args.program.now.power.now c.args.program.now.start n.told (IsWayAmong v t c.args.l c.args.i) (IsWaySoFar v t c.args.l c.args.i first first)
          (λ d among. inl among) (λ d far. none_so_far v t c.args.l c.args.i first d far) c.args.found old;
    }

pub leads_out-requires-clause-inside : goal.leads_out-requires-clause-inside
leads_out-requires-clause-inside c =
    let v = c.args.program.now.graph.now in
    let t = c.args.program.now.tree.now in
    let tree = c.requires.program.tree in
    let ends = c.edges_of-first.ensures.within.1 in
    let test = c.loop-e-test.true in
    let low : c.loop-e.e < length v.code.edges = omega (arith, ends, test) in
    let here = edges_here v t c.args.l c.args.i c.edges_of-first.result.0 c.edges_of-first.result.1 c.body.result.now c.body.ensures c.edges_of-first.ensures.edges c.loop-e.e low in
    subst (λ (at : ℕ). (loops v t).inside c.args.l at ≡ true) (sym (here.1 (c.loop-e.auto.e, c.loop-e-test.true))) (place_inside v t tree.0 c.requires.program.flow tree.1 c.args.l c.args.i c.requires.within c.requires.place)

pub loop-e-preserved : goal.loop-e-preserved
loop-e-preserved c =
    let power = c.args.program.now.power.now in
    let start = c.args.program.now.start in
    let v = c.args.program.now.graph.now in
    let t = c.args.program.now.tree.now in
    let l = c.args.l in
    let i = c.args.i in
    let e = c.loop-e.e in
    let first = c.edges_of-first.result.0 in
    elim c.if-leads_out.branch [
      | then-leads_out w ↦
          let way : IsWayOut v t l e = c.leads_out.ensures.out w.if-leads_out.true in
          record {
            small = subst (λ (o : Option Way). IfSome o (λ x. x.lack < 2 ^ 98)) (sym w.nearest-is) w.nearer.ensures.small;
            kept = λ n holds old. subst (IsNearestKept power start n.told (IsWaySoFar v t l i first (e + 1))) (sym w.nearest-is)
                (nearest_more power start n.told (IsWaySoFar v t l i first e) (IsWaySoFar v t l i first (e + 1)) e (λ d far. more_so_far v t l i first e d far)
                (inr ((way, c.loop-e.auto.e, (let h : e < e + 1 = omega arith in h))))
                (λ d far. ⊎_elim (λ (so : IsWaySoFar v t l i first e d). inl so) (λ (last : (d ≡ e) × IsWayOut v t l d). inr last.0) (last_so_far v t l i first e d far))
                w.way_at.result (w.way_at.ensures.way n holds) c.loop-e.nearest w.nearer.result (c.loop-e.invariant.kept n holds old) w.nearer.ensures.first w.nearer.ensures.next);
          }
      | else-leads_out w ↦
          record {
            small = subst (λ (o : Option Way). IfSome o (λ x. x.lack < 2 ^ 98)) (sym w.nearest-is) c.loop-e.invariant.small;
            kept = λ n holds old. subst (IsNearestKept power start n.told (IsWaySoFar v t l i first (e + 1))) (sym w.nearest-is)
                (nearest_same power start n.told (IsWaySoFar v t l i first e) (IsWaySoFar v t l i first (e + 1)) (λ d far. more_so_far v t l i first e d far)
                (λ d far. ⊎_elim
                (λ (so : IsWaySoFar v t l i first e d). so)
                (λ (last : (d ≡ e) × IsWayOut v t l d). absurd (both_ways c.leads_out.result w.if-leads_out.false (c.leads_out.ensures.all (subst (λ x. IsWayOut v t l x) last.0 last.1))))
                (last_so_far v t l i first e d far))
                c.loop-e.nearest (c.loop-e.invariant.kept n holds old));
          }
    ]

pub returns-clause-nearest : goal.returns-clause-nearest
returns-clause-nearest c =
    let power = c.args.program.now.power.now in
    let start = c.args.program.now.start in
    let v = c.args.program.now.graph.now in
    let t = c.args.program.now.tree.now in
    let l = c.args.l in
    let i = c.args.i in
    let first = c.edges_of-first.result.0 in
    let end = c.edges_of-first.result.1 in
    let within = c.edges_of-first.ensures.within in
    let some = within.0 in
    let most = c.loop-e.auto.e-end (let h : first ≤ end = omega (arith, some) in h) in
    let least = c.loop-e-test.false in
    let all : c.loop-e.e ≡ end = omega (arith, most, least) in
    let here = edges_here v t l i first end c.body.result.now c.body.ensures c.edges_of-first.ensures.edges in
    λ n holds old. nearest_same power start n.told (IsWaySoFar v t l i first c.loop-e.e) (IsWayAmong v t l (i + 1))
    (λ d far. so_far_among v t l i first c.loop-e.e d
    (λ way ge lt. (here d (slice_get_within v.code.edges d way.edge way.there)).1 (ge, (let h : d < end = omega (arith, lt, all) in h))) far)
    (λ d among. among_so_far v t l i first c.loop-e.e d
    (λ way from. let r = (here d (slice_get_within v.code.edges d way.edge way.there)).0 from in let lt = r.1 in (r.0, (let h : d < c.loop-e.e = omega (arith, lt, all) in h))) among)
    c.loop-e.nearest (c.loop-e.invariant.kept n holds old)
