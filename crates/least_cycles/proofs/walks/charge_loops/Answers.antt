use Rattle.std.proofs.Common.{◌≡◌, ◌<◌, ◌≤◌, ◌^◌, ℕ, Option, length, slice_set, sym, ap, ◌∙◌, subst, arith, get_or-set_other, length-set}
use Rattle.flow_graph.proofs.Laws.{few_once}
use Rattle.graph_algorithms.specs.Keys.{IsLastBelow}
use Rattle.graph_algorithms.proofs.Laws.{place, place_less}
use Rattle.cycle_laws.specs.Charged.{Charged}
use Rattle.least_cycles.specs.Charging.{ArePricedAt, IsChargeKnown, AreChargedTo, IsHeaderFrom, loop_owner}
use Rattle.least_cycles.specs.Passes.{AreCostsKnown}
use Rattle.least_cycles.proofs.ChargeLaws.{charges_low}
use Rattle.least_cycles.proofs.LoopLaws.{place_below, number_low, loop_none, loop_is, inner_done, charged_more, charged_all}
use Rattle.least_cycles.proofs.walks.charge_loops.Goals as goal

pub bounds-order-i : goal.bounds-order-i
bounds-order-i c =
    let plan = c.requires.plan in
    let t = plan.headers in
    let k = c.requires.known in
    let inv = c.loop-next.invariant.charged t.0 t.1 t.2 in
    let at = inv.2.place c.in-Some.i c.in-Some.is in
    let low = place_below c.args.priced.now.graph.now c.args.priced.now.tree.now k.0 k.1 k.2.charging c.args.plan.now.heads.items t.0 c.args.priced.now.number plan.heads t.1 c.plain_order-order.result.now c.plain_order-order.ensures plan.heads_size c.in-Some.i at.1 in
    let size = ap length c.plain_order-order.ensures in
    let same : length c.plain_order-order.result.now ≡ length c.args.priced.now.tree.now.order = size in
    omega arith

pub offset_bounds-order-i : goal.offset_bounds-order-i
offset_bounds-order-i c =
    let plan = c.requires.plan in
    let t = plan.headers in
    let k = c.requires.known in
    let inv = c.loop-next.invariant.charged t.0 t.1 t.2 in
    let at = inv.2.place c.in-Some.i c.in-Some.is in
    let low = place_below c.args.priced.now.graph.now c.args.priced.now.tree.now k.0 k.1 k.2.charging c.args.plan.now.heads.items t.0 c.args.priced.now.number plan.heads t.1 c.plain_order-order.result.now c.plain_order-order.ensures plan.heads_size c.in-Some.i at.1 in
    let order = c.requires.priced.tree.1.order in
    let few : length c.args.priced.now.tree.now.order ≤ length c.args.priced.now.graph.now.code.nodes = few_once c.args.priced.now.tree.now.order (length c.args.priced.now.graph.now.code.nodes) (λ i j x p q. order.once i j x p q) (λ i x p. order.within i x p) in
    let count = c.node_count-count.ensures.count in
    let small = c.node_count-count.ensures.few in
    omega arith

pub index-requires : goal.index-requires
index-requires c =
    let plan = c.requires.plan in
    let t = plan.headers in
    let k = c.requires.known in
    let inv = c.loop-next.invariant.charged t.0 t.1 t.2 in
    let at = inv.2.place c.in-Some.i c.in-Some.is in
    let low = number_low c.args.priced.now.graph.now c.args.priced.now.tree.now k.0 k.1 k.2.charging c.args.plan.now.heads.items t.0 c.args.priced.now.number plan.heads t.1 c.plain_order-order.result.now c.plain_order-order.ensures plan.heads_size c.in-Some.i at.1 in
    let ok = c.args.plan.now.heads.ok.0 in
    omega arith

pub unreachable-requires : goal.unreachable-requires
unreachable-requires c =
    let plan = c.requires.plan in
    let t = plan.headers in
    let k = c.requires.known in
    let inv = c.loop-next.invariant.charged t.0 t.1 t.2 in
    let at = inv.2.place c.in-Some.i c.in-Some.is in
    loop_none c.args.priced.now.graph.now c.args.priced.now.tree.now k.0 k.1 k.2.charging c.args.plan.now.heads.items t.0 c.args.priced.now.number plan.heads t.1 c.plain_order-order.result.now c.plain_order-order.ensures plan.heads_size c.in-Some.i at.1 c.index.result.now c.index.ensures c.in_default-index.is

pub charge_of_loop-requires-clause-loop_number : goal.charge_of_loop-requires-clause-loop_number
charge_of_loop-requires-clause-loop_number c =
    let plan = c.requires.plan in
    let t = plan.headers in
    let k = c.requires.known in
    let inv = c.loop-next.invariant.charged t.0 t.1 t.2 in
    let at = inv.2.place c.in-Some.i c.in-Some.is in
    (loop_is c.args.priced.now.graph.now c.args.priced.now.tree.now k.0 k.1 k.2.charging c.args.plan.now.heads.items t.0 c.args.priced.now.number plan.heads t.1 c.plain_order-order.result.now c.plain_order-order.ensures plan.heads_size c.in-Some.i at.1 c.index.result.now c.in-Some-index.l c.index.ensures c.in-Some-index.is).0

pub charge_of_loop-requires-clause-known : goal.charge_of_loop-requires-clause-known
charge_of_loop-requires-clause-known c =
    let v = c.args.priced.now.graph.now in
    let plan = c.requires.plan in
    let t = plan.headers in
    let k = c.requires.known in
    let inv = c.loop-next.invariant.charged t.0 t.1 t.2 in
    let at = inv.2.place c.in-Some.i c.in-Some.is in
    let loop = loop_is v c.args.priced.now.tree.now k.0 k.1 k.2.charging c.args.plan.now.heads.items t.0 c.args.priced.now.number plan.heads t.1 c.plain_order-order.result.now c.plain_order-order.ensures plan.heads_size c.in-Some.i at.1 c.index.result.now c.in-Some-index.l c.index.ensures c.in-Some-index.is in (
      k.0,
      k.1,
      record {
        charging = k.2.charging;
        priced = subst (λ f. ArePricedAt v k.0 k.1 f c.args.priced.now.costs.now c.args.priced.now.lasts.now) (sym loop.2) k.2.priced;
        inner = inner_done v c.args.priced.now.tree.now k.0 k.1 k.2.charging c.args.plan.now.heads.items t.0 c.args.priced.now.number plan.heads t.1 inv.0 c.in-Some.i c.in-Some-index.l c.loop-next.next c.loop-next.charges.found.items inv.2 c.in-Some.is loop.0 loop.2 loop.1 (inv.3 k.0 k.1 k.2);
      },
    )

pub index_mut-requires : goal.index_mut-requires
index_mut-requires c =
    let plan = c.requires.plan in
    let t = plan.headers in
    let k = c.requires.known in
    let inv = c.loop-next.invariant.charged t.0 t.1 t.2 in
    let at = inv.2.place c.in-Some.i c.in-Some.is in
    let low = (loop_is c.args.priced.now.graph.now c.args.priced.now.tree.now k.0 k.1 k.2.charging c.args.plan.now.heads.items t.0 c.args.priced.now.number plan.heads t.1 c.plain_order-order.result.now c.plain_order-order.ensures plan.heads_size c.in-Some.i at.1 c.index.result.now c.in-Some-index.l c.index.ensures c.in-Some-index.is).0 in
    let size = c.loop-next.invariant.charges.size in
    let ok = c.loop-next.charges.found.ok.0 in
    omega arith

pub before-next-requires : goal.before-next-requires
before-next-requires c =
    let t = c.requires.plan.headers in
    let inv = c.loop-next.invariant.charged t.0 t.1 t.2 in
    let at = inv.2.place c.in-Some.i c.in-Some.is in
    let low = at.0 in
    let within = inv.1 in
    let size = t.1.size in
    let before = t.2.before_size in
    omega arith

pub loop-next-smaller : goal.loop-next-smaller
loop-next-smaller c =
    let t = c.requires.plan.headers in
    let inv = c.loop-next.invariant.charged t.0 t.1 t.2 in
    let key = (inv.2.place c.in-Some.i c.in-Some.is).1 in
    let before = subst (λ (o : Option ℕ). IsLastBelow t.0 c.in-Some.i c.args.priced.now.number o) (sym c.before-next.ensures) (t.2.before c.in-Some.i c.args.priced.now.number key) in
    subst (λ (o : Option ℕ). place c.before-next.result < place o) (sym c.in-Some.is)
    (place_less c.before-next.result c.in-Some.i (λ r e. (before.place r e).0))

pub loop-next-preserved : goal.loop-next-preserved
loop-next-preserved c =
    let v = c.args.priced.now.graph.now in
    let tree = c.args.priced.now.tree.now in
    let plan = c.requires.plan in
    let t0 = plan.headers in
    let k0 = c.requires.known in
    let inv0 = c.loop-next.invariant.charged t0.0 t0.1 t0.2 in
    let at0 = inv0.2.place c.in-Some.i c.in-Some.is in
    let loop = loop_is v tree k0.0 k0.1 k0.2.charging c.args.plan.now.heads.items t0.0 c.args.priced.now.number plan.heads t0.1 c.plain_order-order.result.now c.plain_order-order.ensures plan.heads_size c.in-Some.i at0.1 c.index.result.now c.in-Some-index.l c.index.ensures c.in-Some-index.is in
    let known0 : IsChargeKnown v tree k0.0 k0.1 c.in-Some-index.l c.args.priced.now.costs.now c.args.priced.now.lasts.now c.loop-next.charges.found.items = record {
      charging = k0.2.charging;
      priced = subst (λ f. ArePricedAt v k0.0 k0.1 f c.args.priced.now.costs.now c.args.priced.now.lasts.now) (sym loop.2) k0.2.priced;
      inner = inner_done v tree k0.0 k0.1 k0.2.charging c.args.plan.now.heads.items t0.0 c.args.priced.now.number plan.heads t0.1 inv0.0 c.in-Some.i c.in-Some-index.l c.loop-next.next c.loop-next.charges.found.items inv0.2 c.in-Some.is loop.0 loop.2 loop.1 (inv0.3 k0.0 k0.1 k0.2);
    } in
    let low0 : c.in_ok-charge.charge ≤ 2 ^ 48 = (let same = c.in_ok-charge.ensures.charge k0.0 k0.1 known0 in let most = k0.2.charging.charges c.in-Some-index.l loop.0 in omega arith) in
    record {
      charged = λ keys are chains.
          let inv = c.loop-next.invariant.charged keys are chains in
          let at = inv.2.place c.in-Some.i c.in-Some.is in
          let low = at.0 in
          let within = inv.1 in
          let r : (x : ℕ) × (x ≤ length tree.order) × IsLastBelow keys x c.args.priced.now.number c.before-next.result × ((w : ℕ → ℕ) (n : Charged) → AreCostsKnown c.args.priced.now w n → AreChargedTo v tree n (IsHeaderFrom v tree c.args.priced.now.number x) (slice_set c.loop-next.charges.found.items c.in-Some-index.l c.in_ok-charge.charge)) = (
            c.in-Some.i,
            (let q : c.in-Some.i ≤ length tree.order = omega arith in q),
            subst (λ (o : Option ℕ). IsLastBelow keys c.in-Some.i c.args.priced.now.number o) (sym c.before-next.ensures) (chains.before c.in-Some.i c.args.priced.now.number at.1),
            λ w n costs.
                let known : IsChargeKnown v tree w n c.in-Some-index.l c.args.priced.now.costs.now c.args.priced.now.lasts.now c.loop-next.charges.found.items = record {
                  charging = costs.charging;
                  priced = subst (λ f. ArePricedAt v w n f c.args.priced.now.costs.now c.args.priced.now.lasts.now) (sym loop.2) costs.priced;
                  inner = inner_done v tree w n costs.charging c.args.plan.now.heads.items keys c.args.priced.now.number plan.heads are inv.0 c.in-Some.i c.in-Some-index.l c.loop-next.next c.loop-next.charges.found.items inv.2 c.in-Some.is loop.0 loop.2 loop.1 (inv.3 w n costs);
                } in
                charged_more v tree w n costs.charging c.args.plan.now.heads.items keys c.args.priced.now.number plan.heads are inv.0 c.in-Some.i c.in-Some-index.l c.in_ok-charge.charge c.loop-next.next c.loop-next.charges.found.items inv.2 c.in-Some.is loop.0 c.loop-next.invariant.charges.size loop.1 (c.in_ok-charge.ensures.charge w n known) (inv.3 w n costs),
          ) in r;
      others = λ k kl other.
          get_or-set_other c.loop-next.charges.found.items c.in-Some-index.l k c.in_ok-charge.charge 0 (λ same. other (ap (loop_owner v tree) same ∙ loop.2)) ∙ c.loop-next.invariant.others k kl other;
      charges = record {
        entered = c.loop-next.invariant.charges.entered;
        size = length-set c.loop-next.charges.found.items c.in-Some-index.l c.in_ok-charge.charge ∙ c.loop-next.invariant.charges.size;
        low = λ j. charges_low c.loop-next.charges.found.items c.in-Some-index.l c.in_ok-charge.charge j low0 c.loop-next.invariant.charges.low;
      };
      marks = c.in_ok-charge.ensures.marks;
    }

pub returns-clause-charged : goal.returns-clause-charged
returns-clause-charged c = λ w n costs.
    let plan = c.requires.plan in
    let t = plan.headers in
    let inv = c.loop-next.invariant.charged t.0 t.1 t.2 in
    charged_all c.args.priced.now.graph.now c.args.priced.now.tree.now w n costs.charging c.args.plan.now.heads.items t.0 c.args.priced.now.number plan.heads t.1 inv.0 c.loop-next.next c.loop-next.charges.found.items inv.2 c.in_default.is (inv.3 w n costs)
