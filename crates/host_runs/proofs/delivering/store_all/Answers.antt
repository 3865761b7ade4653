use Rattle.std.proofs.Common.{rules, ◌≡◌, true, false}
use Rattle.host_runs.specs.Views.{store_views}
use Rattle.host_runs.proofs.Storing.{store_at, so_far_next, failed_here, has_room_here, on_err, IsSome-and}
use Rattle.host_runs.proofs.delivering.store_all.Goals as goal

pub returns-in_err-store-clause-err : goal.returns-in_err-store-clause-err
returns-in_err-store-clause-err g c =
    let next = store_at c.args.stores.now c.loop-store.store-index c.store-item.result c.loop-store-test.true c.store-item.is in
    let left = rw c.as_str.ensures.value at c.in_err-store.ensures.failed in
    on_err _ (failed_here (store_views c.args.stores.now) c.loop-store.store-index _ _ _ _ c.loop-store.invariant next left (search rules) (search rules))

pub returns-in_err-store-clause-steady : goal.returns-in_err-store-clause-steady
returns-in_err-store-clause-steady g c = λ has.
    let next = store_at c.args.stores.now c.loop-store.store-index c.store-item.result c.loop-store-test.true c.store-item.is in
    let room = has_room_here (store_views c.args.stores.now) c.loop-store.store-index _ _ _ (g.H.Host.state c.loop-store.host) c.loop-store.invariant next 0 has in
    let steady = rw (c.as_str.ensures.value, c.deref.ensures.value) at c.in_err-store.ensures.steady in
    absurd (no_true ((steady (IsSome-and _ _ room)).1 room))
  where
    no_true : false ≡ true → ⊥
    no_true e = cc

pub loop-store-preserved : goal.loop-store-preserved
loop-store-preserved g c =
    let next = store_at c.args.stores.now c.loop-store.store-index c.store-item.result c.loop-store-test.true c.store-item.is in
    so_far_next (store_views c.args.stores.now) c.loop-store.store-index _ _ _ _ c.loop-store.invariant next
    (search rules) (search rules) (search rules) (search rules) (search rules)
