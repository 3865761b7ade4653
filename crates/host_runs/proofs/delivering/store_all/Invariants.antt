use Rattle.host_runs.specs.Views.{store_views}
use Rattle.host_runs.proofs.Storing.{SoFar}
use Rattle.host_runs.proofs.delivering.store_all.Given as goal

abbrev pub invariant-loop-store : goal.invariant-loop-store
invariant-loop-store g l = SoFar (store_views l.stores) l.store-index (g.H.Host.state l.initial.host) (g.H.Host.state l.host)
