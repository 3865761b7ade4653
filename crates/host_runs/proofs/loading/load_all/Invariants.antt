use Rattle.host_runs.specs.Views.{want_views, files_view}
use Rattle.host_runs.proofs.Loads.{LoadedSoFar}
use Rattle.host_runs.proofs.loading.load_all.Given as goal

abbrev pub invariant-loop-index : goal.invariant-loop-index
invariant-loop-index g l = LoadedSoFar (want_views l.wants) l.index (files_view l.loaded.items) (g.H.Host.state l.initial.host) (g.H.Host.state l.host)
