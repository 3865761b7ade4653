use Rattle.std.proofs.Common.{[], ◌∷◌, ap, ◌∙◌}
use Rattle.host_runs.specs.Views.{store_views}
use Rattle.scale_tool.proofs.making.stores_of.Goals as goal

pub returns : goal.returns
returns c =
    ap store_views c.in_ok-vec.ensures.items
    ∙ (λ i. c.in_ok-store_of.ensures i ∷ c.in_ok-store_of-2.ensures i ∷ c.in_ok-store_of-3.ensures i ∷ c.in_ok-store_of-4.ensures i ∷ c.in_ok-store_of-5.ensures i ∷ [])
