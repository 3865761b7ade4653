use Rattle.std.proofs.Common.{◌≡◌, ◌≤◌, ◌∙◌, ℕ, Some, ap, refl, subst}
use Rattle.std.specs.Prelude.{slice_get}
use Rattle.std.proofs.lemmas.Option.{slice_get_within}
use Rattle.graph_runs.specs.KeptRuns.{most_returns}
use Rattle.stack_tables.specs.Tables.{claim_values}
use Rattle.shown_bounds.specs.Returned.{height_at}
use Rattle.shown_bounds.proofs.Returns.{comes_back, owner_is}
use Rattle.shown_bounds.proofs.returning.comes_back.Goals as goal

pub owner-first-requires : goal.owner-first-requires
owner-first-requires c = slice_get_within c.args.claim.now.graph.now.code.nodes c.in-Some.k c.entry.result ((c.in-Some.ensures c.in-Some.k).0 refl)

pub returns : goal.returns
returns c so = comes_back c.args.claim.now c.requires c.args.heights.now c.owner-first.result entry low (c.if-not-are_lower.ensures refl) (c.are_linked.ensures so)
  where
    there : slice_get c.args.claim.now.graph.now.code.nodes c.in-Some.k ≡ Some c.entry.result
    there = (c.in-Some.ensures c.in-Some.k).0 refl

    entry : c.owner-first.result ≡ (claim_values c.args.claim.now).function c.args.claim.now.view.now.entry
    entry = owner_is c.args.claim.now c.in-Some.k c.entry.result c.owner-first.result there c.owner-first.ensures.owner ∙ ap (claim_values c.args.claim.now).function c.entry.ensures

    low : height_at c.args.heights.now c.owner-first.result ≤ most_returns
    low = subst (λ (x : ℕ). x ≤ most_returns) c.height.ensures c.if-height-gt-MOST_RETURNS.false
