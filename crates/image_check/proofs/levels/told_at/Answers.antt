use Rattle.std.proofs.Common.{◌≡◌, ℕ, ◌^◌, ◌<◌, ◌≤◌, List, [], length, Option, Some, None, refl, sym, ap, ◌∙◌, subst, arith}
use Rattle.std.specs.Prelude.{IfSome}
use Rattle.std.proofs.lemmas.Option.{get_or_from_slice_get}
use Rattle.foreign_scan.specs.declared.fragment.ForeignFragment.{ForeignFragment}
use Rattle.power_model.specs.Switches.{costs_of}
use Rattle.stored_runs.specs.Marks.{tail_cycles}
use Rattle.level_tables.specs.declared.edge_numbers.EdgeNumbers.{EdgeNumbers}
use Rattle.level_tables.specs.Tables.{with_tail}
use Rattle.loop_forest.specs.Tree.{loops}
use Rattle.image_check.specs.Safe.{all_with_rows}
use Rattle.image_check.specs.Known.{owner_by}
use Rattle.image_check.specs.Uses.{on_edge}
use Rattle.image_check.proofs.FoundFacts.{fine_on}
use Rattle.image_check.proofs.LevelLaws.{slack_small, rest_small, after_small, told_is}
use Rattle.image_check.proofs.levels.told_at.Goals as goal

pub fragments-requires : goal.fragments-requires
fragments-requires c =
    let lt = c.requires.leads.0 in
    let size = c.requires.known.6.known.found_is.shown.edges in
    omega (arith, lt, size)

pub tail_cycles-requires : goal.tail_cycles-requires
tail_cycles-requires c =
    let is = c.requires.known.6.known.found_is in
    let on : on_edge c.args.known.now.sites.now c.args.e ≡ c.fragments.result.now = get_or_from_slice_get c.args.known.now.sites.now.fragments c.args.e c.fragments.result.now [] c.fragments.ensures in
    subst (λ (fs : List ForeignFragment). length fs ≤ 64) on (fine_on c.requires.known.0 c.requires.known.1 c.args.known.now.graph.now c.args.known.now.tree.now c.requires.known.2 c.args.known.now.sites.now is c.args.e c.requires.leads.0).few

pub slack-requires : goal.slack-requires
slack-requires c = let lt = c.requires.leads.0 in let size = c.requires.known.6.known.weighed.slacks_size in omega (arith, lt, size)

pub rest-requires : goal.rest-requires
rest-requires c = let lt = c.requires.leads.0 in let size = c.requires.known.6.known.weighed.rests_size in omega (arith, lt, size)

pub to_end_after-requires : goal.to_end_after-requires
to_end_after-requires c = let lt = c.requires.leads.0 in let size = c.requires.known.6.known.weighed.after_size in omega (arith, lt, size)

small_if : (o : Option ℕ) (n : ℕ) → ((z : ℕ) → o ≡ Some z → z < n) → IfSome o (λ z. z < n)
small_if None n h = tt
small_if (Some z) n h = h z refl

pub with_tail-requires-clause-least : goal.with_tail-requires-clause-least
with_tail-requires-clause-least c =
    let known = c.requires.known in
    small_if c.to_end_after.result (2 ^ 89) (λ z e. after_small c.args.known.now known.0 known.1 known.2 known.3 known.4 known.5 known.6 c.args.e z c.to_end_after.result c.requires.leads.0 c.to_end_after.ensures e)

pub with_tail-requires-clause-left : goal.with_tail-requires-clause-left
with_tail-requires-clause-left c =
    let known = c.requires.known in
    rest_small c.args.known.now known.0 known.1 known.2 known.3 known.4 known.5 known.6 c.args.e c.rest.result c.requires.leads.0 c.rest.ensures

pub returns-clause-told : goal.returns-clause-told
returns-clause-told c = λ original foreign found w n least by.
    let on : on_edge c.args.known.now.sites.now c.args.e ≡ c.fragments.result.now = get_or_from_slice_get c.args.known.now.sites.now.fragments c.args.e c.fragments.result.now [] c.fragments.ensures in
    let l = loops c.args.known.now.graph.now c.args.known.now.tree.now in
    let owner = owner_by c.args.known.now.owners.now in
    c.with_tail.ensures.numbers ∙ told_is c.args.known.now original foreign found w n least by c.args.e c.requires.leads.1.0 c.slack.result c.rest.result c.tail_cycles.result c.to_end_after.result c.requires.leads.0 c.requires.leads.1.1
    c.slack.ensures c.rest.ensures c.to_end_after.ensures
    (c.tail_cycles.ensures.tail foreign l owner ∙ ap (λ (fs : List ForeignFragment). tail_cycles (costs_of c.args.known.now.power.now) (all_with_rows foreign l owner fs)) (sym on))
    (with_tail c.tail_cycles.result (record { slack = c.slack.result; left = c.rest.result; least = c.to_end_after.result })) refl refl refl

pub returns-clause-slack : goal.returns-clause-slack
returns-clause-slack c =
    let known = c.requires.known in
    subst (λ (x : EdgeNumbers). x.slack ≤ 2 ^ 50) (sym c.with_tail.ensures.numbers)
    (slack_small c.args.known.now known.0 known.1 known.2 known.3 known.4 known.5 known.6 c.args.e c.slack.result c.requires.leads.0 c.slack.ensures)
