use Rattle.std.proofs.Common.{rules, ◌≡◌, ◌∙◌, ◌≤◌, ℕ, List, Option, Some, length, reverse, vec_len, sym, ap, subst}
use Rattle.std.specs.Prelude.{IfSome}
use Rattle.std.proofs.lemmas.List.{length-reverse}
use Rattle.scale_base.specs.declared.endings.Kept.TheVariants as kinds
use Rattle.scale_base.specs.declared.stepping.Move.{Move}
use Rattle.scale_base.specs.declared.stepping.Move.TheVariants.{Local}
use Rattle.scale_base.specs.declared.stepping.Stepped.{Stepped}
use Rattle.graph_runs.specs.ReturnAddresses.{returns_after, returns_by}
use Rattle.graph_runs.specs.KeptRuns.{most_returns}
use Rattle.keep_monitor.specs.Watch.{watch_returns}
use Rattle.keep_monitor.proofs.monitor.watch_next.Goals as goal

pub returns-in-Some-clause-watched : goal.returns-in-Some-clause-watched
returns-in-Some-clause-watched c =
    let x : Stepped = c.args.step.now in
    let rs : List ℕ = reverse c.args.returns.now.items in
    let len : length c.args.returns.now.items ≡ vec_len c.args.returns.now = search rules in
    let shallow : length rs ≤ most_returns = subst (λ n. n ≤ most_returns) (sym (length-reverse c.args.returns.now.items ∙ len)) c.requires.shallow in
    let local : x.moved ≡ Local = subst (λ (o : Option ℕ). IfSome o (λ k. x.moved ≡ Local)) c.in-Some.is c.lone_loop.ensures.moved in
    let same : returns_after rs x ≡ Some rs = ap (λ (m : Move). returns_by m rs x) local in
    c.watch_turn.ensures.watched rs shallow
    ∙ sym (ap (watch_returns (record { notes = c.args.rules.now.notes.now; returns = rs; counts = c.args.counts.now.items; kept = kinds.Kept }) x) same)
