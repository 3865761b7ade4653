use Rattle.std.proofs.Common.{◌≡◌, ◌-◌, ◌∙◌}
use Rattle.lower_bounds.specs.LowerBounds as lower
use Rattle.lower_bounds.specs.LowerTables.{at_of, cert}
use Rattle.lower_bounds.proofs.Seen.{first_seen, most_seen}
use Rattle.lower_bounds.proofs.edges.too_great.Goals as goal

pub returns-then-low-lt4294967296-clause-great : goal.returns-then-low-lt4294967296-clause-great
returns-then-low-lt4294967296-clause-great c =
    let first : c.from-2.result ≡ (cert c.args.case.now).first = c.from-2.ensures ∙ first_seen c.args.case.now.claim.now c.args.case.now.table.now in
    let most : c.from.result ≡ (cert c.args.case.now).most = c.from.ensures ∙ most_seen c.args.case.now.claim.now c.args.case.now.table.now in
    let turns : c.from-turns.result ≡ c.args.case.now.note.now.at_least - 1 = c.from-turns.ensures ∙ c.saturating_sub.ensures in
    let behind : c.most_behind.result ≡ lower.most_behind (cert c.args.case.now) (at_of c.args.case.now c.args.k) = c.most_behind.ensures.behind in
    cc
