use Rattle.std.proofs.Common.{◌<◌, length, sym, ◌∙◌, arith}
use Rattle.least_cycles.proofs.EndLaws.{end_is, value_at}
use Rattle.least_cycles.proofs.ends.end_at.Goals as goal

pub both-returns-requires-clause-one : goal.both-returns-requires-clause-one
both-returns-requires-clause-one c = λ x is.
    let size = c.requires.walks.returns_size in
    let node = c.requires.node in
    let kl : c.args.k < length c.args.walks.now.returns.items = omega arith in
    c.requires.walks.small_return c.args.k x (sym (value_at c.args.walks.now.returns.items c.args.k c.index.result.now kl c.index.ensures) ∙ is)

pub returns : goal.returns
returns c =
    let node = c.requires.node in
    let size_r = c.requires.walks.returns_size in
    let size_x = c.requires.walks.exits_size in
    let rl : c.args.k < length c.args.walks.now.returns.items = omega arith in
    let xl : c.args.k < length c.args.walks.now.exits.items = omega arith in
    end_is c.args.graph.now c.args.walks.now.returns.items c.args.walks.now.exits.items c.args.behind.now c.args.k c.owner.result c.index.result.now c.index-2.result.now c.both-returns.result c.lesser.result c.requires.flow c.requires.node c.owner.ensures.owner
    (value_at c.args.walks.now.returns.items c.args.k c.index.result.now rl c.index.ensures) (value_at c.args.walks.now.exits.items c.args.k c.index-2.result.now xl c.index-2.ensures) c.both-returns.ensures c.lesser.ensures
