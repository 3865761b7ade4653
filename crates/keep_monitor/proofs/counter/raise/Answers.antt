use Rattle.std.proofs.Common.{rules, ◌≡◌, ◌∙◌, ℕ, max, get_or, List, Option, None, sym, ap, reverse}
use Rattle.scale_base.specs.declared.endings.Kept.TheVariants as kinds
use Rattle.scale_base.specs.declared.stepping.Stepped.{Stepped}
use Rattle.graph_runs.specs.ReturnAddresses.{returns_after}
use Rattle.keep_monitor.specs.Headers.{sorted_header}
use Rattle.keep_monitor.specs.Steps.{broken_by, count_after_at}
use Rattle.keep_monitor.specs.Counted.{raised_most}
use Rattle.keep_monitor.proofs.AlikeLaws.{going_with}
use Rattle.keep_monitor.proofs.CounterLaws.{raise_all, none_is}
use Rattle.keep_monitor.proofs.CountedLaws.{raised_none}
use Rattle.keep_monitor.proofs.counter.raise.Goals as goal

pub returns-then-is_none : goal.returns-then-is_none
returns-then-is_none c =
    let x : Stepped = c.args.arrival.now.step.now in
    let none : c.broken_return.result ≡ None = none_is c.broken_return.result (search rules) in
    raise_all (going_with c.args.notes.now (reverse c.args.returns.now) c.args.counts.now) c.args.most.now c.raise_loops.new.most x c.args.arrival.now.group.now c.requires.loops (c.raise_loops.ensures.size ∙ c.requires.most)
    (λ j jl. c.raise_loops.ensures.each j jl ∙ ap (λ (o : Option ℕ). max (get_or c.args.most.now (sorted_header c.args.arrival.now.group.now j).number 0) (count_after_at c.args.notes.now c.args.arrival.now.group.now c.args.counts.now o j)) c.source_of.ensures)
    c.raise_loops.ensures.others (sym c.broken_return.ensures ∙ none)
