use Rattle.std.proofs.Common.{ℕ, List, subst}
use Rattle.fixed_tables.specs.Tables.{AreIn}
use Rattle.fixed_tables.proofs.TableFacts.{table_of}
use Rattle.fixed_tables.proofs.entries.is_table_of.Goals as goal

pub returns-in-Some : goal.returns-in-Some
returns-in-Some c so =
    let size = rw c.in-Some.is at c.in_ok-entries.ensures.size in
    let entries = rw c.in-Some.is at c.in_ok-entries.ensures.entries in
    let targets = c.args.targets.now in
    let same = c.deref.ensures.value in
    table_of c.args.view.now c.args.table c.in-Some.entries.items targets size entries
    (subst (λ (xs : List ℕ). AreIn xs targets) same (c.are_alike.ensures.one so))
    (subst (λ (xs : List ℕ). AreIn targets xs) same (c.are_alike.ensures.other so))
