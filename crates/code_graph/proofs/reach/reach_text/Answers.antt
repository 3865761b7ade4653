use Rattle.std.proofs.Common.{◌≡◌, ◌↔◌, ℕ, true, length, ap, subst, ◌∙◌, arith}
use Rattle.code_text.specs.Text.{text_of, kind_at}
use Rattle.code_graph.specs.Flow.{flag, CanReturnAt}
use Rattle.code_graph.specs.Steps.{IsWordNumber, AreReachMarks}
use Rattle.code_graph.specs.Outside.{IsLowest, IsOutsideOf, IsComeTo}
use Rattle.code_graph.proofs.Tables.{few_words, number_within}
use Rattle.code_graph.proofs.ReachLaws.{reach_is}
use Rattle.code_graph.proofs.reach.reach_text.Goals as goal

pub find_returning-requires : goal.find_returning-requires
find_returning-requires c =
    let few = few_words (kind_at (text_of c.args.view.now)) c.in_ok-words.words c.in_ok-words.ensures.table in
    let size = ap length c.deref.ensures.value ∙ c.in_ok-steps.ensures.size in
    omega (arith, few, size)

pub mark_from-requires-clause-within : goal.mark_from-requires-clause-within
mark_from-requires-clause-within c =
    number_within c.in_ok-words.words c.entry-entry.result (length c.deref-2.result.now) c.find.result c.find.ensures (ap length c.deref-2.ensures.value ∙ c.in_ok-steps.ensures.size)

pub mark_from-requires-clause-room : goal.mark_from-requires-clause-room
mark_from-requires-clause-room c =
    let few = few_words (kind_at (text_of c.args.view.now)) c.in_ok-words.words c.in_ok-words.ensures.table in
    let size = ap length c.deref-2.ensures.value ∙ c.in_ok-steps.ensures.size in
    omega (arith, few, size)

pub returns : goal.returns
returns c =
    let t = text_of c.args.view.now in
    let words = c.in_ok-words.words in
    let steps = c.in_ok-steps.steps.items in
    let returning = c.in_ok-returning.returning.items in
    let m = c.in_ok-marked.marked in
    let entry = c.entry-entry.result in
    let outside = c.lowest_outside-outside.result in
    let flags = subst (λ xs. (s : ℕ) → (flag returning s ≡ true) ↔ CanReturnAt xs s) c.deref.ensures.value c.in_ok-returning.ensures.flags in
    let start = subst (λ v. IsWordNumber words v c.find.result) c.entry-entry.ensures c.find.ensures in
    let marked = subst (λ xs. AreReachMarks xs returning c.find.result m.marks.items m.functions.items m.numbers.items) c.deref-2.ensures.value
    (subst (λ xs. AreReachMarks c.deref-2.result.now xs c.find.result m.marks.items m.functions.items m.numbers.items) c.deref-3.ensures.value c.in_ok-marked.ensures) in
    let least = subst (λ v. IsLowest (λ u. IsComeTo words returning m.marks.items v (length words.addresses) u × IsOutsideOf words u) outside) c.entry-entry.ensures
    (subst (λ xs. IsLowest (λ u. IsComeTo words xs m.marks.items entry (length words.addresses) u × IsOutsideOf words u) outside) c.deref-4.ensures.value
    (subst (λ xs. IsLowest (λ u. IsComeTo words c.deref-4.result.now xs entry (length words.addresses) u × IsOutsideOf words u) outside) c.deref-5.ensures.value c.lowest_outside-outside.ensures)) in
    reach_is t words steps returning c.find.result m.marks.items m.functions.items m.numbers.items c.in_ok-words.ensures.table c.in_ok-steps.ensures flags start marked outside
    c.in_ok-words.ensures.words (c.in_ok-returning.ensures.size ∙ ap length c.deref.ensures.value) least
