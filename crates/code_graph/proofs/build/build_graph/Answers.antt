use Rattle.std.proofs.Common.{◌≡◌, length, Some, None, inl, inr, refl, subst}
use Rattle.std.specs.Prelude.{slice_get}
use Rattle.code_graph.specs.declared.reach.marks.Mark.TheVariants.{Shared}
use Rattle.cost_theory.specs.Reached.{HasNoBadWord}
use Rattle.code_text.specs.Text.{text_of, kind_at}
use Rattle.code_graph.specs.Finding.{reach_of, IsFirstBelow, IsLeastBad}
use Rattle.code_graph.proofs.Lists.{none_is}
use Rattle.flow_graph.proofs.Laws.{fine_cause}
use Rattle.code_graph.proofs.Reaching.{first_is_least, none_shared}
use Rattle.code_graph.proofs.build.build_graph.Goals as goal

pub returns-in-Some : goal.returns-in-Some
returns-in-Some c =
    let least : IsLeastBad (text_of c.args.view.now) (Some c.in-Some.at) = subst (IsLeastBad (text_of c.args.view.now)) c.in-Some.is c.least_refused.ensures in
    inl (record {
      at = c.in-Some.at;
      reached = least.0;
      cause = c.refusal_at.ensures;
      least = λ v reached below. fine_cause (text_of c.args.view.now) v (least.2 v reached below);
    })

pub returns-in-Some-first_shared : goal.returns-in-Some-first_shared
returns-in-Some-first_shared c =
    let fine : HasNoBadWord (kind_at (text_of c.args.view.now)) c.args.view.now.entry = subst (IsLeastBad (text_of c.args.view.now)) (none_is c.least_refused.result c.in_default.not-Some) c.least_refused.ensures in
    let r = c.in_ok-reach.reach in
    let first : IsFirstBelow (length c.in_ok-reach.reach.marks.items) (λ k. slice_get c.in_ok-reach.reach.marks.items k ≡ Some Shared) (Some c.in-Some-first_shared.k) =
    subst (λ xs. IsFirstBelow (length xs) (λ k. slice_get xs k ≡ Some Shared) (Some c.in-Some-first_shared.k)) c.deref.ensures.value
    (subst (IsFirstBelow (length c.deref.result.now) (λ k. slice_get c.deref.result.now k ≡ Some Shared)) c.in-Some-first_shared.is c.first_shared.ensures) in
    let is = c.in_ok-reach.ensures.reach in
    let least = first_is_least (text_of c.args.view.now) (reach_of c.in_ok-reach.reach) is.reach is.table fine c.in-Some-first_shared.k c.address.result first c.address.ensures in
    inr (inl (record {
      at = c.address.result;
      named = refl;
      no_bad_word = fine;
      shared = least.0;
      least = least.1;
    }))

pub graph_of-requires-clause-apart : goal.graph_of-requires-clause-apart
graph_of-requires-clause-apart c =
    let fine : HasNoBadWord (kind_at (text_of c.args.view.now)) c.args.view.now.entry = subst (IsLeastBad (text_of c.args.view.now)) (none_is c.least_refused.result c.in_default.not-Some) c.least_refused.ensures in
    let first : IsFirstBelow (length c.in_ok-reach.reach.marks.items) (λ k. slice_get c.in_ok-reach.reach.marks.items k ≡ Some Shared) None =
    subst (λ xs. IsFirstBelow (length xs) (λ k. slice_get xs k ≡ Some Shared) None) c.deref.ensures.value
    (subst (IsFirstBelow (length c.deref.result.now) (λ k. slice_get c.deref.result.now k ≡ Some Shared)) (none_is c.first_shared.result c.in_default-first_shared.not-Some) c.first_shared.ensures) in
    let is = c.in_ok-reach.ensures.reach in
    none_shared (text_of c.args.view.now) (reach_of c.in_ok-reach.reach) is.reach is.table fine first
