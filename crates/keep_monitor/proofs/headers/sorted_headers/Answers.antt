use Rattle.std.proofs.Common.{rules, nat_lt, ◌∙◌, ap}
use Rattle.std.proofs.lemmas.List.MinMax.{IsStrictWeakOrder-by_number}
use Rattle.std.proofs.lemmas.List.Sorted.{answers_always, IsNonDecreasingBy-from_sort_by}
use Rattle.std.specs.Cmp.{IsStrictWeakOrder}
use Rattle.std.specs.List.{filter}
use Rattle.keep_monitor.specs.declared.headers.Header.{Header}
use Rattle.keep_monitor.specs.Headers.{is_of}
use Rattle.keep_monitor.proofs.HeaderLaws.{same_from_stable}
use Rattle.keep_monitor.proofs.headers.sorted_headers.Goals as goal

pub returns : goal.returns
returns c =
    let order : IsStrictWeakOrder (λ (x y : Header). nat_lt x.at y.at) = IsStrictWeakOrder-by_number (λ (h : Header). h.at) in
    let stable = c.sort_by.ensures.stable (λ x y. nat_lt x.at y.at) order (answers_always _ _ _ (λ f a r g h. search rules)) in
    record {
      rise = IsNonDecreasingBy-from_sort_by (λ h. h.at) _ c.in_ok-sort_by.ensures.sorted (λ a r q k. search rules);
      same = λ at. same_from_stable _ _ stable at ∙ ap (filter (is_of at)) c.in_ok-headers.ensures;
    }
