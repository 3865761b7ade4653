use Rattle.std.proofs.Common.{rules, subst, sym, length, ltb}
use Rattle.std.proofs.lemmas.Bool.{ltb-false}
use Rattle.std.proofs.lemmas.List.{length-map}
use Rattle.std.proofs.lemmas.List.MinMax.{IsStrictWeakOrder-by_number, IsStrictWeakOrder-flip}
use Rattle.std.proofs.lemmas.List.Sorted.{answers_always, sorted_far}
use Rattle.std.specs.Cmp.{IsStrictWeakOrder}
use Rattle.graph_algorithms.specs.declared.nesting.ranks.Rank.{Rank}
use Rattle.graph_algorithms.specs.Nesting.{bodies_of}
use Rattle.graph_algorithms.specs.NestingPass.{AreRanks}
use Rattle.graph_algorithms.proofs.RankLaws.{sorted_fall}
use Rattle.graph_algorithms.proofs.nesting.ranks.falling_ranks.Goals as goal

pub returns : goal.returns
returns c =
    let order : IsStrictWeakOrder (λ (x y : Rank). ltb y.size x.size) = IsStrictWeakOrder-flip (λ (x y : Rank). ltb x.size y.size) (IsStrictWeakOrder-by_number (λ (rank : Rank). rank.size)) in
    let sorted = c.in_ok-sort_by.ensures.sorted (λ x y. ltb y.size x.size) order (answers_always _ _ _ (λ f a r g h. search rules)) in
    let ranks : AreRanks (bodies_of c.args.bodies.now) c.in_ok-ranks.ranks.items (length (bodies_of c.args.bodies.now)) = subst (λ n. AreRanks (bodies_of c.args.bodies.now) c.in_ok-ranks.ranks.items n) (sym (length-map c.args.bodies.now _)) c.in_ok-ranks.ensures in
    sorted_fall (bodies_of c.args.bodies.now) c.in_ok-ranks.ranks.items c.sort_by.new.self.items ranks c.sort_by.ensures.permutation
    (λ i j le jl. ltb-false _ _ (sorted_far (λ (x y : Rank). ltb y.size x.size) order c.sort_by.new.self.items sorted i j (record { size = 0; number = 0 }) le jl))
