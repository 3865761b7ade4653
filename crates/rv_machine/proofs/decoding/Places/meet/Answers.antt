use Rattle.std.proofs.Common.{rules, ◌<◌, length, leb, leb-true, arith}
use Rattle.std.proofs.lemmas.Bool.{leb-false}
use Rattle.std.proofs.lemmas.List.Sorted.{IsPartitionPoint-from_clause, IsPartitionedBy-leb}
use Rattle.scale_base.specs.declared.ranges.Range.{Range}
use Rattle.rv_machine.proofs.PlaceLaws.{ends_rise, full_at, reached, text_found}
use Rattle.rv_machine.proofs.decoding.Places.meet.Goals as goal

pub returns-then-place-self-clause-text : goal.returns-then-place-self-clause-text
returns-then-place-self-clause-text c = λ a order low high here.
    let text = c.args.self.now.text.now in
    let parted = IsPartitionedBy-leb (λ r. r.to) text c.args.from (ends_rise 0 text order) in
    let point = IsPartitionPoint-from_clause (λ r. leb r.to c.args.from) _ _ c.partition_point-place.ensures.partitioned parted (λ b r q k. search rules) in
    let d : Range = record { from = 0; to = 0 } in
    let r = reached text c.args.from c.args.last c.partition_point-place.result a d c.requires order (λ k e l. leb-true _ _ (point.0 k e (omega arith) l)) (λ k e le l. leb-false _ _ (point.1 k e le l)) low high here in
    c.meets-then-place-self.ensures.each r.1.0 r.1.1 r.1.2 r.1.3

pub returns-then-place-self-clause-some : goal.returns-then-place-self-clause-some
returns-then-place-self-clause-some c = λ full yes.
    let d : Range = record { from = 0; to = 0 } in
    let place = c.partition_point-place.result in
    let inside : place < length c.args.self.now.text.now = c.if-place-self.true in
    text_found c.args.self.now c.args.from c.args.last place d inside (c.meets-then-place-self.ensures.some (full_at 0 c.args.self.now.text.now place d full.text inside) yes)

pub returns-else-place-self-clause-text : goal.returns-else-place-self-clause-text
returns-else-place-self-clause-text c = λ a order low high here.
    let text = c.args.self.now.text.now in
    let parted = IsPartitionedBy-leb (λ r. r.to) text c.args.from (ends_rise 0 text order) in
    let point = IsPartitionPoint-from_clause (λ r. leb r.to c.args.from) _ _ c.partition_point-place.ensures.partitioned parted (λ b r q k. search rules) in
    let d : Range = record { from = 0; to = 0 } in
    let r = reached text c.args.from c.args.last c.partition_point-place.result a d c.requires order (λ k e l. leb-true _ _ (point.0 k e (omega arith) l)) (λ k e le l. leb-false _ _ (point.1 k e le l)) low high here in
    let inside = r.0 in absurd (omega arith)
