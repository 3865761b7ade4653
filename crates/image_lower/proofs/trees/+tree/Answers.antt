use Rattle.std.proofs.Common.{◌≡◌, ◌+◌, ◌-◌, ◌*◌, List, ℕ, length, ap, sym, ◌∙◌, arith}
use Rattle.std.specs.Prelude.{filter}
use Rattle.scale_base.specs.declared.instruction.Instr.{Instr}
use Rattle.image_lower.specs.Trees.{has_bit, lacks_bit, tree, fork}
use Rattle.image_lower.proofs.TreeLaws.{parts, tree_alike, tree_forks, fork_len, ok_short}
use Rattle.image_lower.proofs.trees.+tree.Goals as goal

pub returns-then-are_alike-clause-code : goal.returns-then-are_alike-clause-code
returns-then-are_alike-clause-code n c =
    let some = c.if-bits-eq0.false in
    rw (tree_alike c.args.rs c.args.left.bits c.args.left.shifted c.args.at c.args.targets.now (omega (arith, some)) (sym c.are_alike.ensures ∙ c.if-are_alike.true)) c.tree.ensures.code

pub tree-requires-2 : goal.tree-requires-2
tree-requires-2 n c =
    let some = c.if-bits-eq0.false in
    let smaller = c.decreases in
    let low = c.requires.bits in
    let room = c.requires.at in
    let few = c.requires.few in
    let p = parts (c.args.left.bits - 1) c.args.targets.now (sym c.are_alike.ensures ∙ c.if-are_alike.false) in
    let w : length c.deref.result.now ≡ length (filter (lacks_bit (c.args.left.bits - 1)) c.args.targets.now) = ap (λ (xs : List ℕ). length xs) (c.deref.ensures.value ∙ c.in_ok-without.ensures) in
    let a = p.without in
    let b = p.having in
    let d = p.whole in
    (omega (arith, some, smaller), (omega (arith, low), (omega (arith, room, w, a, b, d), (omega (arith, few, w, b, d), omega (arith, w, a)))))

pub tree-requires-3 : goal.tree-requires-3
tree-requires-3 n c =
    let some = c.if-bits-eq0.false in
    let smaller = c.decreases in
    let low = c.requires.bits in
    let room = c.requires.at in
    let few = c.requires.few in
    let p = parts (c.args.left.bits - 1) c.args.targets.now (sym c.are_alike.ensures ∙ c.if-are_alike.false) in
    let w : length c.deref.result.now ≡ length (filter (lacks_bit (c.args.left.bits - 1)) c.args.targets.now) = ap (λ (xs : List ℕ). length xs) (c.deref.ensures.value ∙ c.in_ok-without.ensures) in
    let v : length c.deref-2.result.now ≡ length (filter (has_bit (c.args.left.bits - 1)) c.args.targets.now) = ap (λ (xs : List ℕ). length xs) (c.deref-2.ensures.value ∙ c.in_ok-with.ensures) in
    let a = p.without in
    let b = p.having in
    let d = p.whole in
    let l = c.len.ensures in
    let s = c.in_ok-first.ensures.short in
    (omega (arith, some, smaller), (omega (arith, low), (omega (arith, room, w, v, a, b, d, l, s), (omega (arith, few, v, a, d), omega (arith, v, b)))))

pub fork-requires-clause-short : goal.fork-requires-clause-short
fork-requires-clause-short n c =
    let few = c.requires.few in
    let p = parts (c.args.left.bits - 1) c.args.targets.now (sym c.are_alike.ensures ∙ c.if-are_alike.false) in
    let w : length c.deref.result.now ≡ length (filter (lacks_bit (c.args.left.bits - 1)) c.args.targets.now) = ap (λ (xs : List ℕ). length xs) (c.deref.ensures.value ∙ c.in_ok-without.ensures) in
    let f : length c.deref-3.result.now ≡ length c.in_ok-first.first.items = ap (λ (xs : List Instr). length xs) c.deref-3.ensures.value in
    let b = p.having in
    let d = p.whole in
    let s = c.in_ok-first.ensures.short in
    omega (arith, few, w, b, d, f, s)

pub returns-clause-code : goal.returns-clause-code
returns-clause-code n c =
    let some = c.if-bits-eq0.false in
    let b = c.args.left.bits - 1 in
    let l = c.len.ensures in
    let f : length c.deref-3.result.now ≡ length c.in_ok-first.first.items = ap (λ (xs : List Instr). length xs) c.deref-3.ensures.value in
    let s = c.saturating_sub.ensures in
    rw (tree_forks c.args.rs c.args.left.bits c.args.left.shifted c.saturating_sub.result c.args.at (c.args.at + 8 + 4 * c.len.result) c.args.targets.now c.deref-3.result.now c.deref-4.result.now
    (omega (arith, some)) (sym c.are_alike.ensures ∙ c.if-are_alike.false) (omega (arith, s))
    (c.deref-3.ensures.value ∙ c.in_ok-first.ensures.code ∙ ap (λ (xs : List ℕ). tree c.args.rs b (31 - b) (c.args.at + 8) xs) (c.deref.ensures.value ∙ c.in_ok-without.ensures))
    (omega (arith, l, f))
    (c.deref-4.ensures.value ∙ c.in_ok-second.ensures.code ∙ ap (λ (xs : List ℕ). tree c.args.rs b (31 - b) (c.args.at + 8 + 4 * c.len.result) xs) (c.deref-2.ensures.value ∙ c.in_ok-with.ensures)))
    c.fork.ensures

pub returns-clause-short : goal.returns-clause-short
returns-clause-short n c =
    let p = parts (c.args.left.bits - 1) c.args.targets.now (sym c.are_alike.ensures ∙ c.if-are_alike.false) in
    let w : length c.deref.result.now ≡ length (filter (lacks_bit (c.args.left.bits - 1)) c.args.targets.now) = ap (λ (xs : List ℕ). length xs) (c.deref.ensures.value ∙ c.in_ok-without.ensures) in
    let v : length c.deref-2.result.now ≡ length (filter (has_bit (c.args.left.bits - 1)) c.args.targets.now) = ap (λ (xs : List ℕ). length xs) (c.deref-2.ensures.value ∙ c.in_ok-with.ensures) in
    let f : length c.deref-3.result.now ≡ length c.in_ok-first.first.items = ap (λ (xs : List Instr). length xs) c.deref-3.ensures.value in
    let g : length c.deref-4.result.now ≡ length c.in_ok-second.second.items = ap (λ (xs : List Instr). length xs) c.deref-4.ensures.value in
    let d = p.whole in
    let s = c.in_ok-first.ensures.short in
    let t = c.in_ok-second.ensures.short in
    let k = fork_len c.args.rs c.saturating_sub.result c.deref-3.result.now c.deref-4.result.now in
    ok_short (λ code. code.items) c.fork.result (fork c.args.rs c.saturating_sub.result c.deref-3.result.now c.deref-4.result.now) (5 * length c.args.targets.now) c.fork.ensures (omega (arith, w, v, f, g, d, s, t, k))
