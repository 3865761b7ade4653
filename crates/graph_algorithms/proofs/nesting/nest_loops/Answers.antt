use Rattle.std.proofs.Common.{rules, arith, refl, sym, subst, ◌∙◌, ap, ◌≡◌, ℕ, ◌<◌, length, ◌+◌, ◌++◌, take, drop, slice_set, None}
use Rattle.std.specs.List.{Contains}
use Rattle.std.proofs.Math.Seq.{take-append_seam}
use Rattle.std.proofs.lemmas.List.{get_or_read}
use Rattle.graph_algorithms.specs.Nesting.{bodies_of, IsNesting, body_at, header_in_list, found_at}
use Rattle.graph_algorithms.specs.NestingPass.{AreFalling, ArePut, IsNestingPass, rank_at}
use Rattle.graph_algorithms.proofs.NestingPassLaws.{body_read, header_within, nesting_found, pass_more}
use Rattle.graph_algorithms.proofs.nesting.nest_loops.Goals as goal

pub index-requires : goal.index-requires
index-requires c =
    let falling : AreFalling (bodies_of c.args.bodies.now) c.deref-rank-items.result.now = search rules in
    let il : c.loop-rank.rank-index < length c.deref-rank-items.result.now = search rules in
    let lt : header_in_list c.args.headers.now (rank_at c.deref-rank-items.result.now c.loop-rank.rank-index).number < c.args.count = header_within _ _ _ _ _ c.requires.loops falling il in
    search rules

pub put-requires : goal.put-requires
put-requires c =
    let falling : AreFalling (bodies_of c.args.bodies.now) c.deref-rank-items.result.now = search rules in
    let il : c.loop-rank.rank-index < length c.deref-rank-items.result.now = search rules in
    let number : ℕ = (rank_at c.deref-rank-items.result.now c.loop-rank.rank-index).number in
    let inside : number < length (bodies_of c.args.bodies.now) = falling.within c.loop-rank.rank-index il in
    let body : c.deref.result.now ≡ body_at (bodies_of c.args.bodies.now) number = c.deref.ensures.value ∙ body_read c.args.bodies.now number _ c.index-bodies-number.result inside c.index-bodies-number.is in
    let size : length c.deref_mut.result.now ≡ c.args.count = ap length c.deref_mut.ensures.value ∙ c.loop-rank.invariant.nodes in
    record { within = λ v has. let lt = c.requires.loops.within number v (inside, subst (λ xs. Contains xs v) body has) in omega (arith, lt, size) }

pub loop-rank-preserved : goal.loop-rank-preserved
loop-rank-preserved c =
    let falling : AreFalling (bodies_of c.args.bodies.now) c.deref-rank-items.result.now = search rules in
    let il : c.loop-rank.rank-index < length c.deref-rank-items.result.now = search rules in
    let number : ℕ = (rank_at c.deref-rank-items.result.now c.loop-rank.rank-index).number in
    let inside : number < length (bodies_of c.args.bodies.now) = falling.within c.loop-rank.rank-index il in
    let body : c.deref.result.now ≡ body_at (bodies_of c.args.bodies.now) number = c.deref.ensures.value ∙ body_read c.args.bodies.now number _ c.index-bodies-number.result inside c.index-bodies-number.is in
    let size : length c.put.new.innermost ≡ length c.loop-rank.innermost.items = c.put.ensures.size ∙ ap length c.deref_mut.ensures.value in
    let whole : length c.put.new.innermost ≡ c.loop-rank.innermost.len = search rules in
    let new : take c.loop-rank.innermost.len (c.put.new.innermost ++ drop (length c.put.new.innermost) c.loop-rank.innermost.items) ≡ c.put.new.innermost = subst (λ n. take n (c.put.new.innermost ++ drop (length c.put.new.innermost) c.loop-rank.innermost.items) ≡ c.put.new.innermost) whole (take-append_seam _ _) in
    let hl : header_in_list c.args.headers.now number < length c.loop-rank.innermost.items = (let lt = header_within _ _ _ _ _ c.requires.loops falling il in omega (arith, lt, c.loop-rank.invariant.nodes)) in
    let read : c.index.result.now ≡ found_at c.loop-rank.innermost.items (header_in_list c.args.headers.now number) = get_or_read c.loop-rank.innermost.items _ _ hl c.index.ensures None in
    let before : ArePut c.loop-rank.innermost.items c.put.new.innermost c.deref.result.now (length c.deref.result.now) number = subst (λ old. ArePut old c.put.new.innermost c.deref.result.now (length c.deref.result.now) number) c.deref_mut.ensures.value c.put.ensures.put in
    let put : ArePut c.loop-rank.innermost.items c.put.new.innermost (body_at (bodies_of c.args.bodies.now) number) (length (body_at (bodies_of c.args.bodies.now) number)) number = subst (λ xs. ArePut c.loop-rank.innermost.items c.put.new.innermost xs (length xs) number) body before in
    let more = pass_more (bodies_of c.args.bodies.now) c.args.headers.now c.args.count c.deref-rank-items.result.now c.loop-rank.rank-index number c.loop-rank.innermost.items c.put.new.innermost c.loop-rank.parent.items falling c.requires.loops il refl c.loop-rank.invariant.nodes size c.loop-rank.invariant.pass put in
    record {
      nodes = ap length new ∙ size ∙ c.loop-rank.invariant.nodes;
      pass = subst (λ xs. IsNestingPass (bodies_of c.args.bodies.now) c.args.headers.now c.deref-rank-items.result.now (c.loop-rank.rank-index + 1) xs (slice_set c.loop-rank.parent.items number c.index.result.now)) (sym new)
          (subst (λ o. IsNestingPass (bodies_of c.args.bodies.now) c.args.headers.now c.deref-rank-items.result.now (c.loop-rank.rank-index + 1) c.put.new.innermost (slice_set c.loop-rank.parent.items number o)) (sym read) more);
    }

pub returns : goal.returns
returns c =
    let falling : AreFalling (bodies_of c.args.bodies.now) c.deref-rank-items.result.now = search rules in
    let all : c.loop-rank.rank-index ≡ length c.deref-rank-items.result.now = search rules in
    subst (λ nesting. IsNesting (bodies_of c.args.bodies.now) c.args.headers.now c.args.count nesting) (sym c.new.ensures)
    (nesting_found (bodies_of c.args.bodies.now) c.args.headers.now c.args.count c.deref-rank-items.result.now c.loop-rank.rank-index c.loop-rank.innermost.items c.loop-rank.parent.items c.requires.loops falling all c.loop-rank.invariant.nodes c.loop-rank.invariant.pass)
