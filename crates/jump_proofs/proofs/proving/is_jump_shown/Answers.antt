use Rattle.std.proofs.Common.{ℕ, List, refl, subst}
use Rattle.std.proofs.lemmas.Option.{slice_get_within}
use Rattle.fixed_tables.specs.Tables.{IsTableOf}
use Rattle.jump_proofs.proofs.Shown.{known_there, register_there}
use Rattle.jump_proofs.proofs.proving.is_jump_shown.Goals as goal

pub read-requires-clause-node : goal.read-requires-clause-node
read-requires-clause-node c = slice_get_within c.args.claim.now.claim.now.graph.now.code.nodes c.in-Some.k c.args.note.now.at ((c.in-Some.ensures c.in-Some.k).0 refl)

pub returns : goal.returns
returns c so = record {
  read = c.in-Some-read.x;
  known = known_there c.args.claim.now c.in-Some.k c.args.note.now.at c.in-Some-read.x ((c.in-Some.ensures c.in-Some.k).0 refl) c.in-Some-read.ensures;
  register_is = register_there c.args.original.now c.args.note.now c.in-Some-register_at.r c.in-Some-read.x.register c.in-Some-register_at.ensures c.if-r-x.false;
  table = subst (λ (xs : List ℕ). IsTableOf c.args.claim.now.claim.now.view.now c.in-Some-read.x.table xs) c.as_slice.ensures (c.in_ok-same.ensures so);
}
