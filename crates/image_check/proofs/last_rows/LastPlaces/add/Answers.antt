use Rattle.std.proofs.Common.{◌≡◌, ⊎_elim, ◌+◌, ◌<◌, ◌≤◌, sym, ap, ◌∙◌, subst, arith}
use Rattle.std.proofs.lemmas.Bool.{cases_lt}
use Rattle.stored_runs.specs.Meaning.{four_bits}
use Rattle.image_check.specs.LastRows.{last_of}
use Rattle.image_check.proofs.last_rows.LastPlaces.add.Goals as goal

pub loop-i-preserved : goal.loop-i-preserved
loop-i-preserved c = record {
  has = λ k j low small is. ⊎_elim
      (λ (lt : k < c.loop-i.i). c.set.ensures.others k j (omega arith) small (λ same at. absurd (omega (arith, lt, same))) ∙ c.loop-i.invariant.has k j lt small is)
      (λ (le : c.loop-i.i ≤ k).
      let same : c.loop-i.i ≡ k = omega arith in
      let at : c.entry_of.result ≡ j = c.entry_of.ensures.value ∙ (ap (four_bits c.args.word) same ∙ is) in
      subst (λ m. last_of c.set.new.self m j ≡ c.args.number + 1) same (subst (λ m. last_of c.set.new.self c.loop-i.i m ≡ c.args.number + 1) at c.set.ensures.there)) (cases_lt k c.loop-i.i);
  others = λ k j low small other.
      c.set.ensures.others k j low small (λ same at. other (ap (four_bits c.args.word) same ∙ (sym c.entry_of.ensures.value ∙ sym at))) ∙ c.loop-i.invariant.others k j low small other;
}
