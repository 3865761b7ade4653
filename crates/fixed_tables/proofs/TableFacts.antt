-- Tables by the lists of their entries.
use Rattle.std.proofs.Common.{◌≡◌, ℕ, ◌<◌, List, length, subst, sym}
use Rattle.std.specs.Prelude.{slice_index}
use Rattle.scale_base.specs.Image.{Image}
use Rattle.fixed_tables.specs.declared.table.Table.{Table}
use Rattle.fixed_tables.specs.Tables.{IsEntry, IsTableOf, AreIn}

abbrev pub AreEntries : Image → Table → List ℕ → Type 0
AreEntries image table entries = (k : ℕ) → k < table.count → IsEntry image table k (slice_index entries k)

-- targets that are the entries, and the entries alone
pub table_of : (image : Image) (table : Table) (entries targets : List ℕ) → length entries ≡ table.count → AreEntries image table entries → AreIn entries targets → AreIn targets entries → IsTableOf image table targets
table_of image table entries targets size are in_targets in_entries = record {
  all = λ k kl. let found = in_targets k (subst (λ (n : ℕ). k < n) (sym size) kl) in record {
    i = found.0;
    within = found.1;
    entry = subst (IsEntry image table k) (sym found.2) (are k kl);
  };
  only = λ i il. let found = in_entries i il in let kl : found.0 < table.count = subst (λ (n : ℕ). found.0 < n) size found.1 in record {
    k = found.0;
    within = kl;
    entry = subst (IsEntry image table found.0) found.2 (are found.0 kl);
  };
}
