use Rattle.std.proofs.Common.{◌≡◌, ◌+◌, ◌++◌, map, drop, length, Ok}
use Rattle.toml.specs.View.{table_view}
use Rattle.table_keys.specs.Keys.{◌>>=◌}
use Rattle.jump_lists.specs.Jumps.{jump_notes_from}
use Rattle.jump_lists.proofs.reads.notes.Given as goal

-- the notes so far, before those that are left
abbrev pub invariant-loop-i : goal.invariant-loop-i
invariant-loop-i l = record {
  count : length l.notes ≡ l.i;
  notes : (jump_notes_from (l.i + 1) (map (λ t. table_view t.now) (drop l.i l.tables)) >>= λ ns. Ok (l.notes ++ ns))
      ≡ jump_notes_from 1 (map (λ t. table_view t.now) l.tables);
}
