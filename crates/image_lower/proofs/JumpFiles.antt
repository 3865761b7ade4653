-- The notes of a jump file are few, each with few distinct targets, and all addresses are multiples of 4.
use Rattle.std.proofs.Common.{◌≡◌, ℕ, ◌+◌, ◌-◌, ◌%◌, ◌^◌, ◌≤◌, Bool, true, false, List, [], ◌∷◌, length, Option, Some, None, Result, Ok, Err, refl, ap, subst, arith}
use Rattle.std.specs.Prelude.{All, ◌==◌, ◌&&◌, nat_le, if◌then◌else◌, option_map, option_and_then, codes}
use Rattle.std.proofs.lemmas.Bool.{and_parts, eqb-true, leb-true}
use Rattle.std.proofs.lemmas.List.Elements.{All-nil, All-cons}
use Rattle.toml.specs.Data.{Data, Items, no_items, item, Members, get_member, as_array}
use Rattle.scale_base.specs.declared.refusal.Refusal.{Refusal}
use Rattle.scale_base.specs.declared.refusal.Refusal.TheVariants.{JumpText, JumpKey, JumpValue}
use Rattle.table_keys.specs.Keys.{document_of, least_unknown, number_of, tables_of, or_refuse, none_or_refuse, checked_keys, ◌>>=◌}
use Rattle.jump_lists.specs.declared.notes.JumpNote.{JumpNote}
use Rattle.jump_lists.specs.Notes.{are_distinct, IsAligned, AreTargets, IsJumpNote, AreJumpNotes}
use Rattle.jump_lists.specs.Jumps.{jump_file_keys, jump_keys, checked_version, few_jumps, jump_list, jump_tables, aligned, target_address, all_targets, targets_count, few_targets, distinct, targets_in, targets_of, at_of, targets_at, jump_note_of, jump_notes_from, jump_notes_of, read_jumps}

-- ---- parts that may refuse, and options

-- what went on, and what it gave
record WentOn {A B : Type 0} (r : Result A Refusal) (f : A → Result B Refusal) (y : B) : Type 0 where
  value : A
  was : r ≡ Ok value
  on : f value ≡ Ok y

went_on : {A B : Type 0} (r : Result A Refusal) (f : A → Result B Refusal) (y : B) → (r >>= f) ≡ Ok y → WentOn r f y
went_on (Ok x) f y e = record { value = x; was = refl; on = e }
went_on (Err refusal) f y e = let never : ⊥ = cc in absurd never

some_of : {A : Type 0} (refusal : Refusal) (o : Option A) (x : A) → or_refuse refusal o ≡ Ok x → o ≡ Some x
some_of refusal None x e = let never : ⊥ = cc in absurd never
some_of refusal (Some y) x e = let same : y ≡ x = cc in ap Some same

record Found {A B : Type 0} (f : A → Option B) (o : Option A) (y : B) : Type 0 where
  value : A
  was : o ≡ Some value
  gives : f value ≡ Some y

found : {A B : Type 0} (f : A → Option B) (o : Option A) (y : B) → option_and_then f o ≡ Some y → Found f o y
found f None y e = let never : ⊥ = cc in absurd never
found f (Some x) y e = record { value = x; was = refl; gives = e }

passed : {A : Type 0} (b : Bool) (x y : A) → (if b then Some x else None) ≡ Some y → (b ≡ true) × (x ≡ y)
passed true x y e = let same : x ≡ y = cc in (refl, same)
passed false x y e = let never : ⊥ = cc in absurd never

-- ---- the targets

address_aligned : (d : Data) (at : ℕ) → target_address d ≡ Some at → IsAligned at
address_aligned d at e =
    let a = found aligned (number_of 0 (2 ^ 32 - 1) d) at e in
    let p = passed (a.value % 4 == 0) a.value at a.gives in
    subst IsAligned p.1 (eqb-true (a.value % 4) 0 p.0)

record AreRead (ds : Items) (targets : List ℕ) : Type 0 where
  count : length targets ≡ targets_count ds
  each : All IsAligned targets

read_on : (ds : Items) (a : ℕ) (o : Option (List ℕ)) (targets : List ℕ) → IsAligned a → ((others : List ℕ) → o ≡ Some others → AreRead ds others) → option_map (λ others. a ∷ others) o ≡ Some targets → (d : Data) → AreRead (item d ds) targets
read_on ds a None targets one go e d = let never : ⊥ = cc in absurd never
read_on ds a (Some others) targets one go e d =
    let rest = go others refl in
    let same : a ∷ others ≡ targets = cc in
    let n = rest.count in
    subst (AreRead (item d ds)) same (record { count = omega (arith, n); each = All-cons IsAligned a others one rest.each })

all_read : (ds : Items) (targets : List ℕ) → all_targets ds ≡ Some targets → AreRead ds targets
all_read no_items targets e = let same : [] ≡ targets = cc in subst (AreRead no_items) same (record { count = refl; each = All-nil IsAligned })
all_read (item d ds) targets e =
    let a = found (λ a. option_map (λ others. a ∷ others) (all_targets ds)) (target_address d) targets e in
    read_on ds a.value (all_targets ds) targets (address_aligned d a.value a.was) (λ others is. all_read ds others is) a.gives d

targets_kept : (d : Data) (targets : List ℕ) → targets_of d ≡ Some targets → AreTargets targets
unfolding targets_of
targets_kept d targets e =
    let a = found targets_in (option_and_then few_targets (as_array d)) targets e in
    let b = found few_targets (as_array d) a.value a.was in
    let c = passed (nat_le 1 (targets_count b.value) && nat_le (targets_count b.value) 128) b.value a.value b.gives in
    let f = and_parts (nat_le 1 (targets_count b.value)) (nat_le (targets_count b.value) 128) c.0 in
    let g = found distinct (all_targets a.value) targets a.gives in
    let h = passed (are_distinct g.value) g.value targets g.gives in
    let r = all_read a.value g.value g.was in
    let n = r.count in
    let low = leb-true 1 (targets_count b.value) f.0 in
    let high = leb-true (targets_count b.value) 128 f.1 in
    let size : targets_count b.value ≡ targets_count a.value = ap targets_count c.1 in
    subst AreTargets h.1 (record { some = omega (arith, n, low, size); few = omega (arith, n, high, size); aligned = r.each; distinct = h.0 })

-- ---- a note, and all of them

note_of : ℕ → List ℕ → JumpNote
note_of at targets = record { at = at; targets = targets }

note_kept : (k : ℕ) (table : Members) (note : JumpNote) → jump_note_of k table ≡ Ok note → IsJumpNote note
unfolding jump_note_of note_of
note_kept k table note e =
    let a = went_on (checked_keys (JumpKey k) jump_keys jump_keys table) _ note e in
    let b = went_on (at_of k table) (λ at. targets_at k table >>= λ targets. Ok (note_of at targets)) note a.on in
    let c = went_on (targets_at k table) (λ targets. Ok (note_of b.value targets)) note b.on in
    let at = found target_address (get_member (codes "at") table) b.value (some_of (JumpValue k (codes "at")) (option_and_then target_address (get_member (codes "at") table)) b.value b.was) in
    let to = found targets_of (get_member (codes "targets") table) c.value (some_of (JumpValue k (codes "targets")) (option_and_then targets_of (get_member (codes "targets") table)) c.value c.was) in
    let same : note_of b.value c.value ≡ note = cc in
    subst IsJumpNote same (record { at = address_aligned at.value b.value at.gives; targets = targets_kept to.value c.value to.gives })

record AreNotesOf (tables : List Members) (notes : List JumpNote) : Type 0 where
  count : length notes ≡ length tables
  each : All IsJumpNote notes

notes_kept : (k : ℕ) (tables : List Members) (notes : List JumpNote) → jump_notes_from k tables ≡ Ok notes → AreNotesOf tables notes
notes_kept k [] notes e = let same : [] ≡ notes = cc in subst (AreNotesOf []) same (record { count = refl; each = All-nil IsJumpNote })
notes_kept k (table ∷ tables) notes e =
    let a = went_on (jump_note_of k table) (λ first. jump_notes_from (k + 1) tables >>= λ others. Ok (first ∷ others)) notes e in
    let b = went_on (jump_notes_from (k + 1) tables) (λ others. Ok (a.value ∷ others)) notes a.on in
    let rest = notes_kept (k + 1) tables b.value b.was in
    let same : a.value ∷ b.value ≡ notes = cc in
    let n = rest.count in
    subst (AreNotesOf (table ∷ tables)) same (record { count = omega (arith, n); each = All-cons IsJumpNote a.value b.value (note_kept k table a.value a.was) rest.each })

tables_few : (o : Option Data) (tables : List Members) → jump_list o ≡ Some tables → length tables ≤ 1024
tables_few None tables e = let same : [] ≡ tables = cc in subst (λ (ts : List Members). length ts ≤ 1024) same (omega arith)
tables_few (Some d) tables e =
    let a = found few_jumps (tables_of d) tables e in
    let p = passed (nat_le (length a.value) 1024) a.value tables a.gives in
    subst (λ (ts : List Members). length ts ≤ 1024) p.1 (leb-true (length a.value) 1024 p.0)

table_kept : (table : Members) (notes : List JumpNote) → jump_notes_of table ≡ Ok notes → AreJumpNotes notes
unfolding jump_notes_of
table_kept table notes e =
    let a = went_on (checked_version table) _ notes e in
    let b = went_on (none_or_refuse (JumpKey 0) (least_unknown jump_file_keys table)) _ notes a.on in
    let c = went_on (jump_tables table) (jump_notes_from 1) notes b.on in
    let few = tables_few (get_member (codes "jump") table) c.value (some_of (JumpValue 0 (codes "jump")) (jump_list (get_member (codes "jump") table)) c.value c.was) in
    let kept = notes_kept 1 c.value notes c.on in
    let n = kept.count in
    record { few = omega (arith, few, n); each = kept.each }

pub read_kept : (bytes : List ℕ) (notes : List JumpNote) → read_jumps bytes ≡ Ok notes → AreJumpNotes notes
unfolding read_jumps
read_kept bytes notes e = let a = went_on (or_refuse JumpText (document_of bytes)) jump_notes_of notes e in table_kept a.value notes a.on
