-- Stores in order, one at a time.
use Rattle.std.proofs.Common.{◌≡◌, ℕ, ◌+◌, ◌-◌, ◌<◌, ◌≤◌, List, [], ◌∷◌, ◌++◌, length, take, get_or, refl, sym, ap, subst, ◌∙◌, arith, add-one, length-append}
use Rattle.std.specs.Prelude.{Option, Some, None, option_map, slice_get, string_bytes, IsSomeAnd, IsSome, Result, Ok, Err, OnErr}
use Rattle.std.specs.FinMap.{insert}
use Rattle.std.proofs.lemmas.Option.{slice_get-map, slice_get_read, slice_get_within, get_or_from_slice_get}
use Rattle.std.proofs.lemmas.List.Sums.{sum_by-append, sum_by-take-le}
use Rattle.std.proofs.lemmas.List.{length-take-le}
use Rattle.std.proofs.Math.Seq.{take-suc}
use Rattle.host_files.specs.HostState.{Files, Room, HostState, count_up}
use Rattle.host_files.specs.Host.{store_spent, HasStoreRoom, MayHoldAnything}
use Rattle.host_runs.specs.declared.reply.Store.{Store}
use Rattle.host_runs.specs.Answer.{Stores}
use Rattle.host_runs.specs.Delivered.{with_stores, stores_spent, bytes_of_stores, HasRoom, FailedInStore}
use Rattle.host_runs.specs.Views.{store_views}

-- the first stores have been made, and nothing else
pub record SoFar (stores : Stores) (count : ℕ) (old now : HostState) : Type 0 where
  pub files : now.files ≡ option_map (with_stores (take count stores)) old.files
  pub room : now.room ≡ option_map (stores_spent (take count stores)) old.room
  pub printed : now.printed ≡ old.printed
  pub faults : now.faults ≡ old.faults
  pub store_faults : now.store_faults ≡ old.store_faults

pub store_at : (stores : List Store) (i : ℕ) (store : Store) → i < length stores → store ≡ get_or stores i store →
    slice_get (store_views stores) i ≡ Some (string_bytes store.name, store.bytes.items)
store_at stores i store h is =
    slice_get-map (λ (s : Store). (string_bytes s.name, s.bytes.items)) stores i
    ∙ ap (option_map (λ (s : Store). (string_bytes s.name, s.bytes.items))) (slice_get_read stores (length stores) i store refl h is)

pub take_next : {A : Type 0} (stores : List A) (i : ℕ) (store : A) → slice_get stores i ≡ Some store → take (i + 1) stores ≡ take i stores ++ store ∷ []
take_next {A} stores i store is =
    let h : i < length stores = slice_get_within stores i store is in
    let here : get_or stores i store ≡ store = get_or_from_slice_get stores i store store is in
    rw add-one (take-suc stores i store h ∙ ap (λ (s : A). take i stores ++ s ∷ []) here)

with_stores-push : (stores : Stores) (store : List ℕ × List ℕ) (files : Files) → with_stores (stores ++ store ∷ []) files ≡ insert (with_stores stores files) store.0 store.1
with_stores-push [] store files = refl
with_stores-push (first ∷ stores) store files = with_stores-push stores store (insert files first.0 first.1)

next_files : (stores : Stores) (store : List ℕ × List ℕ) (old : Option Files) →
    option_map (λ (f : Files). insert f store.0 store.1) (option_map (with_stores stores) old) ≡ option_map (with_stores (stores ++ store ∷ [])) old
next_files stores store None = refl
next_files stores store (Some files) = ap (λ (f : Files). Some f) (sym (with_stores-push stores store files))

abbrev store_bytes : List ℕ × List ℕ → ℕ
store_bytes store = length store.0 + length store.1

bytes_of-push : (stores : Stores) (store : List ℕ × List ℕ) → bytes_of_stores (stores ++ store ∷ []) ≡ bytes_of_stores stores + store_bytes store
bytes_of-push stores store = sum_by-append store_bytes stores (store ∷ []) ∙ omega arith

next_room : (stores : Stores) (store : List ℕ × List ℕ) (old : Option Room) →
    option_map (store_spent (store_bytes store)) (option_map (stores_spent stores) old) ≡ option_map (stores_spent (stores ++ store ∷ [])) old
next_room stores store None = refl
next_room stores store (Some room) =
    let left : room.stores - length stores - 1 ≡ room.stores - length (stores ++ store ∷ []) = omega (arith, length-append stores (store ∷ [])) in
    let bytes : room.bytes - bytes_of_stores stores - store_bytes store ≡ room.bytes - bytes_of_stores (stores ++ store ∷ []) = omega (arith, bytes_of-push stores store) in
    λ i. Some (record { stores = left i; bytes = bytes i })

module _ (stores : Stores) (count : ℕ) (store : List ℕ × List ℕ) (old now new : HostState) (so_far : SoFar stores count old now) (next : slice_get stores count ≡ Some store) where
  pub so_far_next : new.files ≡ option_map (λ (f : Files). insert f store.0 store.1) now.files → new.room ≡ option_map (store_spent (store_bytes store)) now.room →
      new.printed ≡ now.printed → new.faults ≡ now.faults → new.store_faults ≡ now.store_faults → SoFar stores (count + 1) old new
  so_far_next files room printed faults store_faults = record {
    files = files ∙ ap (option_map (λ (f : Files). insert f store.0 store.1)) so_far.files ∙ next_files (take count stores) store old.files
        ∙ ap (λ (ss : Stores). option_map (with_stores ss) old.files) (sym (take_next stores count store next));
    room = room ∙ ap (option_map (store_spent (store_bytes store))) so_far.room ∙ next_room (take count stores) store old.room
        ∙ ap (λ (ss : Stores). option_map (stores_spent ss) old.room) (sym (take_next stores count store next));
    printed = printed ∙ so_far.printed;
    faults = faults ∙ so_far.faults;
    store_faults = store_faults ∙ so_far.store_faults;
  }

  pub failed_here : MayHoldAnything store.0 now.files new.files → new.printed ≡ now.printed → new.store_faults ≡ count_up now.store_faults → FailedInStore stores old new
  failed_here files printed store_faults = record {
    done = count;
    store = store;
    is_next = next;
    files = subst (λ (o : Option Files). MayHoldAnything store.0 o new.files) so_far.files files;
    printed = printed ∙ so_far.printed;
    rose = omega (arith, store_faults, so_far.store_faults);
  }

  has_room : (text : ℕ) (room : Option Room) → HasRoom room stores text → HasStoreRoom (option_map (stores_spent (take count stores)) room) (store_bytes store)
  has_room text None has = has
  has_room text (Some room) has =
      let within : count < length stores = slice_get_within stores count store next in
      let made : length (take count stores) ≡ count = length-take-le count stores (omega arith) in
      let bytes : bytes_of_stores (take count stores) + store_bytes store ≡ bytes_of_stores (take (count + 1) stores) = sym (ap bytes_of_stores (take_next stores count store next) ∙ bytes_of-push (take count stores) store) in
      let most : bytes_of_stores (take (count + 1) stores) ≤ bytes_of_stores stores = sum_by-take-le store_bytes stores (count + 1) in
      (omega (arith, made, has.0), omega (arith, bytes, most, has.1))

  pub has_room_here : (text : ℕ) → HasRoom old.room stores text → HasStoreRoom now.room (store_bytes store)
  has_room_here text has = subst (λ (o : Option Room). HasStoreRoom o (store_bytes store)) (sym so_far.room) (has_room text old.room has)

pub on_err : {T E : Type 0} (r : Result T E) {P : Type 0} → P → OnErr r P
on_err (Ok value) p = tt
on_err (Err error) p = p

pub IsSome-and : {A : Type 0} (o : Option A) (P : A → Type 0) → IsSomeAnd o P → IsSome o
IsSome-and None P has = absurd has
IsSome-and (Some value) P has = refl
