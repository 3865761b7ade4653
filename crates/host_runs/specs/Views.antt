-- Scaffold: what the values of a run stand for.
use Rattle.std.specs.Prelude.{ℕ, List, map, Option, Some, None, Result, Ok, Err, string_bytes, Vec}
use Rattle.std.specs.declared.alloc.Global.{Global}
use Rattle.scale_base.specs.declared.refusal.Refusal.{Refusal}
use Rattle.scale_base.specs.declared.refusal.Stop.{Stop}
use Rattle.scale_base.specs.declared.refusal.Stop.TheVariants.{Refused, Memory}
use Rattle.host_runs.specs.declared.loading.Want.{Want}
use Rattle.host_runs.specs.declared.reply.Reply.{Reply}
use Rattle.host_runs.specs.declared.reply.Store.{Store}
use Rattle.host_runs.specs.Answer.{Answer, Stores}

abbrev pub want_views : List Want → List (List ℕ × ℕ)
want_views wants = map (λ want. (want.name.now, want.limit)) wants

abbrev pub files_view : List (Vec ℕ Global) → List (List ℕ)
files_view files = map (λ file. file.items) files

-- what was given, seen by a view, or the refusal; none where memory ran out
abbrev pub given_by : {X A : Type 0} → (X → A) → Result X Stop → Option (Result A Refusal)
given_by view (Ok given) = Some (Ok (view given))
given_by view (Err (Refused refusal)) = Some (Err refusal)
given_by view (Err Memory) = None

-- a file and what is told of it
abbrev pub file_view : {A : Type 0} → Vec ℕ Global × A → List ℕ × A
file_view given = (given.0.items, given.1)

abbrev pub store_view : Store → List ℕ × List ℕ
store_view store = (string_bytes store.name, store.bytes.items)

abbrev pub store_views : List Store → Stores
store_views stores = map store_view stores

abbrev pub reply_view : Reply → Answer
reply_view reply = record { stores = store_views reply.stores.items; text = string_bytes reply.text; status = reply.status }
