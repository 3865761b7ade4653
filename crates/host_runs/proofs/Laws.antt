-- What is so of the runs of each command, and the other lemmas of this crate that crates above may cite.
pub use Rattle.host_runs.proofs.Given.{made_of_given}
use Rattle.std.proofs.Common.{◌≡◌, ◌≢◌, ℕ, List, refl, sym, ap, subst, ◌∙◌, Bool}
use Rattle.std.specs.Prelude.{Option, Some, None, option_map, IfSome, cond, Result, Ok, Err}
use Rattle.std.specs.Cmp.Lexicographic.{nat_list_cmp_total}
use Rattle.std.specs.FinMap.{get, insert, get-insert}
use Rattle.std.proofs.lemmas.Slice.Eq.{bytes_eq-Decides}
use Rattle.std.proofs.lemmas.Map.Text.{is_eq-slice_cmp}
use Rattle.scale_base.specs.declared.refusal.Refusal.{Refusal}
use Rattle.host_files.specs.HostState.{Files, HostState}
use Rattle.host_runs.specs.Answer.{Answer, Giving, Tells, stored_answer}
use Rattle.host_runs.specs.Command.{Answering, AnswersTo, IsAnswerOf, HasAnswer, IsAnswered, IsStatusOfAll, StoresStand}
use Rattle.host_runs.specs.Delivered.{with_stores, IsDelivered}
use Rattle.host_runs.specs.Loading.{Wants, Loading, Missing, Long, Whole, IfWhole, loading_of}
use Rattle.host_runs.specs.Promise.{Keeping, Promising, Promised, StoredPromise}
pub use Rattle.host_runs.proofs.Limits.{EachWithin, limits_alone, loaded_within}

-- ---- one status

-- answers that may be given for the same files have one status
abbrev Agree : {A : Type 0} → Giving A → (Result A Refusal → Answer) → Type 0
Agree {A} Gives answer_of = (one other : Result A Refusal) → Gives one → Gives other → (answer_of one).status ≡ (answer_of other).status

pub one_told : {A : Type 0} (Gives : Giving A) (answer_of : Result A Refusal → Answer) → Agree Gives answer_of → (one other : Answer) → Tells Gives answer_of one → Tells Gives answer_of other →
    one.status ≡ other.status
one_told Gives answer_of agree one other x y =
    ap (λ (a : Answer). a.status) x.told
    ∙ agree x.given y.given x.is_given y.is_given
    ∙ sym (ap (λ (a : Answer). a.status) y.told)

module _ (wants : Wants) (Makes : Answering) (one_made : (files : List (List ℕ)) (one other : Answer) → Makes files one → Makes files other → one.status ≡ other.status) where
  one_of_loading : (loading : Loading) (one other : Answer) → AnswersTo Makes loading one → AnswersTo Makes loading other → one.status ≡ other.status
  one_of_loading Missing one other x y = absurd x
  one_of_loading (Long name) one other x y = ap (λ (a : Answer). a.status) (x ∙ sym y)
  one_of_loading (Whole files) one other x y = one_made files one other x y

  -- a status that was answered is that of every answer
  pub status_of_all : (status : ℕ) (old new : HostState) → IsAnswered wants Makes status old new → IsStatusOfAll wants Makes status old
  status_of_all status old new answered = of_files old.files answered
    where
      of_files : (o : Option Files) → IfSome o (λ files. HasAnswer wants Makes files (λ answer. (status ≡ answer.status) × IsDelivered answer.stores answer.text old new)) →
          IfSome o (λ files. (answer : Answer) → IsAnswerOf wants Makes files answer → status ≡ answer.status)
      of_files None given = tt
      of_files (Some files) given = λ answer is. given.2.0 ∙ one_of_loading (loading_of wants files) given.0 answer given.1 is

-- ---- what stores promise

pub get_inserted : (files : Files) (name bytes : List ℕ) → get (insert files name bytes) name ≡ Some bytes
get_inserted files name bytes =
    get-insert nat_list_cmp_total files name bytes name
    ∙ ap (λ (b : Bool). cond b (Some bytes) (get files name)) (is_eq-slice_cmp name name ∙ (bytes_eq-Decides name name).1 refl)

-- what is given is safe
abbrev pub IsSafe : {A : Type 0} → Giving (List ℕ × A) → Keeping A → Type 0
IsSafe {A} Gives Safe = (stored : List ℕ) (told : A) → Gives (Ok ((stored, told))) → Safe stored told

module _ {A : Type 0} (Gives : Giving (List ℕ × A)) (Safe : Keeping A) (text_of : A → List ℕ) (out : List ℕ) (files : Files) (is_safe : IsSafe Gives Safe) where
  -- what was done is what is stored
  given_kept : (given : Result (List ℕ × A) Refusal) → Gives given → (stored_answer text_of out given).status ≢ 1
      → StoredPromise Gives Safe (get (with_stores (stored_answer text_of out given).stores files) out)
  given_kept (Ok given) is done = record {
    stored = given.0;
    stands = get_inserted files out given.0;
    told = given.1;
    given = is;
    safe = λ printed again. is_safe given.0 printed again;
  }
  given_kept (Err refusal) is done = absurd (done refl)

  pub stored_kept : (answer : Answer) → Tells Gives (stored_answer text_of out) answer → answer.status ≢ 1 → StoredPromise Gives Safe (get (with_stores answer.stores files) out)
  stored_kept answer made done =
      let told = sym made.told in
      subst (λ (a : Answer). StoredPromise Gives Safe (get (with_stores a.stores files) out)) told
      (given_kept made.given made.is_given (λ e. done (ap (λ (a : Answer). a.status) made.told ∙ e)))

module _ (wants : Wants) (Makes : Answering) (Promise : Promising)
    (kept : (loaded : List (List ℕ)) (files : Files) (answer : Answer) → EachWithin wants loaded → Makes loaded answer → answer.status ≢ 1 → Promise loaded (with_stores answer.stores files)) where
  of_loading : (loading : Loading) (files : Files) (new : Option Files) (answer : Answer) → IfWhole loading (EachWithin wants) → AnswersTo Makes loading answer → answer.status ≢ 1 →
      new ≡ Some (with_stores answer.stores files) → IfSome new (λ after. IfWhole loading (λ loaded. Promise loaded after))
  of_loading Missing files new answer within is done stand = absurd is
  of_loading (Long name) files None answer within is done stand = tt
  of_loading (Long name) files (Some after) answer within is done stand = tt
  of_loading (Whole loaded) files new answer within is done stand =
      subst (λ (o : Option Files). IfSome o (λ after. Promise loaded after)) (sym stand) (kept loaded files answer within is done)

  of_files : (old new : Option Files) →
      IfSome old (λ files. HasAnswer wants Makes files (λ answer. (answer.status ≢ 1) × (new ≡ option_map (with_stores answer.stores) old))) →
      IfSome old (λ files. IfSome new (λ after. IfWhole (loading_of wants files) (λ loaded. Promise loaded after)))
  of_files None new given = tt
  of_files (Some files) new given = of_loading (loading_of wants files) files new given.0 (loaded_within wants files) given.1 given.2.0 given.2.1

  -- stores that stand keep their promise, whatever was answered
  pub stored_keep_promise : (old new : HostState) → StoresStand wants Makes old new → Promised wants Promise old new
  stored_keep_promise old new stand = of_files old.files new.files stand

  -- so does an answer that was given and is no refusal
  pub answered_keep_promise : (status : ℕ) (old new : HostState) → IsAnswered wants Makes status old new → status ≢ 1 → Promised wants Promise old new
  answered_keep_promise status old new answered done = stored_keep_promise old new (stand old.files answered)
    where
      stand : (o : Option Files) → IfSome o (λ files. HasAnswer wants Makes files (λ answer. (status ≡ answer.status) × IsDelivered answer.stores answer.text old new)) →
          IfSome o (λ files. HasAnswer wants Makes files (λ answer. (answer.status ≢ 1) × (new.files ≡ option_map (with_stores answer.stores) old.files)))
      stand None given = tt
      stand (Some files) given = (given.0, given.1, ((λ e. done (given.2.0 ∙ e)), given.2.1.files))
