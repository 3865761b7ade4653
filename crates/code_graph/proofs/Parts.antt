-- The lists of nodes and functions are those of the reached code.
use Rattle.std.proofs.Common.{◌≡◌, ℕ, Bool, true, false, List, length, get_or, map, Option, Some, None, refl, sym, ap, ◌∙◌, arith}
use Rattle.std.specs.Prelude.{slice_get, slice_index}
use Rattle.std.specs.List.{flat_map}
use Rattle.std.proofs.Math.Path.{fun_ext}
use Rattle.std.proofs.lemmas.List.{length-map}
use Rattle.std.proofs.lemmas.Option.{slice_get_within, slice_get-get_or, get_or_from_slice_get, slice_get-map}
use Rattle.scale_base.specs.declared.edges.Edge.{Edge}
use Rattle.cost_theory.specs.declared.flow.Flow.{Flow}
use Rattle.cost_theory.specs.declared.flow.Flow.TheVariants as flow
use Rattle.cost_theory.specs.Reached.{Reached, DoesReturn, IsCodeOf, HasNoBadWord, HasNoSharedCode, edges_of, callee_of, call_returns, flag_beside, owner_of, number_or_0}
use Rattle.cost_theory.specs.Reached.Reached.{main}
use Rattle.cost_theory.proofs.Laws.{some_get, callee-call}
use Rattle.code_graph.specs.declared.reach.marks.Mark.{Mark}
use Rattle.code_graph.specs.declared.reach.marks.Mark.TheVariants.{Unreached, Owner, Shared}
use Rattle.code_text.specs.Text.{Text, kind_at}
use Rattle.code_graph.specs.Reach.{Reach, WordStandsAt}
use Rattle.code_graph.specs.Finding.{IsReachIn}
use Rattle.code_graph.specs.Assembling.{AreReachedNodes, IsNodeWord, AreEdgesOf, owner_number, number_by, entry_addresses, flag_of, flag_at}
use Rattle.flow_graph.proofs.Laws.{Once, some_is, ascending_once, number_beside-get, entry_reached, map_is}
use Rattle.code_graph.proofs.Lists.{flag_beside-get, flag_beside-place}
use Rattle.code_graph.proofs.Reaching.{mark_of, word_place, owned}
use Rattle.code_graph.proofs.NodeLaws.{entry_is, entry_word, once_entries, number_found}
use Rattle.code_graph.proofs.EdgeLaws.{edges_whole}

-- what the lists are made of
pub record AreParts (t : Text) (r : Reach) (nodes : List ℕ) (kinds : List Flow) (owners entries : List ℕ) (returning : List Bool) (callees : List (Option ℕ)) : Type 0 where
  pub reach : IsReachIn t r
  pub fine : HasNoBadWord (kind_at t) t.entry
  pub apart : HasNoSharedCode (kind_at t) t.entry
  pub nodes_are : AreReachedNodes r (length r.words.addresses) nodes kinds owners
  pub entries_are : entries ≡ entry_addresses r
  pub returning_are : returning ≡ map (flag_of r.returning) r.functions
  pub callees_are : callees ≡ map (callee_of (entry_addresses r)) kinds

module _ (t : Text) (r : Reach) (nodes : List ℕ) (kinds : List Flow) (owners entries : List ℕ) (returning : List Bool) (callees : List (Option ℕ)) (are : AreParts t r nodes kinds owners entries returning callees) where
  -- ---- entries
  pub place_entry : (i k v : ℕ) → slice_get r.functions i ≡ Some k → WordStandsAt r.words k v → slice_get entries i ≡ Some v
  place_entry i k v function at = ap (λ xs. slice_get xs i) are.entries_are ∙ entry_is t r are.reach i k v function at

  pub entry_place : (i v : ℕ) → slice_get entries i ≡ Some v → (k : ℕ) × (slice_get r.functions i ≡ Some k) × WordStandsAt r.words k v
  entry_place i v at = entry_word t r are.reach i v (sym (ap (λ xs. slice_get xs i) are.entries_are) ∙ at)

  pub entries_once : Once entries
  entries_once i j a at_i at_j = once_entries t r are.reach i j a (sym (ap (λ xs. slice_get xs i) are.entries_are) ∙ at_i) (sym (ap (λ xs. slice_get xs j) are.entries_are) ∙ at_j)

  pub entry_callee : (to j : ℕ) → slice_get entries j ≡ Some to → callee_of entries (flow.Call to) ≡ Some j
  entry_callee to j at = ap (λ xs. callee_of xs (flow.Call to)) are.entries_are ∙ number_found t r are.reach to j (sym (ap (λ xs. slice_get xs j) are.entries_are) ∙ at)

  pub callee_entry : (w : Flow) (h : ℕ) → callee_of entries w ≡ Some h → (to : ℕ) × (w ≡ flow.Call to) × (slice_get entries h ≡ Some to)
  callee_entry w h called =
      let c = callee-call entries w h called in
      let x = some_get entries h c.2 in
      (c.0, c.1, x.1 ∙ ap Some (sym (ap number_or_0 x.1) ∙ c.3))

  -- ---- nodes
  pub node_kind : (j a : ℕ) (e : IsNodeWord r (length r.words.addresses) nodes kinds owners j a) → e.kind ≡ kind_at t a
  node_kind j a e = some_is e.kind (kind_at t a) (sym e.word ∙ are.reach.table.kinds e.k a e.address)

  pub kinds_are : kinds ≡ map (kind_at t) nodes
  kinds_are = map_is (kind_at t) nodes kinds are.nodes_are.kinds_size (λ j a at. let e = are.nodes_are.each j a at in e.kind_beside ∙ ap Some (node_kind j a e))

  numbered : (k g i : ℕ) → slice_get r.marks k ≡ Some (Owner g) → slice_get r.numbers g ≡ Some (Some i) → owner_number r k ≡ Some i
  numbered k g i mark number = ap (number_by r.numbers) (get_or_from_slice_get r.marks k (Owner g) Unreached mark) ∙ get_or_from_slice_get r.numbers g (Some i) None number

  -- the function of a word that has a number
  pub number_reached : (k v i : ℕ) → WordStandsAt r.words k v → owner_number r k ≡ Some i → (h : ℕ) × (slice_get entries i ≡ Some h) × Reached (kind_at t) t.entry h v
  number_reached k v i at number = let m = mark_of t r are.reach.reach are.reach.table k v at in go m.0 m.1
    where
      go : (m : Mark) → slice_get r.marks k ≡ Some m → (h : ℕ) × (slice_get entries i ≡ Some h) × Reached (kind_at t) t.entry h v
      go Unreached mark = let clash = sym (ap (number_by r.numbers) (get_or_from_slice_get r.marks k Unreached Unreached mark)) ∙ number in let bad : ⊥ = cc in absurd bad
      go Shared mark = let clash = sym (ap (number_by r.numbers) (get_or_from_slice_get r.marks k Shared Unreached mark)) ∙ number in let bad : ⊥ = cc in absurd bad
      go (Owner g) mark =
          let o = are.reach.reach.owner k v g at mark in
          let size = are.reach.reach.numbers_size in
          let within = slice_get_within r.words.addresses g o.0 o.1 in
          let read : get_or r.numbers g None ≡ Some i = sym (ap (number_by r.numbers) (get_or_from_slice_get r.marks k (Owner g) Unreached mark)) ∙ number in
          let n : slice_get r.numbers g ≡ Some (Some i) = slice_get-get_or r.numbers g None (omega arith) ∙ ap Some read in
          (o.0, place_entry i g o.0 ((are.reach.reach.numbers g i).0 n) o.1, o.2)

  -- the number of a word that is reached in a function
  pub reached_number : (f v k : ℕ) → Reached (kind_at t) t.entry f v → WordStandsAt r.words k v → (i : ℕ) × (owner_number r k ≡ Some i) × (slice_get entries i ≡ Some f)
  reached_number f v k reached at =
      let o = owned t r are.reach.reach are.reach.table are.fine are.apart f v k reached at in
      let i = (are.reach.reach.functions o.0 f o.2).1 (entry_reached reached) in
      (i.0, numbered k o.0 i.0 o.1 ((are.reach.reach.numbers o.0 i.0).1 i.1), place_entry i.0 o.0 f i.1 o.2)

  pub node_reached : (j a : ℕ) → slice_get nodes j ≡ Some a → (f : ℕ) × Reached (kind_at t) t.entry f a
  node_reached j a at = let e = are.nodes_are.each j a at in let n = number_reached e.k a e.owner e.address e.number in (n.0, n.2)

  pub reached_node : (f v : ℕ) → Reached (kind_at t) t.entry f v → (j : ℕ) × (slice_get nodes j ≡ Some v)
  reached_node f v reached =
      let place = word_place t r are.reach.reach are.reach.table are.fine f v reached in
      let n = reached_number f v place.0 reached place.1 in
      are.nodes_are.whole place.0 n.0 v (slice_get_within r.words.addresses place.0 v place.1) n.1 place.1

  -- the owner of a node
  pub node_owner : (edges : List Edge) (j a : ℕ) (e : IsNodeWord r (length r.words.addresses) nodes kinds owners j a) → slice_get nodes j ≡ Some a →
      owner_of (record { nodes = nodes; edges = edges; functions = entries; owners = owners; returning = returning }) a ≡ e.owner
  node_owner edges j a e at = number_beside-get nodes owners j a e.owner (ascending_once nodes are.nodes_are.ascending) at e.owner_beside

  -- ---- functions that return
  flag_stands : (j k : ℕ) → slice_get r.functions j ≡ Some k → slice_get returning j ≡ Some (flag_of r.returning k)
  flag_stands j k function = ap (λ xs. slice_get xs j) are.returning_are ∙ slice_get-map (flag_of r.returning) r.functions j ∙ rw function refl

  pub returning_size : length returning ≡ length entries
  returning_size = ap length are.returning_are ∙ length-map r.functions (flag_of r.returning) ∙ sym (ap length are.entries_are ∙ length-map r.functions (slice_index r.words.addresses))

  flag_returns : (h : ℕ) → flag_beside entries returning h ≡ true → DoesReturn (kind_at t) t.entry h
  flag_returns h up =
      let p = flag_beside-place entries returning h up in
      let w = entry_place p.0 h p.1 in
      let flag : flag_of r.returning w.0 ≡ true = some_is (flag_of r.returning w.0) true (sym (flag_stands p.0 w.0 w.1) ∙ p.2) in
      let size = are.reach.reach.returning_size in
      let within = slice_get_within r.words.addresses w.0 h w.2 in
      let here : slice_get r.returning w.0 ≡ Some true = slice_get-get_or r.returning w.0 false (omega arith) ∙ ap Some flag in
      (are.reach.reach.returns w.0 h w.2 ((are.reach.reach.functions w.0 h w.2).0 (p.0, w.1))).0 here

  returns_flag : (h : ℕ) → DoesReturn (kind_at t) t.entry h → flag_beside entries returning h ≡ true
  returns_flag h does =
      let reached = entry_reached does.1 in
      let place = word_place t r are.reach.reach are.reach.table are.fine h h reached in
      let i = (are.reach.reach.functions place.0 h place.1).1 reached in
      let flag : flag_of r.returning place.0 ≡ true = get_or_from_slice_get r.returning place.0 true false ((are.reach.reach.returns place.0 h place.1 reached).1 does) in
      flag_beside-get entries returning i.0 h true entries_once (place_entry i.0 place.0 h i.1 place.1) (flag_stands i.0 place.0 i.1 ∙ ap Some flag)

  -- the flag of a function that is called
  flag_call : (edges : List Edge) (w : Flow) → flag_at returning (callee_of entries w) ≡ call_returns (record { nodes = nodes; edges = edges; functions = entries; owners = owners; returning = returning }) w
  flag_call edges (flow.Call to) = go (callee_of entries (flow.Call to)) refl
    where
      down : ((j : ℕ) → slice_get entries j ≡ Some to → ⊥) → (b : Bool) → flag_beside entries returning to ≡ b → false ≡ b
      down none true up = let p = flag_beside-place entries returning to up in absurd (none p.0 p.1)
      down none false up = refl

      go : (o : Option ℕ) → callee_of entries (flow.Call to) ≡ o → flag_at returning o ≡ flag_beside entries returning to
      go None e = down (λ j at. let clash = sym e ∙ entry_callee to j at in let bad : ⊥ = cc in bad) (flag_beside entries returning to) refl
      go (Some j) e =
          let c = callee_entry (flow.Call to) j e in
          let same : to ≡ c.0 = (let q = c.1 in cc) in
          let at : slice_get entries j ≡ Some to = c.2 ∙ ap Some (sym same) in
          let lt = slice_get_within entries j to at in
          let size = returning_size in
          sym (flag_beside-get entries returning j to (get_or returning j false) entries_once at (slice_get-get_or returning j false (omega arith)))
  flag_call edges (flow.Branch to) = refl
  flag_call edges (flow.Jump to) = refl
  flag_call edges flow.Return = refl
  flag_call edges flow.Exit = refl
  flag_call edges flow.MayExit = refl
  flag_call edges flow.Breakpoint = refl
  flag_call edges flow.Next = refl
  flag_call edges flow.Refused = refl

  -- ---- the code
  module _ (edges : List Edge) (edges_are : AreEdgesOf (length nodes) nodes kinds callees returning edges) where
    edges_of_nodes : edges ≡ flat_map (λ v. edges_of (kind_at t v) v (call_returns (record { nodes = nodes; edges = edges; functions = entries; owners = owners; returning = returning }) (kind_at t v))) nodes
    edges_of_nodes =
        edges_whole (length nodes) nodes kinds callees returning edges refl edges_are (kind_at t) kinds_are (callee_of entries) (are.callees_are ∙ ap (λ xs. map (callee_of xs) kinds) (sym are.entries_are))
        ∙ ap (λ f. flat_map f nodes) (fun_ext (λ v. ap (edges_of (kind_at t v) v) (flag_call edges (kind_at t v))))

    owner_function : (f v : ℕ) → Reached (kind_at t) t.entry f v → slice_get entries (owner_of (record { nodes = nodes; edges = edges; functions = entries; owners = owners; returning = returning }) v) ≡ Some f
    owner_function f v reached =
        let node = reached_node f v reached in
        let e = are.nodes_are.each node.0 v node.1 in
        let n = reached_number f v e.k reached e.address in
        let same : e.owner ≡ n.0 = some_is e.owner n.0 (sym e.number ∙ n.1) in
        ap (slice_get entries) (node_owner edges node.0 v e node.1 ∙ same) ∙ n.2

    pub is_code : IsCodeOf (kind_at t) t.entry (record { nodes = nodes; edges = edges; functions = entries; owners = owners; returning = returning })
    is_code = record {
      nodes = λ v. (λ at. node_reached at.0 v at.1, λ reached. reached_node reached.0 v reached.1);
      ascending = λ i j v u. are.nodes_are.ascending i j v u;
      returns = λ h. (flag_returns h, returns_flag h);
      edges = edges_of_nodes;
      functions = λ f. (
        λ at. (let w = entry_place at.0 f at.1 in (are.reach.reach.functions w.0 f w.2).0 (at.0, w.1)),
        λ reached. (let place = word_place t r are.reach.reach are.reach.table are.fine f f reached in
            let i = (are.reach.reach.functions place.0 f place.1).1 reached in
            (i.0, place_entry i.0 place.0 f i.1 place.1)),
      );
      first_function = (let place = word_place t r are.reach.reach are.reach.table are.fine t.entry t.entry main in place_entry 0 place.0 t.entry (are.reach.reach.first place.0 place.1) place.1);
      once = λ i j f. entries_once i j f;
      owner = owner_function;
    }
