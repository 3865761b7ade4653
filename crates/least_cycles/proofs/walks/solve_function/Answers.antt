use Rattle.std.proofs.Common.{◌≡◌, ℕ, ◌+◌, ◌^◌, ◌<◌, ◌≤◌, Bool, List, Option, Some, length, slice_get, ap, sym, ◌∙◌, subst, arith}
use Rattle.std.proofs.lemmas.Option.{slice_get-get_or}
use Rattle.graph_algorithms.specs.Arcs.{number_in_place}
use Rattle.least_cycles.specs.Functions.{IsBucket, AreNodeNumbers, ArePlacesIn, AreKinds, IsFromFirst, AreLeastRuns}
use Rattle.least_cycles.specs.Tables.{AreSmallTables, ArePriced, AreWritten, IsBefore}
use Rattle.least_cycles.specs.Charging.{own_by, cost_with, ArePricedAt, AreChargedTo, loop_owner}
use Rattle.least_cycles.proofs.FunctionLaws.{bucket_kinds, least_walks}
use Rattle.least_cycles.proofs.WalkLaws.{walks_more, not_before, next_before, callees_before, tables_small, from_first}
use Rattle.least_cycles.proofs.AgreeLaws.{priced_at}
use Rattle.least_cycles.proofs.ChargeLaws.{small_charges}
use Rattle.least_cycles.proofs.LoopLaws.{cost_found, charged_next}
use Rattle.least_cycles.proofs.walks.solve_function.Goals as goal

pub price_function-requires-clause-tables : goal.price_function-requires-clause-tables
price_function-requires-clause-tables c =
    let v = c.args.program.now.graph.now in
    let k = c.requires.program.charging in
    let old_r = c.args.found.now.walks.returns.items in
    let old_x = c.args.found.now.walks.exits.items in
    record {
      flow = c.requires.program.flow;
      own = ap length c.deref.ensures.value ∙ c.requires.program.plan.own_size;
      low = subst (λ (own : List ℕ). (e : ℕ) → number_in_place own e ≤ 2 ^ 48) (sym c.deref.ensures.value) c.requires.program.plan.own_low;
      tables = subst (λ (r : List (Option ℕ)). AreSmallTables v r c.deref-3.result.now) (sym c.deref-2.ensures.value)
          (subst (λ (x : List (Option ℕ)). AreSmallTables v old_r x) (sym c.deref-3.ensures.value)
          (tables_small v (own_by v c.args.program.now.tree.now (number_in_place c.args.program.now.plan.now.own.items) k.0) k.1.limit (IsBefore v c.args.i) old_r old_x k.1.limits (c.requires.found.walks k.0 k.1)));
    }

pub charge_loops-requires-clause-priced : goal.charge_loops-requires-clause-priced
charge_loops-requires-clause-priced c =
    let v = c.args.program.now.graph.now in
    record {
      flow = c.requires.program.flow;
      tree = c.requires.program.tree;
      function = subst (λ (order : List ℕ). number_in_place order c.args.i < length v.code.functions) (sym c.call_order.ensures)
          (c.requires.program.flow.order.within c.args.i (number_in_place v.order c.args.i) (slice_get-get_or v.order c.args.i 0 c.requires.place));
      costs = ap length c.deref-5.ensures.value ∙ c.price_function.ensures.costs_size;
      lasts = ap length c.deref-6.ensures.value ∙ c.price_function.ensures.lasts_size;
      low = subst (λ (costs : List ℕ). (e : ℕ) → number_in_place costs e ≤ 2 ^ 49) (sym c.deref-5.ensures.value) c.price_function.ensures.within;
    }

pub charge_loops-requires-clause-known : goal.charge_loops-requires-clause-known
charge_loops-requires-clause-known c =
    let v = c.args.program.now.graph.now in
    let w = number_in_place c.args.program.now.plan.now.own.items in
    let k = c.requires.program.charging in
    let f = number_in_place v.order c.args.i in
    let at : slice_get v.order c.args.i ≡ Some f = slice_get-get_or v.order c.args.i 0 c.requires.place in
    let bucket = c.in_ok-bucket.bucket.items in
    let old_r = c.args.found.now.walks.returns.items in
    let old_x = c.args.found.now.walks.exits.items in
    let is : IsBucket v f bucket = subst (λ (order : List ℕ). IsBucket v (number_in_place order c.args.i) bucket) c.call_order.ensures c.in_ok-bucket.ensures.bucket in
    let costs = c.price_function.new.costs.items in
    let lasts = c.price_function.new.lasts.items in
    let priced : ArePriced v w old_r old_x (IsFromFirst v bucket (length bucket)) costs lasts =
    subst (λ (own : List ℕ). ArePriced v (number_in_place own) old_r old_x (IsFromFirst v bucket (length bucket)) costs lasts) c.deref.ensures.value
    (subst (λ (b : List ℕ). ArePriced v (number_in_place c.deref.result.now) old_r old_x (IsFromFirst v b (length b)) costs lasts) c.deref-4.ensures.value
    (subst (λ (x : List (Option ℕ)). ArePriced v (number_in_place c.deref.result.now) old_r x (IsFromFirst v c.deref-4.result.now (length c.deref-4.result.now)) costs lasts) c.deref-3.ensures.value
    (subst (λ (r : List (Option ℕ)). ArePriced v (number_in_place c.deref.result.now) r c.deref-3.result.now (IsFromFirst v c.deref-4.result.now (length c.deref-4.result.now)) costs lasts) c.deref-2.ensures.value c.price_function.ensures))) in
    let found : ArePricedAt v w k.0 f costs lasts = priced_at v c.args.program.now.tree.now w k.0 k.1 c.args.i old_r old_x (c.requires.found.walks k.0 k.1) f bucket costs lasts at is priced in (
      w,
      k.0,
      record {
        charging = k.1;
        priced = subst (λ (order : List ℕ). ArePricedAt v w k.0 (number_in_place order c.args.i) c.deref-5.result.now c.deref-6.result.now) (sym c.call_order.ensures)
            (subst (λ (x : List ℕ). ArePricedAt v w k.0 f x c.deref-6.result.now) (sym c.deref-5.ensures.value)
            (subst (λ (x : List Bool). ArePricedAt v w k.0 f costs x) (sym c.deref-6.ensures.value) found));
      },
    )

pub least_in-requires : goal.least_in-requires
least_in-requires c =
    let v = c.args.program.now.graph.now in
    let plan = c.requires.program.plan in
    let bucket = c.in_ok-bucket.bucket.items in
    let is = c.in_ok-bucket.ensures.bucket in
    record {
      flow = c.requires.program.flow;
      nodes = subst (AreNodeNumbers v) (sym c.deref-8.ensures.value) (record { within = is.within; once = is.once });
      few =
          let same : length c.deref-8.result.now ≡ length bucket = ap length c.deref-8.ensures.value in
          let low = c.in_ok-bucket.ensures.few in
          let few = c.node_count-count.ensures.few in
          let count = c.node_count-count.ensures.count in
          omega arith;
      places = subst (λ (b : List ℕ). ArePlacesIn b c.deref-9.result.now) (sym c.deref-8.ensures.value)
          (subst (λ (x : List ℕ). ArePlacesIn bucket x) (sym c.deref-9.ensures.value) c.in_ok-bucket.ensures.places);
      size = ap length c.deref-9.ensures.value ∙ c.in_ok-bucket.ensures.size ∙ c.requires.scratch.places;
      kinds = subst (λ (b : List ℕ). AreKinds v b c.deref-10.result.now c.deref-11.result.now) (sym c.deref-8.ensures.value)
          (subst (λ (x : List Bool). AreKinds v bucket x c.deref-11.result.now) (sym c.deref-10.ensures.value)
          (subst (λ (x : List Bool). AreKinds v bucket c.args.program.now.plan.now.returning.items x) (sym c.deref-11.ensures.value)
          (bucket_kinds v (number_in_place c.call_order.result.now c.args.i) bucket c.args.program.now.plan.now.returning.items c.args.program.now.plan.now.leading.items c.requires.program.flow is plan.leading plan.returning.size
          (λ e el marked. (c.requires.program.flow.program.return_end e el ((plan.returning.each e el).0 marked)).0))));
      costs = ap length c.deref-12.ensures.value ∙ c.price_function.ensures.costs_size;
      low = subst (λ (costs : List ℕ). (e : ℕ) → number_in_place costs e ≤ 2 ^ 49) (sym c.deref-12.ensures.value) c.price_function.ensures.within;
      charges = small_charges v c.args.program.now.tree.now c.charge_loops.new.charges c.in_ok-charge_loops.ensures.charges;
    }

pub least_in-requires-2 : goal.least_in-requires-2
least_in-requires-2 c =
    let v = c.args.program.now.graph.now in
    let plan = c.requires.program.plan in
    let bucket = c.in_ok-bucket.bucket.items in
    let is = c.in_ok-bucket.ensures.bucket in
    record {
      flow = c.requires.program.flow;
      nodes = subst (AreNodeNumbers v) (sym c.deref-8.ensures.value) (record { within = is.within; once = is.once });
      few =
          let same : length c.deref-8.result.now ≡ length bucket = ap length c.deref-8.ensures.value in
          let low = c.in_ok-bucket.ensures.few in
          let few = c.node_count-count.ensures.few in
          let count = c.node_count-count.ensures.count in
          omega arith;
      places = subst (λ (b : List ℕ). ArePlacesIn b c.deref-9.result.now) (sym c.deref-8.ensures.value)
          (subst (λ (x : List ℕ). ArePlacesIn bucket x) (sym c.deref-9.ensures.value) c.in_ok-bucket.ensures.places);
      size = ap length c.deref-9.ensures.value ∙ c.in_ok-bucket.ensures.size ∙ c.requires.scratch.places;
      kinds = subst (λ (b : List ℕ). AreKinds v b c.deref-13.result.now c.deref-11.result.now) (sym c.deref-8.ensures.value)
          (subst (λ (x : List Bool). AreKinds v bucket x c.deref-11.result.now) (sym c.deref-13.ensures.value)
          (subst (λ (x : List Bool). AreKinds v bucket c.price_function.new.lasts.items x) (sym c.deref-11.ensures.value)
          (bucket_kinds v (number_in_place c.call_order.result.now c.args.i) bucket c.price_function.new.lasts.items c.args.program.now.plan.now.leading.items c.requires.program.flow is plan.leading c.price_function.ensures.lasts_size c.price_function.ensures.ends)));
      costs = ap length c.deref-12.ensures.value ∙ c.price_function.ensures.costs_size;
      low = subst (λ (costs : List ℕ). (e : ℕ) → number_in_place costs e ≤ 2 ^ 49) (sym c.deref-12.ensures.value) c.price_function.ensures.within;
      charges = small_charges v c.args.program.now.tree.now c.charge_loops.new.charges c.in_ok-charge_loops.ensures.charges;
    }

pub write_back-requires-clause-within : goal.write_back-requires-clause-within
write_back-requires-clause-within c =
    let v = c.args.program.now.graph.now in
    let k = c.requires.program.charging in
    let size = (c.requires.found.walks k.0 k.1).returns_size in
    subst (λ (b : List ℕ). (j : ℕ) → j < length b → number_in_place b j < length c.args.found.now.walks.returns.items) (sym c.deref-14.ensures.value)
    (λ j jl. let low = c.in_ok-bucket.ensures.bucket.within j jl in let r : number_in_place c.in_ok-bucket.bucket.items j < length c.args.found.now.walks.returns.items = omega arith in r)

pub write_back-requires-2-clause-within : goal.write_back-requires-2-clause-within
write_back-requires-2-clause-within c =
    let v = c.args.program.now.graph.now in
    let k = c.requires.program.charging in
    let size = (c.requires.found.walks k.0 k.1).exits_size in
    subst (λ (b : List ℕ). (j : ℕ) → j < length b → number_in_place b j < length c.args.found.now.walks.exits.items) (sym c.deref-16.ensures.value)
    (λ j jl. let low = c.in_ok-bucket.ensures.bucket.within j jl in let r : number_in_place c.in_ok-bucket.bucket.items j < length c.args.found.now.walks.exits.items = omega arith in r)

pub returns-clause-found : goal.returns-clause-found
returns-clause-found c = record {
  charges = c.in_ok-charge_loops.ensures.charges;
  charged = λ n charging.
      let v = c.args.program.now.graph.now in
      let t = c.args.program.now.tree.now in
      let w = number_in_place c.args.program.now.plan.now.own.items in
      let f = number_in_place v.order c.args.i in
      let at : slice_get v.order c.args.i ≡ Some f = slice_get-get_or v.order c.args.i 0 c.requires.place in
      let bucket = c.in_ok-bucket.bucket.items in
      let old_r = c.args.found.now.walks.returns.items in
      let old_x = c.args.found.now.walks.exits.items in
      let is : IsBucket v f bucket = subst (λ (order : List ℕ). IsBucket v (number_in_place order c.args.i) bucket) c.call_order.ensures c.in_ok-bucket.ensures.bucket in
      let costs = c.price_function.new.costs.items in
      let lasts = c.price_function.new.lasts.items in
      let charges = c.charge_loops.new.charges in
      let are = c.requires.found.walks n charging in
      let priced : ArePriced v w old_r old_x (IsFromFirst v bucket (length bucket)) costs lasts =
      subst (λ (own : List ℕ). ArePriced v (number_in_place own) old_r old_x (IsFromFirst v bucket (length bucket)) costs lasts) c.deref.ensures.value
      (subst (λ (b : List ℕ). ArePriced v (number_in_place c.deref.result.now) old_r old_x (IsFromFirst v b (length b)) costs lasts) c.deref-4.ensures.value
      (subst (λ (x : List (Option ℕ)). ArePriced v (number_in_place c.deref.result.now) old_r x (IsFromFirst v c.deref-4.result.now (length c.deref-4.result.now)) costs lasts) c.deref-3.ensures.value
      (subst (λ (r : List (Option ℕ)). ArePriced v (number_in_place c.deref.result.now) r c.deref-3.result.now (IsFromFirst v c.deref-4.result.now (length c.deref-4.result.now)) costs lasts) c.deref-2.ensures.value c.price_function.ensures))) in
      let found : ArePricedAt v w n f costs lasts = priced_at v t w n charging c.args.i old_r old_x are f bucket costs lasts at is priced in
      let paid : AreChargedTo v t n (λ k. loop_owner v t k ≡ f) charges.found.items =
      subst (λ (order : List ℕ). AreChargedTo v t n (λ k. loop_owner v t k ≡ number_in_place order c.args.i) charges.found.items) c.call_order.ensures
      (c.in_ok-charge_loops.ensures.charged w n (record {
        charging = charging;
        priced = subst (λ (order : List ℕ). ArePricedAt v w n (number_in_place order c.args.i) c.deref-5.result.now c.deref-6.result.now) (sym c.call_order.ensures)
            (subst (λ (x : List ℕ). ArePricedAt v w n f x c.deref-6.result.now) (sym c.deref-5.ensures.value)
            (subst (λ (x : List Bool). ArePricedAt v w n f costs x) (sym c.deref-6.ensures.value) found));
      })) in
      charged_next v t w n charging f c.args.i c.args.found.now.charges.found.items charges.found.items at (c.requires.found.charged n charging) paid
      (λ k kl other. c.in_ok-charge_loops.ensures.others k kl (λ same. other (same ∙ ap (λ (order : List ℕ). number_in_place order c.args.i) c.call_order.ensures)));
  walks = λ n charging.
      let v = c.args.program.now.graph.now in
      let t = c.args.program.now.tree.now in
      let w = number_in_place c.args.program.now.plan.now.own.items in
      let f = number_in_place v.order c.args.i in
      let at : slice_get v.order c.args.i ≡ Some f = slice_get-get_or v.order c.args.i 0 c.requires.place in
      let bucket = c.in_ok-bucket.bucket.items in
      let old_r = c.args.found.now.walks.returns.items in
      let old_x = c.args.found.now.walks.exits.items in
      let is : IsBucket v f bucket = subst (λ (order : List ℕ). IsBucket v (number_in_place order c.args.i) bucket) c.call_order.ensures c.in_ok-bucket.ensures.bucket in
      let costs = c.price_function.new.costs.items in
      let lasts = c.price_function.new.lasts.items in
      let charges = c.charge_loops.new.charges in
      let price = cost_with costs charges in
      let are = c.requires.found.walks n charging in
      let priced : ArePriced v w old_r old_x (IsFromFirst v bucket (length bucket)) costs lasts =
      subst (λ (own : List ℕ). ArePriced v (number_in_place own) old_r old_x (IsFromFirst v bucket (length bucket)) costs lasts) c.deref.ensures.value
      (subst (λ (b : List ℕ). ArePriced v (number_in_place c.deref.result.now) old_r old_x (IsFromFirst v b (length b)) costs lasts) c.deref-4.ensures.value
      (subst (λ (x : List (Option ℕ)). ArePriced v (number_in_place c.deref.result.now) old_r x (IsFromFirst v c.deref-4.result.now (length c.deref-4.result.now)) costs lasts) c.deref-3.ensures.value
      (subst (λ (r : List (Option ℕ)). ArePriced v (number_in_place c.deref.result.now) r c.deref-3.result.now (IsFromFirst v c.deref-4.result.now (length c.deref-4.result.now)) costs lasts) c.deref-2.ensures.value c.price_function.ensures))) in
      let found : ArePricedAt v w n f costs lasts = priced_at v t w n charging c.args.i old_r old_x are f bucket costs lasts at is priced in
      let paid : AreChargedTo v t n (λ k. loop_owner v t k ≡ f) charges.found.items =
      subst (λ (order : List ℕ). AreChargedTo v t n (λ k. loop_owner v t k ≡ number_in_place order c.args.i) charges.found.items) c.call_order.ensures
      (c.in_ok-charge_loops.ensures.charged w n (record {
        charging = charging;
        priced = subst (λ (order : List ℕ). ArePricedAt v w n (number_in_place order c.args.i) c.deref-5.result.now c.deref-6.result.now) (sym c.call_order.ensures)
            (subst (λ (x : List ℕ). ArePricedAt v w n f x c.deref-6.result.now) (sym c.deref-5.ensures.value)
            (subst (λ (x : List Bool). ArePricedAt v w n f costs x) (sym c.deref-6.ensures.value) found));
      })) in
      let found_r = c.in_ok-returns.returns.items in
      let found_x = c.in_ok-exits.exits.items in
      let least_r : AreLeastRuns v c.args.program.now.plan.now.returning.items c.args.program.now.plan.now.leading.items price bucket found_r =
      subst (λ (b : List ℕ). AreLeastRuns v c.args.program.now.plan.now.returning.items c.args.program.now.plan.now.leading.items price b found_r) c.deref-8.ensures.value
      (subst (λ (x : List Bool). AreLeastRuns v x c.args.program.now.plan.now.leading.items price c.deref-8.result.now found_r) c.deref-10.ensures.value
      (subst (λ (x : List Bool). AreLeastRuns v c.deref-10.result.now x price c.deref-8.result.now found_r) c.deref-11.ensures.value
      (subst (λ (x : List ℕ). AreLeastRuns v c.deref-10.result.now c.deref-11.result.now (cost_with x charges) c.deref-8.result.now found_r) c.deref-12.ensures.value c.in_ok-returns.ensures.least))) in
      let least_x : AreLeastRuns v lasts c.args.program.now.plan.now.leading.items price bucket found_x =
      subst (λ (b : List ℕ). AreLeastRuns v lasts c.args.program.now.plan.now.leading.items price b found_x) c.deref-8.ensures.value
      (subst (λ (x : List Bool). AreLeastRuns v x c.args.program.now.plan.now.leading.items price c.deref-8.result.now found_x) c.deref-13.ensures.value
      (subst (λ (x : List Bool). AreLeastRuns v c.deref-13.result.now x price c.deref-8.result.now found_x) c.deref-11.ensures.value
      (subst (λ (x : List ℕ). AreLeastRuns v c.deref-13.result.now c.deref-11.result.now (cost_with x charges) c.deref-8.result.now found_x) c.deref-12.ensures.value c.in_ok-exits.ensures.least))) in
      let written_r : AreWritten (length bucket) bucket found_r old_r c.write_back.new.table.items =
      subst (λ (b : List ℕ). AreWritten (length b) b found_r old_r c.write_back.new.table.items) c.deref-14.ensures.value
      (subst (λ (x : List (Option ℕ)). AreWritten (length c.deref-14.result.now) c.deref-14.result.now x old_r c.write_back.new.table.items) c.deref-15.ensures.value c.write_back.ensures) in
      let written_x : AreWritten (length bucket) bucket found_x old_x c.write_back-2.new.table.items =
      subst (λ (b : List ℕ). AreWritten (length b) b found_x old_x c.write_back-2.new.table.items) c.deref-16.ensures.value
      (subst (λ (x : List (Option ℕ)). AreWritten (length c.deref-16.result.now) c.deref-16.result.now x old_x c.write_back-2.new.table.items) c.deref-17.ensures.value c.write_back-2.ensures) in
      walks_more v (own_by v t w n) charging.limit (IsBefore v c.args.i) (IsBefore v (c.args.i + 1)) f bucket old_r old_x found_r found_x c.write_back.new.table.items c.write_back-2.new.table.items price lasts c.args.program.now.plan.now.returning.items
      c.requires.program.flow charging.limits are (c.requires.program.flow.order.within c.args.i f at) (not_before v c.args.i f c.requires.program.flow at) (λ h done. next_before v c.args.i f h at done) (callees_before v c.args.i f c.requires.program.flow at)
      is (cost_found v t w n charging f old_r old_x bucket costs lasts charges is priced c.in_ok-charge_loops.ensures.charges.entered paid) (λ e el own. priced.last e el (from_first v f bucket e c.requires.program.flow is el own)) c.requires.program.plan.returning
      (least_walks v c.args.program.now.plan.now.returning.items c.args.program.now.plan.now.leading.items price bucket found_r c.requires.program.plan.leading least_r) (least_walks v lasts c.args.program.now.plan.now.leading.items price bucket found_x c.requires.program.plan.leading least_x)
      (λ j x value. c.in_ok-returns.ensures.low j x value)
      (λ j x value. c.in_ok-exits.ensures.low j x value)
      written_r written_x;
}
