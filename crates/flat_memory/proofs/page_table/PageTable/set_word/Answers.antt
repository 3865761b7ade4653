use Rattle.std.proofs.Common.{rules, ◌≡◌, ◌<◌, ◌/◌, ◌%◌, ◌∙◌, ap, sym, arith, refl, vec_len, length, is_some}
use Rattle.flat_memory.specs.PageTables.{page_in}
use Rattle.flat_memory.proofs.PageLaws.{page_found, put_some, put_none}
use Rattle.flat_memory.proofs.page_table.PageTable.set_word.Goals as goal

pub returns-in-Some-clause-found : goal.returns-in-Some-clause-found
returns-in-Some-clause-found c =
    let size : length c.args.self.now.groups.items ≡ vec_len c.args.self.now.groups = search rules in
    let lt : c.args.at / 4096 / 1024 < length c.args.self.now.groups.items = omega (arith, c.args.self.now.count) in
    c.set_word.ensures.found ∙ ap is_some (sym (page_found c.args.self.now.groups.items (c.args.at / 4096) _ lt c.index_mut.ensures.value ∙ ap (λ x. page_in x (c.args.at / 4096 % 1024)) c.in-Some.is))

pub returns-in-Some-clause-put : goal.returns-in-Some-clause-put
returns-in-Some-clause-put c =
    let size : length c.args.self.now.groups.items ≡ vec_len c.args.self.now.groups = search rules in
    let lt : c.args.at / 4096 / 1024 < length c.args.self.now.groups.items = omega (arith, c.args.self.now.count) in
    put_some c.args.self.now.groups.items (c.args.at / 4096) _ c.in-Some.group c.set_word.new.self _ lt c.index_mut.ensures.value c.in-Some.is c.set_word.ensures.put c.set_word.ensures.others

pub returns-in-None-clause-found : goal.returns-in-None-clause-found
returns-in-None-clause-found c =
    let size : length c.args.self.now.groups.items ≡ vec_len c.args.self.now.groups = search rules in
    let lt : c.args.at / 4096 / 1024 < length c.args.self.now.groups.items = omega (arith, c.args.self.now.count) in
    ap is_some (sym (page_found c.args.self.now.groups.items (c.args.at / 4096) _ lt c.index_mut.ensures.value ∙ ap (λ x. page_in x (c.args.at / 4096 % 1024)) c.in-None.is))

pub returns-in-None-clause-put : goal.returns-in-None-clause-put
returns-in-None-clause-put c =
    let size : length c.args.self.now.groups.items ≡ vec_len c.args.self.now.groups = search rules in
    let lt : c.args.at / 4096 / 1024 < length c.args.self.now.groups.items = omega (arith, c.args.self.now.count) in
    put_none c.args.self.now.groups.items (c.args.at / 4096) _ _ lt c.index_mut.ensures.value c.in-None.is refl
