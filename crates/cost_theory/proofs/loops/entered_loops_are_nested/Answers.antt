use Rattle.cost_theory.proofs.Nesting.{header_held, no_crossing, one_within, held_within}
use Rattle.cost_theory.proofs.Orders.{entered-accepted}
use Rattle.cost_theory.proofs.loops.entered_loops_are_nested.Goals as goal

pub returns-clause-headers : goal.returns-clause-headers
returns-clause-headers c = λ g l extent prog ent k kl. header_held g l extent prog ent k kl

pub returns-clause-no_crossing : goal.returns-clause-no_crossing
returns-clause-no_crossing c = λ g l extent prog ent j k jl kl cross. no_crossing g l extent prog ent j k jl kl cross

pub returns-clause-nested : goal.returns-clause-nested
returns-clause-nested c = λ g l extent prog ent j k v jl kl ne in_j in_k. one_within g l extent prog ent j k v jl kl ne in_j in_k

pub returns-clause-held : goal.returns-clause-held
returns-clause-held c = λ g l extent prog ent j k jl kl ne j_in_k. held_within g l extent prog ent j k jl kl ne j_in_k

pub returns-clause-accepted : goal.returns-clause-accepted
returns-clause-accepted c = λ g l extent prog ent shallow count place rises. entered-accepted g l extent prog ent shallow count place rises
