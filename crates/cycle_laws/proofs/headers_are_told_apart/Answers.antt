use Rattle.cycle_laws.proofs.Headers.{headers_different, back_of_header}
use Rattle.cycle_laws.proofs.headers_are_told_apart.Goals as goal

pub returns-clause-different : goal.returns-clause-different
returns-clause-different c = headers_different

pub returns-clause-of_header : goal.returns-clause-of_header
returns-clause-of_header c = back_of_header
