-- Headers tell the loops apart.
use Rattle.cost_theory.proofs.Laws.{leads_to_header, headers-distinct, accepted_entered}
use Rattle.cycle_laws.specs.Passes.{HeadersAreDifferent, BackIsOfHeader}

pub headers_different : HeadersAreDifferent
headers_different g l extent w n is j k jl kl same = headers-distinct g l extent is.program (accepted_entered is.accepted) j k jl kl same

pub back_of_header : BackIsOfHeader
back_of_header g l extent w n is e k lt kl back = leads_to_header g l e k back
