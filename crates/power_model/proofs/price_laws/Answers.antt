use Rattle.power_model.proofs.PriceLaws.{one_more, start-price, steps-price, cycles-price, keyed-price, held-price}
use Rattle.power_model.proofs.price_laws.Goals as goal

pub returns : goal.returns
returns c = record { one_more = one_more; start = start-price; steps = steps-price; cycles = cycles-price; keyed = keyed-price; held = held-price }
