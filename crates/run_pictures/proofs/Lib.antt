mod TextLoops
mod BarLoops
mod PlaceFacts
mod RunFacts
