mod Cases
mod WholeCases
mod Bounds
mod Returns
