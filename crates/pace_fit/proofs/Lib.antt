mod Splits
mod Cycles
mod Rates
mod Fits
mod Built
mod Numbers
mod Runs
