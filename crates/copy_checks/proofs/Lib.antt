mod Cases
mod Whole
mod Lists
