mod Sample
mod Rowless
mod Checks
