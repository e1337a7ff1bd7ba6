mod Group
mod Sums
mod Bound
mod Behaviour
mod Moves
mod Gaps
mod Told
mod Wholes
