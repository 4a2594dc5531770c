mod Lefts
mod Counts
mod Steps
