-- The turns of the check's loop, and where it stands.

mod Graphs
mod Turns
