-- The table of named nodes, a table that is lent again, the turns of the loop and where it stands.

pub mod Table
mod Nodes
mod Turns
