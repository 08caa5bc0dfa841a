-- What sound verdicts and an accepting check tell, the same the other way round, where refusals stand, and document 01's worked examples.
pub mod Verdicts
pub mod Checked
pub mod Sound
pub mod Graphs
pub mod Positions
pub mod Clip
pub mod Examples
