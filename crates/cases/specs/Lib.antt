pub mod Rows
pub mod Starred
pub mod Leads
pub mod Several
