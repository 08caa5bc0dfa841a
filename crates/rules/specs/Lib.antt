pub mod Rules
pub mod Stopped
pub mod Leads
