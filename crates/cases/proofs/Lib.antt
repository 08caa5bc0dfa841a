-- Document 01's starred cases, computed.
pub mod Starred
