pub mod Stems
pub mod Tables
pub mod Readers
