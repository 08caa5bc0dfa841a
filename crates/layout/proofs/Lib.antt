-- What the proofs of all that walks through a card cite: where its graphs and nodes stand.
pub mod Firsts
pub mod Stands
pub mod NodeNumbers
