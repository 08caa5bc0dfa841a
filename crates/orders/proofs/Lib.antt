-- The rows of the order of refusals, by computing.
mod Orders
