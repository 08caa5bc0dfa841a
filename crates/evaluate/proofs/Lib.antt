-- The steps of the evaluators.
mod Laws
