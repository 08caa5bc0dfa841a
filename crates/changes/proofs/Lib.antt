-- What passed tests tell, and lists that grow.

pub mod Laws
