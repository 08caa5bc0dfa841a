pub mod GoodValues
