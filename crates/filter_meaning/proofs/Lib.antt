pub mod Numbers
pub mod Good
pub mod GoodPrimitives
pub mod GoodValues
