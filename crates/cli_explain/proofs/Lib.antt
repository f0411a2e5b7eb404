pub mod Answered
pub mod Printing
pub mod Ranging
pub mod InFull
