pub mod Pairs
pub mod Printed
pub mod Compared
pub mod Captures
pub mod Telling
pub mod Deciding
pub mod Comparing
