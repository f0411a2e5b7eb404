pub mod Rooms
pub mod Events
pub mod KeptRuns
pub mod Kept
pub mod Decoding
pub mod Filling
pub mod ArriveSteps
pub mod Positions
