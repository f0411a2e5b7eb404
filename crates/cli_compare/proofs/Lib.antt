pub mod Differences
pub mod Sent
pub mod Witnesses
pub mod Out
pub mod Asking
pub mod Telling
pub mod Handing
