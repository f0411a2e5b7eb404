pub mod Playlist
pub mod OwnSteps
pub mod Answers
pub mod Reports
pub mod Watching
pub mod Faults
