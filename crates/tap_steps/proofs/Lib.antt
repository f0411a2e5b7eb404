pub mod Stepping
pub mod Loads
pub mod Following
pub mod Playlists
pub mod Owns
pub mod OwnReports
pub mod Counting
