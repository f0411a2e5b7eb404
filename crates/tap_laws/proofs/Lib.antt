pub mod Playlists
